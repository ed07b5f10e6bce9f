-- A wait before a breaker.
pub mod Answers
pub mod Rules
pub mod Calls
