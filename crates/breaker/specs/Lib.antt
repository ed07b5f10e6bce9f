-- What a reader of the breaker's promises has to believe, each file citing those above it.
pub mod Record
pub mod Answers
pub mod Rules
pub mod Calls
pub mod Transitions
pub mod Orders
pub mod Batch
