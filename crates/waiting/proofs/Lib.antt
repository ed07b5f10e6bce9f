-- Laws of waits before a breaker.
pub mod Steps
pub mod Keeps
pub mod OneToOne
