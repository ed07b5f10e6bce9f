-- Laws of waits.
pub mod OneToOne
pub mod Walks
pub mod Runs
