-- Laws of refusals and choices.
pub mod Choice
pub mod OneToOne
pub mod Passed
