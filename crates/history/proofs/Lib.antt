-- Laws, by what they speak of.
pub mod Laws
pub mod Counts
pub mod Laid
pub mod Sound
pub mod Change
pub mod Recorded
pub mod Folds
pub mod Held
pub mod OneToOne
