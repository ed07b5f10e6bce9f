-- Laws, by what they speak of.
pub mod Laid
pub mod Short
pub mod Building
pub mod Stepping
pub mod Replaying
