-- Laws, by what they speak of.
pub mod Floats
pub mod Ratios
pub mod Settings
