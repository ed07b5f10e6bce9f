-- Laws, by what they speak of.
pub mod After
pub mod Numbers
pub mod Fields
pub mod Limits
pub mod CallLines
pub mod HeaderLines
