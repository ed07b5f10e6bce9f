-- Laws, by the steps of the code that use them.
pub mod Deciding
pub mod Settling
