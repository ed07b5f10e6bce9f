-- Laws, by the steps of the code that use them.
pub mod Entering
pub mod Holding
pub mod Aborting
