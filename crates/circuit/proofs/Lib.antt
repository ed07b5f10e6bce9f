-- Laws, by the steps of the code that use them.
pub mod Figures
pub mod Renewing
