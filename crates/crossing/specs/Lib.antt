-- What crosses to C.
pub mod Crossing
pub mod Waits
