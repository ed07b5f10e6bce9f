-- Laws of waits that keep their grant.
pub mod Holds
pub mod Bounded
