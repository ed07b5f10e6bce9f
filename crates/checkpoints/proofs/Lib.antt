-- Laws, by the calls that use them.
pub mod Making
pub mod OneToOne
pub mod Orders
