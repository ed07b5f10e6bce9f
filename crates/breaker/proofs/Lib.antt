-- Laws, by what they speak of: the record, the rules, the entry points, the finishing orders.
pub mod Record
pub mod Tests
pub mod Generations
pub mod Transitions
pub mod Cases
pub mod Finishes
pub mod Keeps
pub mod Built
pub mod Guard
pub mod Orders
pub mod Corollaries
pub mod Examples
pub mod Rows
pub mod OneToOne
