-- The definitions that the contracts of this crate cite.
pub mod Items
pub mod Change
