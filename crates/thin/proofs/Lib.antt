-- The walk of a thin function over its step, and of a function that lends to its step: `Mut`, `Look` and `Lend` are what a proof cites.
pub mod Types
pub mod Locals
pub mod Params
pub mod Walk
pub mod Mut
pub mod Look
pub mod Loans
pub mod Lend
