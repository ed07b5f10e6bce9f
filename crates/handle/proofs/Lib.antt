-- The types that the proofs of the thin functions name.
pub mod Types
