-- The types that cross, as `thin` takes them.
pub mod Types
