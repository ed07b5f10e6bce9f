-- The struct that the proof of the lending function names.
pub mod Built
