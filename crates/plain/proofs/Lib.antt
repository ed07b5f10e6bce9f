-- What a call by a known kind leaves, and a save; and what a preview saw.
pub mod Known
pub mod Seen
