-- Packing loses nothing, of an answer and of a pending wait.
pub mod Packed
pub mod PackedWait
pub mod Held
pub mod Tells
