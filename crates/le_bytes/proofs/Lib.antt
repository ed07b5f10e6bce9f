-- Laws of numbers in bytes, of numbers one after another, and of what is written over a buffer.
pub mod Little
pub mod Written
pub mod Widths
