-- The journal's lines: how they are printed, and what a reader's answer says.
pub mod Print
pub mod Reads
pub mod Take
