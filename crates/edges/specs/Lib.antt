-- P1 to P12.
pub mod Edges
