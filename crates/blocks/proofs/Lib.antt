-- Laws of blocks and of their runs.
pub mod Blocks
pub mod Judging
pub mod Every
pub mod RunBlocks
pub mod Unique
pub mod Joins
pub mod OneToOne
