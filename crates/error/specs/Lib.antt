-- What every specification of this repository uses.
pub mod Choice
pub mod Told
