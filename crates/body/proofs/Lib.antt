-- Laws of a record's bytes and of a save's body.
pub mod Records
pub mod Saves
