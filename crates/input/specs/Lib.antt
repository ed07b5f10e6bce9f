-- What a reading promises.
pub mod Reading
