-- Laws of names, of saves one after another, and of what a buffer holds.
pub mod Names
pub mod Stand
pub mod Walks
pub mod Walking
pub mod Looking
pub mod One
