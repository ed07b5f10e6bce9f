-- Laws, by what they speak of.
pub mod Previews
