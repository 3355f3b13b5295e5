pub mod Prints
pub mod Seen
pub mod Parts
pub mod Plain
