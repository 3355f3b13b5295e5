pub mod Trimmed
pub mod Code
