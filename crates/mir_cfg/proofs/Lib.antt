pub mod Sources
pub mod Searching
pub mod Reaching
