pub mod Sums
pub mod Told
pub mod Weighing
pub mod Large
