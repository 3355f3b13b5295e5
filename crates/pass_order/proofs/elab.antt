pub mod Parts
pub mod Destroyed
pub mod Laid
