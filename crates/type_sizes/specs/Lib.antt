pub mod UpTo
pub mod Measures
pub mod Sized
