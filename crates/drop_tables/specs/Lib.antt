pub mod Headers
pub mod Holders
pub mod Marks
