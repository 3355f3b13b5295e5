pub mod Flow
pub mod Solving
pub mod Greatest
