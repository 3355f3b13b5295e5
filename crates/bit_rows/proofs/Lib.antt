pub mod Tables
pub mod Kept
pub mod Marks
pub mod Blocks
