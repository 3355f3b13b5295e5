pub mod Edges
pub mod Simple
pub mod Code
