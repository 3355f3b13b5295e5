pub mod Spliced
pub mod Lent
pub mod Takes
pub mod Code
pub mod Caller
