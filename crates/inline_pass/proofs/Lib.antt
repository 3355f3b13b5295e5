mod Rows
pub mod Text
pub mod Bodies
pub mod Rounds
pub mod Terms
pub mod equal
pub mod refines
pub mod valid
pub mod Whole
mod Asked
