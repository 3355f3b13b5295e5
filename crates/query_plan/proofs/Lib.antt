pub mod Members
pub mod Outs
pub mod Calls
pub mod Numbers
pub mod Needs
pub mod Lawful
pub mod Once
pub mod Ordered
mod Rows
