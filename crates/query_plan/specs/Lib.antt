pub mod Queries
pub mod Needs
pub mod Order
pub mod Source
