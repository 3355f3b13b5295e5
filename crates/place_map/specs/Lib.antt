pub mod Tracked
pub mod Order
pub mod Finding
