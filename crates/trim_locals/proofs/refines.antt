pub mod Slots
pub mod Mirrored
pub mod Refined
