-- A crate with a folded body refines the crate.
pub mod Where
pub mod Values
pub mod Terms
pub mod Steps
pub mod Refined
