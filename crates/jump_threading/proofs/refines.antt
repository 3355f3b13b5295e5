-- A crate with a threaded body refines the crate.
pub mod Where
pub mod Ends
pub mod Steps
pub mod Refined
