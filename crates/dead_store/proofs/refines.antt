-- A crate with a pruned body refines the crate.
pub mod Reads
pub mod Frames
pub mod Moment
pub mod Results
pub mod Terms
pub mod Statements
pub mod Steps
pub mod Rounds
