-- A crate with a merged body refines the crate.
pub mod Fills
pub mod Conflicts
pub mod Housed
pub mod Frames
pub mod Starts
pub mod Moment
pub mod Reads
pub mod Walks
pub mod Places
pub mod Results
pub mod Terms
pub mod Writes
pub mod Statements
pub mod Gone
pub mod Steps
pub mod Refined
