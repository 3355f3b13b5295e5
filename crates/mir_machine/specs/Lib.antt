pub mod Seen
pub mod Ends
pub mod Ordered
pub mod Runs
pub mod Sound
