pub mod Rearranged
pub mod Kept
pub mod Limits
pub mod Calls
