pub mod Refined
pub mod Dropping
pub mod Judging
pub mod Answering
