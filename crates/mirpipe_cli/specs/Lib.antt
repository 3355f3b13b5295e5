pub mod FirstDrop
pub mod Found
pub mod Refused
pub mod Dumped
pub mod Answer
pub mod Output
