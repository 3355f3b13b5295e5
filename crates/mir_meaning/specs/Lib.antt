pub mod Views
pub mod Newest
pub mod Spots
pub mod Programs
pub mod Gives
pub mod Sight
pub mod Targets
