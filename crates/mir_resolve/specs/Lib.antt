pub mod Paths
pub mod Faults
pub mod Types
pub mod Index
pub mod Definitions
pub mod Once
