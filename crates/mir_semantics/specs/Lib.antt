pub mod Values
pub mod Memory
pub mod Step
pub mod Run
pub mod Entry
pub mod Refines
