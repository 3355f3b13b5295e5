pub mod Grown
pub mod Effects
pub mod Conflicting
pub mod Fitting
pub mod Grouping
pub mod Sharing
pub mod Written
