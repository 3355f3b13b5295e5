pub mod Gathered
pub mod Fitting
pub mod Counted
pub mod Weighed
pub mod Answered
