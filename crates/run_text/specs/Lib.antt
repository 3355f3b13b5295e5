pub mod Outcomes
pub mod RunText
