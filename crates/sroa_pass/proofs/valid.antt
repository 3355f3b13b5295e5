-- A split body breaks no rule.
pub mod Types
pub mod Spread
pub mod Kept
pub mod Body
