-- A folded body breaks no rule.
pub mod Types
pub mod Kept
pub mod Formed
pub mod Same
