-- A threaded body breaks no rule.
pub mod Kept
