-- A merged body breaks no rule.
pub mod Stays
