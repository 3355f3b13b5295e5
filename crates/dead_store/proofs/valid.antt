-- A pruned body breaks no rule.
pub mod Rules
pub mod Same
