-- Lemmas that stand in `specs/`, for who cites proofs.
pub use Rattle.const_flow.specs.Same.{same_or_not, arm_there}
