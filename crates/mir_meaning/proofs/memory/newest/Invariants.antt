use Rattle.std.proofs.Common.{◌≡◌, ℕ, ◌≤◌, length, slice_get, Some}
use Rattle.mir_meaning.specs.declared.memory.Store.{Store}
use Rattle.mir_meaning.proofs.memory.newest.Given as goal

abbrev pub invariant-loop-at : goal.invariant-loop-at
invariant-loop-at l = record {
  within : l.at ≤ length l.stores;
  passed : (k : ℕ) (s : Store) → l.at ≤ k → slice_get l.stores k ≡ Some s → s.frame ≡ l.frame → ⊥;
}

abbrev pub decreases-loop-at : goal.decreases-loop-at
decreases-loop-at l = l.at
