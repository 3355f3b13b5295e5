use Rattle.std.proofs.Common.{◌≡◌, ◌≤◌, ℕ, vec_len, vec_capacity}
use Rattle.std.specs.Prelude.{Some, slice_get}
use Rattle.query_table.proofs.slots.Slots.new.Given as goal

abbrev pub invariant-loop-q : goal.invariant-loop-q
invariant-loop-q g l = record {
  count : vec_len l.slots ≡ l.q;
  room : l.count ≤ vec_capacity l.slots;
  tags : (q : ℕ) (slot : _) → slice_get l.slots.items q ≡ Some slot → (slot.query ≡ q) × (slot.jobs.value ≡ l.jobs);
}
