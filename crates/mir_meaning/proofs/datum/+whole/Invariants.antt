use Rattle.std.proofs.Common.{◌≡◌, ℕ, ◌<◌, true, slice_get, Some}
use Rattle.mir_semantics.specs.Values.{whole}
use Rattle.mir_meaning.specs.Views.{value_of}
use Rattle.mir_meaning.specs.declared.datum.Datum.{Datum}
use Rattle.mir_meaning.proofs.datum.+whole.Given as goal

abbrev pub invariant-all_whole-loop-field : goal.invariant-all_whole-loop-field
invariant-all_whole-loop-field l = (k : ℕ) → k < l.field-index → (v : Datum) → slice_get l.fields k ≡ Some v → whole (value_of v) ≡ true
