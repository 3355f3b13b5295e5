use Rattle.std.proofs.Common.{◌≡◌, map, take}
use Rattle.mir_meaning.specs.Views.{value_of}
use Rattle.mir_meaning.proofs.datum.+copied.Given as goal

abbrev pub invariant-all_copied-loop-field : goal.invariant-all_copied-loop-field
invariant-all_copied-loop-field l = map value_of l.copy ≡ map value_of (take l.field-index l.fields)
