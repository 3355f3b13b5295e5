use Rattle.std.proofs.Common.{◌≡◌, map, length}
use Rattle.mir_text.specs.NameFaults.{same_texts}
use Rattle.mir_bodies.specs.Builds.{name_before, field_name}
use Rattle.mir_bodies.proofs.build.same_names.Given as goal

abbrev pub invariant-names : goal.invariant-names
invariant-names l = same_texts (map (name_before l.strings) l.left) (map field_name l.others) ≡ same_texts (map (name_before l.strings) l.named) (map field_name l.fields)

abbrev pub decreases-names : goal.decreases-names
decreases-names l = length l.left
