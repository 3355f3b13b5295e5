use Rattle.std.proofs.Common.{◌≡◌, ◌&&◌, [], map, length}
use Rattle.mir_text.specs.Names.{string_at}
use Rattle.mir_text.specs.NameFaults.{none_twice}
use Rattle.mir_resolve.proofs.once.fields_once.Given as goal

abbrev pub invariant-names : goal.invariant-names
invariant-names l = l.once && none_twice l.seen (map (λ f. string_at l.strings f.name) l.left) ≡ none_twice [] (map (λ f. string_at l.strings f.name) l.fields)

abbrev pub decreases-names : goal.decreases-names
decreases-names l = length l.left
