use Rattle.std.proofs.Common.{◌≡◌, map, take}
use Rattle.drop_tables.specs.Marks.{has_one}
use Rattle.drop_tables.proofs.destructors.have_destructor.Given as goal

abbrev pub invariant-loop-destructor : goal.invariant-loop-destructor
invariant-loop-destructor l = l.have ≡ map has_one (take l.destructor-index l.destructors)
