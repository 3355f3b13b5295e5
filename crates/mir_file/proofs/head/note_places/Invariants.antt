use Rattle.std.proofs.Common.{◌≡◌, ◌+◌, suc, map, length}
use Rattle.mir_text.specs.NameFaults.{args_in_place}
use Rattle.mir_tree.specs.Bodies.{lined}
use Rattle.mir_tree.specs.Rules.{arg_rule}
use Rattle.mir_resolve.specs.Faults.{noted}
use Rattle.mir_file.proofs.head.note_places.Given as goal

abbrev pub invariant-texts : goal.invariant-texts
invariant-texts l = record {
  notes : noted l.notes (args_in_place (suc l.place) (map (lined arg_rule) l.left)) ≡ noted l.fn.notes (args_in_place 1 (map (lined arg_rule) l.args));
  size : l.place + length l.left ≡ length l.args;
}

abbrev pub decreases-texts : goal.decreases-texts
decreases-texts l = length l.left
