use Rattle.std.proofs.Common.{◌≡◌, ◌+◌, ◌++◌, List, map, take, drop, length}
use Rattle.mir_syntax.specs.declared.types.TyId.{TyId}
use Rattle.mir_syntax.specs.Tree.{at_ids, trees_of}
use Rattle.mir_meaning.specs.Programs.{shapes_in}
use Rattle.mir_meaning.specs.Views.{value_of}
use Rattle.mir_entry.specs.Readings.{read_by, read_def, integers_of, behind}
use Rattle.mir_entry.proofs.reads.read_arguments.Given as goal

abbrev pub invariant-arguments : goal.invariant-arguments
invariant-arguments l = record {
  place : l.place + length l.types ≡ length l.initial.types;
  left : l.types ≡ drop l.place l.initial.types;
  same : (tail : List TyId) → behind (map value_of l.values) (read_by (read_def (shapes_in l.program) (length l.program.defs)) (at_ids (trees_of l.program.types) tail) (integers_of l.numbers)) ≡ read_by (read_def (shapes_in l.program) (length l.program.defs)) (at_ids (trees_of l.program.types) (take l.place l.initial.types ++ tail)) (integers_of l.initial.numbers);
}

abbrev pub decreases-arguments : goal.decreases-arguments
decreases-arguments l = length l.types
