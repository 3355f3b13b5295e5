use Rattle.std.proofs.Common.{◌≡◌, [], IsTrue, length}
use Rattle.std.specs.List.{list_all}
use Rattle.mir_syntax.specs.Tree.{trees_of}
use Rattle.mir_resolve.specs.Types.{Grown, parts_told, read_below, stack_in}
use Rattle.mir_resolve.proofs.types.read_type.Given as goal

abbrev pub invariant-parts : goal.invariant-parts
invariant-parts l = record {
  told : parts_told l.strings l.paths l.left (stack_in (trees_of l.program.types) l.scratch.types) ≡ parts_told l.strings l.paths l.text.parts [];
  inside : IsTrue (list_all (read_below (length l.program.types)) l.scratch.types);
  grown : Grown l.fn.program l.program;
}

abbrev pub decreases-parts : goal.decreases-parts
decreases-parts l = length l.left
