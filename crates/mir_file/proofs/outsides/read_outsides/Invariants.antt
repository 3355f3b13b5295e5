use Rattle.std.proofs.Common.{◌≡◌, ◌++◌, map, IsTrue, length}
use Rattle.std.specs.List.{list_all}
use Rattle.mir_syntax.specs.Tree.{trees_of}
use Rattle.mir_syntax.specs.Crate.{outside_of}
use Rattle.mir_syntax.specs.Ids.{outside_below}
use Rattle.mir_text.specs.Naming.{outsides_in}
use Rattle.mir_text.specs.NameFaults.{each}
use Rattle.mir_text.specs.ReadLines.{outside_line_in}
use Rattle.mir_tree.specs.Rules.{lined_item}
use Rattle.mir_resolve.specs.Types.{Grown}
use Rattle.mir_resolve.specs.Faults.{noted}
use Rattle.mir_resolve.specs.Definitions.{before_defs}
use Rattle.mir_file.specs.Items.{rules_of, outside_faults}
use Rattle.mir_file.proofs.outsides.read_outsides.Given as goal

abbrev pub invariant-items : goal.invariant-items
invariant-items l = record {
  told : map (outside_of (trees_of l.draft.program.types)) l.found.outsides ++ outsides_in (before_defs l.strings l.paths) (rules_of l.left) ≡ outsides_in (before_defs l.strings l.paths) (rules_of l.items);
  inside : IsTrue (list_all (outside_below (length l.draft.program.types)) l.found.outsides);
  lines : l.found.lines ++ each outside_line_in (map lined_item l.left) ≡ each outside_line_in (map lined_item l.items);
  notes : noted l.draft.notes (each (outside_faults (before_defs l.strings l.paths)) l.left) ≡ noted l.fn.draft.notes (each (outside_faults (before_defs l.strings l.paths)) l.items);
  grown : Grown l.fn.draft.program l.draft.program;
}

abbrev pub decreases-items : goal.decreases-items
decreases-items l = length l.left
