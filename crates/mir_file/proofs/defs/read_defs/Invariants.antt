use Rattle.std.proofs.Common.{◌≡◌, ◌++◌, map, IsTrue, length}
use Rattle.std.specs.List.{list_all}
use Rattle.mir_syntax.specs.Tree.{trees_of}
use Rattle.mir_syntax.specs.Crate.{def_of}
use Rattle.mir_syntax.specs.Ids.{def_below}
use Rattle.mir_text.specs.Names.{def_named, defs_in}
use Rattle.mir_text.specs.NameFaults.{each}
use Rattle.mir_text.specs.ReadLines.{def_line_in}
use Rattle.mir_tree.specs.Rules.{lined_item}
use Rattle.mir_resolve.specs.Types.{Grown}
use Rattle.mir_resolve.specs.Faults.{noted}
use Rattle.mir_resolve.specs.Definitions.{before_defs}
use Rattle.mir_file.specs.Items.{rules_of, def_faults}
use Rattle.mir_file.proofs.defs.read_defs.Given as goal

abbrev pub invariant-items : goal.invariant-items
invariant-items l = record {
  told : map (def_of (trees_of l.draft.program.types)) l.found.defs ++ map (def_named l.strings l.paths) (defs_in (rules_of l.left)) ≡ map (def_named l.strings l.paths) (defs_in (rules_of l.items));
  inside : IsTrue (list_all (def_below (length l.draft.program.types)) l.found.defs);
  lines : l.found.lines ++ each def_line_in (map lined_item l.left) ≡ each def_line_in (map lined_item l.items);
  notes : noted l.draft.notes (each (def_faults (before_defs l.strings l.paths)) l.left) ≡ noted l.fn.draft.notes (each (def_faults (before_defs l.strings l.paths)) l.items);
  grown : Grown l.fn.draft.program l.draft.program;
}

abbrev pub decreases-items : goal.decreases-items
decreases-items l = length l.left
