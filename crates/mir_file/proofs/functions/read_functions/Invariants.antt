use Rattle.std.proofs.Common.{◌≡◌, ◌++◌, map, IsTrue, length}
use Rattle.std.specs.List.{list_all}
use Rattle.std.specs.Vec.Iter.{into_iter_items}
use Rattle.mir_syntax.specs.Tree.{trees_of}
use Rattle.mir_syntax.specs.Crate.{function_of}
use Rattle.mir_syntax.specs.Ids.{function_below}
use Rattle.mir_text.specs.NamedBodies.{or_else}
use Rattle.mir_text.specs.Naming.{functions_in}
use Rattle.mir_text.specs.NameFaults.{each}
use Rattle.mir_text.specs.ReadLines.{first_of, fn_lines_in, wrong_in_item}
use Rattle.mir_tree.specs.Rules.{lined_item}
use Rattle.mir_resolve.specs.Types.{Grown}
use Rattle.mir_resolve.specs.Faults.{noted}
use Rattle.mir_file.specs.Items.{rules_of, fn_text_faults}
use Rattle.mir_file.specs.Functions.{Knows}
use Rattle.mir_file.proofs.functions.read_functions.Given as goal

abbrev pub ghost-read_item : goal.ghost-read_item
ghost-read_item g a = g.names

abbrev pub invariant-items : goal.invariant-items
invariant-items g l = record {
  told : map (function_of (trees_of l.draft.program.types)) l.found.functions ++ functions_in g.names (rules_of (into_iter_items l.item-iterator)) ≡ functions_in g.names (rules_of l.fn.items);
  inside : IsTrue (list_all (function_below (length l.draft.program.types)) l.found.functions);
  lines : l.found.lines ++ each fn_lines_in (map lined_item (into_iter_items l.item-iterator)) ≡ each fn_lines_in (map lined_item l.fn.items);
  wrong : or_else l.found.wrong_field (first_of (each (wrong_in_item g.names) (map lined_item (into_iter_items l.item-iterator)))) ≡ first_of (each (wrong_in_item g.names) (map lined_item l.fn.items));
  notes : noted l.draft.notes (each (fn_text_faults g.names) (into_iter_items l.item-iterator)) ≡ noted l.fn.draft.notes (each (fn_text_faults g.names) l.fn.items);
  grown : Grown l.fn.draft.program l.draft.program;
  knows : Knows l.strings l.paths l.draft.program g.names;
}
