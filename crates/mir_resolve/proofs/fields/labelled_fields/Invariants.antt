use Rattle.std.proofs.Common.{◌≡◌, ◌++◌, map, IsTrue, length}
use Rattle.std.specs.List.{list_all}
use Rattle.mir_syntax.specs.Tree.{trees_of}
use Rattle.mir_syntax.specs.Crate.{field_of}
use Rattle.mir_syntax.specs.Ids.{field_below}
use Rattle.mir_text.specs.Names.{field_named}
use Rattle.mir_text.specs.NameFaults.{each, on_line}
use Rattle.mir_tree.specs.Rules.{field_rule}
use Rattle.mir_resolve.specs.Types.{Grown}
use Rattle.mir_resolve.specs.Faults.{noted}
use Rattle.mir_resolve.specs.Definitions.{field_codes}
use Rattle.mir_resolve.proofs.fields.labelled_fields.Given as goal

abbrev pub invariant-fields : goal.invariant-fields
invariant-fields l = record {
  told : map (field_of (trees_of l.draft.program.types)) l.fields ++ map (λ f. field_named l.strings l.paths (field_rule f)) l.left ≡ map (λ f. field_named l.strings l.paths (field_rule f)) l.texts;
  notes : noted l.draft.notes (on_line l.line (each (field_codes l.strings l.paths) l.left)) ≡ noted l.fn.draft.notes (on_line l.line (each (field_codes l.strings l.paths) l.texts));
  inside : IsTrue (list_all (field_below (length l.draft.program.types)) l.fields);
  grown : Grown l.fn.draft.program l.draft.program;
}

abbrev pub decreases-fields : goal.decreases-fields
decreases-fields l = length l.left
