use Rattle.std.proofs.Common.{◌≡◌, ◌++◌, map, IsTrue, length}
use Rattle.std.specs.List.{list_all}
use Rattle.mir_syntax.specs.Tree.{trees_of}
use Rattle.mir_syntax.specs.Crate.{variant_of}
use Rattle.mir_syntax.specs.Ids.{variant_below}
use Rattle.mir_text.specs.Names.{variant_named}
use Rattle.mir_text.specs.NameFaults.{each, on_line}
use Rattle.mir_tree.specs.Rules.{variant_rule}
use Rattle.mir_resolve.specs.Types.{Grown}
use Rattle.mir_resolve.specs.Faults.{noted}
use Rattle.mir_resolve.specs.Definitions.{variant_codes}
use Rattle.mir_resolve.proofs.definitions.read_variants.Given as goal

abbrev pub invariant-variants : goal.invariant-variants
invariant-variants l = record {
  told : map (variant_of (trees_of l.draft.program.types)) l.variants ++ map (λ f. variant_named l.strings l.paths (variant_rule f)) l.left ≡ map (λ f. variant_named l.strings l.paths (variant_rule f)) l.texts;
  notes : noted l.draft.notes (on_line l.line (each (variant_codes l.strings l.paths) l.left)) ≡ noted l.fn.draft.notes (on_line l.line (each (variant_codes l.strings l.paths) l.texts));
  inside : IsTrue (list_all (variant_below (length l.draft.program.types)) l.variants);
  grown : Grown l.fn.draft.program l.draft.program;
}

abbrev pub decreases-variants : goal.decreases-variants
decreases-variants l = length l.left
