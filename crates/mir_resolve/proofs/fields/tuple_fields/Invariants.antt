use Rattle.std.proofs.Common.{◌≡◌, ◌++◌, ◌&&◌, map, IsTrue, length}
use Rattle.std.specs.List.{list_all}
use Rattle.mir_syntax.specs.Tree.{trees_of}
use Rattle.mir_syntax.specs.Crate.{field_of}
use Rattle.mir_syntax.specs.Ids.{field_below}
use Rattle.mir_text.specs.Names.{part_named}
use Rattle.mir_tree.specs.Types.{type_rule}
use Rattle.mir_resolve.specs.Types.{Grown}
use Rattle.mir_resolve.specs.Definitions.{is_known_text}
use Rattle.mir_resolve.proofs.fields.tuple_fields.Given as goal

abbrev pub invariant-types : goal.invariant-types
invariant-types l = record {
  told : map (field_of (trees_of l.program.types)) l.fields ++ map (λ u. part_named l.strings l.paths (type_rule u)) l.left ≡ map (λ u. part_named l.strings l.paths (type_rule u)) l.types;
  known : l.known && list_all (is_known_text l.strings l.paths) l.left ≡ list_all (is_known_text l.strings l.paths) l.types;
  inside : IsTrue (list_all (field_below (length l.program.types)) l.fields);
  grown : Grown l.fn.program l.program;
}

abbrev pub decreases-types : goal.decreases-types
decreases-types l = length l.left
