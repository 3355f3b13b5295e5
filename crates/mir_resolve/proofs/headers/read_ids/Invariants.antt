use Rattle.std.proofs.Common.{◌≡◌, ◌++◌, ◌&&◌, map, IsTrue, length}
use Rattle.std.specs.List.{list_all}
use Rattle.mir_syntax.specs.Tree.{trees_of}
use Rattle.mir_syntax.specs.Tree.{at_id}
use Rattle.mir_resolve.specs.Definitions.{id_below}
use Rattle.mir_text.specs.Names.{type_named}
use Rattle.mir_tree.specs.Types.{type_rule}
use Rattle.mir_resolve.specs.Types.{Grown}
use Rattle.mir_resolve.specs.Definitions.{is_known_text}
use Rattle.mir_resolve.proofs.headers.read_ids.Given as goal

abbrev pub invariant-types : goal.invariant-types
invariant-types l = record {
  told : map (at_id (trees_of l.program.types)) l.ids ++ map (λ u. type_named l.strings l.paths (type_rule u)) l.left ≡ map (λ u. type_named l.strings l.paths (type_rule u)) l.types;
  known : l.known && list_all (is_known_text l.strings l.paths) l.left ≡ list_all (is_known_text l.strings l.paths) l.types;
  inside : IsTrue (list_all (id_below (length l.program.types)) l.ids);
  grown : Grown l.fn.program l.program;
}

abbrev pub decreases-types : goal.decreases-types
decreases-types l = length l.left
