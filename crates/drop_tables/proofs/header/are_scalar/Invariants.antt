use Rattle.std.proofs.Common.{◌≡◌, IsTrue, map, length}
use Rattle.std.specs.List.{list_all}
use Rattle.mir_syntax.specs.Tree.{at_id, trees_of}
use Rattle.mir_syntax.specs.Table.{all_below}
use Rattle.mir_rules.specs.DefinitionRules.{is_scalar}
use Rattle.drop_tables.proofs.header.are_scalar.Given as goal

abbrev pub invariant-ids : goal.invariant-ids
invariant-ids l =
    let trees = trees_of l.program.types in
    (list_all is_scalar (map (at_id trees) l.ids) ≡ list_all is_scalar (map (at_id trees) l.rest)) × IsTrue (all_below (length l.program.types) l.rest)

abbrev pub decreases-ids : goal.decreases-ids
decreases-ids l = length l.rest
