use Rattle.std.proofs.Common.{IsTrue, length, map, sum_by}
use Rattle.std.specs.List.{list_all}
use Rattle.mir_syntax.specs.Tree.{trees_of}
use Rattle.mir_syntax.specs.Crate.{crate_of, block_of, body_of}
use Rattle.mir_syntax.specs.Shapes.{shapes_of}
use Rattle.mir_rules.specs.Formed.{block_formed}
use Rattle.mir_rules.specs.Limits.{block_weight}
use Rattle.type_sizes.proofs.Sums.{Summing}
use Rattle.mir_limits.proofs.search.Search.body_weight.Given as goal

abbrev pub invariant-walk : goal.invariant-walk
invariant-walk l =
    let p = l.self.program.now in
    let C = crate_of p in
    let trees = trees_of p.types in
    let b = body_of trees l.body in
    let weight = block_weight (shapes_of C) b.locals in
    IsTrue (list_all (block_formed C b) (map (block_of trees) l.rest)) × Summing 10001 l.total (sum_by weight (map (block_of trees) l.rest)) (sum_by weight b.blocks)

abbrev pub decreases-walk : goal.decreases-walk
decreases-walk l = length l.rest
