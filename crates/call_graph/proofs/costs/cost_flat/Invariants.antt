use Rattle.std.proofs.Common.{◌≡◌, ◌-◌, ◌^◌, List, map, take, min}
use Rattle.std.specs.Prelude.{sum_by}
use Rattle.mir_syntax.specs.Tree.{Tree}
use Rattle.mir_syntax.specs.Crate.{block_of}
use Rattle.call_graph.specs.Cost.{block_cost}
use Rattle.call_graph.proofs.costs.cost_flat.Given as goal

abbrev pub invariant-loop-block : goal.invariant-loop-block
invariant-loop-block l = (trees : List Tree) → l.total ≡ min (sum_by block_cost (map (block_of trees) (take l.block l.body.blocks))) (2 ^ 64 - 1)
