use Rattle.std.proofs.Common.{◌≡◌, ◌-◌, ◌^◌, List, map, take, min}
use Rattle.std.specs.Prelude.{sum_by}
use Rattle.mir_syntax.specs.Tree.{Tree}
use Rattle.mir_syntax.specs.Crate.{stmt_of}
use Rattle.call_graph.specs.Cost.{stmt_cost}
use Rattle.call_graph.proofs.costs.block_cost.Given as goal

abbrev pub invariant-loop-stmt : goal.invariant-loop-stmt
invariant-loop-stmt l = (trees : List Tree) → l.total ≡ min (sum_by stmt_cost (map (stmt_of trees) (take l.stmt-index l.stmts))) (2 ^ 64 - 1)
