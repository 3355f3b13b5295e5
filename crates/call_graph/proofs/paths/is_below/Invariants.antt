use Rattle.std.proofs.Common.{◌≡◌, drop}
use Rattle.call_graph.specs.Graph.{bytes_below}
use Rattle.call_graph.proofs.paths.is_below.Given as goal

abbrev pub invariant-loop-i : goal.invariant-loop-i
invariant-loop-i l = bytes_below (drop l.i l.xs) (drop l.i l.ys) ≡ bytes_below l.xs l.ys
