use Rattle.std.proofs.Common.{◌≡◌, ◌-◌}
use Rattle.call_graph.specs.Graph.{least}
use Rattle.call_graph.specs.Reaching.{is_waiting}
use Rattle.call_graph.proofs.reach.Reach.next.Given as goal

abbrev pub invariant-loop-h : goal.invariant-loop-h
invariant-loop-h l = least (is_waiting l.self-inside.rows) l.h (l.self-inside.functions - l.h) ≡ least (is_waiting l.self-inside.rows) l.self-inside.low (l.self-inside.functions - l.self-inside.low)
