use Rattle.std.proofs.Common.{◌≡◌, ◌+◌, ◌*◌, ◌≤◌, length, take, sum_by}
use Rattle.flow_engine.specs.Flow.{problem}
use Rattle.flow_engine.specs.Solving.{IsGoing, waiting}
use Rattle.flow_engine.proofs.solver.send_all.Given as goal

abbrev pub invariant-loop-edge : goal.invariant-loop-edge
invariant-loop-edge g l =
    let a = l.analysis in
    let m = g.A.Analysis in
    (length l.facts.items ≡ length l.fn.facts.items)
    × IsGoing (m.is_fact a) (m.below a) (problem (m.joined a) (m.begun a) (m.sent a) (length l.fn.facts.items) l.edges) l.facts.items l.work.waits.items l.block (take l.edge-index l.leaving)
    × (waiting l.work.waits.items + 2 * sum_by (m.rank a) l.fn.facts.items ≤ waiting l.fn.work.waits.items + 2 * sum_by (m.rank a) l.facts.items)
