use Rattle.std.proofs.Common.{◌≡◌, ◌+◌, ◌-◌, ◌*◌, [], length, sum_by}
use Rattle.flow_engine.specs.Flow.{problem}
use Rattle.flow_engine.specs.Solving.{IsGoing, waiting}
use Rattle.flow_engine.proofs.solver.solve.Given as goal

abbrev pub invariant-loop-block : goal.invariant-loop-block
invariant-loop-block g l =
    let a = l.analysis in
    let m = g.A.Analysis in
    (length l.facts.items ≡ l.blocks)
    × IsGoing (m.is_fact a) (m.below a) (problem (m.joined a) (m.begun a) (m.sent a) l.blocks l.edges) l.facts.items l.work.waits.items l.blocks []

abbrev pub decreases-loop-block : goal.decreases-loop-block
decreases-loop-block g l = 2 * (l.blocks * g.A.Analysis.most l.analysis - sum_by (g.A.Analysis.rank l.analysis) l.facts.items) + waiting l.work.waits.items
