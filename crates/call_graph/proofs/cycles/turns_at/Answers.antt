use Rattle.std.proofs.Common.{sym, ◌∙◌, arith}
use Rattle.call_graph.specs.Search.{is_with}
use Rattle.call_graph.proofs.Tests.{any_at, none_more}
use Rattle.call_graph.proofs.cycles.turns_at.Goals as goal

pub returns-then-same : goal.returns-then-same
returns-then-same c = sym (any_at (is_with c.args.components.now c.args.block) c.args.sources.now c.loop-source.source-index 0 (omega arith) (sym c.same.ensures ∙ c.if-same.true))

pub loop-source-preserved : goal.loop-source-preserved
loop-source-preserved c = none_more (is_with c.args.components.now c.args.block) c.args.sources.now c.loop-source.source-index 0 (omega arith) c.loop-source.invariant (sym c.same.ensures ∙ c.if-same.false)
