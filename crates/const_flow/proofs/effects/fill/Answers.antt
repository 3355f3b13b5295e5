use Rattle.std.proofs.Common.{◌≡◌, ◌-◌, ◌∙◌, ap, replicate, arith}
use Rattle.const_flow.specs.Cells.{put_from}
use Rattle.const_flow.proofs.Learning.{filled_none, filled_more}
use Rattle.const_flow.proofs.effects.fill.Goals as goal

pub loop-path-init : goal.loop-path-init
loop-path-init c = filled_none c.args.cells.now c.args.span.from c.args.cell

pub loop-path-preserved : goal.loop-path-preserved
loop-path-preserved c =
    filled_more c.args.cells.now c.loop-path.cells c.args.span.from c.loop-path.path c.args.cell (omega arith) (omega arith) c.loop-path.invariant

pub returns : goal.returns
returns c =
    let end : c.loop-path.path ≡ c.args.span.to = omega arith in
    c.loop-path.invariant ∙ ap (λ n. put_from c.args.cells.now c.args.span.from (replicate (n - c.args.span.from) c.args.cell)) end
