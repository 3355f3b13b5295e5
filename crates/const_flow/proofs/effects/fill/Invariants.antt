use Rattle.std.proofs.Common.{◌≡◌, ◌-◌, replicate}
use Rattle.const_flow.specs.Cells.{put_from}
use Rattle.const_flow.proofs.effects.fill.Given as goal

abbrev pub invariant-loop-path : goal.invariant-loop-path
invariant-loop-path l = l.cells ≡ put_from l.fn.cells l.fn.span.from (replicate (l.path - l.fn.span.from) l.cell)
