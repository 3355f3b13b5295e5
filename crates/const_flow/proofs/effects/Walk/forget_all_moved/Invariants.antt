use Rattle.std.proofs.Common.{◌≡◌, length, drop}
use Rattle.const_flow.specs.Facts.{moved_all}
use Rattle.const_flow.specs.Sights.{facts_in}
use Rattle.const_flow.proofs.effects.Walk.forget_all_moved.Given as goal

abbrev pub invariant-loop-operand : goal.invariant-loop-operand
invariant-loop-operand l =
    (length l.self.cells ≡ length l.sight.paths.now) × (l.self.fresh ≡ l.fn.self.fresh) × (moved_all (drop l.operand-index l.operands) (facts_in l.sight l.self.cells) ≡ moved_all l.operands (facts_in l.sight l.fn.self.cells))
