use Rattle.std.proofs.Common.{◌∙◌, sym, arith}
use Rattle.mir_machine.proofs.Shown.{unsigned_shown, low_shown, high_shown, within}
use Rattle.mir_machine.proofs.integers.integer.Goals as goal

pub returns-then-not-signed : goal.returns-then-not-signed
returns-then-not-signed c = unsigned_shown c.args.ty c.args.bits c.wrap-low.result (sym c.signed.ensures ∙ c.if-not-signed.true) c.wrap-low.ensures

pub returns-then-low-greatest : goal.returns-then-low-greatest
returns-then-low-greatest c = low_shown c.args.ty c.args.bits c.wrap-low.result c.greatest-greatest.result (sym c.signed.ensures ∙ c.if-not-signed.false) c.wrap-low.ensures c.greatest-greatest.ensures (grind (arith, c.if-low-greatest.true))

pub overflow_sub-result : goal.overflow_sub-result
overflow_sub-result c = within c.args.ty c.args.bits c.wrap-low.result c.greatest-greatest.result c.wrap-low.ensures c.greatest-greatest.ensures

pub returns : goal.returns
returns c = high_shown c.args.ty c.args.bits c.wrap-low.result c.greatest-greatest.result (sym c.signed.ensures ∙ c.if-not-signed.false) c.wrap-low.ensures c.greatest-greatest.ensures (grind (arith, c.if-low-greatest.false))
