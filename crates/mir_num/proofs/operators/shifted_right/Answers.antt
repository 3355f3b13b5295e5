use Rattle.std.proofs.Common.{◌≡◌, ◌∙◌, ap, arith, ◌/◌, ◌^◌, false}
use Rattle.mir_num.specs.Widths.{is_signed}
use Rattle.mir_num.proofs.Wrapped.{shifted_unsigned}
use Rattle.mir_num.proofs.operators.shifted_right.Goals as goal

pub returns-else-signed : goal.returns-else-signed
returns-else-signed c =
    let h : is_signed c.args.ty ≡ false = grind (arith, c.if-signed.false, c.signed.ensures) in
    ap (λ n. n / 2 ^ c.args.bits) c.wrap.ensures ∙ shifted_unsigned c.args.ty c.args.a c.args.bits h
