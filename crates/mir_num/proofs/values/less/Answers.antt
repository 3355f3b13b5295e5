use Rattle.std.proofs.Common.{◌≡◌, ◌∙◌, ap₂, sym, arith, false, nat_lt}
use Rattle.std.specs.Prelude.{int_lt}
use Rattle.mir_num.specs.Widths.{is_signed}
use Rattle.mir_num.proofs.values.less.Goals as goal
use Rattle.mir_num.proofs.Patterns.{integer_unsigned}

pub returns-else-signed : goal.returns-else-signed
returns-else-signed c =
    let h : is_signed c.args.ty ≡ false = grind (arith, c.if-signed.false, c.signed.ensures) in
    ap₂ nat_lt c.wrap.ensures c.wrap-else-signed.ensures ∙ sym (ap₂ int_lt (integer_unsigned c.args.ty c.args.a h) (integer_unsigned c.args.ty c.args.b h))
