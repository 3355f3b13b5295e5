use Rattle.std.proofs.Common.{◌≡◌, ◌∙◌, ap, arith, rules, false}
use Rattle.std.specs.Prelude.{FitsSigned}
use Rattle.std.specs.Int.{w128}
use Rattle.std.proofs.lemmas.Int.{to_z-of_z}
use Rattle.mir_num.specs.Widths.{is_signed}
use Rattle.mir_num.specs.Numbers.{wrap, bits_of, cast}
use Rattle.mir_num.proofs.Wrapped.{cast_unsigned_is}
use Rattle.mir_num.proofs.operators.cast_scalar.Goals as goal

pub returns-then-signed : goal.returns-then-signed
unfolding cast
returns-then-signed c = let f : FitsSigned w128 c.signed_value.result = search rules in c.pattern.ensures ∙ ap (bits_of _) (to_z-of_z w128 c.signed_value.result f ∙ c.signed_value.ensures)

pub returns-else-signed : goal.returns-else-signed
returns-else-signed c =
    let h : is_signed c.args.from ≡ false = grind (arith, c.if-signed.false, c.signed.ensures) in
    c.wrap-else-signed.ensures ∙ ap (wrap _) c.wrap.ensures ∙ cast_unsigned_is c.args.from _ c.args.a h
