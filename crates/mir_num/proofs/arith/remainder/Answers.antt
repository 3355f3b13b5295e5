use Rattle.std.proofs.Common.{◌≡◌, ◌∙◌, ap, ap₂, sym, subst, arith, rules, ◌<◌, false, Some, None}
use Rattle.std.specs.Prelude.{pos, FitsSigned, int_rem, IsTrue}
use Rattle.std.specs.Int.{w128, CanDivide}
use Rattle.std.proofs.lemmas.Int.{to_z-of_z}
use Rattle.mir_num.specs.Widths.{is_signed, patterns}
use Rattle.mir_num.specs.Numbers.{integer_of, bits_of, quotient, remainder}
use Rattle.mir_num.proofs.Patterns.{integer_unsigned, wrap_below}
use Rattle.mir_num.proofs.Wrapped.{at_equal, quotient_none, remainder_none, remainder_some, remainder_unsigned}
use Rattle.mir_num.proofs.arith.remainder.Goals as goal

pub returns-in_err-_quotient : goal.returns-in_err-_quotient
returns-in_err-_quotient c = c.from_residual.ensures ∙ sym (remainder_none c.args.ty _ _ (sym c.in_err-_quotient.ensures))

pub returns-in_err-rest : goal.returns-in_err-rest
returns-in_err-rest c =
    let h : IsTrue (is_signed c.args.ty) = grind (arith, c.if-signed.true, c.signed.ensures) in
    let f : FitsSigned w128 c.signed_value.result = search rules in
    let g : FitsSigned w128 c.signed_value-then-signed.result = search rules in
    let n : quotient c.args.ty (integer_of c.args.ty c.args.a) (integer_of c.args.ty c.args.b) ≡ None = quotient_none c.args.ty _ _ h (subst (FitsSigned w128) c.signed_value-then-signed.ensures g) (at_equal (λ x y. ¬ (CanDivide w128 x y)) c.signed_value.result c.signed_value-then-signed.result (integer_of c.args.ty c.args.a) (integer_of c.args.ty c.args.b) f g c.signed_value.ensures c.signed_value-then-signed.ensures c.in_err-rest.ensures) in
    c.from_residual-in_err-rest.ensures ∙ sym (remainder_none c.args.ty _ _ n)

pub returns-in_ok-rest : goal.returns-in_ok-rest
returns-in_ok-rest c =
    let h : IsTrue (is_signed c.args.ty) = grind (arith, c.if-signed.true, c.signed.ensures) in
    let f : FitsSigned w128 c.signed_value.result = search rules in
    let g : FitsSigned w128 c.signed_value-then-signed.result = search rules in
    let k : FitsSigned w128 c.in_ok-rest.rest = search rules in
    let (d, e) = at_equal (λ x y. CanDivide w128 x y × (c.in_ok-rest.rest ≡ int_rem x y)) c.signed_value.result c.signed_value-then-signed.result (integer_of c.args.ty c.args.a) (integer_of c.args.ty c.args.b) f g c.signed_value.ensures c.signed_value-then-signed.ensures c.in_ok-rest.ensures in
    ap Some (c.pattern.ensures ∙ ap (bits_of c.args.ty) (to_z-of_z w128 c.in_ok-rest.rest k ∙ e)) ∙ sym (remainder_some c.args.ty _ _ _ (sym c.in_ok-_quotient.ensures))

pub returns-else-signed : goal.returns-else-signed
returns-else-signed c =
    let h : is_signed c.args.ty ≡ false = grind (arith, c.if-signed.false, c.signed.ensures) in
    let p : pos c.wrap.result ≡ integer_of c.args.ty c.args.a = ap pos c.wrap.ensures ∙ sym (integer_unsigned c.args.ty c.args.a h) in
    let q : pos c.wrap-else-signed.result ≡ integer_of c.args.ty c.args.b = ap pos c.wrap-else-signed.ensures ∙ sym (integer_unsigned c.args.ty c.args.b h) in
    remainder_unsigned c.args.ty c.checked_rem-else-signed.result c.wrap.result c.wrap-else-signed.result h (subst (λ n. n < patterns c.args.ty) (sym c.wrap.ensures) (wrap_below c.args.ty c.args.a)) c.checked_rem-else-signed.ensures ∙ ap₂ (remainder c.args.ty) p q
