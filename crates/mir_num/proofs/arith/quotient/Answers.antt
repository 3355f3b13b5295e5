use Rattle.std.proofs.Common.{◌≡◌, ◌∙◌, ap, ap₂, sym, subst, arith, rules, ◌<◌, false}
use Rattle.std.specs.Prelude.{pos, FitsSigned, int_div, IsTrue}
use Rattle.std.specs.Int.{w128, CanDivide}
use Rattle.std.proofs.lemmas.Int.{to_z-of_z}
use Rattle.mir_num.specs.Widths.{is_signed, patterns}
use Rattle.mir_num.specs.Numbers.{integer_of, exactly, quotient}
use Rattle.mir_num.proofs.Patterns.{integer_unsigned, wrap_below}
use Rattle.mir_num.proofs.Wrapped.{at_equal, quotient_none, quotient_some, quotient_unsigned}
use Rattle.mir_num.proofs.arith.quotient.Goals as goal

pub returns-in_err-quotient : goal.returns-in_err-quotient
returns-in_err-quotient c =
    let h : IsTrue (is_signed c.args.ty) = grind (arith, c.if-signed.true, c.signed.ensures) in
    let f : FitsSigned w128 c.signed_value.result = search rules in
    let g : FitsSigned w128 c.signed_value-then-signed.result = search rules in
    c.from_residual.ensures ∙ sym (quotient_none c.args.ty _ _ h (subst (FitsSigned w128) c.signed_value-then-signed.ensures g) (at_equal (λ x y. ¬ (CanDivide w128 x y)) c.signed_value.result c.signed_value-then-signed.result (integer_of c.args.ty c.args.a) (integer_of c.args.ty c.args.b) f g c.signed_value.ensures c.signed_value-then-signed.ensures c.in_err-quotient.ensures))

pub returns-in_ok-quotient : goal.returns-in_ok-quotient
returns-in_ok-quotient c =
    let h : IsTrue (is_signed c.args.ty) = grind (arith, c.if-signed.true, c.signed.ensures) in
    let f : FitsSigned w128 c.signed_value.result = search rules in
    let g : FitsSigned w128 c.signed_value-then-signed.result = search rules in
    let k : FitsSigned w128 c.in_ok-quotient.quotient = search rules in
    let (d, e) = at_equal (λ x y. CanDivide w128 x y × (c.in_ok-quotient.quotient ≡ int_div x y)) c.signed_value.result c.signed_value-then-signed.result (integer_of c.args.ty c.args.a) (integer_of c.args.ty c.args.b) f g c.signed_value.ensures c.signed_value-then-signed.ensures c.in_ok-quotient.ensures in
    c.fitted.ensures ∙ ap (exactly c.args.ty) (to_z-of_z w128 c.in_ok-quotient.quotient k ∙ e) ∙ quotient_some c.args.ty _ _ d.0

pub returns-else-signed : goal.returns-else-signed
returns-else-signed c =
    let h : is_signed c.args.ty ≡ false = grind (arith, c.if-signed.false, c.signed.ensures) in
    let p : pos c.wrap.result ≡ integer_of c.args.ty c.args.a = ap pos c.wrap.ensures ∙ sym (integer_unsigned c.args.ty c.args.a h) in
    let q : pos c.wrap-else-signed.result ≡ integer_of c.args.ty c.args.b = ap pos c.wrap-else-signed.ensures ∙ sym (integer_unsigned c.args.ty c.args.b h) in
    quotient_unsigned c.args.ty c.checked_div-else-signed.result c.wrap.result c.wrap-else-signed.result h (subst (λ n. n < patterns c.args.ty) (sym c.wrap.ensures) (wrap_below c.args.ty c.args.a)) c.checked_div-else-signed.ensures ∙ ap₂ (quotient c.args.ty) p q
