use Rattle.std.proofs.Common.{◌≡◌, ◌∙◌, ap, sym, arith, rules, ◌<◌, ◌^◌, false, ℕ}
use Rattle.std.specs.Prelude.{pos, FitsSigned, IsTrue, ◌≢◌}
use Rattle.std.specs.Int.{w128}
use Rattle.mir_num.specs.Widths.{is_signed}
use Rattle.mir_num.specs.Numbers.{integer_of, exactly, exact}
use Rattle.mir_num.proofs.Patterns.{integer_unsigned}
use Rattle.mir_num.proofs.Wrapped.{at_two, at_equal, none_signed, exact_unsigned_none, exact_unsigned_some, exact_unsigned_large}
use Rattle.mir_num.proofs.arith.checked.Goals as goal

pub returns-in_err-exact : goal.returns-in_err-exact
returns-in_err-exact c =
    let h : IsTrue (is_signed c.args.ty) = grind (arith, c.if-signed.true, c.signed.ensures) in
    let f : FitsSigned w128 c.signed_value.result = search rules in
    let g : FitsSigned w128 c.signed_value-then-signed.result = search rules in
    c.from_residual.ensures ∙ sym (none_signed c.args.ty _ h (at_equal (λ x y. ¬ (FitsSigned w128 (exact c.args.op x y))) c.signed_value.result c.signed_value-then-signed.result (integer_of c.args.ty c.args.a) (integer_of c.args.ty c.args.b) f g c.signed_value.ensures c.signed_value-then-signed.ensures c.in_err-exact.ensures))

pub returns-in_err-exact-2 : goal.returns-in_err-exact-2
returns-in_err-exact-2 c =
    let h : is_signed c.args.ty ≡ false = grind (arith, c.if-signed.false, c.signed.ensures) in
    let p : pos c.wrap.result ≡ integer_of c.args.ty c.args.a = ap pos c.wrap.ensures ∙ sym (integer_unsigned c.args.ty c.args.a h) in
    let q : pos c.wrap-else-signed.result ≡ integer_of c.args.ty c.args.b = ap pos c.wrap-else-signed.ensures ∙ sym (integer_unsigned c.args.ty c.args.b h) in
    c.from_residual-in_err-exact-2.ensures ∙ sym (exact_unsigned_none c.args.ty _ h (at_two (λ x y. (n : ℕ) → n < 2 ^ 128 → exact c.args.op x y ≢ pos n) (pos c.wrap.result) (pos c.wrap-else-signed.result) (integer_of c.args.ty c.args.a) (integer_of c.args.ty c.args.b) p q c.in_err-exact-2.ensures))

pub returns-then-exact-mask : goal.returns-then-exact-mask
returns-then-exact-mask c =
    let h : is_signed c.args.ty ≡ false = grind (arith, c.if-signed.false, c.signed.ensures) in
    let p : pos c.wrap.result ≡ integer_of c.args.ty c.args.a = ap pos c.wrap.ensures ∙ sym (integer_unsigned c.args.ty c.args.a h) in
    let q : pos c.wrap-else-signed.result ≡ integer_of c.args.ty c.args.b = ap pos c.wrap-else-signed.ensures ∙ sym (integer_unsigned c.args.ty c.args.b h) in
    let e : exact c.args.op (integer_of c.args.ty c.args.a) (integer_of c.args.ty c.args.b) ≡ pos c.in_ok-exact-2.exact = at_two (λ x y. exact c.args.op x y ≡ pos c.in_ok-exact-2.exact) (pos c.wrap.result) (pos c.wrap-else-signed.result) (integer_of c.args.ty c.args.a) (integer_of c.args.ty c.args.b) p q c.in_ok-exact-2.ensures in
    sym (ap (exactly c.args.ty) e ∙ exact_unsigned_some c.args.ty c.in_ok-exact-2.exact h (omega (arith, c.if-exact-mask.true, c.mask.ensures)))

pub returns-else-exact-mask : goal.returns-else-exact-mask
returns-else-exact-mask c =
    let h : is_signed c.args.ty ≡ false = grind (arith, c.if-signed.false, c.signed.ensures) in
    let p : pos c.wrap.result ≡ integer_of c.args.ty c.args.a = ap pos c.wrap.ensures ∙ sym (integer_unsigned c.args.ty c.args.a h) in
    let q : pos c.wrap-else-signed.result ≡ integer_of c.args.ty c.args.b = ap pos c.wrap-else-signed.ensures ∙ sym (integer_unsigned c.args.ty c.args.b h) in
    let e : exact c.args.op (integer_of c.args.ty c.args.a) (integer_of c.args.ty c.args.b) ≡ pos c.in_ok-exact-2.exact = at_two (λ x y. exact c.args.op x y ≡ pos c.in_ok-exact-2.exact) (pos c.wrap.result) (pos c.wrap-else-signed.result) (integer_of c.args.ty c.args.a) (integer_of c.args.ty c.args.b) p q c.in_ok-exact-2.ensures in
    sym (ap (exactly c.args.ty) e ∙ exact_unsigned_large c.args.ty c.in_ok-exact-2.exact (omega (arith, c.if-exact-mask.false, c.mask.ensures)))
