-- The bits of a constant that fits its type are fewer than the type has.
use Rattle.std.proofs.Common.{◌≡◌, ℕ, zero, suc, ◌-◌, ◌<◌, Bool, true, false, not, ◌==◌, nat_lt, refl, arith}
use Rattle.std.proofs.lemmas.Bool.{eqb-false, ltb-true, ltb-false}
use Rattle.mir_syntax.specs.declared.types.IntTy.{IntTy}
use Rattle.mir_syntax.specs.declared.types.IntTy.TheVariants as i
use Rattle.mir_text.specs.Numbers.{count, limit, fits, bits_of, least}

pub greatest_below : (t : IntTy) → nat_lt (limit false t) (count t) ≡ true
greatest_below i.I8 = refl
greatest_below i.I16 = refl
greatest_below i.I32 = refl
greatest_below i.I64 = refl
greatest_below i.I128 = refl
greatest_below i.Isize = refl
greatest_below i.U8 = refl
greatest_below i.U16 = refl
greatest_below i.U32 = refl
greatest_below i.U64 = refl
greatest_below i.U128 = refl
greatest_below i.Usize = refl

pub least_below : (t : IntTy) → nat_lt (least t) (count t) ≡ true
least_below i.I8 = refl
least_below i.I16 = refl
least_below i.I32 = refl
least_below i.I64 = refl
least_below i.I128 = refl
least_below i.Isize = refl
least_below i.U8 = refl
least_below i.U16 = refl
least_below i.U32 = refl
least_below i.U64 = refl
least_below i.U128 = refl
least_below i.Usize = refl

not-false : (b : Bool) → not b ≡ true → b ≡ false
not-false true h = absurd cc
not-false false h = refl

positive : (n : ℕ) → (n ≡ 0 → ⊥) → 0 < n
positive zero away = absurd (away refl)
positive (suc n) away = omega arith

negative-below : (n : ℕ) (t : IntTy) (b : Bool) → (n == 0) ≡ b → bits_of true n t < count t
negative-below n t true e = let few = ltb-true (limit false t) (count t) (greatest_below t) in let some : 0 < count t = omega (arith, few) in rw e some
negative-below n t false e =
    let few = ltb-true (limit false t) (count t) (greatest_below t) in
    let some : 0 < n = positive n (eqb-false n 0 e) in
    let less : count t - n < count t = omega (arith, few, some) in
    rw e less

pub bits_below : (negative : Bool) (n : ℕ) (t : IntTy) → fits negative n t ≡ true → bits_of negative n t < count t
bits_below false n t h =
    let small = ltb-false (limit false t) n (not-false (nat_lt (limit false t) n) h) in
    let few = ltb-true (limit false t) (count t) (greatest_below t) in
    omega (arith, small, few)
bits_below true n t h = negative-below n t (n == 0) refl
