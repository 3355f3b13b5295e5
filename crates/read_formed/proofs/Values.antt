-- The bits of a constant that fits its type are fewer than the type has.
use Rattle.std.proofs.Common.{◌≡◌, ◌-◌, ◌<◌, ◌^◌, true, false, nat_lt, refl, subst}
use Rattle.std.proofs.lemmas.Bool.{lt-ltb}
use Rattle.mir_syntax.specs.declared.types.IntTy.{IntTy}
use Rattle.mir_syntax.specs.declared.types.IntTy.TheVariants as i
use Rattle.mir_syntax.specs.declared.types.ScalarTy.TheVariants as scalar_ty
use Rattle.mir_num.specs.Widths.{width_of}
use Rattle.mir_text.specs.Numbers.{count, limit, bits_of, least}
use Rattle.mir_text.specs.GrammarPlaces as p
use Rattle.mir_text.specs.GrammarPlaces.{ValueRule}
use Rattle.mir_text.specs.NamedBodies.{value_named}
use Rattle.mir_text.specs.Nesting.{ValueFits}
use Rattle.mir_text.proofs.Fitting.{greatest_below, least_below, bits_below}
use Rattle.mir_rules.specs.Formed.{const_formed}

count-is : (t : IntTy) → count t ≡ 2 ^ width_of (scalar_ty.Int t)
count-is i.I8 = refl
count-is i.I16 = refl
count-is i.I32 = refl
count-is i.I64 = refl
count-is i.I128 = refl
count-is i.Isize = refl
count-is i.U8 = refl
count-is i.U16 = refl
count-is i.U32 = refl
count-is i.U64 = refl
count-is i.U128 = refl
count-is i.Usize = refl

pub value_formed : (v : ValueRule) → ValueFits v → const_formed (value_named v) ≡ true
value_formed (p.number negative n u) h = lt-ltb (bits_of negative n u) (2 ^ width_of (scalar_ty.Int u)) (subst (λ c. bits_of negative n u < c) (count-is u) (bits_below negative n u h))
value_formed (p.boolean x) h = refl
value_formed p.unit h = refl
value_formed (p.least u) h = subst (λ c. nat_lt (least u) c ≡ true) (count-is u) (least_below u)
value_formed (p.most u) h = subst (λ c. nat_lt (limit false u) c ≡ true) (count-is u) (greatest_below u)
