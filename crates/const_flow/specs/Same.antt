-- Numbers that are the same or not, and arms that are there: proofs alone, which `Heights` and `Rises` cite.
use Rattle.std.proofs.Common.{◌≡◌, ◌⊎◌, inl, inr, refl, ap, ℕ, Bool, true, false, nat_eq, ◌||◌, if◌then◌else◌, [], ◌∷◌, List, arith}
use Rattle.std.proofs.lemmas.Bool.{cases_eq}
use Rattle.mir_syntax.specs.declared.body.Arm.{Arm}
use Rattle.mir_semantics.specs.Step.{take_arm}
use Rattle.const_flow.specs.Facts.{any_arm}

pub same_or_not : (a b : ℕ) → ((nat_eq a b ≡ true) × (a ≡ b)) ⊎ ((nat_eq a b ≡ false) × (a ≡ b → ⊥))
same_or_not a b = elim (cases_eq a b) [ inl e ↦ inl (grind arith, e) | inr ne ↦ inr (grind arith, ne) ]

eq_self : (n : ℕ) → nat_eq n n ≡ true
eq_self n = grind arith

or_true : (a b : Bool) → b ≡ true → (a || b) ≡ true
or_true true b e = refl
or_true false b e = e

pub arm_there : (n : ℕ) (arms : List Arm) (other : ℕ) → any_arm (take_arm n arms other) arms other ≡ true
arm_there n [] other = eq_self other
arm_there n (a ∷ arms) other = go (arm_there n arms other) (nat_eq a.value n)
  where
    go : any_arm (take_arm n arms other) arms other ≡ true → (b : Bool) → (nat_eq a.block (if b then a.block else take_arm n arms other) || any_arm (if b then a.block else take_arm n arms other) arms other) ≡ true
    go ih true = ap (λ b. b || any_arm a.block arms other) (eq_self a.block)
    go ih false = or_true (nat_eq a.block (take_arm n arms other)) (any_arm (take_arm n arms other) arms other) ih
