-- What spreads from marks: which definitions need drop, and which hold a certain one.
use Rattle.std.proofs.Common.{◌≡◌, ◌-◌, ℕ, zero, suc, Bool, true, false, ◌||◌, ◌==◌, List, [], ◌∷◌, length, slice_get, Option, Some, None, is_some, refl, sym, ap, ap₂, ◌∙◌, arith}
use Rattle.std.proofs.Math.Path.{fun_ext}
use Rattle.mir_syntax.specs.Shapes.{Shape, needs_of, needs_def, needs_by, any_needs}
use Rattle.mir_rules.specs.DefinitionRules.{holds_one, holds}
use Rattle.mir_syntax.specs.Tree.{Tree, scalar, empty, more, ref, ref_mut, named}
use Rattle.drop_tables.specs.Marks.{spread, own_of}

or_false : (b : Bool) → b ≡ (b || false)
or_false true = refl
or_false false = refl

module _ (D : List Shape) where
  none_needs : (t : Tree) → needs_by (needs_def D zero) t ≡ false
  none_needs (scalar s) = refl
  none_needs empty = refl
  none_needs (more t ts) = ap₂ (λ a b. a || b) (none_needs t) (none_needs ts)
  none_needs (ref t) = refl
  none_needs (ref_mut t) = refl
  none_needs (named d) = refl

  none_of_all : (ts : List Tree) → any_needs (needs_def D zero) ts ≡ false
  none_of_all [] = refl
  none_of_all (t ∷ ts) = ap₂ (λ a b. a || b) (none_needs t) (none_of_all ts)

  module _ (own : ℕ → Bool) (own_is : (d : ℕ) → own d ≡ own_of (slice_get D d)) where
    needs_spread : (n d : ℕ) → spread D own own n d ≡ needs_def D (suc n) d
    needs_spread zero d = own_is d ∙ go (slice_get D d)
      where
        go : (o : Option Shape) → own_of o ≡ needs_of (needs_def D zero) o
        go None = refl
        go (Some s) = or_false (is_some s.destructor) ∙ ap (λ b. is_some s.destructor || b) (sym (none_of_all s.variants))
    needs_spread (suc n) d = ap₂ (λ b (f : ℕ → Bool). b || holds_one f (slice_get D d)) (own_is d) (fun_ext (needs_spread n)) ∙ go (slice_get D d)
      where
        go : (o : Option Shape) → (own_of o || holds_one (needs_def D (suc n)) o) ≡ needs_of (needs_def D (suc n)) o
        go None = refl
        go (Some s) = refl

  module _ (own : ℕ → Bool) (e : ℕ) (own_is : (k : ℕ) → own k ≡ (k == e)) where
    pub holds_spread : (n k : ℕ) → spread D own own n k ≡ (k == e || holds D n e k)
    holds_spread zero k = own_is k ∙ or_false (k == e)
    holds_spread (suc n) k = ap₂ (λ b (f : ℕ → Bool). b || holds_one f (slice_get D k)) (own_is k) (fun_ext (holds_spread n))

-- one round fewer than there are definitions is enough
pub needs_all : (D : List Shape) (own : ℕ → Bool) → ((d : ℕ) → own d ≡ own_of (slice_get D d)) → (n d : ℕ) → n ≡ length D - 1 → spread D own own n d ≡ needs_def D (length D) d
needs_all [] own own_is n d e = let z : n ≡ 0 = omega (arith, e) in ap (λ k. spread [] own own k d) z ∙ own_is d
needs_all (s ∷ D) own own_is n d e = let z : suc n ≡ length (s ∷ D) = omega (arith, e) in needs_spread (s ∷ D) own own_is n d ∙ ap (λ k. needs_def (s ∷ D) k d) z
