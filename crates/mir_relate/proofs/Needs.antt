-- In a valid crate what needs no drop has no part that does.
use Rattle.std.proofs.Common.{◌≡◌, sym, ap, ◌∙◌, subst, refl, ℕ, zero, suc, Bool, true, false, if◌then◌else◌, List, [], ◌∷◌, length, Some, None, is_some, slice_get, arith}
use Rattle.mir_syntax.specs.Tree.{Tree, more, named}
use Rattle.mir_syntax.specs.Shapes.{Shape, struct_fields, first_variant, fields_of, variant_ty, needs_by, any_needs, needs_of, needs_def, needs_drop}
use Rattle.mir_rules.specs.DefinitionRules.{holds}
use Rattle.mir_rules.proofs.Lists.{or_false-left, or_false-right}
use Rattle.mir_rules.proofs.Fixed.{needs_drop_named}
use Rattle.mir_syntax.proofs.Binds.{bind_some}
use Rattle.mir_renaming.proofs.Agree.{NeedsOk}

module _ (D : List Shape) (apart : (d : ℕ) → holds D (length D) d d ≡ false) where
  abbrev below : ℕ → Bool
  below = needs_def D (length D)

  abbrev Calm : Tree → Type 0
  Calm t = needs_by below t ≡ false

  named_is : (d : ℕ) → below d ≡ needs_of below (slice_get D d)
  unfolding needs_drop
  named_is d = needs_drop_named D apart d

  any_at : (ts : List Tree) (k : ℕ) (t : Tree) → any_needs below ts ≡ false → slice_get ts k ≡ Some t → Calm t
  any_at [] k t h e = absurd (grind arith)
  any_at (u ∷ ts) zero t h e = rw (let same : t ≡ u = grind arith in same) (or_false-left (needs_by below u) (any_needs below ts) h)
  any_at (u ∷ ts) (suc k) t h e = any_at ts k t (or_false-right (needs_by below u) (any_needs below ts) h) e

  any_first : (ts : List Tree) → any_needs below ts ≡ false → Calm (first_variant ts)
  any_first [] h = refl
  any_first (t ∷ ts) h = or_false-left (needs_by below t) (any_needs below ts) h

  shape_calm : (d : ℕ) (s : Shape) → below d ≡ false → slice_get D d ≡ Some s → any_needs below s.variants ≡ false
  shape_calm d s h e = or_false-right (is_some s.destructor) (any_needs below s.variants) (sym (ap (needs_of below) e) ∙ sym (named_is d) ∙ h)

  tuple_calm : (t u us : Tree) → Calm t → Some t ≡ Some (more u us) → Calm u × Calm us
  tuple_calm t u us h e =
      let k : needs_by below (more u us) ≡ false = subst Calm (let z : t ≡ more u us = grind arith in z) h in
      (or_false-left (needs_by below u) (needs_by below us) k, or_false-right (needs_by below u) (needs_by below us) k)

  row_calm : (t u us : Tree) → Calm t → fields_of D t ≡ Some (more u us) → Calm u × Calm us
  row_calm (more t ts) u us h e = tuple_calm (more t ts) u us h e
  row_calm (named d) u us h e =
      let (s, e1, e2) = bind_some e in
      fields s e1 s.is_enum e2
    where
      fields : (s : Shape) → slice_get D d ≡ Some s → (b : Bool) → (if b then None else Some (struct_fields s)) ≡ Some (more u us) → Calm u × Calm us
      fields s e1 true e2 = absurd (grind arith)
      fields s e1 false e2 = tuple_calm (struct_fields s) u us (any_first s.variants (shape_calm d s h e1)) e2
  row_calm t u us h e = absurd (grind arith)

  variant_calm : (t u : Tree) (k : ℕ) → Calm t → variant_ty D t k ≡ Some u → Calm u
  variant_calm (named d) u k h e =
      let (s, e1, e2) = bind_some e in
      fields s e1 s.is_enum e2
    where
      fields : (s : Shape) → slice_get D d ≡ Some s → (b : Bool) → (if b then slice_get s.variants k else None) ≡ Some u → Calm u
      fields s e1 true e2 = any_at s.variants k u (shape_calm d s h e1) e2
      fields s e1 false e2 = absurd (grind arith)
  variant_calm t u k h e = absurd (grind arith)

  pub needs_ok : NeedsOk D
  unfolding needs_drop
  needs_ok = record { row = row_calm; variant = λ t u k h e. variant_calm t u k h e }
