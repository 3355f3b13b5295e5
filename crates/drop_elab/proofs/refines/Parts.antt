-- The parts of a place that a drop visits, and the units at or under them.
use Rattle.std.proofs.Common.{◌≡◌, refl, sym, ap, ◌∙◌, ℕ, suc, Bool, true, false, ◌||◌, if◌then◌else◌, List, [], ◌∷◌, ◌++◌, length, Option, Some, None, is_some, slice_get, append_assoc, arith}
use Rattle.mir_syntax.specs.declared.body.Proj.{Proj}
use Rattle.mir_syntax.specs.declared.body.Proj.TheVariants.{Field, Downcast, Deref}
use Rattle.mir_syntax.specs.declared.body.Place.{Place}
use Rattle.mir_syntax.specs.Tree.{Tree, scalar, empty, more, named}
use Rattle.mir_syntax.specs.Tree as tree
use Rattle.mir_syntax.specs.Shapes.{Shape, first_variant, struct_fields}
use Rattle.mir_rules.specs.DefinitionRules.{holds}
use Rattle.mir_rules.specs.Weights.{units}
use Rattle.mir_semantics.specs.Values.{Addr, Value, number, nil, cons, variant, pointer, hole}
use Rattle.mir_semantics.specs.Memory.{further}
use Rattle.mir_semantics.specs.Step.{Visit, field_visits, variant_visits, enum_visits, shape_visits, visits_of}
use Rattle.drop_elab.proofs.refines.Items.{IsTuple, Proper, ProperShapes, place_of}
use Rattle.drop_elab.proofs.refines.Near.{Plain}
use Rattle.drop_elab.proofs.refines.Outer.{holds_unit, unit_in_ty, outer_units, outer_plan, outer_append, tuple_outer, struct_outer, nothing_outer, one_outer}
use Rattle.drop_elab.proofs.refines.Stand.{AllV}

-- a part lies at or under the place, and there is no dereference between
abbrev pub Part : Addr → Visit → Type 0
Part a w = (w.addr.frame ≡ a.frame) × (w.addr.local ≡ a.local) × Proper w.ty × ((qs : List Proj) × (w.addr.path ≡ a.path ++ qs) × Plain qs)

pub all_append : (P : Visit → Type 0) (xs ys : List Visit) → AllV P xs → AllV P ys → AllV P (xs ++ ys)
all_append P [] ys h g = g
all_append P (x ∷ xs) ys h g = (h.0, all_append P xs ys h.1 g)

pub all_then : (P Q : Visit → Type 0) (xs : List Visit) → ((x : Visit) → P x → Q x) → AllV P xs → AllV Q xs
all_then P Q [] f h = tt
all_then P Q (x ∷ xs) f h = (f x h.0, all_then P Q xs f h.1)

pub plain_both : (ps qs : List Proj) → Plain ps → Plain qs → Plain (ps ++ qs)
plain_both [] qs h g = g
plain_both (Field i ∷ ps) qs h g = plain_both ps qs h g
plain_both (Downcast k ∷ ps) qs h g = plain_both ps qs h g
plain_both (Deref ∷ ps) qs h g = absurd h

fields_parts : (a b : Addr) (n : ℕ) (t : Tree) → a.frame ≡ b.frame → a.local ≡ b.local → (qs : List Proj) → a.path ≡ b.path ++ qs → Plain qs → Proper t → AllV (Part b) (field_visits a n t)
fields_parts a b n (more t ts) f l qs p pl pr = ((f, l, pr.0, (qs ++ (Field n ∷ []), ap (λ ps. ps ++ (Field n ∷ [])) p ∙ append_assoc b.path qs (Field n ∷ []), plain_both qs (Field n ∷ []) pl tt)), fields_parts a b (suc n) ts f l qs p pl pr.2)
fields_parts a b n (named d) f l qs p pl pr = tt
fields_parts a b n (scalar s) f l qs p pl pr = tt
fields_parts a b n empty f l qs p pl pr = tt
fields_parts a b n (tree.ref t) f l qs p pl pr = tt
fields_parts a b n (tree.ref_mut t) f l qs p pl pr = tt

pub end_append : (xs : List Proj) → xs ++ [] ≡ xs
end_append [] = refl
end_append (x ∷ xs) = ap (λ ys. x ∷ ys) (end_append xs)

own_fields : (a : Addr) (n : ℕ) (t : Tree) → Proper t → AllV (Part a) (field_visits a n t)
own_fields a n t pr = fields_parts a a n t refl refl [] (sym (end_append a.path)) tt pr

module _ (D : List Shape) (apart : (d : ℕ) → holds D (length D) d d ≡ false) (proper : ProperShapes D) where
  pub parts_are : (a : Addr) (t : Tree) (v : Value) → Proper t → AllV (Part a) (visits_of D a t v)
  parts_are a (named d) v pr = by_shape (slice_get D d) refl
    where
      variants : (ts : List Tree) → ((k : ℕ) (t : Tree) → slice_get ts k ≡ Some t → IsTuple t × Proper t) → (v : Value) → AllV (Part a) (enum_visits a ts v)
      variants ts h (variant k w) = go (slice_get ts k) refl
        where
          go : (o : Option Tree) → slice_get ts k ≡ o → AllV (Part a) (variant_visits a k o)
          go None e = tt
          go (Some t) e = fields_parts (further a (Downcast k)) a 0 t refl refl (Downcast k ∷ []) refl tt (h k t e).1
      variants ts h (number n) = tt
      variants ts h nil = tt
      variants ts h (cons x xs) = tt
      variants ts h (pointer b) = tt
      variants ts h hole = tt

      first : (ts : List Tree) → ((k : ℕ) (t : Tree) → slice_get ts k ≡ Some t → IsTuple t × Proper t) → AllV (Part a) (field_visits a 0 (first_variant ts))
      first [] h = tt
      first (t ∷ ts) h = own_fields a 0 t (h 0 t refl).1

      by_shape : (o : Option Shape) → slice_get D d ≡ o → AllV (Part a) (shape_visits a o v)
      by_shape None e = tt
      by_shape (Some s) e = pick s.is_enum
        where
          pick : (b : Bool) → AllV (Part a) (if b then enum_visits a s.variants v else field_visits a 0 (struct_fields s))
          pick true = variants s.variants (proper d s e) v
          pick false = first s.variants (proper d s e)
  parts_are a (more t ts) v pr = own_fields a 0 (more t ts) pr
  parts_are a empty v pr = tt
  parts_are a (scalar s) v pr = tt
  parts_are a (tree.ref t) v pr = tt
  parts_are a (tree.ref_mut t) v pr = tt

  -- ---- the units at or under places

  abbrev pub units_left : List Visit → List Place
  units_left os = outer_plan (List Place) D (λ u vs. u ∷ vs) os []

  pub left_none : (i : Visit) (os : List Visit) → units D i.ty ≡ [] → units_left (i ∷ os) ≡ units_left os
  left_none i os e = ap (λ us. outer_units (List Place) D (λ u vs. u ∷ vs) (place_of i.addr) us (units_left os)) e

  pub left_unit : (i : Visit) (os : List Visit) → units D i.ty ≡ [] ∷ [] → units_left (i ∷ os) ≡ place_of i.addr ∷ units_left os
  left_unit i os e = one_outer (List Place) D (λ u vs. u ∷ vs) apart proper i.addr i.ty (units_left os) e

  -- the parts of a place that is no unit
  pub left_parts : (i : Visit) (v : Value) (os : List Visit) → unit_in_ty D i.ty ≡ false → Proper i.ty → units_left (i ∷ os) ≡ units_left (visits_of D i.addr i.ty v ++ os)
  unfolding units
  left_parts i v os nu pr = go i.ty nu pr ∙ sym (outer_append (List Place) D (λ u vs. u ∷ vs) (visits_of D i.addr i.ty v) os [])
    where
      Y : List Place
      Y = units_left os

      or_parts : (a b : Bool) → (a || b) ≡ false → (a ≡ false) × (b ≡ false)
      or_parts true b e = absurd (grind arith)
      or_parts false b e = (refl, e)

      is_none : (o : Option ℕ) → is_some o ≡ false → o ≡ None
      is_none None e = refl
      is_none (Some x) e = absurd (grind arith)

      go : (t : Tree) → unit_in_ty D t ≡ false → Proper t → outer_units (List Place) D (λ u vs. u ∷ vs) (place_of i.addr) (units D t) Y ≡ outer_plan (List Place) D (λ u vs. u ∷ vs) (visits_of D i.addr t v) Y
      go (more t ts) nu pr = tuple_outer (List Place) D (λ u vs. u ∷ vs) i.addr (more t ts) Y tt pr
      go empty nu pr = refl
      go (scalar s) nu pr = refl
      go (tree.ref t) nu pr = refl
      go (tree.ref_mut t) nu pr = refl
      go (named d) nu pr = by_shape (slice_get D d) refl
        where
          by_shape : (o : Option Shape) → slice_get D d ≡ o → outer_units (List Place) D (λ u vs. u ∷ vs) (place_of i.addr) (units D (named d)) Y ≡ outer_plan (List Place) D (λ u vs. u ∷ vs) (shape_visits i.addr (slice_get D d) v) Y
          by_shape None e = nothing_outer (List Place) D (λ u vs. u ∷ vs) apart proper d i.addr Y e ∙ sym (ap (λ o. outer_plan (List Place) D (λ u vs. u ∷ vs) (shape_visits i.addr o v) Y) e)
          by_shape (Some s) e =
              let (en, ds) = or_parts s.is_enum (is_some s.destructor) (sym (ap holds_unit e) ∙ nu) in
              struct_outer (List Place) D (λ u vs. u ∷ vs) apart proper s d i.addr Y e en (is_none s.destructor ds)
              ∙ sym (ap (λ o. outer_plan (List Place) D (λ u vs. u ∷ vs) (shape_visits i.addr o v) Y) e ∙ ap (λ b. outer_plan (List Place) D (λ u vs. u ∷ vs) (if b then enum_visits i.addr s.variants v else field_visits i.addr 0 (struct_fields s)) Y) en)
