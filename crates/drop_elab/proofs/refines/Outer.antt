-- The plan of what a drop has still to visit outside of units: unit by unit.
use Rattle.std.proofs.Common.{◌≡◌, refl, sym, ap, ap₂, ◌∙◌, ℕ, zero, suc, Bool, true, false, ◌||◌, List, [], ◌∷◌, ◌++◌, map, length, Option, Some, None, is_some, slice_get}
use Rattle.mir_syntax.specs.declared.body.Proj.{Proj}
use Rattle.mir_syntax.specs.declared.body.Proj.TheVariants.{Field}
use Rattle.mir_syntax.specs.declared.body.Place.{Place}
use Rattle.mir_syntax.specs.Tree.{Tree, scalar, empty, more, named}
use Rattle.mir_syntax.specs.Tree as tree
use Rattle.mir_syntax.specs.Shapes.{Shape, first_variant, struct_fields, any_needs, needs_of, needs_drop}
use Rattle.mir_rules.specs.DefinitionRules.{holds}
use Rattle.mir_rules.specs.Weights.{under, units_from, one_unit, units_of_parts, units_of_shape, units_of, units_def, units}
use Rattle.mir_rules.proofs.Fixed.{needs_drop_named}
use Rattle.mir_rules.proofs.FixedWeights.{units_named}
use Rattle.mir_rules.proofs.Lists.{or_false-left, or_false-right}
use Rattle.mir_semantics.specs.Values.{Addr}
use Rattle.mir_semantics.specs.Step.{Visit, field_visits}
use Rattle.drop_elab.specs.Plan.{Plan, part}
use Rattle.drop_elab.specs.Elab.{Status, plan_unit}
use Rattle.drop_elab.proofs.refines.Items.{IsTuple, Proper, ProperShapes, place_of}

-- a unit's flag and status at a drop
pub record Marks : Type 0 where
  pub flag : Place → Option ℕ
  pub status : Place → Status

-- the type of a unit, where it needs drop
abbrev pub holds_unit : Option Shape → Bool
holds_unit None = false
holds_unit (Some sh) = sh.is_enum || is_some sh.destructor

abbrev pub unit_in_ty : List Shape → Tree → Bool
unit_in_ty D (named d) = holds_unit (slice_get D d)
unit_in_ty D _ = false

abbrev pub at_unit : Place → List Proj → Place
at_unit q u = record q { proj = q.proj ++ u }

module _ (D : List Shape) (locals : List Tree) (marks : Marks) where
  abbrev pub plan_at : Place → Plan → Plan
  plan_at q rest = plan_unit D locals (record { unit = q; flag = marks.flag q }) (marks.status q) rest

-- over the units of a place, in order
module _ (Y : Type 0) (D : List Shape) (each : Place → Y → Y) where
  abbrev pub outer_units : Place → List (List Proj) → Y → Y
  outer_units q [] rest = rest
  outer_units q (u ∷ us) rest = each (at_unit q u) (outer_units q us rest)

  -- of the places that are left, none of them inside a unit
  abbrev pub outer_plan : List Visit → Y → Y
  outer_plan [] rest = rest
  outer_plan (i ∷ os) rest = outer_units (place_of i.addr) (units D i.ty) (outer_plan os rest)

  pub outer_append : (xs ys : List Visit) (rest : Y) → outer_plan (xs ++ ys) rest ≡ outer_plan xs (outer_plan ys rest)
  outer_append [] ys rest = refl
  outer_append (x ∷ xs) ys rest = ap (outer_units (place_of x.addr) (units D x.ty)) (outer_append xs ys rest)

  units_append : (q : Place) (us vs : List (List Proj)) (rest : Y) → outer_units q (us ++ vs) rest ≡ outer_units q us (outer_units q vs rest)
  units_append q [] vs rest = refl
  units_append q (u ∷ us) vs rest = ap (each (at_unit q u)) (units_append q us vs rest)

  one_more : (xs : List Proj) (y : Proj) (ys : List Proj) → (xs ++ y ∷ []) ++ ys ≡ xs ++ y ∷ ys
  one_more [] y ys = refl
  one_more (x ∷ xs) y ys = ap (λ zs. x ∷ zs) (one_more xs y ys)

  -- the units of a field
  units_under : (q : Place) (n : ℕ) (us : List (List Proj)) (rest : Y) → outer_units q (map (under n) us) rest ≡ outer_units (part q (Field n)) us rest
  units_under q n [] rest = refl
  units_under q n (u ∷ us) rest = ap₂ (λ ps r. each (record { local = q.local; proj = ps }) r) (sym (one_more q.proj (Field n) u)) (units_under q n us rest)

  pub fields_outer : (a : Addr) (n : ℕ) (t : Tree) (rest : Y) → IsTuple t → Proper t → outer_units (place_of a) (units_from (units_def D (length D)) n t) rest ≡ outer_plan (field_visits a n t) rest
  unfolding units
  fields_outer a n empty rest h p = refl
  fields_outer a n (more t ts) rest h p =
      units_append (place_of a) (map (under n) (units_from (units_def D (length D)) 0 t)) (units_from (units_def D (length D)) (suc n) ts) rest
      ∙ units_under (place_of a) n (units_from (units_def D (length D)) 0 t) (outer_units (place_of a) (units_from (units_def D (length D)) (suc n) ts) rest)
      ∙ ap (outer_units (part (place_of a) (Field n)) (units_from (units_def D (length D)) 0 t)) (fields_outer a (suc n) ts rest p.1 p.2)
  fields_outer a n (scalar s) rest h p = absurd h
  fields_outer a n (tree.ref t) rest h p = absurd h
  fields_outer a n (tree.ref_mut t) rest h p = absurd h
  fields_outer a n (named d) rest h p = absurd h

  pub tuple_outer : (a : Addr) (t : Tree) (rest : Y) → IsTuple t → Proper t → outer_units (place_of a) (units D t) rest ≡ outer_plan (field_visits a 0 t) rest
  unfolding units
  tuple_outer a t rest h p = fields_outer a 0 t rest h p

  module _ (apart : (d : ℕ) → holds D (length D) d d ≡ false) (proper : ProperShapes D) where
    -- a struct without a destructor
    pub struct_outer : (s : Shape) (d : ℕ) (a : Addr) (rest : Y) → slice_get D d ≡ Some s → s.is_enum ≡ false → s.destructor ≡ None → outer_units (place_of a) (units D (named d)) rest ≡ outer_plan (field_visits a 0 (struct_fields s)) rest
    unfolding units
    struct_outer s d a rest e en none = ap (λ us. outer_units (place_of a) us rest) parts ∙ first s.variants (proper d s e)
      where
        parts : units D (named d) ≡ units_from (units_def D (length D)) 0 (first_variant s.variants)
        parts = units_named D apart d ∙ ap (units_of (units_def D (length D)) (needs_drop D (named d))) e ∙ ap (λ o. units_of_shape (units_def D (length D)) (needs_drop D (named d)) (is_some o) s) none ∙ ap (λ b. units_of_parts (units_def D (length D)) (needs_drop D (named d)) b s.variants) en

        first : (ts : List Tree) → ((k : ℕ) (t : Tree) → slice_get ts k ≡ Some t → IsTuple t × Proper t) → outer_units (place_of a) (units_from (units_def D (length D)) 0 (first_variant ts)) rest ≡ outer_plan (field_visits a 0 (first_variant ts)) rest
        first [] h = refl
        first (t ∷ ts) h = let (x, y) = h 0 t refl in fields_outer a 0 t rest x y

    -- what isn't defined has no unit
    pub nothing_units : (d : ℕ) → slice_get D d ≡ None → units D (named d) ≡ []
    unfolding units
    nothing_units d e = units_named D apart d ∙ ap (units_of (units_def D (length D)) (needs_drop D (named d))) e

    pub nothing_outer : (d : ℕ) (a : Addr) (rest : Y) → slice_get D d ≡ None → outer_units (place_of a) (units D (named d)) rest ≡ rest
    unfolding units
    nothing_outer d a rest e = ap (λ us. outer_units (place_of a) us rest) (units_named D apart d ∙ ap (units_of (units_def D (length D)) (needs_drop D (named d))) e)

    -- a unit is its own
    at_end : (xs : List Proj) → xs ++ [] ≡ xs
    at_end [] = refl
    at_end (x ∷ xs) = ap (λ ys. x ∷ ys) (at_end xs)

    pub one_outer : (a : Addr) (t : Tree) (rest : Y) → units D t ≡ [] ∷ [] → outer_units (place_of a) (units D t) rest ≡ each (place_of a) rest
    one_outer a t rest e = ap (λ us. outer_units (place_of a) us rest) e ∙ ap (λ ps. each (record { local = a.local; proj = ps }) rest) (at_end a.path)

    pub destructor_outer : (s : Shape) (d g : ℕ) (a : Addr) (rest : Y) → slice_get D d ≡ Some s → s.destructor ≡ Some g → outer_units (place_of a) (units D (named d)) rest ≡ each (place_of a) rest
    unfolding units
    destructor_outer s d g a rest e some = one_outer a (named d) rest (units_named D apart d ∙ ap (units_of (units_def D (length D)) (needs_drop D (named d))) e ∙ ap (λ o. units_of_shape (units_def D (length D)) (needs_drop D (named d)) (is_some o) s) some)

    pub enum_outer : (s : Shape) (d : ℕ) (a : Addr) (rest : Y) → slice_get D d ≡ Some s → s.destructor ≡ None → s.is_enum ≡ true → needs_drop D (named d) ≡ true → outer_units (place_of a) (units D (named d)) rest ≡ each (place_of a) rest
    unfolding units
    enum_outer s d a rest e none en needs = one_outer a (named d) rest (units_named D apart d ∙ ap (units_of (units_def D (length D)) (needs_drop D (named d))) e ∙ ap (λ o. units_of_shape (units_def D (length D)) (needs_drop D (named d)) (is_some o) s) none ∙ ap (λ b. units_of_parts (units_def D (length D)) (needs_drop D (named d)) b s.variants) en ∙ ap one_unit needs)

    -- what needs no drop has no unit, whatever the depth
    pub none_from : (of_def : ℕ → List (List Proj)) → ((d : ℕ) → needs_drop D (named d) ≡ false → of_def d ≡ []) → (n : ℕ) (t : Tree) → needs_drop D t ≡ false → units_from of_def n t ≡ []
    unfolding needs_drop
    none_from of_def ih n (more t ts) e = ap₂ (λ us vs. map (under n) us ++ vs) (none_from of_def ih 0 t (or_false-left (needs_drop D t) (needs_drop D ts) e)) (none_from of_def ih (suc n) ts (or_false-right (needs_drop D t) (needs_drop D ts) e))
    none_from of_def ih n (named d) e = ih d e
    none_from of_def ih n (scalar s) e = refl
    none_from of_def ih n empty e = refl
    none_from of_def ih n (tree.ref t) e = refl
    none_from of_def ih n (tree.ref_mut t) e = refl

    pub none_def : (m d : ℕ) → needs_drop D (named d) ≡ false → units_def D m d ≡ []
    unfolding needs_drop
    none_def zero d e = refl
    none_def (suc m) d e = ap (λ b. units_of (units_def D m) b (slice_get D d)) e ∙ go (slice_get D d) (sym (needs_drop_named D apart d) ∙ e) (λ k f. none_def m k f)
      where
        first_none : (ts : List Tree) → any_needs (λ k. needs_drop D (named k)) ts ≡ false → needs_drop D (first_variant ts) ≡ false
        first_none [] f = refl
        first_none (t ∷ ts) f = or_false-left (needs_drop D t) (any_needs (λ k. needs_drop D (named k)) ts) f

        go : (o : Option Shape) → needs_of (λ k. needs_drop D (named k)) o ≡ false → ((k : ℕ) → needs_drop D (named k) ≡ false → units_def D m k ≡ []) → units_of (units_def D m) false o ≡ []
        go None f ih = refl
        go (Some s) f ih = ap (λ b. units_of_shape (units_def D m) false b s) (or_false-left (is_some s.destructor) (any_needs (λ k. needs_drop D (named k)) s.variants) f) ∙ by_kind s.is_enum
          where
            by_kind : (b : Bool) → units_of_parts (units_def D m) false b s.variants ≡ []
            by_kind true = refl
            by_kind false = none_from (units_def D m) ih 0 (first_variant s.variants) (first_none s.variants (or_false-right (is_some s.destructor) (any_needs (λ k. needs_drop D (named k)) s.variants) f))

    pub no_units : (t : Tree) → needs_drop D t ≡ false → units D t ≡ []
    unfolding units
    no_units t e = none_from (units_def D (length D)) (none_def (length D)) 0 t e
