-- The destructors that a plan calls.
use Rattle.std.proofs.Common.{◌≡◌, ◌⊎◌, inl, inr, refl, subst, ℕ, zero, suc, Bool, true, false, List, [], ◌∷◌, ◌++◌, map, length, Option, Some, None, slice_get}
use Rattle.std.specs.Prelude.{if◌then◌else◌, option_to_list, is_some}
use Rattle.std.specs.List.{flat_map}
use Rattle.bit_rows.specs.Rows.{stands}
use Rattle.mir_syntax.specs.declared.body.Proj.{Proj}
use Rattle.mir_syntax.specs.declared.body.Proj.TheVariants.{Field, Downcast}
use Rattle.mir_syntax.specs.declared.body.Place.{Place}
use Rattle.mir_syntax.specs.Tree.{Tree, scalar, empty, more, ref, ref_mut, named}
use Rattle.mir_syntax.specs.Crate.{TypedBody}
use Rattle.mir_syntax.specs.Shapes.{Shape, first_variant, struct_fields, needs_drop, place_ty}
use Rattle.mir_syntax.specs.Parts.{is_direct}
use Rattle.mir_rules.specs.Weights.{under, units_from, one_unit, units_of_parts, units_of_shape, units_of, units_def, units}
use Rattle.liveness.proofs.Growing.{Each}
use Rattle.move_paths.specs.Effects.{in_local, units_of_locals, units_of_body, is_under}
use Rattle.call_graph.specs.Callees.{destructors_by, destructors_of, destructors_def, destructors_in, dropped_in}
use Rattle.call_graph.proofs.Once.{stands_cases, stands_first, stands_append, stands_left, stands_right}
use Rattle.mir_syntax.specs.Shapes.{whole_place_ty}
use Rattle.drop_elab.specs.Plan.{Plan, done, destroy, choose, arm, guarded, clear, part, glue_from, arms_of, chosen, glue_inside, glue_shape, glue_of, glue_def, glue}
use Rattle.drop_elab.specs.Elab.{Status, dead, static, conditional, Flagged, with_flags, cleared, typed_glue, guarded_by, plan_unit, plan_drop}
use Rattle.pass_order.proofs.elab.Parts.{unit_leads}

abbrev pub destroyed : Plan → List ℕ
destroyed done = []
destroyed (destroy q t g p) = g ∷ destroyed p
destroyed (choose q arms p) = destroyed arms ++ destroyed p
destroyed (arm k q rest) = destroyed q ++ destroyed rest
destroyed (guarded x q p) = destroyed q ++ destroyed p
destroyed (clear x p) = destroyed p

-- ---- the units of a body are places of fields

abbrev pub AllDirect : List (List Proj) → Type 0
AllDirect paths = Each (λ ps. is_direct ps ≡ true) paths

direct_join : (xs ys : List (List Proj)) → AllDirect xs → AllDirect ys → AllDirect (xs ++ ys)
direct_join [] ys h k = k
direct_join (x ∷ xs) ys h k = (h.0, direct_join xs ys h.1 k)

direct_under : (i : ℕ) (xs : List (List Proj)) → AllDirect xs → AllDirect (map (under i) xs)
direct_under i [] h = tt
direct_under i (x ∷ xs) h = (h.0, direct_under i xs h.1)

direct_from : (of_def : ℕ → List (List Proj)) → ((d : ℕ) → AllDirect (of_def d)) → (i : ℕ) (t : Tree) → AllDirect (units_from of_def i t)
direct_from of_def h i (more t ts) = direct_join (map (under i) (units_from of_def 0 t)) (units_from of_def (suc i) ts) (direct_under i (units_from of_def 0 t) (direct_from of_def h 0 t)) (direct_from of_def h (suc i) ts)
direct_from of_def h i (named d) = h d
direct_from of_def h i (scalar s) = tt
direct_from of_def h i empty = tt
direct_from of_def h i (ref t) = tt
direct_from of_def h i (ref_mut t) = tt

direct_one : (b : Bool) → AllDirect (one_unit b)
direct_one true = (refl, tt)
direct_one false = tt

module _ (D : List Shape) where
  direct_def : (n d : ℕ) → AllDirect (units_def D n d)
  direct_def zero d = tt
  direct_def (suc n) d = go (slice_get D d) (λ e. direct_def n e)
    where
      parts : (needs is_enum : Bool) (variants : List Tree) → ((e : ℕ) → AllDirect (units_def D n e)) → AllDirect (units_of_parts (units_def D n) needs is_enum variants)
      parts needs true variants h = direct_one needs
      parts needs false variants h = direct_from (units_def D n) h 0 (first_variant variants)

      shape : (needs destroys : Bool) (s : Shape) → ((e : ℕ) → AllDirect (units_def D n e)) → AllDirect (units_of_shape (units_def D n) needs destroys s)
      shape needs true s h = direct_one true
      shape needs false s h = parts needs s.is_enum s.variants h

      go : (o : Option Shape) → ((e : ℕ) → AllDirect (units_def D n e)) → AllDirect (units_of (units_def D n) (needs_drop D (named d)) o)
      go None h = tt
      go (Some s) h = shape (needs_drop D (named d)) (is_some s.destructor) s h

  direct_units : (t : Tree) → AllDirect (units D t)
  unfolding units
  direct_units t = direct_from (units_def D (length D)) (direct_def (length D)) 0 t

  abbrev pub AllFields : List Place → Type 0
  AllFields us = Each (λ u. is_direct u.proj ≡ true) us

  fields_join : (xs ys : List Place) → AllFields xs → AllFields ys → AllFields (xs ++ ys)
  fields_join [] ys h k = k
  fields_join (x ∷ xs) ys h k = (h.0, fields_join xs ys h.1 k)

  fields_in : (x : ℕ) (paths : List (List Proj)) → AllDirect paths → AllFields (map (in_local x) paths)
  fields_in x [] h = tt
  fields_in x (ps ∷ paths) h = (h.0, fields_in x paths h.1)

  fields_of_locals : (x : ℕ) (ts : List Tree) → AllFields (units_of_locals D x ts)
  fields_of_locals x [] = tt
  fields_of_locals x (t ∷ ts) = fields_join (map (in_local x) (units D t)) (units_of_locals D (suc x) ts) (fields_in x (units D t) (direct_units t)) (fields_of_locals (suc x) ts)

  pub fields_of_body : (b : TypedBody) → AllFields (units_of_body D b)
  fields_of_body b = fields_of_locals 0 b.locals

  abbrev pub FlaggedFields : List Flagged → Type 0
  FlaggedFields fs = Each (λ f. is_direct f.unit.proj ≡ true) fs

  pub fields_flagged : (x : ℕ) (us : List Place) (bs : List Bool) → AllFields us → FlaggedFields (with_flags x us bs)
  fields_flagged x [] bs h = tt
  fields_flagged x (u ∷ us) [] h = tt
  fields_flagged x (u ∷ us) (true ∷ bs) h = (h.0, fields_flagged (suc x) us bs h.1)
  fields_flagged x (u ∷ us) (false ∷ bs) h = (h.0, fields_flagged x us bs h.1)

-- ---- glue calls the destructors in the type

module _ (x : ℕ) where
  -- what a plan destroys, a list or another plan has
  abbrev pub Splits : Plan → List ℕ → Plan → Type 0
  Splits p xs rest = stands x (destroyed p) ≡ true → (stands x xs ≡ true) ⊎ (stands x (destroyed rest) ≡ true)

  module _ (D : List Shape) where
    module _ (of_def : ℕ → Place → Plan → Plan) (listed : ℕ → List ℕ) (h : (d : ℕ) (p : Place) (rest : Plan) → Splits (of_def d p rest) (listed d) rest) where
      from : (p : Place) (i : ℕ) (t : Tree) (rest : Plan) → Splits (glue_from of_def p i t rest) (destructors_by listed t) rest
      from p i (more t ts) rest s = elim (from (part p (Field i)) 0 t (glue_from of_def p (suc i) ts rest) s) [
        | inl a ↦ inl (stands_left x (destructors_by listed t) (destructors_by listed ts) a)
        | inr b ↦ elim (from p (suc i) ts rest b) [ inl c ↦ inl (stands_right x (destructors_by listed t) (destructors_by listed ts) c) | inr d ↦ inr d ]
      ]
      from p i (named d) rest s = h d p rest s
      from p i (scalar c) rest s = inr s
      from p i empty rest s = inr s
      from p i (ref t) rest s = inr s
      from p i (ref_mut t) rest s = inr s

      arms : (p : Place) (k : ℕ) (ts : List Tree) → stands x (destroyed (arms_of D of_def p k ts)) ≡ true → stands x (flat_map (destructors_by listed) ts) ≡ true
      arms p k [] s = absurd (cc)
      arms p k (t ∷ ts) s = go (needs_drop D t) s (arms p (suc k) ts)
        where
          own : (stands x (destructors_by listed t) ≡ true) ⊎ (stands x [] ≡ true) → stands x (destructors_by listed t) ≡ true
          own (inl a) = a
          own (inr b) = absurd (cc)

          go : (c : Bool) → stands x (destroyed (if c then arm k (glue_from of_def (part p (Downcast k)) 0 t done) (arms_of D of_def p (suc k) ts) else arms_of D of_def p (suc k) ts)) ≡ true → (stands x (destroyed (arms_of D of_def p (suc k) ts)) ≡ true → stands x (flat_map (destructors_by listed) ts) ≡ true) → stands x (destructors_by listed t ++ flat_map (destructors_by listed) ts) ≡ true
          go true s r = elim (stands_append x (destroyed (glue_from of_def (part p (Downcast k)) 0 t done)) (destroyed (arms_of D of_def p (suc k) ts)) s) [
            | inl a ↦ stands_left x (destructors_by listed t) (flat_map (destructors_by listed) ts) (own (from (part p (Downcast k)) 0 t done a))
            | inr b ↦ stands_right x (destructors_by listed t) (flat_map (destructors_by listed) ts) (r b)
          ]
          go false s r = stands_right x (destructors_by listed t) (flat_map (destructors_by listed) ts) (r s)

      chosen_splits : (p : Place) (q rest : Plan) → Splits (chosen p q rest) (destroyed q) rest
      chosen_splits p done rest s = inr s
      chosen_splits p (destroy a t g q) rest s = stands_append x (g ∷ destroyed q) (destroyed rest) s
      chosen_splits p (choose a b q) rest s = stands_append x (destroyed b ++ destroyed q) (destroyed rest) s
      chosen_splits p (arm k b q) rest s = stands_append x (destroyed b ++ destroyed q) (destroyed rest) s
      chosen_splits p (guarded y b q) rest s = stands_append x (destroyed b ++ destroyed q) (destroyed rest) s
      chosen_splits p (clear y q) rest s = stands_append x (destroyed q) (destroyed rest) s

      first_in : (ts : List Tree) → stands x (destructors_by listed (first_variant ts)) ≡ true → stands x (flat_map (destructors_by listed) ts) ≡ true
      first_in [] s = absurd (cc)
      first_in (t ∷ ts) s = stands_left x (destructors_by listed t) (flat_map (destructors_by listed) ts) s

      inside : (s : Shape) (p : Place) (rest : Plan) → Splits (glue_inside D of_def s p rest) (flat_map (destructors_by listed) s.variants) rest
      inside s p rest k = go s.is_enum k
        where
          go : (c : Bool) → stands x (destroyed (if c then chosen p (arms_of D of_def p 0 s.variants) rest else glue_from of_def p 0 (struct_fields s) rest)) ≡ true → (stands x (flat_map (destructors_by listed) s.variants) ≡ true) ⊎ (stands x (destroyed rest) ≡ true)
          go true k = elim (chosen_splits p (arms_of D of_def p 0 s.variants) rest k) [ inl a ↦ inl (arms p 0 s.variants a) | inr b ↦ inr b ]
          go false k = elim (from p 0 (struct_fields s) rest k) [ inl a ↦ inl (first_in s.variants a) | inr b ↦ inr b ]

      of_shape : (d : ℕ) (s : Shape) (o : Option ℕ) (p : Place) (rest : Plan) → Splits (glue_shape D of_def d s o p rest) (option_to_list o ++ flat_map (destructors_by listed) s.variants) rest
      of_shape d s None p rest k = inside s p rest k
      of_shape d s (Some g) p rest k = elim (stands_cases x g (destroyed (glue_inside D of_def s p rest)) k) [
        | inl e ↦ inl (subst (λ (y : ℕ). stands x (y ∷ flat_map (destructors_by listed) s.variants) ≡ true) e (stands_first x (flat_map (destructors_by listed) s.variants)))
        | inr m ↦ elim (inside s p rest m) [ inl a ↦ inl (stands_right x (g ∷ []) (flat_map (destructors_by listed) s.variants) a) | inr b ↦ inr b ]
      ]

      of_one : (d : ℕ) (needs : Bool) (o : Option Shape) (p : Place) (rest : Plan) → Splits (glue_of D of_def d needs o p rest) (destructors_of listed o) rest
      of_one d true None p rest k = inr k
      of_one d true (Some s) p rest k = of_shape d s s.destructor p rest k
      of_one d false o p rest k = inr k

    def_splits : (n d : ℕ) (p : Place) (rest : Plan) → Splits (glue_def D n d p rest) (destructors_def D n d) rest
    def_splits zero d p rest k = inr k
    def_splits (suc n) d p rest k = of_one (glue_def D n) (destructors_def D n) (λ e q r. def_splits n e q r) d (needs_drop D (named d)) (slice_get D d) p rest k

    glue_splits : (p : Place) (t : Tree) (rest : Plan) → Splits (glue D p t rest) (destructors_in D t) rest
    unfolding glue destructors_in
    glue_splits p t rest k = from (glue_def D (length D)) (destructors_def D (length D)) (def_splits (length D)) p 0 t rest k

    -- ---- and so does what stands for a drop

    module _ (locals : List Tree) (p : Place) where
      abbrev pub Runs : Type 0
      Runs = stands x (dropped_in D (whole_place_ty D locals p)) ≡ true

      module _ (u : Place) (below : is_under p u ≡ true) (direct : is_direct u.proj ≡ true) where
        typed_splits : (o : Option Tree) (rest : Plan) → place_ty D locals u ≡ o → stands x (destroyed (typed_glue D u o rest)) ≡ true → Runs ⊎ (stands x (destroyed rest) ≡ true)
        typed_splits None rest e k = inr k
        typed_splits (Some t) rest e k = elim (glue_splits u t rest k) [ inl a ↦ inl (unit_leads x D locals p u t below direct e a) | inr b ↦ inr b ]

        cleared_is : (o : Option ℕ) (rest : Plan) → stands x (destroyed (cleared o rest)) ≡ true → stands x (destroyed rest) ≡ true
        cleared_is None rest k = k
        cleared_is (Some y) rest k = k

        guarded_splits : (o : Option ℕ) (rest : Plan) → stands x (destroyed (guarded_by o (λ y. typed_glue D u (place_ty D locals u) (clear y done)) rest)) ≡ true → Runs ⊎ (stands x (destroyed rest) ≡ true)
        guarded_splits None rest k = inr k
        guarded_splits (Some y) rest k = elim (stands_append x (destroyed (typed_glue D u (place_ty D locals u) (clear y done))) (destroyed rest) k) [
          | inl a ↦ elim (typed_splits (place_ty D locals u) (clear y done) refl a) [ inl r ↦ inl r | inr b ↦ absurd (cc) ]
          | inr b ↦ inr b
        ]

      unit_splits : (f : Flagged) (s : Status) (rest : Plan) → is_under p f.unit ≡ true → is_direct f.unit.proj ≡ true → stands x (destroyed (plan_unit D locals f s rest)) ≡ true → Runs ⊎ (stands x (destroyed rest) ≡ true)
      unit_splits f dead rest below direct k = inr k
      unit_splits f static rest below direct k = elim (typed_splits f.unit below direct (place_ty D locals f.unit) (cleared f.flag rest) refl k) [ inl r ↦ inl r | inr b ↦ inr (cleared_is f.unit below direct f.flag rest b) ]
      unit_splits f conditional rest below direct k = guarded_splits f.unit below direct f.flag rest k

      pub drop_runs : (fs : List Flagged) (ss : List Status) → FlaggedFields D fs → stands x (destroyed (plan_drop D locals p fs ss)) ≡ true → Runs
      drop_runs [] ss h k = absurd (cc)
      drop_runs (f ∷ fs) [] h k = absurd (cc)
      drop_runs (f ∷ fs) (s ∷ ss) h k = go (is_under p f.unit) refl k (drop_runs fs ss h.1)
        where
          go : (c : Bool) → is_under p f.unit ≡ c → stands x (destroyed (if c then plan_unit D locals f s (plan_drop D locals p fs ss) else plan_drop D locals p fs ss)) ≡ true → (stands x (destroyed (plan_drop D locals p fs ss)) ≡ true → Runs) → Runs
          go true e k rest = elim (unit_splits f s (plan_drop D locals p fs ss) e h.0 k) [ inl r ↦ r | inr b ↦ rest b ]
          go false e k rest = rest k
