-- The plan of a drop of the elaborated body is that of the place that the source's drop visits first.
use Rattle.std.proofs.Common.{◌≡◌, refl, sym, ap, ap₂, ◌∙◌, subst, ℕ, zero, suc, ◌+◌, ◌<◌, Bool, true, false, ◌||◌, if◌then◌else◌, List, [], ◌∷◌, ◌++◌, map, length, Option, Some, None, is_some, slice_get, arith}
use Rattle.mir_syntax.specs.declared.body.Proj.{Proj}
use Rattle.mir_syntax.specs.declared.body.Proj.TheVariants.{Field, Downcast, Deref}
use Rattle.mir_syntax.specs.declared.body.Place.{Place}
use Rattle.mir_syntax.specs.Tree.{Tree, scalar, empty, more, named}
use Rattle.mir_syntax.specs.Tree as tree
use Rattle.mir_syntax.specs.Shapes.{Shape, ◌>>=◌, struct_fields, fields_of, fields_of_struct, field_ty, proj_ty, path_ty, destructor_of, needs_drop, path_through}
use Rattle.mir_rules.specs.DefinitionRules.{holds}
use Rattle.mir_rules.specs.Weights.{under, units_from, units_of_parts, units_of_shape, units_of, units_def, units}
use Rattle.mir_rules.proofs.FixedWeights.{units_named}
use Rattle.mir_syntax.proofs.Binds.{bind_some, some_bind}
use Rattle.mir_renaming.proofs.Frames.{unequal, equal}
use Rattle.move_paths.specs.Effects.{in_local, units_of_locals, goes_on, is_under}
use Rattle.drop_elab.specs.Plan.{Plan, done}
use Rattle.drop_elab.specs.Elab.{Status, Flagged, plan_unit, plan_drop}
use Rattle.drop_elab.proofs.refines.Items.{IsTuple, Proper, ProperShapes}
use Rattle.drop_elab.proofs.refines.Outer.{Marks, at_unit, plan_at, outer_units}

abbrev pub kept_paths : List Proj → List (List Proj) → List (List Proj)
kept_paths ps [] = []
kept_paths ps (u ∷ us) = if goes_on ps u then u ∷ kept_paths ps us else kept_paths ps us

kept_append : (ps : List Proj) (us vs : List (List Proj)) → kept_paths ps (us ++ vs) ≡ kept_paths ps us ++ kept_paths ps vs
kept_append ps [] vs = refl
kept_append ps (u ∷ us) vs = go (goes_on ps u) (kept_append ps us vs)
  where
    go : (b : Bool) → kept_paths ps (us ++ vs) ≡ kept_paths ps us ++ kept_paths ps vs → (if b then u ∷ kept_paths ps (us ++ vs) else kept_paths ps (us ++ vs)) ≡ (if b then u ∷ kept_paths ps us else kept_paths ps us) ++ kept_paths ps vs
    go true ih = ap (λ (us : List (List Proj)). u ∷ us) ih
    go false ih = ih

kept_all : (us : List (List Proj)) → kept_paths [] us ≡ us
kept_all [] = refl
kept_all (u ∷ us) = ap (λ (us : List (List Proj)). u ∷ us) (kept_all us)

kept_here : (i : ℕ) (ps : List Proj) (us : List (List Proj)) → kept_paths (Field i ∷ ps) (map (under i) us) ≡ map (under i) (kept_paths ps us)
kept_here i ps [] = refl
kept_here i ps (u ∷ us) = rw (equal i i refl) (go (goes_on ps u) (kept_here i ps us))
  where
    go : (b : Bool) → kept_paths (Field i ∷ ps) (map (under i) us) ≡ map (under i) (kept_paths ps us) → (if b then under i u ∷ kept_paths (Field i ∷ ps) (map (under i) us) else kept_paths (Field i ∷ ps) (map (under i) us)) ≡ map (under i) (if b then u ∷ kept_paths ps us else kept_paths ps us)
    go true ih = ap (λ (us : List (List Proj)). under i u ∷ us) ih
    go false ih = ih

kept_there : (i n : ℕ) (ps : List Proj) (us : List (List Proj)) → (i ≡ n → ⊥) → kept_paths (Field i ∷ ps) (map (under n) us) ≡ []
kept_there i n ps [] ne = refl
kept_there i n ps (u ∷ us) ne = rw (unequal i n ne) (kept_there i n ps us ne)

map_map : (i : ℕ) (ps : List Proj) (us : List (List Proj)) → map (under i) (map (λ u. ps ++ u) us) ≡ map (λ u. (Field i ∷ ps) ++ u) us
map_map i ps [] = refl
map_map i ps (u ∷ us) = ap (λ (us : List (List Proj)). (Field i ∷ (ps ++ u)) ∷ us) (map_map i ps us)

map_same : (us : List (List Proj)) → map (λ (u : List Proj). [] ++ u) us ≡ us
map_same [] = refl
map_same (u ∷ us) = ap (λ (us : List (List Proj)). u ∷ us) (map_same us)

end_none : (us : List (List Proj)) → us ++ [] ≡ us
end_none [] = refl
end_none (u ∷ us) = ap (λ (us : List (List Proj)). u ∷ us) (end_none us)

module _ (D : List Shape) (apart : (d : ℕ) → holds D (length D) d d ≡ false) (proper : ProperShapes D) where
  abbrev U : ℕ → List (List Proj)
  U = units_def D (length D)

  -- fields with greater numbers
  kept_past : (i n : ℕ) (ps : List Proj) (t : Tree) → i < n → IsTuple t → Proper t → kept_paths (Field i ∷ ps) (units_from U n t) ≡ []
  kept_past i n ps empty lt it pr = refl
  kept_past i n ps (more t ts) lt it pr = kept_append (Field i ∷ ps) (map (under n) (units_from U 0 t)) (units_from U (suc n) ts) ∙ ap₂ (λ (a b : List (List Proj)). a ++ b) (kept_there i n ps (units_from U 0 t) (λ e. omega (arith, e, lt))) (kept_past i (suc n) ps ts (omega arith) pr.1 pr.2)
  kept_past i n ps (scalar s) lt it pr = absurd it
  kept_past i n ps (tree.ref t) lt it pr = absurd it
  kept_past i n ps (tree.ref_mut t) lt it pr = absurd it
  kept_past i n ps (named d) lt it pr = absurd it

  kept_field : (j n : ℕ) (ps : List Proj) (t ti : Tree) → IsTuple t → Proper t → field_ty t j ≡ Some ti → (kept_paths (Field (n + j) ∷ ps) (units_from U n t) ≡ map (under (n + j)) (kept_paths ps (units D ti))) × Proper ti
  unfolding units
  kept_field j n ps empty ti it pr e = absurd (grind arith)
  kept_field zero n ps (more t ts) ti it pr e =
      let z : n + 0 ≡ n = omega arith in
      let same : t ≡ ti = grind arith in
      (rw z (kept_append (Field n ∷ ps) (map (under n) (units_from U 0 t)) (units_from U (suc n) ts) ∙ ap₂ (λ (a b : List (List Proj)). a ++ b) (kept_here n ps (units_from U 0 t)) (kept_past n (suc n) ps ts (omega arith) pr.1 pr.2) ∙ end_none (map (under n) (kept_paths ps (units_from U 0 t))) ∙ ap (λ t. map (under n) (kept_paths ps (units_from U 0 t))) same), subst Proper same pr.0)
  kept_field (suc j) n ps (more t ts) ti it pr e =
      let z : n + suc j ≡ suc n + j = omega arith in
      let (ih, q) = kept_field j (suc n) ps ts ti pr.1 pr.2 e in
      (rw z (kept_append (Field (suc n + j) ∷ ps) (map (under n) (units_from U 0 t)) (units_from U (suc n) ts) ∙ ap₂ (λ (a b : List (List Proj)). a ++ b) (kept_there (suc n + j) n ps (units_from U 0 t) (λ e. omega (arith, e))) ih), q)
  kept_field j n ps (scalar s) ti it pr e = absurd it
  kept_field j n ps (tree.ref t) ti it pr e = absurd it
  kept_field j n ps (tree.ref_mut t) ti it pr e = absurd it
  kept_field j n ps (named d) ti it pr e = absurd it

  -- the units of a struct without a destructor, by its fields
  row_units : (t us : Tree) → Proper t → fields_of D t ≡ Some us → destructor_of D t ≡ None → IsTuple us × Proper us × (units D t ≡ units_from U 0 us)
  unfolding units
  row_units empty us pr e nd = let z : empty ≡ us = grind arith in subst (λ us. IsTuple us × Proper us × (units D empty ≡ units_from U 0 us)) z (tt, tt, refl)
  row_units (more t ts) us pr e nd = let z : more t ts ≡ us = grind arith in subst (λ us. IsTuple us × Proper us × (units D (more t ts) ≡ units_from U 0 us)) z (tt, pr, refl)
  row_units (named d) us pr e nd =
      let (s, e1, e2) = bind_some e in
      by_kind s e1 s.is_enum refl e2 (sym (some_bind (λ s. s.destructor) e1 refl) ∙ nd)
    where
      by_kind : (s : Shape) → slice_get D d ≡ Some s → (b : Bool) → s.is_enum ≡ b → fields_of_struct s ≡ Some us → s.destructor ≡ None → IsTuple us × Proper us × (units D (named d) ≡ units_from U 0 us)
      by_kind s es true en e2 none = absurd (let z : None ≡ Some us = sym (ap (λ b. if b then None else Some (struct_fields s)) en) ∙ e2 in grind arith)
      by_kind s es false en e2 none =
          let row : struct_fields s ≡ us = let z : Some (struct_fields s) ≡ Some us = sym (ap (λ b. if b then None else Some (struct_fields s)) en) ∙ e2 in grind arith in
          let (it, pr') = first s.variants (proper d s es) in
          subst (λ us. IsTuple us × Proper us × (units D (named d) ≡ units_from U 0 us)) row (it, pr', units_named D apart d ∙ ap (units_of U (needs_drop D (named d))) es ∙ ap (λ o. units_of_shape U (needs_drop D (named d)) (is_some o) s) none ∙ ap (λ b. units_of_parts U (needs_drop D (named d)) b s.variants) en)
        where
          first : (ts : List Tree) → ((k : ℕ) (t : Tree) → slice_get ts k ≡ Some t → IsTuple t × Proper t) → IsTuple (Rattle.mir_syntax.specs.Shapes.first_variant ts) × Proper (Rattle.mir_syntax.specs.Shapes.first_variant ts)
          first [] h = (tt, tt)
          first (t ∷ ts) h = h 0 t refl
  row_units (scalar s) us pr e nd = absurd (grind arith)
  row_units (tree.ref t) us pr e nd = absurd (grind arith)
  row_units (tree.ref_mut t) us pr e nd = absurd (grind arith)

  -- the units at or under a place are those of its type, put behind its path
  pub kept_are : (ps : List Proj) (lt t : Tree) → Proper lt → path_ty D lt ps ≡ Some t → Rattle.mir_syntax.specs.Parts.is_direct ps ≡ true → path_through D (Some lt) ps ≡ false → kept_paths ps (units D lt) ≡ map (λ u. ps ++ u) (units D t)
  kept_are [] lt t pr e di th = kept_all (units D lt) ∙ sym (map_same (units D lt)) ∙ ap (λ t. map (λ (u : List Proj). [] ++ u) (units D t)) (let z : lt ≡ t = grind arith in z)
  kept_are (Field i ∷ ps) lt t pr e di th =
      let (u, e1, e2) = bind_some e in
      let (us, ef, et) = bind_some e1 in
      let nd : destructor_of D lt ≡ None = no_destructor (destructor_of D lt) (path_through D (proj_ty D lt (Field i)) ps) th in
      let (it, pr', un) = row_units lt us pr ef nd in
      let (kf, q) = kept_field i 0 ps us u it pr' et in
      let z : 0 + i ≡ i = omega arith in
      let th' : path_through D (Some u) ps ≡ false = ap (λ o. path_through D o ps) (sym e1) ∙ second (destructor_of D lt) (path_through D (proj_ty D lt (Field i)) ps) th in
      ap (kept_paths (Field i ∷ ps)) un ∙ subst (λ k. kept_paths (Field k ∷ ps) (units_from U 0 us) ≡ map (under k) (kept_paths ps (units D u))) z kf ∙ ap (map (under i)) (kept_are ps u t q e2 di th') ∙ map_map i ps (units D t)
    where
      no_destructor : (o : Option ℕ) (b : Bool) → (is_some o || b) ≡ false → o ≡ None
      no_destructor None b h = refl
      no_destructor (Some g) b h = absurd (grind arith)

      second : (o : Option ℕ) (b : Bool) → (is_some o || b) ≡ false → b ≡ false
      second None b h = h
      second (Some g) b h = absurd (grind arith)
  kept_are (Downcast k ∷ ps) lt t pr e di th = absurd (grind arith)
  kept_are (Deref ∷ ps) lt t pr e di th = absurd (grind arith)

-- ---- all units of a body

abbrev pub kept_units : Place → List Place → List Place
kept_units p [] = []
kept_units p (u ∷ us) = if is_under p u then u ∷ kept_units p us else kept_units p us

units_append : (p : Place) (us vs : List Place) → kept_units p (us ++ vs) ≡ kept_units p us ++ kept_units p vs
units_append p [] vs = refl
units_append p (u ∷ us) vs = go (is_under p u) (units_append p us vs)
  where
    go : (b : Bool) → kept_units p (us ++ vs) ≡ kept_units p us ++ kept_units p vs → (if b then u ∷ kept_units p (us ++ vs) else kept_units p (us ++ vs)) ≡ (if b then u ∷ kept_units p us else kept_units p us) ++ kept_units p vs
    go true ih = ap (λ (us : List Place). u ∷ us) ih
    go false ih = ih

units_here : (p : Place) (x : ℕ) (us : List (List Proj)) → p.local ≡ x → kept_units p (map (in_local x) us) ≡ map (in_local x) (kept_paths p.proj us)
units_here p x [] e = refl
units_here p x (u ∷ us) e = rw (equal p.local x e) (go (goes_on p.proj u) (units_here p x us e))
  where
    go : (b : Bool) → kept_units p (map (in_local x) us) ≡ map (in_local x) (kept_paths p.proj us) → (if b then in_local x u ∷ kept_units p (map (in_local x) us) else kept_units p (map (in_local x) us)) ≡ map (in_local x) (if b then u ∷ kept_paths p.proj us else kept_paths p.proj us)
    go true ih = ap (λ (us : List Place). in_local x u ∷ us) ih
    go false ih = ih

units_there : (p : Place) (x : ℕ) (us : List (List Proj)) → (p.local ≡ x → ⊥) → kept_units p (map (in_local x) us) ≡ []
units_there p x [] ne = refl
units_there p x (u ∷ us) ne = rw (unequal p.local x ne) (units_there p x us ne)

units_past : (D : List Shape) (p : Place) (x : ℕ) (ts : List Tree) → p.local < x → kept_units p (units_of_locals D x ts) ≡ []
units_past D p x [] lt = refl
units_past D p x (t ∷ ts) lt = units_append p (map (in_local x) (units D t)) (units_of_locals D (suc x) ts) ∙ ap₂ (λ (a b : List Place). a ++ b) (units_there p x (units D t) (λ e. omega (arith, e, lt))) (units_past D p (suc x) ts (omega arith))

places_end : (us : List Place) → us ++ [] ≡ us
places_end [] = refl
places_end (u ∷ us) = ap (λ (us : List Place). u ∷ us) (places_end us)

pub units_in : (D : List Shape) (p : Place) (j x : ℕ) (ts : List Tree) (lt : Tree) → p.local ≡ x + j → slice_get ts j ≡ Some lt → kept_units p (units_of_locals D x ts) ≡ map (in_local p.local) (kept_paths p.proj (units D lt))
units_in D p j x [] lt e f = absurd (grind arith)
units_in D p zero x (t ∷ ts) lt e f =
    let here : p.local ≡ x = omega (arith, e) in
    units_append p (map (in_local x) (units D t)) (units_of_locals D (suc x) ts)
    ∙ ap₂ (λ (a b : List Place). a ++ b) (units_here p x (units D t) here) (units_past D p (suc x) ts (omega (arith, here)))
    ∙ places_end (map (in_local x) (kept_paths p.proj (units D t)))
    ∙ ap₂ (λ y t. map (in_local y) (kept_paths p.proj (units D t))) (sym here) (let z : t ≡ lt = grind arith in z)
units_in D p (suc j) x (t ∷ ts) lt e f =
    units_append p (map (in_local x) (units D t)) (units_of_locals D (suc x) ts)
    ∙ ap₂ (λ (a b : List Place). a ++ b) (units_there p x (units D t) (λ q. omega (arith, e, q))) (units_in D p j (suc x) ts lt (omega (arith, e)) f)

-- ---- the plan

abbrev pub unit_in : Flagged → Place
unit_in f = f.unit

-- the marks are those of the lists
abbrev pub Marked : Marks → List Flagged → List Status → Type 0
Marked marks fs ss = (k : ℕ) (f : Flagged) (s : Status) → slice_get fs k ≡ Some f → slice_get ss k ≡ Some s → (marks.flag f.unit ≡ f.flag) × (marks.status f.unit ≡ s)

module _ (D : List Shape) (locals : List Tree) (marks : Marks) where
  abbrev pub plan_list : List Place → Plan
  plan_list [] = done
  plan_list (q ∷ qs) = plan_at D locals marks q (plan_list qs)

  pub plan_is : (p : Place) (fs : List Flagged) (ss : List Status) → length ss ≡ length fs → Marked marks fs ss → plan_drop D locals p fs ss ≡ plan_list (kept_units p (map unit_in fs))
  plan_is p [] ss l m = refl
  plan_is p (f ∷ fs) [] l m = absurd (omega (arith, l))
  plan_is p (f ∷ fs) (s ∷ ss) l m = go (is_under p f.unit) (m 0 f s refl refl) (plan_is p fs ss (omega (arith, l)) (λ k g t e q. m (suc k) g t e q))
    where
      go : (b : Bool) → (marks.flag f.unit ≡ f.flag) × (marks.status f.unit ≡ s) → plan_drop D locals p fs ss ≡ plan_list (kept_units p (map unit_in fs)) → (if b then plan_unit D locals f s (plan_drop D locals p fs ss) else plan_drop D locals p fs ss) ≡ plan_list (if b then f.unit ∷ kept_units p (map unit_in fs) else kept_units p (map unit_in fs))
      go true (a, c) ih = ap (plan_unit D locals f s) ih ∙ sym (ap₂ (λ o t. plan_unit D locals (record { unit = f.unit; flag = o }) t (plan_list (kept_units p (map unit_in fs)))) a c)
      go false h ih = ih

  plan_of_units : (p : Place) (us : List (List Proj)) → plan_list (map (in_local p.local) (map (λ u. p.proj ++ u) us)) ≡ outer_units Plan D (plan_at D locals marks) p us done
  plan_of_units p [] = refl
  plan_of_units p (u ∷ us) = ap (plan_at D locals marks (at_unit p u)) (plan_of_units p us)

  -- at its start a drop's plan is that of the units of its place
  pub begins_with : (apart : (d : ℕ) → holds D (length D) d d ≡ false) (proper : ProperShapes D) (p : Place) (lt t : Tree) (fs : List Flagged) (ss : List Status) → length ss ≡ length fs → map unit_in fs ≡ units_of_locals D 0 locals → Marked marks fs ss → slice_get locals p.local ≡ Some lt → Proper lt → path_ty D lt p.proj ≡ Some t → Rattle.mir_syntax.specs.Parts.is_direct p.proj ≡ true → path_through D (Some lt) p.proj ≡ false → plan_drop D locals p fs ss ≡ outer_units Plan D (plan_at D locals marks) p (units D t) done
  begins_with apart proper p lt t fs ss l us m el pr e di th =
      plan_is p fs ss l m ∙ ap (λ us. plan_list (kept_units p us)) us ∙ ap plan_list (units_in D p p.local 0 locals lt (omega arith) el ∙ ap (map (in_local p.local)) (kept_are D apart proper p.proj lt t pr e di th)) ∙ plan_of_units p (units D t)
