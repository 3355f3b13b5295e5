-- The paths of units: a unit under a place is a unit of the place's type; the blank of a type has a hole at each unit, and a full value has none.
use Rattle.std.proofs.Common.{◌≡◌, ◌⊎◌, inl, inr, refl, sym, ap, ap₂, ◌∙◌, subst, ℕ, zero, suc, ◌+◌, Bool, true, false, ◌||◌, ◌==◌, if◌then◌else◌, List, [], ◌∷◌, ◌++◌, map, length, Option, Some, None, is_some, slice_get, arith, eq-eqb}
use Rattle.mir_syntax.specs.declared.body.Proj.{Proj}
use Rattle.mir_syntax.specs.declared.body.Proj.TheVariants.{Field}
use Rattle.mir_syntax.specs.Tree.{Tree, scalar, empty, more, named}
use Rattle.mir_syntax.specs.Tree as tree
use Rattle.mir_syntax.specs.Shapes.{Shape, first_variant, struct_fields, fields_of, fields_of_struct, field_ty, proj_ty, path_ty, needs_by, any_needs, needs_drop}
use Rattle.mir_rules.specs.DefinitionRules.{holds}
use Rattle.mir_rules.specs.Weights.{under, units_from, one_unit, units_of_parts, units_of_shape, units_of, units_def, units}
use Rattle.std.proofs.lemmas.Bool.{or_left, or_right}
use Rattle.mir_rules.proofs.Fixed.{fixed}
use Rattle.mir_rules.proofs.FixedWeights.{NamedIn, NamedAmong, units_named}
use Rattle.mir_semantics.specs.Values.{Value, cons, hole, part, inner, at_path, is_unit, blank_by, blank_of, blank_def, blank}
use Rattle.mir_syntax.proofs.Binds.{bind_some, some_bind}
use Rattle.drop_elab.proofs.refines.Items.{IsTuple, Proper, ProperShapes}
use Rattle.drop_elab.proofs.refines.Sound.{Has}

has_cases : {A : Type 0} (xs ys : List A) (x : A) → Has (xs ++ ys) x → Has xs x ⊎ Has ys x
has_cases [] ys x h = inr h
has_cases (z ∷ xs) ys x (zero, e) = inl (0, e)
has_cases (z ∷ xs) ys x (suc i, e) = go (has_cases xs ys x (i, e))
  where
    go : Has xs x ⊎ Has ys x → Has (z ∷ xs) x ⊎ Has ys x
    go (inl (j, f)) = inl (suc j, f)
    go (inr h) = inr h

cons_eq : (p q : Proj) (ps qs : List Proj) → ◌≡◌ {A = List Proj} (p ∷ ps) (q ∷ qs) → (p ≡ q) × (ps ≡ qs)
cons_eq p q ps qs e = (grind arith, grind arith)

under_has : (n : ℕ) (us : List (List Proj)) (p : Proj) (u : List Proj) → Has (map (under n) us) (p ∷ u) → (Field n ≡ p) × Has us u
under_has n [] p u (i, e) = absurd (grind arith)
under_has n (v ∷ us) p u (zero, e) = let (a, b) = cons_eq (Field n) p v u (let z : Field n ∷ v ≡ p ∷ u = grind arith in z) in (a, (0, ap (λ x. Some x) b))
under_has n (v ∷ us) p u (suc i, e) = let (a, (j, f)) = under_has n us p u (i, e) in (a, (suc j, f))

under_none : (n : ℕ) (us : List (List Proj)) → Has (map (under n) us) [] → ⊥
under_none n [] (i, e) = grind arith
under_none n (v ∷ us) (zero, e) = grind arith
under_none n (v ∷ us) (suc i, e) = under_none n us (i, e)

one_has : (b : Bool) (p : Proj) (u : List Proj) → Has (one_unit b) (p ∷ u) → ⊥
one_has true p u (zero, e) = grind arith
one_has true p u (suc i, e) = grind arith
one_has false p u (i, e) = grind arith

module _ (D : List Shape) (apart : (d : ℕ) → holds D (length D) d d ≡ false) (proper : ProperShapes D) where
  abbrev U : ℕ → List (List Proj)
  U = units_def D (length D)

  -- the first step to a unit in a tuple is a field
  from_field : (n : ℕ) (t : Tree) (p : Proj) (u : List Proj) → IsTuple t → Proper t → Has (units_from U n t) (p ∷ u) → (j : ℕ) × (ti : Tree) × (Field (n + j) ≡ p) × (field_ty t j ≡ Some ti) × Proper ti × Has (units D ti) u
  unfolding units
  from_field n empty p u it pr (i, e) = absurd (grind arith)
  from_field n (more t ts) p u it pr h = go (λ b. from_field (suc n) ts p u pr.1 pr.2 b) (has_cases (map (under n) (units_from U 0 t)) (units_from U (suc n) ts) (p ∷ u) h)
    where
      go : (Has (units_from U (suc n) ts) (p ∷ u) → (j : ℕ) × (ti : Tree) × (Field (suc n + j) ≡ p) × (field_ty ts j ≡ Some ti) × Proper ti × Has (units D ti) u) → Has (map (under n) (units_from U 0 t)) (p ∷ u) ⊎ Has (units_from U (suc n) ts) (p ∷ u) → (j : ℕ) × (ti : Tree) × (Field (n + j) ≡ p) × (field_ty (more t ts) j ≡ Some ti) × Proper ti × Has (units D ti) u
      go ih (inl a) = let (e, r) = under_has n (units_from U 0 t) p u a in (0, t, (let z : n + 0 ≡ n = omega arith in ap Field z ∙ e), refl, pr.0, r)
      go ih (inr b) = later (ih b)
        where
          later : (j : ℕ) × (ti : Tree) × (Field (suc n + j) ≡ p) × (field_ty ts j ≡ Some ti) × Proper ti × Has (units D ti) u → (j : ℕ) × (ti : Tree) × (Field (n + j) ≡ p) × (field_ty (more t ts) j ≡ Some ti) × Proper ti × Has (units D ti) u
          later (j, ti, e, f, q, r) = (suc j, ti, (let z : n + suc j ≡ suc n + j = omega arith in ap Field z ∙ e), f, q, r)
  from_field n (scalar s) p u it pr h = absurd it
  from_field n (tree.ref t) p u it pr h = absurd it
  from_field n (tree.ref_mut t) p u it pr h = absurd it
  from_field n (named d) p u it pr h = absurd it

  first_proper : (s : Shape) (d : ℕ) → slice_get D d ≡ Some s → IsTuple (struct_fields s) × Proper (struct_fields s)
  first_proper s d e = go s.variants (proper d s e)
    where
      go : (ts : List Tree) → ((k : ℕ) (t : Tree) → slice_get ts k ≡ Some t → IsTuple t × Proper t) → IsTuple (first_variant ts) × Proper (first_variant ts)
      go [] h = (tt, tt)
      go (t ∷ ts) h = h 0 t refl

  -- a definition with a unit inside is a struct without a destructor
  pub inside_struct : (d : ℕ) (p : Proj) (u : List Proj) → Has (units D (named d)) (p ∷ u) → (s : Shape) × (slice_get D d ≡ Some s) × (is_unit s ≡ false) × Has (units_from U 0 (struct_fields s)) (p ∷ u)
  unfolding units
  inside_struct d p u h = by_shape (slice_get D d) refl (subst (λ us. Has us (p ∷ u)) (units_named D apart d) h)
    where
      by_shape : (o : Option Shape) → slice_get D d ≡ o → Has (units_of U (needs_drop D (named d)) (slice_get D d)) (p ∷ u) → (s : Shape) × (slice_get D d ≡ Some s) × (is_unit s ≡ false) × Has (units_from U 0 (struct_fields s)) (p ∷ u)
      by_shape None e h = absurd (let h' : Has [] (p ∷ u) = subst (λ o. Has (units_of U (needs_drop D (named d)) o) (p ∷ u)) e h in none_has h')
        where
          none_has : Has {A = List Proj} [] (p ∷ u) → ⊥
          none_has (i, e) = grind arith
      by_shape (Some s) e h = pick s.destructor refl s.is_enum refl (subst (λ o. Has (units_of U (needs_drop D (named d)) o) (p ∷ u)) e h)
        where
          pick : (o : Option ℕ) → s.destructor ≡ o → (b : Bool) → s.is_enum ≡ b → Has (units_of_shape U (needs_drop D (named d)) (is_some s.destructor) s) (p ∷ u) → (s : Shape) × (slice_get D d ≡ Some s) × (is_unit s ≡ false) × Has (units_from U 0 (struct_fields s)) (p ∷ u)
          pick (Some g) eo b eb h = absurd (one_has true p u (subst (λ o. Has (units_of_shape U (needs_drop D (named d)) (is_some o) s) (p ∷ u)) eo h))
          pick None eo true eb h = absurd (one_has (needs_drop D (named d)) p u (subst (λ b. Has (units_of_parts U (needs_drop D (named d)) b s.variants) (p ∷ u)) eb (subst (λ o. Has (units_of_shape U (needs_drop D (named d)) (is_some o) s) (p ∷ u)) eo h)))
          pick None eo false eb h = (s, e, ap₂ (λ b o. b || is_some o) eb eo, subst (λ b. Has (units_of_parts U (needs_drop D (named d)) b s.variants) (p ∷ u)) eb (subst (λ o. Has (units_of_shape U (needs_drop D (named d)) (is_some o) s) (p ∷ u)) eo h))

  pub not_enum : (s : Shape) → is_unit s ≡ false → s.is_enum ≡ false
  not_enum s e = go s.is_enum e
    where
      go : (b : Bool) → (b || is_some s.destructor) ≡ false → b ≡ false
      go true z = absurd (grind arith)
      go false z = refl

  -- the first step to a unit is a field of its type
  pub first_step : (t : Tree) (p : Proj) (u : List Proj) → Proper t → Has (units D t) (p ∷ u) → (j : ℕ) × (us ti : Tree) × (Field j ≡ p) × (fields_of D t ≡ Some us) × (field_ty us j ≡ Some ti) × Proper ti × Has (units D ti) u
  unfolding units
  first_step (more t ts) p u pr h = let (j, ti, e, f, q, r) = from_field 0 (more t ts) p u tt pr h in (j, more t ts, ti, (let z : 0 + j ≡ j = omega arith in ap Field (sym z) ∙ e), refl, f, q, r)
  first_step (named d) p u pr h =
      let (s, es, nu, h') = inside_struct d p u h in
      let (it, pr') = first_proper s d es in
      let (j, ti, e, f, q, r) = from_field 0 (struct_fields s) p u it pr' h' in
      (j, struct_fields s, ti, (let z : 0 + j ≡ j = omega arith in ap Field (sym z) ∙ e), some_bind _ es (ap (λ b. if b then None else Some (struct_fields s)) (not_enum s nu)), f, q, r)
  first_step (scalar s) p u pr (i, e) = absurd (grind arith)
  first_step empty p u pr (i, e) = absurd (grind arith)
  first_step (tree.ref t) p u pr (i, e) = absurd (grind arith)
  first_step (tree.ref_mut t) p u pr (i, e) = absurd (grind arith)

  -- a unit under a place is a unit of the place's type
  pub unit_under : (ps : List Proj) (t v : Tree) (u : List Proj) → Proper t → Has (units D t) (ps ++ u) → path_ty D t ps ≡ Some v → Has (units D v) u
  unit_under [] t v u pr h e = subst (λ t. Has (units D t) u) (let z : t ≡ v = grind arith in z) h
  unit_under (p ∷ ps) t v u pr h e =
      let (j, us, ti, ep, ef, et, q, r) = first_step t p (ps ++ u) pr h in
      let (t', e1, e2) = bind_some e in
      let at : proj_ty D t (Field j) ≡ Some ti = some_bind _ ef et in
      let z : ti ≡ t' = let y : Some ti ≡ Some t' = sym at ∙ ap (proj_ty D t) ep ∙ e1 in grind arith in
      unit_under ps ti v u q r (subst (λ t'. path_ty D t' ps ≡ Some v) (sym z) e2)

  -- ---- the blank of a type

  blank_same : (g h : ℕ → Value) (t : Tree) → ((k : ℕ) → NamedIn t k → g k ≡ h k) → blank_by g t ≡ blank_by h t
  blank_same g h (more t ts) same = ap₂ cons (blank_same g h t (λ k e. same k (or_left (needs_by (λ j. j == k) t) (needs_by (λ j. j == k) ts) e))) (blank_same g h ts (λ k e. same k (or_right (needs_by (λ j. j == k) t) (needs_by (λ j. j == k) ts) e)))
  blank_same g h (named d) same = same d (eq-eqb d d refl)
  blank_same g h (scalar s) same = refl
  blank_same g h empty same = refl
  blank_same g h (tree.ref t) same = refl
  blank_same g h (tree.ref_mut t) same = refl

  blank_shape_same : (g h : ℕ → Value) (s : Shape) → ((k : ℕ) → NamedAmong s.variants k → g k ≡ h k) → blank_of g (Some s) ≡ blank_of h (Some s)
  blank_shape_same g h s same = ap (λ v. if is_unit s then hole else v) (first s.variants same)
    where
      first : (ts : List Tree) → ((k : ℕ) → NamedAmong ts k → g k ≡ h k) → blank_by g (first_variant ts) ≡ blank_by h (first_variant ts)
      first [] same = refl
      first (t ∷ ts) same = blank_same g h t (λ k e. same k (or_left (needs_by (λ j. j == k) t) (any_needs (λ j. j == k) ts) e))

  pub blank_named : (d : ℕ) → blank D (named d) ≡ blank_of (λ k. blank D (named k)) (slice_get D d)
  unfolding blank
  blank_named d = fixed D apart (blank_def D) (λ k. blank_of) hole (λ k. refl) (λ k g. refl) (λ n k. refl) (λ k g h s same. blank_shape_same g h s same) d

  part_blank : (of_def : ℕ → Value) (j : ℕ) (us ti : Tree) → field_ty us j ≡ Some ti → part j (blank_by of_def us) ≡ Some (blank_by of_def ti)
  part_blank of_def zero (more t ts) ti e = ap (λ t. Some (blank_by of_def t)) (let z : t ≡ ti = grind arith in z)
  part_blank of_def (suc j) (more t ts) ti e = part_blank of_def j ts ti e
  part_blank of_def j us ti e = absurd (grind arith)

  tuple_none : (n : ℕ) (t : Tree) → IsTuple t → Proper t → Has (units_from U n t) [] → ⊥
  tuple_none n empty it pr (i, e) = grind arith
  tuple_none n (more t ts) it pr h = go (tuple_none (suc n) ts pr.1 pr.2) (has_cases (map (under n) (units_from U 0 t)) (units_from U (suc n) ts) [] h)
    where
      go : (Has (units_from U (suc n) ts) [] → ⊥) → Has (map (under n) (units_from U 0 t)) [] ⊎ Has (units_from U (suc n) ts) [] → ⊥
      go ih (inl a) = under_none n (units_from U 0 t) a
      go ih (inr b) = ih b
  tuple_none n (scalar s) it pr h = it
  tuple_none n (tree.ref t) it pr h = it
  tuple_none n (tree.ref_mut t) it pr h = it
  tuple_none n (named d) it pr h = it

  -- a place that is a unit itself
  pub unit_here : (t : Tree) → Proper t → Has (units D t) [] → (d : ℕ) × (s : Shape) × (t ≡ named d) × (slice_get D d ≡ Some s) × (is_unit s ≡ true)
  unfolding units
  unit_here (named d) pr h = go (slice_get D d) refl (subst (λ us. Has us []) (units_named D apart d) h)
    where
      go : (o : Option Shape) → slice_get D d ≡ o → Has (units_of U (needs_drop D (named d)) (slice_get D d)) [] → (e : ℕ) × (s : Shape) × (named d ≡ named e) × (slice_get D e ≡ Some s) × (is_unit s ≡ true)
      go None e h = absurd (none_has (subst (λ o. Has (units_of U (needs_drop D (named d)) o) []) e h))
        where
          none_has : Has {A = List Proj} [] [] → ⊥
          none_has (i, e) = grind arith
      go (Some s) e h = pick s.destructor refl s.is_enum refl (subst (λ o. Has (units_of U (needs_drop D (named d)) o) []) e h)
        where
          or_some : (b : Bool) → (b || true) ≡ true
          or_some true = refl
          or_some false = refl

          pick : (o : Option ℕ) → s.destructor ≡ o → (b : Bool) → s.is_enum ≡ b → Has (units_of_shape U (needs_drop D (named d)) (is_some s.destructor) s) [] → (e : ℕ) × (s : Shape) × (named d ≡ named e) × (slice_get D e ≡ Some s) × (is_unit s ≡ true)
          pick (Some g) eo b eb h = (d, s, refl, e, ap (λ o. s.is_enum || is_some o) eo ∙ or_some s.is_enum)
          pick None eo true eb h = (d, s, refl, e, ap (λ b. b || is_some s.destructor) eb)
          pick None eo false eb h = let (it, pr') = first_proper s d e in absurd (tuple_none 0 (struct_fields s) it pr' (subst (λ b. Has (units_of_parts U (needs_drop D (named d)) b s.variants) []) eb (subst (λ o. Has (units_of_shape U (needs_drop D (named d)) (is_some o) s) []) eo h)))
  unit_here (more t ts) pr h = absurd (tuple_none 0 (more t ts) tt pr h)
  unit_here (scalar s) pr (i, e) = absurd (grind arith)
  unit_here empty pr (i, e) = absurd (grind arith)
  unit_here (tree.ref t) pr (i, e) = absurd (grind arith)
  unit_here (tree.ref_mut t) pr (i, e) = absurd (grind arith)

  unit_blank : (t : Tree) → Proper t → Has (units D t) [] → blank D t ≡ hole
  unit_blank t pr h =
      let (d, s, et, es, u) = unit_here t pr h in
      ap (blank D) et ∙ blank_named d ∙ ap (blank_of (λ k. blank D (named k))) es ∙ ap (λ b. if b then hole else blank_by (λ k. blank D (named k)) (struct_fields s)) u

  -- the blank of a field
  field_blank : (t us ti : Tree) (j : ℕ) → fields_of D t ≡ Some us → field_ty us j ≡ Some ti → (u : List Proj) → Has (units D t) (Field j ∷ u) → part j (blank D t) ≡ Some (blank D ti)
  unfolding blank
  field_blank (more t ts) us ti j ef et u h = part_blank (blank_def D (length D)) j (more t ts) ti (let z : more t ts ≡ us = grind arith in subst (λ us. field_ty us j ≡ Some ti) (sym z) et)
  field_blank (named d) us ti j ef et u h =
      let (s, es, nu, h') = inside_struct d (Field j) u h in
      let (x, e1, e2) = bind_some ef in
      let z : s ≡ x = let y : Some s ≡ Some x = sym es ∙ e1 in grind arith in
      let row : struct_fields s ≡ us = let y : Some (struct_fields s) ≡ Some us = sym (ap (λ b. if b then None else Some (struct_fields s)) (not_enum s nu)) ∙ subst (λ x. fields_of_struct x ≡ Some us) (sym z) e2 in grind arith in
      ap (part j) (blank_named d ∙ ap (blank_of (λ k. blank D (named k))) es ∙ ap (λ b. if b then hole else blank_by (λ k. blank D (named k)) (struct_fields s)) nu) ∙ part_blank (λ k. blank D (named k)) j (struct_fields s) ti (subst (λ us. field_ty us j ≡ Some ti) (sym row) et)
  field_blank empty us ti j ef et u (i, e) = absurd (grind arith)
  field_blank (scalar s) us ti j ef et u h = absurd (grind arith)
  field_blank (tree.ref t) us ti j ef et u h = absurd (grind arith)
  field_blank (tree.ref_mut t) us ti j ef et u h = absurd (grind arith)

  -- a hole stands at each unit
  pub blank_at_unit : (u : List Proj) (t : Tree) → Proper t → Has (units D t) u → at_path u (blank D t) ≡ Some hole
  blank_at_unit [] t pr h = ap (λ v. Some v) (unit_blank t pr h)
  blank_at_unit (p ∷ u) t pr h =
      let (j, us, ti, ep, ef, et, q, r) = first_step t p u pr h in
      let h' : Has (units D t) (Field j ∷ u) = subst (λ p. Has (units D t) (p ∷ u)) (sym ep) h in
      some_bind _ (ap (λ p. inner p (blank D t)) (sym ep) ∙ field_blank t us ti j ef et u h') (blank_at_unit u ti q r)
