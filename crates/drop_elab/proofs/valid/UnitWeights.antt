-- A type's units weigh no more than the type.
use Rattle.std.proofs.Common.{◌≡◌, refl, sym, ap, ◌∙◌, subst, ℕ, zero, suc, ◌+◌, ◌≤◌, Bool, true, false, if◌then◌else◌, List, [], ◌∷◌, ◌++◌, map, length, Option, Some, None, is_some, slice_get, arith}
use Rattle.mir_syntax.specs.declared.body.Proj.{Proj}
use Rattle.mir_syntax.specs.declared.body.Proj.TheVariants.{Field}
use Rattle.mir_syntax.specs.Tree.{Tree, scalar, empty, more, named}
use Rattle.mir_syntax.specs.Tree as tree
use Rattle.mir_syntax.specs.Shapes.{Shape, first_variant, struct_fields, fields_of, field_ty, proj_ty, path_ty, needs_drop}
use Rattle.mir_syntax.proofs.Binds.{some_bind}
use Rattle.mir_rules.specs.DefinitionRules.{holds}
use Rattle.mir_rules.specs.Limits.{weight_of}
use Rattle.mir_rules.specs.Weights.{under, units_from, units_of_parts, units_of_shape, units_of, units_def, units, counted, inside_by, inside_variants, inside_of, inside_def, drop_weight}
use Rattle.mir_rules.proofs.FixedWeights.{inside_named}
use Rattle.drop_elab.proofs.refines.Items.{IsTuple, Proper, ProperShapes, first_proper}
use Rattle.drop_elab.proofs.refines.Outer.{none_from, none_def}

module _ (D : List Shape) where
  -- what stands at these paths of a type
  abbrev pub paths_weigh : Tree → List (List Proj) → ℕ
  paths_weigh t [] = 0
  paths_weigh t (u ∷ us) = weight_of D (path_ty D t u) + paths_weigh t us

  weigh_append : (t : Tree) (us vs : List (List Proj)) → paths_weigh t (us ++ vs) ≡ paths_weigh t us + paths_weigh t vs
  weigh_append t [] vs = omega arith
  weigh_append t (u ∷ us) vs = (let h = weigh_append t us vs in omega (arith, h))

  weigh_under : (t u : Tree) (i : ℕ) → proj_ty D t (Field i) ≡ Some u → (us : List (List Proj)) → paths_weigh t (map (under i) us) ≡ paths_weigh u us
  weigh_under t u i e [] = refl
  weigh_under t u i e (p ∷ us) = (let h = weigh_under t u i e us in let k : path_ty D t (Field i ∷ p) ≡ path_ty D u p = some_bind _ e refl in let w = ap (weight_of D) k in omega (arith, h, w))

module _ (D : List Shape) (apart : (d : ℕ) → holds D (length D) d d ≡ false) (proper : ProperShapes D) where
  abbrev w : ℕ → ℕ
  w = inside_def D (length D)

  Row : (ℕ → List (List Proj)) → Tree → Type 0
  Row of_def us = IsTuple us → (t : Tree) (i : ℕ) → ((j : ℕ) (u : Tree) → field_ty us j ≡ Some u → proj_ty D t (Field (i + j)) ≡ Some u) → paths_weigh D t (units_from of_def i us) ≤ inside_by D w us

  Whole : (ℕ → List (List Proj)) → Tree → Type 0
  Whole of_def t = paths_weigh D t (units_from of_def 0 t) ≤ counted (needs_drop D t) (inside_by D w t)

  Ok : (ℕ → List (List Proj)) → Type 0
  Ok of_def = ((d : ℕ) → paths_weigh D (named d) (of_def d) ≤ counted (needs_drop D (named d)) (w d)) × ((d : ℕ) → needs_drop D (named d) ≡ false → of_def d ≡ [])

  nothing : (of_def : ℕ → List (List Proj)) → Ok of_def → (i : ℕ) (t T : Tree) → needs_drop D t ≡ false → paths_weigh D T (units_from of_def i t) ≡ 0
  unfolding Ok
  nothing of_def ok i t T n = ap (paths_weigh D T) (none_from ℕ D (λ q n. n) apart proper of_def ok.1 i t n)

  claim : (of_def : ℕ → List (List Proj)) → Ok of_def → (t : Tree) → Proper t → Row of_def t × Whole of_def t
  unfolding Row Whole Ok
  claim of_def ok (more t ts) pr =
      let (a, b) = claim of_def ok t pr.0 in
      let (r, s) = claim of_def ok ts pr.2 in
      let row : (T : Tree) (i : ℕ) → ((j : ℕ) (u : Tree) → field_ty (more t ts) j ≡ Some u → proj_ty D T (Field (i + j)) ≡ Some u) → paths_weigh D T (units_from of_def i (more t ts)) ≤ inside_by D w (more t ts) =
      λ T i h. (
      let z : i + 0 ≡ i = omega arith in
      let e = weigh_append D T (map (under i) (units_from of_def 0 t)) (units_from of_def (suc i) ts) in
      let x = weigh_under D T t i (subst (λ n. proj_ty D T (Field n) ≡ Some t) z (h 0 t refl)) (units_from of_def 0 t) in
      let y = r pr.1 T (suc i) (λ j u k. (let q : i + suc j ≡ suc i + j = omega arith in subst (λ n. proj_ty D T (Field n) ≡ Some u) q (h (suc j) u k))) in
      omega (arith, e, x, y, b))
      in
      (λ tu T i h. row T i h, go (needs_drop D (more t ts)) refl (row (more t ts) 0 (λ j u k. (let z : 0 + j ≡ j = omega arith in subst (λ n. proj_ty D (more t ts) (Field n) ≡ Some u) (sym z) (some_bind _ {o = fields_of D (more t ts)} refl k)))))
    where
      go : (b : Bool) → needs_drop D (more t ts) ≡ b → paths_weigh D (more t ts) (units_from of_def 0 (more t ts)) ≤ inside_by D w (more t ts) → paths_weigh D (more t ts) (units_from of_def 0 (more t ts)) ≤ counted b (inside_by D w (more t ts))
      go true e row = omega (arith, row)
      go false e row = (let z = nothing of_def ok 0 (more t ts) (more t ts) e in omega (arith, z))
  claim of_def ok (named d) pr = (λ tu T i h. absurd tu, ok.0 d)
  claim of_def ok (scalar s) pr = (λ tu T i h. absurd tu, omega arith)
  claim of_def ok empty pr = (λ tu T i h. omega arith, omega arith)
  claim of_def ok (tree.ref t) pr = (λ tu T i h. absurd tu, omega arith)
  claim of_def ok (tree.ref_mut t) pr = (λ tu T i h. absurd tu, omega arith)

  row_weighs : (of_def : ℕ → List (List Proj)) → Ok of_def → (us : Tree) → Proper us → IsTuple us → (t : Tree) (i : ℕ) → ((j : ℕ) (u : Tree) → field_ty us j ≡ Some u → proj_ty D t (Field (i + j)) ≡ Some u) → paths_weigh D t (units_from of_def i us) ≤ inside_by D w us
  unfolding Row
  row_weighs of_def ok us pr tu = (claim of_def ok us pr).0 tu

  whole_weighs : (of_def : ℕ → List (List Proj)) → Ok of_def → (t : Tree) → Proper t → paths_weigh D t (units_from of_def 0 t) ≤ counted (needs_drop D t) (inside_by D w t)
  unfolding Whole
  whole_weighs of_def ok t pr = (claim of_def ok t pr).1

  defs_weigh : (n : ℕ) → Ok (units_def D n)
  unfolding Ok drop_weight
  defs_weigh zero = (λ d. omega arith, λ d e. refl)
  defs_weigh (suc n) = (λ d. by_needs d (needs_drop D (named d)) refl (defs_weigh n), none_def ℕ D (λ q n. n) apart proper (suc n))
    where
      parts : (d : ℕ) (s : Shape) → slice_get D d ≡ Some s → needs_drop D (named d) ≡ true → Ok (units_def D n) → (b : Bool) → s.is_enum ≡ b → paths_weigh D (named d) (units_of_parts (units_def D n) true b s.variants) ≤ suc (w d)
      parts d s es e ok true q = (let z = ap (λ b. counted b (w d)) e in omega (arith, z))
      parts d s es e ok false q =
          let (tu, pr) = first_proper s.variants (proper d s es) in
          let x = row_weighs (units_def D n) ok (struct_fields s) pr tu (named d) 0 (λ j u k. (let z : 0 + j ≡ j = omega arith in subst (λ n. proj_ty D (named d) (Field n) ≡ Some u) (sym z) (some_bind _ {o = fields_of D (named d)} (some_bind _ es (ap (λ c. if c then None else Some (struct_fields s)) q)) k))) in
          let y : w d ≡ inside_by D w (first_variant s.variants) = inside_named D apart d ∙ ap (inside_of D w) es ∙ ap (λ b. inside_variants D w b s.variants) q in
          omega (arith, x, y)

      shape : (d : ℕ) (s : Shape) → slice_get D d ≡ Some s → needs_drop D (named d) ≡ true → Ok (units_def D n) → (c : Bool) → paths_weigh D (named d) (units_of_shape (units_def D n) true c s) ≤ suc (w d)
      shape d s es e ok true = (let z = ap (λ b. counted b (w d)) e in omega (arith, z))
      shape d s es e ok false = parts d s es e ok s.is_enum refl

      at : (d : ℕ) → needs_drop D (named d) ≡ true → (o : Option Shape) → slice_get D d ≡ o → Ok (units_def D n) → paths_weigh D (named d) (units_of (units_def D n) true o) ≤ suc (w d)
      at d e None q ok = omega arith
      at d e (Some s) q ok = shape d s q e ok (is_some s.destructor)

      by_needs : (d : ℕ) (b : Bool) → needs_drop D (named d) ≡ b → Ok (units_def D n) → paths_weigh D (named d) (units_def D (suc n) d) ≤ counted (needs_drop D (named d)) (w d)
      by_needs d true e ok = (let x = at d e (slice_get D d) refl ok in let y = ap (λ b. paths_weigh D (named d) (units_of (units_def D n) b (slice_get D d))) e in let z = ap (λ b. counted b (w d)) e in omega (arith, x, y, z))
      by_needs d false e ok = (let x = ap (paths_weigh D (named d)) (none_def ℕ D (λ q n. n) apart proper (suc n) d e) in omega (arith, x))

  pub units_weigh : (t : Tree) → Proper t → paths_weigh D t (units D t) ≤ drop_weight D t
  unfolding units drop_weight
  units_weigh t pr = whole_weighs (units_def D (length D)) (defs_weigh (length D)) t pr
