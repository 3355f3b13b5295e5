-- Inside a unit that is no hole, in a loose value, what needs drop is no hole; and the units of a body are those of its locals.
use Rattle.std.proofs.Common.{◌≡◌, ◌⊎◌, inl, inr, refl, sym, ap, ◌∙◌, subst, ℕ, zero, suc, ◌+◌, true, false, List, [], ◌∷◌, ◌++◌, map, length, Option, Some, slice_get, option_map, arith}
use Rattle.mir_syntax.specs.declared.body.Proj.{Proj}
use Rattle.mir_syntax.specs.declared.body.Proj.TheVariants.{Field}
use Rattle.mir_syntax.specs.declared.body.Place.{Place}
use Rattle.mir_syntax.specs.Tree.{Tree, more}
use Rattle.mir_syntax.specs.Shapes.{Shape, ◌>>=◌, fields_of, field_ty, path_ty, needs_drop}
use Rattle.mir_rules.specs.DefinitionRules.{holds}
use Rattle.mir_rules.specs.Weights.{units}
use Rattle.mir_semantics.specs.Values.{Value, cons, is_hole, part, inner, at_path}
use Rattle.mir_syntax.proofs.Binds.{bind_some, some_bind}
use Rattle.mir_renaming.proofs.Types.{TypeMap, HasTy, at_path_ty}
use Rattle.move_paths.specs.Effects.{in_local, units_of_locals}
use Rattle.drop_elab.proofs.refines.Items.{Proper, ProperShapes}
use Rattle.drop_elab.proofs.refines.Sound.{Has}
use Rattle.drop_elab.proofs.refines.Puts.{hole_at}
use Rattle.drop_elab.proofs.refines.UnitPaths.{first_step, unit_here}
use Rattle.drop_elab.proofs.refines.Deep.{Loose, row_of_row}
use Rattle.drop_elab.proofs.refines.Held.{inside_solid}

-- ---- units of locals

pub has_split : {A : Type 0} (xs ys : List A) (x : A) → Has (xs ++ ys) x → Has xs x ⊎ Has ys x
has_split [] ys x h = inr h
has_split (z ∷ xs) ys x (zero, e) = inl (0, e)
has_split (z ∷ xs) ys x (suc i, e) = go (has_split xs ys x (i, e))
  where
    go : Has xs x ⊎ Has ys x → Has (z ∷ xs) x ⊎ Has ys x
    go (inl (j, f)) = inl (suc j, f)
    go (inr g) = inr g

pub in_units : (x : ℕ) (us : List (List Proj)) (u : Place) → Has (map (in_local x) us) u → (u.local ≡ x) × Has us u.proj
in_units x [] u (i, e) = absurd (grind arith)
in_units x (p ∷ us) u (zero, e) = let z : in_local x p ≡ u = grind arith in (ap (λ (u : Place). u.local) (sym z), (0, ap (λ (u : Place). Some u.proj) z))
in_units x (p ∷ us) u (suc i, e) = let (a, (j, f)) = in_units x us u (i, e) in (a, (suc j, f))

pub unit_of_local : (D : List Shape) (x : ℕ) (ts : List Tree) (u : Place) → Has (units_of_locals D x ts) u → (j : ℕ) × (t : Tree) × (u.local ≡ x + j) × (slice_get ts j ≡ Some t) × Has (units D t) u.proj
unit_of_local D x [] u (i, e) = absurd (grind arith)
unit_of_local D x (t ∷ ts) u h = go (λ g. unit_of_local D (suc x) ts u g) (has_split (map (in_local x) (units D t)) (units_of_locals D (suc x) ts) u h)
  where
    go : (Has (units_of_locals D (suc x) ts) u → (j : ℕ) × (t : Tree) × (u.local ≡ suc x + j) × (slice_get ts j ≡ Some t) × Has (units D t) u.proj) → Has (map (in_local x) (units D t)) u ⊎ Has (units_of_locals D (suc x) ts) u → (j : ℕ) × (t' : Tree) × (u.local ≡ x + j) × (slice_get (t ∷ ts) j ≡ Some t') × Has (units D t') u.proj
    go ih (inl g) = let (a, b) = in_units x (units D t) u g in (0, t, omega (arith, a), refl, b)
    go ih (inr g) = let (j, t', a, b, c) = ih g in (suc j, t', omega (arith, a), b, c)

module _ (D : List Shape) (apart : (d : ℕ) → holds D (length D) d d ≡ false) (proper : ProperShapes D) where
  loose_part : (j : ℕ) (t us ti : Tree) (o x : Value) → Loose D t o → fields_of D t ≡ Some us → field_ty us j ≡ Some ti → part j o ≡ Some x → Loose D ti x
  loose_part zero t (more a as') u (cons v vs) w h r f e = subst (λ y. Loose D u y) (let q : v ≡ w = grind arith in q) (subst (λ y. Loose D y v) (let q : a ≡ u = grind arith in q) (h.1 a as' r).0)
  loose_part (suc i) t (more a as') u (cons v vs) w h r f e = loose_part i as' as' u vs w (h.1 a as' r).1 (row_of_row D i as' u f) f e
  loose_part zero t us u v w h r f e = absurd (grind arith)
  loose_part (suc i) t us u v w h r f e = absurd (grind arith)

  some_is : {A : Type 0} (a b : A) → ◌≡◌ {A = Option A} (Some a) (Some b) → a ≡ b
  some_is a b e = grind arith

  pub solid : (G : TypeMap) (u rest : List Proj) (lt t : Tree) (o v : Value) → Proper lt → Has (units D lt) u → HasTy D G lt o → Loose D lt o → hole_at u o ≡ Some false → path_ty D lt (u ++ rest) ≡ Some t → at_path (u ++ rest) o ≡ Some v → needs_drop D t ≡ true → is_hole v ≡ false
  solid G [] rest lt t o v pr h ty lo so pt e n =
      let (d, s, et, es, un) = unit_here D apart proper lt pr h in
      inside_solid D G t rest d s o v es un (subst (λ t. HasTy D G t o) et ty) (subst (λ t. Loose D t o) et lo) (some_is (is_hole o) false so) (subst (λ y. path_ty D y rest ≡ Some t) et pt) e n
  solid G (p ∷ u) rest lt t o v pr h ty lo so pt e n =
      let (j, us, ti, ep, ef, et, q, r) = first_step D apart proper lt p u pr h in
      let (x, e1, e2) = bind_some e in
      let px : part j o ≡ Some x = ap (λ p. inner p o) ep ∙ e1 in
      let (t1, p1, p2) = bind_some pt in
      let z : t1 ≡ ti = some_is t1 ti (sym p1 ∙ ap (λ p. Rattle.mir_syntax.specs.Shapes.proj_ty D lt p) (sym ep) ∙ some_bind _ ef et) in
      let tx : HasTy D G ti x = at_path_ty D G (Field j ∷ []) lt ti o x ty (some_bind _ (some_bind _ ef et) refl) (some_bind _ px refl) in
      let so' : hole_at u x ≡ Some false = sym (ap (option_map is_hole) (some_bind (at_path u) e1 refl)) ∙ so in
      solid G u rest ti t x v q r tx (loose_part j lt us ti o x lo ef et px) so' (subst (λ y. path_ty D y (u ++ rest) ≡ Some t) z p2) e2 n
