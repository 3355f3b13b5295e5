-- A write through a reference leaves each unit as it was: initialised or not.
use Rattle.std.proofs.Common.{◌≡◌, ◌⊎◌, inl, inr, refl, sym, ap, ap₂, ◌∙◌, subst, ℕ, zero, suc, Bool, true, false, not, ◌&&◌, ◌==◌, if◌then◌else◌, List, [], ◌∷◌, ◌++◌, length, Some, None, slice_get, option_map, arith, eq-eqb}
use Rattle.mir_syntax.specs.declared.body.Proj.{Proj}
use Rattle.mir_syntax.specs.declared.body.Proj.TheVariants.{Field, Downcast, Deref}
use Rattle.mir_syntax.specs.Tree.{Tree, scalar, empty, more, named}
use Rattle.mir_syntax.specs.Tree as tree
use Rattle.mir_syntax.specs.Shapes.{Shape, first_variant, struct_fields, fields_of, fields_of_struct, field_ty, variant_of_enum, path_ty, needs_by, any_needs, needs_drop}
use Rattle.mir_rules.specs.DefinitionRules.{holds}
use Rattle.mir_rules.specs.Weights.{units}
use Rattle.std.proofs.lemmas.Bool.{or_left, or_right}
use Rattle.mir_rules.proofs.Fixed.{fixed}
use Rattle.mir_rules.proofs.FixedWeights.{NamedIn, NamedAmong}
use Rattle.mir_semantics.specs.Values.{Value, number, nil, cons, variant, pointer, hole, is_hole, whole, part, inner, at_path, put, is_unit, full_by, full_of, full_def, full, blank}
use Rattle.mir_renaming.specs.Renaming.{Renaming, ValueRel}
use Rattle.mir_syntax.proofs.Binds.{bind_some, some_bind}
use Rattle.mir_renaming.proofs.Memory.{at_path_rel, put_rel, put_same}
use Rattle.mir_renaming.proofs.Types.{TypeMap, HasTy, some_eq, can_hole, holds_by, at_path_ty, blank_any}
use Rattle.drop_elab.proofs.refines.Glue.{pointwise1}
use Rattle.drop_elab.proofs.refines.Propers.{there_proper}
use Rattle.drop_elab.proofs.refines.Items.{Proper, ProperShapes}
use Rattle.drop_elab.proofs.refines.Sound.{Has}
use Rattle.drop_elab.proofs.refines.Puts.{field_cases, hole_at, Above, Fields, put_under, put_beside, whole_at}
use Rattle.drop_elab.proofs.refines.UnitPaths.{inside_struct, not_enum, first_step, unit_under, unit_here, blank_at_unit}
use Rattle.drop_elab.proofs.refines.Outer.{Marks, no_units}
use Rattle.drop_elab.specs.Elab.{dead}

module _ (D : List Shape) (apart : (d : ℕ) → holds D (length D) d d ≡ false) (proper : ProperShapes D) where
  -- ---- a full value

  full_same : (g h : ℕ → Value → Bool) (t : Tree) (v : Value) → ((k : ℕ) → NamedIn t k → g k ≡ h k) → full_by g t v ≡ full_by h t v
  full_same g h (more t ts) (cons v vs) alike = ap₂ (λ a b. a && b) (full_same g h t v (λ k e. alike k (or_left (needs_by (λ j. j == k) t) (needs_by (λ j. j == k) ts) e))) (full_same g h ts vs (λ k e. alike k (or_right (needs_by (λ j. j == k) t) (needs_by (λ j. j == k) ts) e)))
  full_same g h (more t ts) (number n) alike = refl
  full_same g h (more t ts) nil alike = refl
  full_same g h (more t ts) (variant k v) alike = refl
  full_same g h (more t ts) (pointer a) alike = refl
  full_same g h (more t ts) hole alike = refl
  full_same g h (named d) v alike = ap (λ f. f v) (alike d (eq-eqb d d refl))
  full_same g h (scalar s) v alike = refl
  full_same g h empty v alike = refl
  full_same g h (tree.ref t) v alike = refl
  full_same g h (tree.ref_mut t) v alike = refl

  full_shape_same : (g h : ℕ → Value → Bool) (b : Bool) (s : Shape) (v : Value) → ((k : ℕ) → NamedAmong s.variants k → g k ≡ h k) → full_of g b (Some s) v ≡ full_of h b (Some s) v
  full_shape_same g h false s v alike = refl
  full_shape_same g h true s v alike = ap (λ x. if is_unit s then not (is_hole v) else x) (first s.variants alike)
    where
      first : (ts : List Tree) → ((k : ℕ) → NamedAmong ts k → g k ≡ h k) → full_by g (first_variant ts) v ≡ full_by h (first_variant ts) v
      first [] alike = refl
      first (t ∷ ts) alike = full_same g h t v (λ k e. alike k (or_left (needs_by (λ j. j == k) t) (any_needs (λ j. j == k) ts) e))

  none_full : (g : ℕ → Value → Bool) (b : Bool) (v : Value) → full_of g b None v ≡ true
  none_full g true v = refl
  none_full g false v = refl

  full_named : (d : ℕ) (v : Value) → full D (named d) v ≡ full_of (λ k w. full D (named k) w) (needs_drop D (named d)) (slice_get D d) v
  unfolding full
  full_named d v = ap (λ f. f v) (fixed D apart (full_def D) (λ k g o v. full_of g (needs_drop D (named k)) o v) (λ v. true) (λ k. refl) (λ k g. pointwise1 _ _ (λ v. none_full g (needs_drop D (named k)) v)) (λ n k. refl) (λ k g h s alike. pointwise1 _ _ (λ v. full_shape_same g h (needs_drop D (named k)) s v alike)) d)

  -- ---- a unit is there

  part_there : (G : TypeMap) (j : ℕ) (t us ti : Tree) (v : Value) → HasTy D G t v → fields_of D t ≡ Some us → field_ty us j ≡ Some ti → can_hole D t ≡ false → (x : Value) × (part j v ≡ Some x)
  part_there G j t us ti hole h ef et nh = absurd (grind arith)
  part_there G zero t us ti (cons v vs) h ef et nh = (v, refl)
  part_there G (suc j) t us ti (cons v vs) (a, as', e, h, hs) ef et nh =
      let z : us ≡ more a as' = some_eq D G us (more a as') (fields_of D t) ef e in
      let et' : field_ty as' j ≡ Some ti = subst (λ us. field_ty us (suc j) ≡ Some ti) z et in
      part_there G j as' as' ti vs hs (tuple_row as' j et') et' (tuple_solid as' j et')
    where
      tuple_row : (us : Tree) (j : ℕ) → field_ty us j ≡ Some ti → fields_of D us ≡ Some us
      tuple_row (more t ts) j e = refl
      tuple_row us j e = absurd (grind arith)

      tuple_solid : (us : Tree) (j : ℕ) → field_ty us j ≡ Some ti → can_hole D us ≡ false
      tuple_solid (more t ts) j e = refl
      tuple_solid us j e = absurd (grind arith)
  part_there G j t us ti nil h ef et nh = absurd (let z : us ≡ empty = some_eq D G us empty (fields_of D t) ef h in let y : field_ty empty j ≡ Some ti = subst (λ us. field_ty us j ≡ Some ti) z et in grind arith)
  part_there G j (scalar s) us ti v h ef et nh = absurd (grind arith)
  part_there G j (tree.ref t) us ti v h ef et nh = absurd (grind arith)
  part_there G j (tree.ref_mut t) us ti v h ef et nh = absurd (grind arith)
  part_there G j empty us ti (number n) h ef et nh = absurd (grind arith)
  part_there G j (more t ts) us ti (number n) h ef et nh = absurd (grind arith)
  part_there G j (named d) us ti (number n) h ef et nh = absurd (grind arith)
  part_there G j empty us ti (variant k v) (u, f, h) ef et nh = absurd (grind arith)
  part_there G j (more t ts) us ti (variant k v) (u, f, h) ef et nh = absurd (grind arith)
  part_there G j empty us ti (pointer a) (u, f, h) ef et nh = absurd (grind arith)
  part_there G j (more t ts) us ti (pointer a) (u, f, h) ef et nh = absurd (grind arith)
  part_there G j (named d) us ti (pointer a) (u, f, h) ef et nh = absurd (grind arith)
  part_there G j (named d) us ti (variant k v) (u, f, h) ef et nh =
      let (s, e1, e2) = bind_some f in
      let (s', e3, e4) = bind_some ef in
      let z : s' ≡ s = let y : Some s' ≡ Some s = sym e3 ∙ e1 in grind arith in
      absurd (both s (subst (λ s. fields_of_struct s ≡ Some us) z e4) e2)
    where
      both : (s : Shape) → fields_of_struct s ≡ Some us → variant_of_enum k s ≡ Some u → ⊥
      both s a b = go s.is_enum a b
        where
          go : (e : Bool) → (if e then None else Some (struct_fields s)) ≡ Some us → (if e then slice_get s.variants k else None) ≡ Some u → ⊥
          go true a b = grind arith
          go false a b = grind arith

  solid_above : (t : Tree) (p : Proj) (u : List Proj) → Has (units D t) (p ∷ u) → can_hole D t ≡ false
  unfolding units
  solid_above (more t ts) p u h = refl
  solid_above empty p u h = refl
  solid_above (named d) p u h = let (s, es, nu, h') = inside_struct D apart proper d p u h in ap holds_by es ∙ nu
  solid_above (scalar s) p u (i, e) = absurd (grind arith)
  solid_above (tree.ref t) p u (i, e) = absurd (grind arith)
  solid_above (tree.ref_mut t) p u (i, e) = absurd (grind arith)

  pub unit_there : (G : TypeMap) (u : List Proj) (t : Tree) (v : Value) → Proper t → Has (units D t) u → HasTy D G t v → (x : Value) × (at_path u v ≡ Some x)
  unit_there G [] t v pr h ty = (v, refl)
  unit_there G (p ∷ u) t v pr h ty =
      let (j, us, ti, ep, ef, et, q, r) = first_step D apart proper t p u pr h in
      let (x, ex) = part_there G j t us ti v ty ef et (solid_above t p u h) in
      let tx : HasTy D G ti x = at_path_ty D G (Field j ∷ []) t ti v x ty (some_bind _ (some_bind _ ef et) refl) (some_bind _ ex refl) in
      let (y, ey) = unit_there G u ti x q r tx in
      (y, some_bind _ (ap (λ p. inner p v) (sym ep) ∙ ex) ey)

  pub units_fields : (u : List Proj) (t : Tree) → Proper t → Has (units D t) u → Fields u
  units_fields [] t pr h = tt
  units_fields (p ∷ u) t pr h = let (j, us, ti, ep, ef, et, q, r) = first_step D apart proper t p u pr h in subst (λ p. Fields (p ∷ u)) ep (units_fields u ti q r)

  some_marks : Marks
  some_marks = record { flag = λ q. None; status = λ q. dead }

  -- a type with a unit needs drop
  pub unit_needs : (t : Tree) (u : List Proj) → Has (units D t) u → needs_drop D t ≡ true
  unit_needs t u h = go (needs_drop D t) refl
    where
      none_has : Has {A = List Proj} [] u → ⊥
      none_has (i, e) = grind arith

      go : (b : Bool) → needs_drop D t ≡ b → b ≡ true
      go true e = refl
      go false e = absurd (none_has (subst (λ us. Has us u) (no_units ℕ D (λ q n. n) apart proper t e) h))

  full_part : (of_def : ℕ → Value → Bool) (j : ℕ) (us ti : Tree) (v x : Value) → full_by of_def us v ≡ true → field_ty us j ≡ Some ti → part j v ≡ Some x → full_by of_def ti x ≡ true
  full_part of_def zero (more t ts) ti (cons v vs) x f e p = subst (λ t. full_by of_def t x ≡ true) (let z : t ≡ ti = grind arith in z) (subst (λ v. full_by of_def t v ≡ true) (let z : v ≡ x = grind arith in z) (and_first (full_by of_def t v) (full_by of_def ts vs) f))
    where
      and_first : (a b : Bool) → (a && b) ≡ true → a ≡ true
      and_first true b e = refl
      and_first false b e = absurd (grind arith)
  full_part of_def (suc j) (more t ts) ti (cons v vs) x f e p = full_part of_def j ts ti vs x (and_second (full_by of_def t v) (full_by of_def ts vs) f) e p
    where
      and_second : (a b : Bool) → (a && b) ≡ true → b ≡ true
      and_second true b e = e
      and_second false b e = absurd (grind arith)
  full_part of_def zero us ti v x f e p = absurd (grind arith)
  full_part of_def (suc j) us ti v x f e p = absurd (grind arith)

  full_field : (t us ti : Tree) (j : ℕ) (v x : Value) (u : List Proj) → Has (units D t) (Field j ∷ u) → fields_of D t ≡ Some us → field_ty us j ≡ Some ti → full D t v ≡ true → part j v ≡ Some x → full D ti x ≡ true
  unfolding full
  full_field (more t ts) us ti j v x u h ef et f p = full_part (full_def D (length D)) j (more t ts) ti v x f (let z : more t ts ≡ us = grind arith in subst (λ us. field_ty us j ≡ Some ti) (sym z) et) p
  full_field (named d) us ti j v x u h ef et f p =
      let (s, es, nu, h') = inside_struct D apart proper d (Field j) u h in
      let (y, e1, e2) = bind_some ef in
      let z : s ≡ y = let q : Some s ≡ Some y = sym es ∙ e1 in grind arith in
      let row : struct_fields s ≡ us = let q : Some (struct_fields s) ≡ Some us = sym (ap (λ b. if b then None else Some (struct_fields s)) (not_enum D apart proper s nu)) ∙ subst (λ x. fields_of_struct x ≡ Some us) (sym z) e2 in grind arith in
      let needs = unit_needs (named d) (Field j ∷ u) h in
      let f' : full_by (λ k w. full D (named k) w) (struct_fields s) v ≡ true = sym (full_named d v ∙ ap₂ (λ b o. full_of (λ k w. full D (named k) w) b o v) needs es ∙ ap (λ b. if b then not (is_hole v) else full_by (λ k w. full D (named k) w) (struct_fields s) v) nu) ∙ f in
      full_part (λ k w. full D (named k) w) j (struct_fields s) ti v x f' (subst (λ us. field_ty us j ≡ Some ti) (sym row) et) p
  full_field empty us ti j v x u (i, e) ef et f p = absurd (let z : empty ≡ us = grind arith in let y : field_ty empty j ≡ Some ti = subst (λ us. field_ty us j ≡ Some ti) (sym z) et in grind arith)
  full_field (scalar s) us ti j v x u h ef et f p = absurd (grind arith)
  full_field (tree.ref t) us ti j v x u h ef et f p = absurd (grind arith)
  full_field (tree.ref_mut t) us ti j v x u h ef et f p = absurd (grind arith)

  -- no unit of a full value is a hole
  pub full_at_unit : (u : List Proj) (t : Tree) (v w : Value) → Proper t → Has (units D t) u → full D t v ≡ true → at_path u v ≡ Some w → is_hole w ≡ false
  full_at_unit [] t v w pr h f e =
      let (d, s, et, es, un) = unit_here D apart proper t pr h in
      let needs : needs_drop D (named d) ≡ true = subst (λ t. needs_drop D t ≡ true) et (unit_needs t [] h) in
      let f' : not (is_hole v) ≡ true = sym (ap (λ t. full D t v) et ∙ full_named d v ∙ ap₂ (λ b o. full_of (λ k w. full D (named k) w) b o v) needs es ∙ ap (λ b. if b then not (is_hole v) else full_by (λ k w. full D (named k) w) (struct_fields s) v) un) ∙ f in
      subst (λ v. is_hole v ≡ false) (let z : v ≡ w = grind arith in z) (no_hole (is_hole v) f')
    where
      no_hole : (b : Bool) → not b ≡ true → b ≡ false
      no_hole true e = absurd (grind arith)
      no_hole false e = refl
  full_at_unit (p ∷ u) t v w pr h f e =
      let (j, us, ti, ep, ef, et, q, r) = first_step D apart proper t p u pr h in
      let (x, e1, e2) = bind_some e in
      let px : part j v ≡ Some x = ap (λ p. inner p v) ep ∙ e1 in
      full_at_unit u ti x w q r (full_field t us ti j v x u (subst (λ p. Has (units D t) (p ∷ u)) (sym ep) h) ef et f px) e2

  -- ---- a write through a reference

  pub above_or_not : (ps us : List Proj) → Fields us → Above ps us ⊎ (Above ps us → ⊥)
  above_or_not [] us h = inl (us, refl)
  above_or_not (p ∷ ps) [] h = inr (λ a. (let z = a.1 in grind arith))
  above_or_not (Field i ∷ ps) (Field j ∷ us) h = go (field_cases i j) (above_or_not ps us h)
    where
      go : (i ≡ j) ⊎ (i ≡ j → ⊥) → Above ps us ⊎ (Above ps us → ⊥) → Above (Field i ∷ ps) (Field j ∷ us) ⊎ (Above (Field i ∷ ps) (Field j ∷ us) → ⊥)
      go (inl e) (inl a) = inl (a.0, ap₂ (λ i us. Field i ∷ us) (sym e) a.1)
      go (inl e) (inr n) = inr (λ a. n (a.0, (let z = a.1 in grind arith)))
      go (inr d) k = inr (λ a. d (let z = a.1 in grind arith))
  above_or_not (Downcast k ∷ ps) (Field j ∷ us) h = inr (λ a. (let z = a.1 in grind arith))
  above_or_not (Deref ∷ ps) (Field j ∷ us) h = inr (λ a. (let z = a.1 in grind arith))
  above_or_not (p ∷ ps) (Downcast k ∷ us) h = absurd h
  above_or_not (p ∷ ps) (Deref ∷ us) h = absurd h

  whole_solid : (w : Value) → whole w ≡ true → is_hole w ≡ false
  whole_solid (number n) h = refl
  whole_solid nil h = refl
  whole_solid (cons v vs) h = refl
  whole_solid (variant k v) h = refl
  whole_solid (pointer a) h = refl
  whole_solid hole h = absurd (grind arith)

  -- of a whole value over a full one, or of a type that needs no drop
  pub kept_by_typed : (G0 G : TypeMap) (u ps : List Proj) (lt t : Tree) (o old w : Value) → Proper lt → Has (units D lt) u → path_ty D lt ps ≡ Some t → HasTy D G t w → at_path ps o ≡ Some old → (needs_drop D t ≡ true → (full D t old ≡ true) × (whole w ≡ true) × HasTy D G0 t old) → hole_at u (put ps w o) ≡ hole_at u o
  kept_by_typed G0 G u ps lt t o old w pr h pt tw e ok = go (above_or_not ps u (units_fields u lt pr h))
    where
      go : Above ps u ⊎ (Above ps u → ⊥) → hole_at u (put ps w o) ≡ hole_at u o
      go (inr n) = put_beside ps u w o (units_fields u lt pr h) n
      go (inl (rest, eu)) =
          let h' : Has (units D t) rest = unit_under D apart proper ps lt t rest pr (subst (λ u. Has (units D lt) u) eu h) pt in
          let prt = there_proper D proper ps lt t o old pr pt e in
          let (f, wh, to) = ok (unit_needs t rest h') in
          let (x, ex) = unit_there G rest t w prt h' tw in
          let (y, ey) = unit_there G0 rest t old prt h' to in
          let new : hole_at u (put ps w o) ≡ Some false = ap (λ u. hole_at u (put ps w o)) eu ∙ ap (option_map is_hole) (put_under ps rest w o old e ∙ ex) ∙ ap (λ b. Some b) (whole_solid x (whole_at rest w x wh ex)) in
          let was : hole_at u o ≡ Some false = ap (λ u. hole_at u o) eu ∙ ap (option_map is_hole) (joined ps rest o old e ∙ ey) ∙ ap (λ b. Some b) (full_at_unit rest t old y prt h' f ey) in
          new ∙ sym was
        where
          joined : (ps rest : List Proj) (o old : Value) → at_path ps o ≡ Some old → at_path (ps ++ rest) o ≡ at_path rest old
          joined [] rest o old e = ap (at_path rest) (let z : o ≡ old = grind arith in z)
          joined (p ∷ ps) rest o old e = let (x, e1, e2) = bind_some e in some_bind _ e1 (joined ps rest x old e2)

  pub kept_by_write : (G : TypeMap) (u ps : List Proj) (lt t : Tree) (o old w : Value) → Proper lt → Has (units D lt) u → path_ty D lt ps ≡ Some t → HasTy D G t w → at_path ps o ≡ Some old → (needs_drop D t ≡ true → (full D t old ≡ true) × (whole w ≡ true) × HasTy D G t old) → hole_at u (put ps w o) ≡ hole_at u o
  kept_by_write G = kept_by_typed G G

  joined_path : (ps rest : List Proj) (o old : Value) → at_path ps o ≡ Some old → at_path (ps ++ rest) o ≡ at_path rest old
  joined_path [] rest o old e = ap (at_path rest) (let z : o ≡ old = grind arith in z)
  joined_path (p ∷ ps) rest o old e = let (x, e1, e2) = bind_some e in some_bind _ e1 (joined_path ps rest x old e2)

  -- a blank ends the units at or under its place
  pub ended_by_blank : (u ps rest : List Proj) (lt t : Tree) (o old : Value) → Proper lt → Has (units D lt) u → u ≡ ps ++ rest → path_ty D lt ps ≡ Some t → Proper t → at_path ps o ≡ Some old → hole_at u (put ps (blank D t) o) ≡ Some true
  ended_by_blank u ps rest lt t o old pr h eu pt prt e =
      let h' : Has (units D t) rest = unit_under D apart proper ps lt t rest pr (subst (λ u. Has (units D lt) u) eu h) pt in
      ap (λ u. hole_at u (put ps (blank D t) o)) eu ∙ ap (option_map is_hole) (put_under ps rest (blank D t) o old e ∙ blank_at_unit D apart proper rest t prt h')

  -- a whole value begins them
  pub begun_by_whole : (G : TypeMap) (u ps rest : List Proj) (lt t : Tree) (o old w : Value) → Proper lt → Has (units D lt) u → u ≡ ps ++ rest → path_ty D lt ps ≡ Some t → Proper t → HasTy D G t w → whole w ≡ true → at_path ps o ≡ Some old → hole_at u (put ps w o) ≡ Some false
  begun_by_whole G u ps rest lt t o old w pr h eu pt prt tw wh e =
      let h' : Has (units D t) rest = unit_under D apart proper ps lt t rest pr (subst (λ u. Has (units D lt) u) eu h) pt in
      let (x, ex) = unit_there G rest t w prt h' tw in
      ap (λ u. hole_at u (put ps w o)) eu ∙ ap (option_map is_hole) (put_under ps rest w o old e ∙ ex) ∙ ap (λ b. Some b) (whole_solid x (whole_at rest w x wh ex))

  -- the source's blank over a place that was dropped is related to what the target still holds there
  pub dropped_keeps : (G : TypeMap) (j : Renaming) (ps : List Proj) (lt t : Tree) (o old w : Value) → HasTy D G lt o → path_ty D lt ps ≡ Some t → at_path ps o ≡ Some old → ValueRel j o w → ValueRel j (put ps (blank D t) o) w
  dropped_keeps G j ps lt t o old w to pt e h =
      let (v, ev, hv) = at_path_rel j ps o w old h e in
      let blanked : ValueRel j (blank D t) v = blank_any D G j t old v (at_path_ty D G ps lt t o old to pt e) hv in
      subst (λ w. ValueRel j (put ps (blank D t) o) w) (put_same ps v w ev) (put_rel j ps (blank D t) v blanked o w h)
