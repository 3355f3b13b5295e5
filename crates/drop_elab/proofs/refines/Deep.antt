-- Values with no hole at any node that needs drop, however deep: what a unit holds that is no hole itself. So inside a unit a visit meets no hole.
use Rattle.std.proofs.Common.{◌≡◌, refl, sym, ap, ◌∙◌, subst, ℕ, zero, suc, Bool, true, false, nat_eq, ◌&&◌, ◌||◌, if◌then◌else◌, List, [], ◌∷◌, length, Option, Some, None, is_some, slice_get, arith}
use Rattle.std.proofs.lemmas.Bool.{eqb-true}
use Rattle.mir_syntax.specs.declared.body.Proj.{Proj}
use Rattle.mir_syntax.specs.declared.body.Proj.TheVariants.{Field, Downcast, Deref}
use Rattle.mir_syntax.specs.Tree.{Tree, scalar, empty, more, named}
use Rattle.mir_syntax.specs.Tree as tree
use Rattle.mir_syntax.specs.Shapes.{Shape, first_variant, struct_fields, fields_of, fields_of_struct, field_ty, variant_ty, variant_of_enum, proj_ty, path_ty, needs_drop, destructor_of, path_through}
use Rattle.mir_semantics.specs.Values.{Value, number, nil, cons, variant, pointer, hole, is_hole, whole, part, payload, at_path, change_part, change_payload, change_inner, put, is_unit, blank_by, blank_of, blank_def, blank}
use Rattle.mir_syntax.proofs.Binds.{bind_some, some_bind}
use Rattle.mir_renaming.proofs.Types.{TypeMap, HasTy, some_eq}
use Rattle.mir_syntax.specs.Parts.{is_direct}
use Rattle.mir_renaming.proofs.Agree.{NeedsOk}
use Rattle.drop_elab.proofs.refines.Items.{IsTuple, Proper, ProperShapes}

module _ (D : List Shape) where
  abbrev pub Deep : Tree → Value → Type 0
  Deep t hole = needs_drop D t ≡ false
  Deep t (cons v vs) = (u us : Tree) → fields_of D t ≡ Some (more u us) → Deep u v × Deep us vs
  Deep t (variant k v) = (u : Tree) → variant_ty D t k ≡ Some u → Deep u v
  Deep t _ = Unit {0}

  and_both : (a b : Bool) → (a && b) ≡ true → (a ≡ true) × (b ≡ true)
  and_both true b e = (refl, e)
  and_both false b e = absurd (grind arith)

  -- what is read, and so what is written, has no hole
  pub whole_deep : (v : Value) (t : Tree) → whole v ≡ true → Deep t v
  whole_deep (cons v vs) t h = λ u us e. (let (a, b) = and_both (whole v) (whole vs) h in (whole_deep v u a, whole_deep vs us b))
  whole_deep (variant k v) t h = λ u e. whole_deep v u h
  whole_deep (number n) t h = tt
  whole_deep nil t h = tt
  whole_deep (pointer a) t h = tt
  whole_deep hole t h = absurd (grind arith)

  -- of a type that needs no drop any value is so
  pub needless_deep : NeedsOk D → (v : Value) (t : Tree) → needs_drop D t ≡ false → Deep t v
  needless_deep k hole t n = n
  needless_deep k (cons v vs) t n = λ u us e. (let (a, b) = k.row t u us n e in (needless_deep k v u a, needless_deep k vs us b))
  needless_deep k (variant i v) t n = λ u e. needless_deep k v u (k.variant t u i n e)
  needless_deep k (number m) t n = tt
  needless_deep k nil t n = tt
  needless_deep k (pointer a) t n = tt

  pub row_of_row : (i : ℕ) (b u : Tree) → field_ty b i ≡ Some u → fields_of D b ≡ Some b
  row_of_row i (more c d) u f = refl
  row_of_row i (scalar s) u f = absurd (grind arith)
  row_of_row i empty u f = absurd (grind arith)
  row_of_row i (tree.ref t) u f = absurd (grind arith)
  row_of_row i (tree.ref_mut t) u f = absurd (grind arith)
  row_of_row i (named d) u f = absurd (grind arith)

  part_deep : (i : ℕ) (t us u : Tree) (v w : Value) → Deep t v → fields_of D t ≡ Some us → field_ty us i ≡ Some u → part i v ≡ Some w → Deep u w
  part_deep zero t (more a as') u (cons v vs) w h r f e = subst (λ y. Deep u y) (let q : v ≡ w = grind arith in q) (subst (λ y. Deep y v) (let q : a ≡ u = grind arith in q) (h a as' r).0)
  part_deep (suc i) t (more a as') u (cons v vs) w h r f e = part_deep i as' as' u vs w (h a as' r).1 (row_of_row i as' u f) f e
  part_deep zero t us u v w h r f e = absurd (grind arith)
  part_deep (suc i) t us u v w h r f e = absurd (grind arith)

  payload_deep : (k : ℕ) (t u : Tree) (v w : Value) → Deep t v → variant_ty D t k ≡ Some u → payload k v ≡ Some w → Deep u w
  payload_deep k t u (variant i v) w h f e = go (nat_eq i k) refl e
    where
      go : (b : Bool) → nat_eq i k ≡ b → (if b then Some v else None) ≡ Some w → Deep u w
      go true n e = subst (λ y. Deep u y) (let q : v ≡ w = grind arith in q) (h u (subst (λ z. variant_ty D t z ≡ Some u) (sym (eqb-true i k n)) f))
      go false n e = absurd (grind arith)
  payload_deep k t u v w h f e = absurd (grind arith)

  -- a part of such a value is so: no visit inside a unit meets a hole
  pub at_path_deep : (ps : List Proj) (t u : Tree) (v w : Value) → Deep t v → path_ty D t ps ≡ Some u → at_path ps v ≡ Some w → Deep u w
  at_path_deep [] t u v w h f e = subst (λ y. Deep u y) (let q : v ≡ w = grind arith in q) (subst (λ y. Deep y v) (let q : t ≡ u = grind arith in q) h)
  at_path_deep (Field i ∷ ps) t u v w h f e =
      let (t', f1, f2) = bind_some f in
      let (us, r, f3) = bind_some f1 in
      let (x, p1, p2) = bind_some e in
      at_path_deep ps t' u x w (part_deep i t us t' v x h r f3 p1) f2 p2
  at_path_deep (Downcast k ∷ ps) t u v w h f e =
      let (t', f1, f2) = bind_some f in
      let (x, p1, p2) = bind_some e in
      at_path_deep ps t' u x w (payload_deep k t t' v x h f1 p1) f2 p2
  at_path_deep (Deref ∷ ps) t u v w h f e = let (x, p1, p2) = bind_some e in absurd (grind arith)

  pub deep_solid : (t : Tree) (v : Value) → Deep t v → needs_drop D t ≡ true → is_hole v ≡ false
  deep_solid t hole h n = absurd (let z : true ≡ false = sym n ∙ h in grind arith)
  deep_solid t (number m) h n = refl
  deep_solid t nil h n = refl
  deep_solid t (cons v vs) h n = refl
  deep_solid t (variant k v) h n = refl
  deep_solid t (pointer a) h n = refl

  -- ---- changes

  abbrev Keeps : Tree → (Value → Value) → Type 0
  Keeps u g = (x : Value) → Deep u x → Deep u (g x)

  first : (us u : Tree) → field_ty us 0 ≡ Some u → (a as' : Tree) → us ≡ more a as' → a ≡ u
  first us u f a as' s = let z : field_ty (more a as') 0 ≡ Some u = subst (λ y. field_ty y 0 ≡ Some u) s f in grind arith

  part_kept : (i : ℕ) (t us u : Tree) (g : Value → Value) (v : Value) → Keeps u g → Deep t v → fields_of D t ≡ Some us → field_ty us i ≡ Some u → Deep t (change_part i g v)
  part_kept zero t us u g (cons v vs) k h r f = λ a as' e. (let same : us ≡ more a as' = some_eq D (λ f x. None) us (more a as') (fields_of D t) r e in let q : a ≡ u = first us u f a as' same in (subst (λ y. Deep y (g v)) (sym q) (k v (subst (λ y. Deep y v) q (h a as' e).0)), (h a as' e).1))
  part_kept (suc i) t us u g (cons v vs) k h r f = λ a as' e. (let same : us ≡ more a as' = some_eq D (λ f x. None) us (more a as') (fields_of D t) r e in let f' : field_ty as' i ≡ Some u = subst (λ y. field_ty y (suc i) ≡ Some u) same f in ((h a as' e).0, part_kept i as' as' u g vs k (h a as' e).1 (row_of_row i as' u f') f'))
  part_kept zero t us u g (number n) k h r f = h
  part_kept zero t us u g nil k h r f = h
  part_kept zero t us u g (variant n v) k h r f = h
  part_kept zero t us u g (pointer a) k h r f = h
  part_kept zero t us u g hole k h r f = h
  part_kept (suc i) t us u g (number n) k h r f = h
  part_kept (suc i) t us u g nil k h r f = h
  part_kept (suc i) t us u g (variant n v) k h r f = h
  part_kept (suc i) t us u g (pointer a) k h r f = h
  part_kept (suc i) t us u g hole k h r f = h

  payload_kept : (n : ℕ) (t u : Tree) (g : Value → Value) (v : Value) → Keeps u g → Deep t v → variant_ty D t n ≡ Some u → Deep t (change_payload n g v)
  payload_kept n t u g (variant i v) k h f = go (nat_eq i n) refl
    where
      go : (b : Bool) → nat_eq i n ≡ b → Deep t (variant i (if b then g v else v))
      go true e = λ a q. (let same : a ≡ u = some_eq D (λ f x. None) a u (variant_ty D t n) (subst (λ z. variant_ty D t z ≡ Some a) (eqb-true i n e) q) f in subst (λ y. Deep y (g v)) (sym same) (k v (subst (λ y. Deep y v) same (h a q))))
      go false e = h
  payload_kept n t u g (number m) k h f = h
  payload_kept n t u g nil k h f = h
  payload_kept n t u g (cons v vs) k h f = h
  payload_kept n t u g (pointer a) k h f = h
  payload_kept n t u g hole k h f = h

  inner_kept : (q : Proj) (t u : Tree) (g : Value → Value) (v : Value) → Keeps u g → Deep t v → proj_ty D t q ≡ Some u → Deep t (change_inner q g v)
  inner_kept (Field i) t u g v k h f = let (us, r, f') = bind_some f in part_kept i t us u g v k h r f'
  inner_kept (Downcast n) t u g v k h f = payload_kept n t u g v k h f
  inner_kept Deref t u g v k h f = h

  -- a deep value at a path keeps it: a whole one, or one of a type that needs no drop
  pub put_deep : (ps : List Proj) (t u : Tree) (w v : Value) → Deep u w → Deep t v → path_ty D t ps ≡ Some u → Deep t (put ps w v)
  put_deep [] t u w v hw h f = subst (λ y. Deep y w) (let q : u ≡ t = grind arith in q) hw
  put_deep (q ∷ ps) t u w v hw h f =
      let (t', f1, f2) = bind_some f in
      inner_kept q t t' (put ps w) v (λ x hx. put_deep ps t' u w x hw hx f2) h f1

  -- ---- loose values: a hole may stand at a unit, and a unit that is no hole is deep

  abbrev pub Loose : Tree → Value → Type 0
  Loose t hole = Unit {0}
  Loose t (cons v vs) = (is_some (destructor_of D t) ≡ true → Deep t (cons v vs)) × ((u us : Tree) → fields_of D t ≡ Some (more u us) → Loose u v × Loose us vs)
  Loose t (variant k v) = Deep t (variant k v)
  Loose t _ = Unit {0}

  pub deep_loose : (v : Value) (t : Tree) → Deep t v → Loose t v
  deep_loose hole t h = tt
  deep_loose (cons v vs) t h = (λ z. h, λ u us e. (let (a, b) = h u us e in (deep_loose v u a, deep_loose vs us b)))
  deep_loose (variant k v) t h = h
  deep_loose (number n) t h = tt
  deep_loose nil t h = tt
  deep_loose (pointer a) t h = tt

  abbrev KeepsLoose : Tree → (Value → Value) → Type 0
  KeepsLoose u g = (x : Value) → Loose u x → Loose u (g x)

  -- a field of a tuple, or of a struct: of one with a destructor the whole is deep afterwards
  loose_part : (i : ℕ) (t us u : Tree) (g : Value → Value) (v : Value) → KeepsLoose u g → (is_some (destructor_of D t) ≡ true → Deep t v → Deep t (change_part i g v)) → Loose t v → fields_of D t ≡ Some us → field_ty us i ≡ Some u → Loose t (change_part i g v)
  loose_part zero t us u g (cons v vs) k dk h r f =
      (λ z. dk z (h.0 z), λ a as' e. (let same : us ≡ more a as' = some_eq D (λ f x. None) us (more a as') (fields_of D t) r e in let q : a ≡ u = first us u f a as' same in (subst (λ y. Loose y (g v)) (sym q) (k v (subst (λ y. Loose y v) q (h.1 a as' e).0)), (h.1 a as' e).1)))
  loose_part (suc i) t us u g (cons v vs) k dk h r f =
      (λ z. dk z (h.0 z), λ a as' e. (let same : us ≡ more a as' = some_eq D (λ f x. None) us (more a as') (fields_of D t) r e in let f' : field_ty as' i ≡ Some u = subst (λ y. field_ty y (suc i) ≡ Some u) same f in ((h.1 a as' e).0, loose_part i as' as' u g vs k (row_calm as' i f') (h.1 a as' e).1 (row_of_row i as' u f') f')))
    where
      row_calm : (b : Tree) (i : ℕ) → field_ty b i ≡ Some u → is_some (destructor_of D b) ≡ true → Deep b vs → Deep b (change_part i g vs)
      row_calm (more c d) i f z h = absurd (grind arith)
      row_calm (scalar s) i f z h = absurd (grind arith)
      row_calm empty i f z h = absurd (grind arith)
      row_calm (tree.ref t) i f z h = absurd (grind arith)
      row_calm (tree.ref_mut t) i f z h = absurd (grind arith)
      row_calm (named e) i f z h = absurd (grind arith)
  loose_part zero t us u g (number n) k dk h r f = h
  loose_part zero t us u g nil k dk h r f = h
  loose_part zero t us u g (variant n v) k dk h r f = h
  loose_part zero t us u g (pointer a) k dk h r f = h
  loose_part zero t us u g hole k dk h r f = h
  loose_part (suc i) t us u g (number n) k dk h r f = h
  loose_part (suc i) t us u g nil k dk h r f = h
  loose_part (suc i) t us u g (variant n v) k dk h r f = h
  loose_part (suc i) t us u g (pointer a) k dk h r f = h
  loose_part (suc i) t us u g hole k dk h r f = h

  -- a deep value is written: a whole one, or one of a type that needs no drop
  pub put_loose : (ps : List Proj) (t u : Tree) (w v : Value) → Deep u w → Loose t v → path_ty D t ps ≡ Some u → Loose t (put ps w v)
  put_loose [] t u w v hw h f = deep_loose w t (subst (λ y. Deep y w) (let q : u ≡ t = grind arith in q) hw)
  put_loose (Field i ∷ ps) t u w v hw h f =
      let (t', f1, f2) = bind_some f in
      let (us, r, f3) = bind_some f1 in
      loose_part i t us t' (put ps w) v (λ x hx. put_loose ps t' u w x hw hx f2) (λ z dv. put_deep (Field i ∷ ps) t u w v hw dv f) h r f3
  put_loose (Downcast k ∷ ps) t u w (variant n v) hw h f = put_deep (Downcast k ∷ ps) t u w (variant n v) hw h f
  put_loose (Downcast k ∷ ps) t u w (number n) hw h f = h
  put_loose (Downcast k ∷ ps) t u w nil hw h f = h
  put_loose (Downcast k ∷ ps) t u w (cons v vs) hw h f = h
  put_loose (Downcast k ∷ ps) t u w (pointer a) hw h f = h
  put_loose (Downcast k ∷ ps) t u w hole hw h f = h
  put_loose (Deref ∷ ps) t u w v hw h f = h

  -- a blank is written at a place without a downcast that goes through no type with a destructor
  pub put_blank : (ps : List Proj) (t u : Tree) (w v : Value) → Loose u w → Loose t v → path_ty D t ps ≡ Some u → is_direct ps ≡ true → path_through D (Some t) ps ≡ false → Loose t (put ps w v)
  put_blank [] t u w v hw h f di th = subst (λ y. Loose y w) (let q : u ≡ t = grind arith in q) hw
  put_blank (Field i ∷ ps) t u w v hw h f di th =
      let (t', f1, f2) = bind_some f in
      let (us, r, f3) = bind_some f1 in
      let th' : path_through D (Some t') ps ≡ false = ap (λ o. path_through D o ps) (sym f1) ∙ or_second (is_some (destructor_of D t)) (path_through D (proj_ty D t (Field i)) ps) th in
      loose_part i t us t' (put ps w) v (λ x hx. put_blank ps t' u w x hw hx f2 di th') (λ z dv. absurd (let q : true ≡ false = sym z ∙ or_first (is_some (destructor_of D t)) (path_through D (proj_ty D t (Field i)) ps) th in grind arith)) h r f3
    where
      or_first : (a b : Bool) → (a || b) ≡ false → a ≡ false
      or_first true b e = absurd (grind arith)
      or_first false b e = refl

      or_second : (a b : Bool) → (a || b) ≡ false → b ≡ false
      or_second true b e = absurd (grind arith)
      or_second false b e = e
  put_blank (Downcast k ∷ ps) t u w v hw h f di th = absurd (grind arith)
  put_blank (Deref ∷ ps) t u w v hw h f di th = absurd (grind arith)

  -- ---- the blank of a type is loose

  not_both : (a b : Bool) → (a || b) ≡ false → (a ≡ false) × (b ≡ false)
  not_both true b e = absurd (grind arith)
  not_both false b e = (refl, e)

  destructor_is : (d : ℕ) (s : Shape) → slice_get D d ≡ Some s → destructor_of D (named d) ≡ s.destructor
  destructor_is d s e = some_bind (λ s. s.destructor) e refl

  as_struct : (d : ℕ) (s : Shape) → slice_get D d ≡ Some s → is_unit s ≡ false → IsTuple (struct_fields s) → (v : Value) → Loose (struct_fields s) v → Loose (named d) v
  as_struct d s e nu it (cons v vs) h = (
    λ z. absurd (let q : false ≡ true = sym (not_both s.is_enum (is_some s.destructor) nu).1 ∙ ap is_some (sym (destructor_is d s e)) ∙ z in grind arith),
    λ u us q. h.1 u us (row (struct_fields s) it (more u us) (fields d s e nu (more u us) q)),
  )
    where
      fields : (d : ℕ) (s : Shape) → slice_get D d ≡ Some s → is_unit s ≡ false → (us : Tree) → fields_of D (named d) ≡ Some us → struct_fields s ≡ us
      fields d s e nu us q =
          let (x, e1, e2) = bind_some q in
          let z : x ≡ s = let y : Some x ≡ Some s = sym e1 ∙ e in grind arith in
          let y : Some (struct_fields s) ≡ Some us = sym (ap (λ b. if b then None else Some (struct_fields s)) (not_both s.is_enum (is_some s.destructor) nu).0) ∙ subst (λ x. fields_of_struct x ≡ Some us) z e2 in grind arith

      row : (t : Tree) → IsTuple t → (us : Tree) → t ≡ us → fields_of D t ≡ Some us
      row empty it us q = ap (λ t. Some t) q
      row (more a b) it us q = ap (λ t. Some t) q
      row (scalar a) it us q = absurd it
      row (tree.ref a) it us q = absurd it
      row (tree.ref_mut a) it us q = absurd it
      row (named a) it us q = absurd it
  as_struct d s e nu it (variant k v) h = λ u q. absurd (none u q)
    where
      none : (u : Tree) → variant_ty D (named d) k ≡ Some u → ⊥
      none u q =
          let (x, e1, e2) = bind_some q in
          let z : x ≡ s = let y : Some x ≡ Some s = sym e1 ∙ e in grind arith in
          let y : None ≡ Some u = sym (ap (λ b. if b then slice_get s.variants k else None) (not_both s.is_enum (is_some s.destructor) nu).0) ∙ subst (λ x. variant_of_enum k x ≡ Some u) z e2 in grind arith
  as_struct d s e nu it (number n) h = tt
  as_struct d s e nu it nil h = tt
  as_struct d s e nu it (pointer a) h = tt
  as_struct d s e nu it hole h = tt

  loose_by : (of_def : ℕ → Value) → ((d : ℕ) → Loose (named d) (of_def d)) → (t : Tree) → Loose t (blank_by of_def t)
  loose_by of_def k (scalar s) = tt
  loose_by of_def k empty = tt
  loose_by of_def k (more t ts) = (λ z. absurd (grind arith), λ u us e. (subst (λ y. Loose y (blank_by of_def t)) (let q : t ≡ u = grind arith in q) (loose_by of_def k t), subst (λ y. Loose y (blank_by of_def ts)) (let q : ts ≡ us = grind arith in q) (loose_by of_def k ts)))
  loose_by of_def k (tree.ref t) = tt
  loose_by of_def k (tree.ref_mut t) = tt
  loose_by of_def k (named d) = k d

  module _ (proper : ProperShapes D) where
    loose_def : (n d : ℕ) → Loose (named d) (blank_def D n d)
    loose_def zero d = tt
    loose_def (suc n) d = go (slice_get D d) refl (λ k. loose_def n k)
      where
        fields : (s : Shape) → slice_get D d ≡ Some s → IsTuple (struct_fields s)
        fields s e = first_row s.variants (proper d s e)
          where
            first_row : (ts : List Tree) → ((k : ℕ) (t : Tree) → slice_get ts k ≡ Some t → IsTuple t × Proper t) → IsTuple (first_variant ts)
            first_row [] h = tt
            first_row (t ∷ ts) h = (h 0 t refl).0

        go : (o : Option Shape) → slice_get D d ≡ o → ((k : ℕ) → Loose (named k) (blank_def D n k)) → Loose (named d) (blank_of (blank_def D n) o)
        go None e ih = tt
        go (Some s) e ih = pick (is_unit s) refl
          where
            pick : (b : Bool) → is_unit s ≡ b → Loose (named d) (if b then hole else blank_by (blank_def D n) (struct_fields s))
            pick true u = tt
            pick false u = as_struct d s e u (fields s e) (blank_by (blank_def D n) (struct_fields s)) (loose_by (blank_def D n) ih (struct_fields s))

    pub blank_loose : (t : Tree) → Loose t (blank D t)
    unfolding blank
    blank_loose t = loose_by (blank_def D (length D)) (λ d. loose_def (length D) d) t

  -- ---- a unit that is no hole is deep

  pub unit_deep : (G : TypeMap) (d : ℕ) (s : Shape) (v : Value) → slice_get D d ≡ Some s → is_unit s ≡ true → HasTy D G (named d) v → Loose (named d) v → is_hole v ≡ false → Deep (named d) v
  unit_deep G d s hole e un ty h l = absurd (grind arith)
  unit_deep G d s (number n) e un ty h l = tt
  unit_deep G d s nil e un ty h l = tt
  unit_deep G d s (pointer a) e un ty h l = tt
  unit_deep G d s (variant k v) e un ty h l = h
  unit_deep G d s (cons v vs) e un (u, us, f, tv, tvs) h l = h.0 (ap is_some (destructor_is d s e) ∙ no_enum s.is_enum refl)
    where
      no_enum : (b : Bool) → s.is_enum ≡ b → is_some s.destructor ≡ true
      no_enum false en = sym (ap (λ b. b || is_some s.destructor) en) ∙ un
      no_enum true en =
          let (x, e1, e2) = bind_some f in
          let z : x ≡ s = let y : Some x ≡ Some s = sym e1 ∙ e in grind arith in
          absurd (let y : None ≡ Some (more u us) = sym (ap (λ b. if b then None else Some (struct_fields s)) en) ∙ subst (λ x. fields_of_struct x ≡ Some (more u us)) z e2 in grind arith)
