-- A value of a type whose fields are there has a value for each of them.
use Rattle.std.proofs.Common.{◌≡◌, refl, sym, ap, ◌∙◌, subst, ℕ, zero, suc, Bool, true, false, if◌then◌else◌, Option, Some, None, slice_get, List, arith}
use Rattle.mir_syntax.specs.Tree.{Tree, scalar, empty, more, ref, ref_mut, named}
use Rattle.mir_syntax.specs.Shapes.{Shape, ◌>>=◌, struct_fields, fields_of, fields_of_struct, field_ty, variant_ty, variant_of_enum, pointee}
use Rattle.mir_semantics.specs.Values.{Value, number, nil, cons, variant, pointer, hole, part}
use Rattle.mir_renaming.proofs.Types.{TypeMap, HasTy, can_hole, is_scalar, more_eq, as_rows}
use Rattle.sroa_pass.proofs.Fields.{Rows}
use Rattle.sroa_pass.proofs.refines.Nested.{Alongside}

module _ (D : List Shape) (G : TypeMap) where
  rows_part : (i : ℕ) (us u : Tree) (v : Value) → HasTy D G us v → field_ty us i ≡ Some u → (w : Value) × (part i v ≡ Some w)
  rows_part zero (more x xs) u (cons v vs) h e = (v, refl)
  rows_part (suc i) (more x xs) u (cons v vs) (a, as', q, h, hs) e =
      let (_, same) = more_eq D G x xs a as' q in
      rows_part i xs u vs (subst (λ y. HasTy D G y vs) (sym same) hs) e
  rows_part i (more x xs) u nil h e = absurd (grind arith)
  rows_part i (more x xs) u (number n) h e = absurd (grind arith)
  rows_part i (more x xs) u (variant k v) (t, q, h) e = absurd (grind arith)
  rows_part i (more x xs) u (pointer a) (t, q, h) e = absurd (grind arith)
  rows_part i (more x xs) u hole h e = absurd (grind arith)
  rows_part i empty u v h e = absurd (grind arith)
  rows_part i (scalar s) u v h e = absurd (grind arith)
  rows_part i (ref t) u v h e = absurd (grind arith)
  rows_part i (ref_mut t) u v h e = absurd (grind arith)
  rows_part i (named d) u v h e = absurd (grind arith)

  no_enum : (o : Option Shape) (us u : Tree) (k : ℕ) → (o >>= fields_of_struct) ≡ Some us → (o >>= variant_of_enum k) ≡ Some u → ⊥
  unfolding ◌>>=◌
  no_enum None us u k e f = let z : ◌≡◌ {A = Option Tree} None (Some us) = e in grind arith
  no_enum (Some s) us u k e f = go s.is_enum refl
    where
      go : (b : Bool) → s.is_enum ≡ b → ⊥
      go true q = (let z : fields_of_struct s ≡ None = ap (λ b. if b then None else Some (struct_fields s)) q in let y : None ≡ Some us = sym z ∙ e in grind arith)
      go false q = (let z : variant_of_enum k s ≡ None = ap (λ b. if b then slice_get s.variants k else None) q in let y : None ≡ Some u = sym z ∙ f in grind arith)

  no_variant : (t us u : Tree) (k : ℕ) → fields_of D t ≡ Some us → variant_ty D t k ≡ Some u → ⊥
  no_variant (named d) us u k e f = no_enum (slice_get D d) us u k e f
  no_variant t us u k e f = grind arith

  no_pointer : (t us u : Tree) → fields_of D t ≡ Some us → pointee t ≡ Some u → ⊥
  no_pointer t us u e f = grind arith

  pub part_there : (i : ℕ) (t us u : Tree) (v : Value) → HasTy D G t v → can_hole D t ≡ false → fields_of D t ≡ Some us → field_ty us i ≡ Some u → (w : Value) × (part i v ≡ Some w)
  part_there i t us u (cons v vs) (a, as', q, h, hs) c r e = rows_part i (more a as') u (cons v vs) (a, as', refl, h, hs) (subst (λ us. field_ty us i ≡ Some u) (let z : us ≡ more a as' = (let k : Some us ≡ Some (more a as') = sym r ∙ q in grind arith) in z) e)
  part_there i t us u nil h c r e = absurd (let k : Some us ≡ Some empty = sym r ∙ h in let z : us ≡ empty = grind arith in let y : field_ty empty i ≡ Some u = subst (λ us. field_ty us i ≡ Some u) z e in grind arith)
  part_there i t us u (number n) h c r e = absurd (is_number t r h)
    where
      is_number : (t : Tree) → fields_of D t ≡ Some us → is_scalar t ≡ true → ⊥
      is_number t r h = grind arith
  part_there i t us u (variant k v) (x, q, h) c r e = absurd (no_variant t us x k r q)
  part_there i t us u (pointer a) (x, q, h) c r e = absurd (no_pointer t us x r q)
  part_there i t us u hole h c r e = absurd (let k : ◌≡◌ {A = Bool} true false = sym h ∙ c in grind arith)

  -- as a list of its fields
  pub rows_ty : (t us : Tree) (v : Value) → HasTy D G t v → can_hole D t ≡ false → fields_of D t ≡ Some us → (u us' : Tree) → us ≡ more u us' → HasTy D G us v
  rows_ty t us (cons v vs) h c r u us' m = as_rows D G t us v vs h r
  rows_ty t us nil h c r u us' m = absurd (let k : Some (more u us') ≡ Some empty = ap (λ t. Some t) (sym m) ∙ sym r ∙ h in grind arith)
  rows_ty t us (number n) h c r u us' m = absurd (is_number t r h)
    where
      is_number : (t : Tree) → fields_of D t ≡ Some us → is_scalar t ≡ true → ⊥
      is_number t r h = grind arith
  rows_ty t us (variant k v) (x, q, h) c r u us' m = absurd (no_variant t us x k r q)
  rows_ty t us (pointer a) (x, q, h) c r u us' m = absurd (no_pointer t us x r q)
  rows_ty t us hole h c r u us' m = absurd (let k : ◌≡◌ {A = Bool} true false = sym h ∙ c in grind arith)

  -- and each part is one of its fields
  pub part_field : (k : ℕ) (us : Tree) (v w : Value) → HasTy D G us v → Rows us → part k v ≡ Some w → (u : Tree) × (field_ty us k ≡ Some u)
  part_field zero (more t ts) v w h ro e = (t, refl)
  part_field (suc k) (more t ts) (cons v vs) w (a, as', q, h, hs) ro e = let (_, same) = more_eq D G t ts a as' q in part_field k ts vs w (subst (λ y. HasTy D G y vs) (sym same) hs) ro e
  part_field (suc k) (more t ts) v w h ro e = absurd (grind arith)
  part_field k empty (cons v vs) w (a, as', q, h, hs) ro e = absurd (let z : ◌≡◌ {A = Option Tree} (Some empty) (Some (more a as')) = q in grind arith)
  part_field zero empty v w h ro e = absurd (grind arith)
  part_field (suc k) empty v w h ro e = absurd (grind arith)
  part_field k (scalar s) v w h ro e = absurd ro
  part_field k (ref t) v w h ro e = absurd ro
  part_field k (ref_mut t) v w h ro e = absurd ro
  part_field k (named d) v w h ro e = absurd ro

  -- two lists of one type have one length
  pub alongside : (us : Tree) (v w : Value) → HasTy D G us v → HasTy D G us w → Rows us → Alongside v w
  alongside (more t ts) (cons v vs) (cons w ws) (a, as', q, h, hs) (b, bs, q', h', hs') ro =
      let (_, s1) = more_eq D G t ts a as' q in
      let (_, s2) = more_eq D G t ts b bs q' in
      alongside ts vs ws (subst (λ y. HasTy D G y vs) (sym s1) hs) (subst (λ y. HasTy D G y ws) (sym s2) hs') ro
  alongside empty nil nil h h' ro = tt
  alongside empty (cons v vs) w (a, as', q, h, hs) h' ro = absurd (let z : ◌≡◌ {A = Option Tree} (Some empty) (Some (more a as')) = q in grind arith)
  alongside empty nil (cons v vs) h (a, as', q, h', hs) ro = absurd (let z : ◌≡◌ {A = Option Tree} (Some empty) (Some (more a as')) = q in grind arith)
  alongside empty nil w h h' ro = absurd (no_empty w h')
    where
      no_empty : (w : Value) → HasTy D G empty w → ⊥
      no_empty w h = grind arith
  alongside (scalar s) v w h h' ro = absurd ro
  alongside (ref t) v w h h' ro = absurd ro
  alongside (ref_mut t) v w h h' ro = absurd ro
  alongside (named d) v w h h' ro = absurd ro
  alongside us v w h h' ro = absurd (grind arith)
