-- Values that have no hole where others have parts: a home once filled has parts wherever a member of its group has.
use Rattle.std.proofs.Common.{◌≡◌, refl, sym, ◌∙◌, subst, ℕ, zero, suc, Bool, true, false, if◌then◌else◌, List, [], ◌∷◌, Option, Some, None, slice_get, arith}
use Rattle.std.proofs.lemmas.Bool.{and_parts}
use Rattle.mir_syntax.specs.declared.body.Proj.{Proj}
use Rattle.mir_syntax.specs.declared.body.Proj.TheVariants.{Field, Downcast, Deref}
use Rattle.mir_syntax.specs.Tree.{Tree, scalar, empty, more, ref, ref_mut, named}
use Rattle.mir_syntax.specs.Shapes.{Shape, struct_fields, fields_of, fields_of_struct, variant_ty, pointee}
use Rattle.mir_syntax.specs.Parts.{is_direct}
use Rattle.mir_syntax.proofs.Binds.{bind_some, some_bind}
use Rattle.mir_semantics.specs.Values.{Value, number, nil, cons, variant, pointer, hole, whole, part, at_path, change_part, put}
use Rattle.mir_renaming.specs.Renaming.{Renaming, ValueRel}
use Rattle.mir_renaming.proofs.Types.{TypeMap, HasTy, is_scalar, more_eq}

-- where the first is a list, the second is no hole, and their parts alike
abbrev pub Fills : Value → Value → Type 0
Fills (cons v vs) (cons w ws) = Fills v w × Fills vs ws
Fills (cons v vs) hole = ⊥
Fills v w = Unit {0}

pub rel_fills : (j : Renaming) (v w : Value) → ValueRel j v w → Fills v w
rel_fills j (cons v vs) (cons w ws) h = (rel_fills j v w h.0, rel_fills j vs ws h.1)
rel_fills j (cons v vs) (number n) h = tt
rel_fills j (cons v vs) nil h = tt
rel_fills j (cons v vs) (variant k w) h = tt
rel_fills j (cons v vs) (pointer a) h = tt
rel_fills j (cons v vs) hole h = h
rel_fills j (number n) w h = tt
rel_fills j nil w h = tt
rel_fills j (variant k v) w h = tt
rel_fills j (pointer a) w h = tt
rel_fills j hole w h = tt

pub whole_fills : (v w : Value) → whole w ≡ true → Fills v w
whole_fills (cons v vs) (cons w ws) h = (let p = and_parts (whole w) (whole ws) h in (whole_fills v w p.0, whole_fills vs ws p.1))
whole_fills (cons v vs) (number n) h = tt
whole_fills (cons v vs) nil h = tt
whole_fills (cons v vs) (variant k w) h = tt
whole_fills (cons v vs) (pointer a) h = tt
whole_fills (cons v vs) hole h = absurd (grind arith)
whole_fills (number n) w h = tt
whole_fills nil w h = tt
whole_fills (variant k v) w h = tt
whole_fills (pointer a) w h = tt
whole_fills hole w h = tt

-- a variant is no hole, and has no list in it that counts
pub variant_fills : (v u : Value) (k : ℕ) → Fills v (variant k u)
variant_fills (cons v vs) u k = tt
variant_fills (number n) u k = tt
variant_fills nil u k = tt
variant_fills (variant i v) u k = tt
variant_fills (pointer a) u k = tt
variant_fills hole u k = tt

-- ---- writes

-- of both
module _ (f g : Value → Value) (keeps : (v w : Value) → Fills v w → Fills (f v) (g w)) where
  part_both : (i : ℕ) (v w : Value) → Fills v w → Fills (change_part i f v) (change_part i g w)
  part_both zero (cons v vs) (cons w ws) h = (keeps v w h.0, h.1)
  part_both (suc i) (cons v vs) (cons w ws) h = (h.0, part_both i vs ws h.1)
  part_both i (cons v vs) hole h = absurd h
  part_both zero (cons v vs) (number m) h = tt
  part_both (suc i) (cons v vs) (number m) h = tt
  part_both zero (cons v vs) nil h = tt
  part_both (suc i) (cons v vs) nil h = tt
  part_both zero (cons v vs) (variant m w) h = tt
  part_both (suc i) (cons v vs) (variant m w) h = tt
  part_both zero (cons v vs) (pointer a) h = tt
  part_both (suc i) (cons v vs) (pointer a) h = tt
  part_both zero (number n) w h = tt
  part_both zero nil w h = tt
  part_both zero (variant k v) w h = tt
  part_both zero (pointer b) w h = tt
  part_both zero hole w h = tt
  part_both (suc i) (number n) w h = tt
  part_both (suc i) nil w h = tt
  part_both (suc i) (variant k v) w h = tt
  part_both (suc i) (pointer b) w h = tt
  part_both (suc i) hole w h = tt

pub put_both : (ps : List Proj) (v' w' : Value) → Fills v' w' → (v w : Value) → Fills v w → Fills (put ps v' v) (put ps w' w)
put_both [] v' w' h v w k = h
put_both (Field i ∷ ps) v' w' h v w k = part_both (put ps v') (put ps w') (put_both ps v' w' h) i v w k
put_both (Downcast n ∷ ps) v' w' h (cons v vs) (cons w ws) k = k
put_both (Downcast n ∷ ps) v' w' h (cons v vs) hole k = absurd k
put_both (Downcast n ∷ ps) v' w' h (cons v vs) (number m) k = tt
put_both (Downcast n ∷ ps) v' w' h (cons v vs) nil k = tt
put_both (Downcast n ∷ ps) v' w' h (cons v vs) (variant m w) k = tt
put_both (Downcast n ∷ ps) v' w' h (cons v vs) (pointer a) k = tt
put_both (Downcast n ∷ ps) v' w' h (number m) w k = tt
put_both (Downcast n ∷ ps) v' w' h nil w k = tt
put_both (Downcast n ∷ ps) v' w' h (variant m v) w k = tt
put_both (Downcast n ∷ ps) v' w' h (pointer a) w k = tt
put_both (Downcast n ∷ ps) v' w' h hole w k = tt
put_both (Deref ∷ ps) v' w' h v w k = k

-- of the second alone
part_second : (ps : List Proj) (w' : Value) → ((v w : Value) → Fills v w → Fills v (put ps w' w)) → (i : ℕ) (v w : Value) → Fills v w → Fills v (change_part i (put ps w') w)
part_second ps w' keeps zero (cons v vs) (cons w ws) h = (keeps v w h.0, h.1)
part_second ps w' keeps (suc i) (cons v vs) (cons w ws) h = (h.0, part_second ps w' keeps i vs ws h.1)
part_second ps w' keeps i (cons v vs) hole h = absurd h
part_second ps w' keeps zero (cons v vs) (number m) h = tt
part_second ps w' keeps (suc i) (cons v vs) (number m) h = tt
part_second ps w' keeps zero (cons v vs) nil h = tt
part_second ps w' keeps (suc i) (cons v vs) nil h = tt
part_second ps w' keeps zero (cons v vs) (variant m w) h = tt
part_second ps w' keeps (suc i) (cons v vs) (variant m w) h = tt
part_second ps w' keeps zero (cons v vs) (pointer a) h = tt
part_second ps w' keeps (suc i) (cons v vs) (pointer a) h = tt
part_second ps w' keeps i (number n) w h = tt
part_second ps w' keeps i nil w h = tt
part_second ps w' keeps i (variant k v) w h = tt
part_second ps w' keeps i (pointer b) w h = tt
part_second ps w' keeps i hole w h = tt

pub put_second : (ps : List Proj) (w' : Value) → ((o : Value) → Fills o w') → (v w : Value) → Fills v w → Fills v (put ps w' w)
put_second [] w' a v w h = a v
put_second (Field i ∷ ps) w' a v w h = part_second ps w' (put_second ps w' a) i v w h
put_second (Downcast n ∷ ps) w' a (cons v vs) (cons w ws) h = h
put_second (Downcast n ∷ ps) w' a (cons v vs) hole h = absurd h
put_second (Downcast n ∷ ps) w' a (cons v vs) (number m) h = tt
put_second (Downcast n ∷ ps) w' a (cons v vs) nil h = tt
put_second (Downcast n ∷ ps) w' a (cons v vs) (variant m w) h = tt
put_second (Downcast n ∷ ps) w' a (cons v vs) (pointer b) h = tt
put_second (Downcast n ∷ ps) w' a (number m) w h = tt
put_second (Downcast n ∷ ps) w' a nil w h = tt
put_second (Downcast n ∷ ps) w' a (variant m v) w h = tt
put_second (Downcast n ∷ ps) w' a (pointer b) w h = tt
put_second (Downcast n ∷ ps) w' a hole w h = tt
put_second (Deref ∷ ps) w' a v w h = h

-- ---- values of one type

-- where the first is a list, so is the second, and their parts alike
abbrev Opens : Value → Value → Type 0
Opens (cons v vs) (cons w ws) = Opens v w × Opens vs ws
Opens (cons v vs) w = ⊥
Opens v w = Unit {0}

module _ (D : List Shape) (G1 G2 : TypeMap) where
  num_rows : (t us : Tree) → is_scalar t ≡ true → fields_of D t ≡ Some us → ⊥
  num_rows (scalar s) us h r = grind arith
  num_rows empty us h r = grind arith
  num_rows (more a b) us h r = grind arith
  num_rows (ref t) us h r = grind arith
  num_rows (ref_mut t) us h r = grind arith
  num_rows (named d) us h r = grind arith

  pointer_rows : (t us u : Tree) → pointee t ≡ Some u → fields_of D t ≡ Some us → ⊥
  pointer_rows (scalar s) us u h r = grind arith
  pointer_rows empty us u h r = grind arith
  pointer_rows (more a b) us u h r = grind arith
  pointer_rows (ref t) us u h r = grind arith
  pointer_rows (ref_mut t) us u h r = grind arith
  pointer_rows (named d) us u h r = grind arith

  variant_rows : (t us u : Tree) (k : ℕ) → variant_ty D t k ≡ Some u → fields_of D t ≡ Some us → ⊥
  variant_rows (named d) us u k h r =
      let (x, e1, e2) = bind_some h in
      let (y, f1, f2) = bind_some r in
      let same : x ≡ y = (let z : Some x ≡ Some y = sym e1 ∙ f1 in grind arith) in
      go x x.is_enum e2 (subst (λ y. fields_of_struct y ≡ Some us) (sym same) f2)
    where
      go : (x : Shape) (b : Bool) → (if b then slice_get x.variants k else None) ≡ Some u → (if b then None else Some (struct_fields x)) ≡ Some us → ⊥
      go x true e f = grind arith
      go x false e f = grind arith
  variant_rows (scalar s) us u k h r = grind arith
  variant_rows empty us u k h r = grind arith
  variant_rows (more a b) us u k h r = grind arith
  variant_rows (ref t) us u k h r = grind arith
  variant_rows (ref_mut t) us u k h r = grind arith

  opens : (t : Tree) (v w : Value) → HasTy D G1 t v → HasTy D G2 t w → Fills v w → Opens v w
  opens t (cons v vs) (cons w ws) (a, as', e, h, hs) (c, cs, f, k, ks) fl =
      let (s, ss) = more_eq D G1 a as' c cs (sym e ∙ f) in
      (opens c v w (subst (λ y. HasTy D G1 y v) s h) k fl.0, opens cs vs ws (subst (λ y. HasTy D G1 y vs) ss hs) ks fl.1)
  opens t (cons v vs) (number n) (a, as', e, h, hs) k fl = num_rows t (more a as') k e
  opens t (cons v vs) nil (a, as', e, h, hs) k fl = (let z : ◌≡◌ {A = Option Tree} (Some (more a as')) (Some empty) = sym e ∙ k in grind arith)
  opens t (cons v vs) (variant i w) (a, as', e, h, hs) (u, k, l) fl = variant_rows t (more a as') u i k e
  opens t (cons v vs) (pointer b) (a, as', e, h, hs) (u, k, l) fl = pointer_rows t (more a as') u k e
  opens t (cons v vs) hole h k fl = fl
  opens t (number n) w h k fl = tt
  opens t nil w h k fl = tt
  opens t (variant i v) w h k fl = tt
  opens t (pointer a) w h k fl = tt
  opens t hole w h k fl = tt

-- ---- what has parts

part_there : (i : ℕ) (v w u : Value) → Opens v w → part i v ≡ Some u → (x : Value) × (part i w ≡ Some x) × Opens u x
part_there zero (cons v vs) (cons w ws) u h e = (w, refl, subst (λ u. Opens u w) (let z : v ≡ u = grind arith in z) h.0)
part_there (suc i) (cons v vs) (cons w ws) u h e = part_there i vs ws u h.1 e
part_there i (cons v vs) (number n) u h e = absurd h
part_there i (cons v vs) nil u h e = absurd h
part_there i (cons v vs) (variant k w) u h e = absurd h
part_there i (cons v vs) (pointer a) u h e = absurd h
part_there i (cons v vs) hole u h e = absurd h
part_there zero (number n) w u h e = absurd (grind arith)
part_there (suc i) (number n) w u h e = absurd (grind arith)
part_there zero nil w u h e = absurd (grind arith)
part_there (suc i) nil w u h e = absurd (grind arith)
part_there zero (variant k v) w u h e = absurd (grind arith)
part_there (suc i) (variant k v) w u h e = absurd (grind arith)
part_there zero (pointer a) w u h e = absurd (grind arith)
part_there (suc i) (pointer a) w u h e = absurd (grind arith)
part_there zero hole w u h e = absurd (grind arith)
part_there (suc i) hole w u h e = absurd (grind arith)

direct_there : (ps : List Proj) (v w u : Value) → is_direct ps ≡ true → Opens v w → at_path ps v ≡ Some u → (x : Value) × (at_path ps w ≡ Some x)
direct_there [] v w u d h e = (w, refl)
direct_there (Field i ∷ ps) v w u d h e =
    let (v1, e1, e2) = bind_some e in
    let (w1, f1, h1) = part_there i v w v1 h e1 in
    let (x, f2) = direct_there ps v1 w1 u d h1 e2 in
    (x, some_bind _ f1 f2)
direct_there (Downcast k ∷ ps) v w u d h e = absurd (grind arith)
direct_there (Deref ∷ ps) v w u d h e = absurd (grind arith)

-- a direct part of the first is one of the second, where both have one type
pub path_there : (D : List Shape) (G1 G2 : TypeMap) (t : Tree) (ps : List Proj) (v w u : Value) → HasTy D G1 t v → HasTy D G2 t w → Fills v w → is_direct ps ≡ true → at_path ps v ≡ Some u → (x : Value) × (at_path ps w ≡ Some x)
path_there D G1 G2 t ps v w u hv hw fl d e = direct_there ps v w u d (opens D G1 G2 t v w hv hw fl) e
