-- What resolving a place gives: an address in its own local, or what references stand for; a solid place is there in any value of its type.
use Rattle.std.proofs.Common.{◌≡◌, refl, sym, ap, ap₂, ◌∙◌, subst, ℕ, zero, suc, Bool, true, false, not, ◌&&◌, ◌||◌, if◌then◌else◌, List, [], ◌∷◌, ◌++◌, Option, Some, None, is_some, slice_get, arith, append_assoc}
use Rattle.mir_syntax.specs.declared.body.Proj.{Proj}
use Rattle.mir_syntax.specs.declared.body.Proj.TheVariants.{Field, Downcast, Deref}
use Rattle.mir_syntax.specs.Tree.{Tree, scalar, empty, more, named}
use Rattle.mir_syntax.specs.Tree as tree
use Rattle.mir_syntax.specs.Shapes.{Shape, struct_fields, fields_of_struct, fields_of, field_ty, variant_ty, pointee, proj_ty, path_ty, destructor_of}
use Rattle.mir_semantics.specs.Values.{Addr, Value, number, nil, cons, variant, pointer, hole, part, inner, at_path}
use Rattle.mir_semantics.specs.Memory.{Memory, local_at, value_at, further, there, project, walk}
use Rattle.mir_syntax.specs.Parts.{has_deref}
use Rattle.mir_renaming.specs.Renaming.{Renaming, AddrRel, Sub, MemRel, AddrThere}
use Rattle.mir_syntax.proofs.Binds.{bind_some, some_bind}
use Rattle.mir_renaming.proofs.Memory.{there_rel, referent_rel, value_at_rel, further_rel, walk_rel}
use Rattle.mir_renaming.proofs.Types.{TypeMap, HasTy, is_scalar, can_hole, holds_by, some_eq, more_eq, as_rows, at_path_ty}
use Rattle.mir_renaming.specs.Places.{solid, is_nil}
use Rattle.mir_renaming.proofs.Stores.{root_of}

-- places without a dereference
there_same : (o : Option Value) (a b : Addr) → there o a ≡ Some b → b ≡ a
there_same None a b e = absurd (grind arith)
there_same (Some v) a b e = grind arith

abbrev pub Beneath : Addr → List Proj → Addr → Type 0
Beneath a ps b = (b.frame ≡ a.frame) × (b.local ≡ a.local) × (b.path ≡ a.path ++ ps)

nil_right : (ps : List Proj) → ps ≡ ps ++ []
nil_right [] = refl
nil_right (p ∷ ps) = ap (λ q. p ∷ q) (nil_right ps)

pub walk_plain : (ps : List Proj) (m : Memory) (a b : Addr) → has_deref ps ≡ false → walk m a ps ≡ Some b → Beneath a ps b
unfolding walk project
walk_plain [] m a b h e = let k : a ≡ b = grind arith in (ap (λ a. a.frame) (sym k), ap (λ a. a.local) (sym k), ap (λ a. a.path) (sym k) ∙ nil_right a.path)
walk_plain (Field i ∷ ps) m a b h e =
    let (c, e1, e2) = bind_some e in
    let same = there_same (value_at m (further a (Field i))) (further a (Field i)) c e1 in
    let (p, q, r) = walk_plain ps m c b h e2 in
    (p ∙ ap (λ a. a.frame) same, q ∙ ap (λ a. a.local) same, r ∙ ap (λ a. a.path ++ ps) same ∙ append_assoc a.path (Field i ∷ []) ps)
walk_plain (Downcast k ∷ ps) m a b h e =
    let (c, e1, e2) = bind_some e in
    let same = there_same (value_at m (further a (Downcast k))) (further a (Downcast k)) c e1 in
    let (p, q, r) = walk_plain ps m c b h e2 in
    (p ∙ ap (λ a. a.frame) same, q ∙ ap (λ a. a.local) same, r ∙ ap (λ a. a.path ++ ps) same ∙ append_assoc a.path (Downcast k ∷ []) ps)
walk_plain (Deref ∷ ps) m a b h e = absurd (grind arith)

-- a place with one refers to what references stand for
pub walk_deref_rel : (j L : Renaming) (low : Sub j L) (m2 m1 : Memory) → MemRel j L m2 m1 → (ps : List Proj) (a b c : Addr) → has_deref ps ≡ true → AddrRel L a b → walk m1 a ps ≡ Some c → AddrThere j c (walk m2 b ps)
unfolding walk project
walk_deref_rel j L low m2 m1 r [] a b c h ha e = absurd (grind arith)
walk_deref_rel j L low m2 m1 r (Field i ∷ ps) a b c h ha e =
    let (a', e1, e2) = bind_some e in
    let (b', f1, h1) = there_rel j L L low (λ f x r e. e) m2 m1 r (further a (Field i)) (further b (Field i)) a' (further_rel L a b (Field i) ha) e1 in
    let (c', f2, h2) = walk_deref_rel j L low m2 m1 r ps a' b' c h h1 e2 in
    (c', some_bind _ f1 f2, h2)
walk_deref_rel j L low m2 m1 r (Downcast k ∷ ps) a b c h ha e =
    let (a', e1, e2) = bind_some e in
    let (b', f1, h1) = there_rel j L L low (λ f x r e. e) m2 m1 r (further a (Downcast k)) (further b (Downcast k)) a' (further_rel L a b (Downcast k) ha) e1 in
    let (c', f2, h2) = walk_deref_rel j L low m2 m1 r ps a' b' c h h1 e2 in
    (c', some_bind _ f1 f2, h2)
walk_deref_rel j L low m2 m1 r (Deref ∷ ps) a b c h ha e =
    let (a3, e0, e5) = bind_some e in
    let (a', e1, e4) = bind_some e0 in
    let (v, e2, e3) = bind_some e1 in
    let (w, f1, h1) = value_at_rel j L m2 m1 r a b ha v e2 in
    let (b', f3, h3) = referent_rel j v w a' h1 e3 in
    let (c', f4, h4) = there_rel j j L (λ f x r e. e) low m2 m1 r a' b' a3 h3 e4 in
    let (c'', f5, h5) = walk_rel j j L (λ f x r e. e) low m2 m1 r ps a3 c' c h4 e5 in
    (c'', some_bind _ (some_bind _ (some_bind _ f1 f3) f4) f5, h5)

-- a solid place is there in any value of its type
no_hole : (D : List Shape) (t u : Tree) (i : ℕ) → proj_ty D t (Field i) ≡ Some u → is_some (destructor_of D t) ≡ false → can_hole D t ≡ false
no_hole D (scalar s) u i e h = absurd (let (us, r, f) = bind_some e in grind arith)
no_hole D empty u i e h = refl
no_hole D (more t ts) u i e h = refl
no_hole D (tree.ref t) u i e h = absurd (let (us, r, f) = bind_some e in grind arith)
no_hole D (tree.ref_mut t) u i e h = absurd (let (us, r, f) = bind_some e in grind arith)
no_hole D (named d) u i e h =
    let (us, r, f) = bind_some e in
    let (x, e1, e2) = bind_some r in
    let own : is_some x.destructor ≡ false = sym (ap is_some (some_bind (λ s. s.destructor) e1 refl)) ∙ h in
    ap holds_by e1 ∙ go x x.is_enum refl e2 own
  where
    go : (x : Shape) {us : Tree} (b : Bool) → x.is_enum ≡ b → (if b then None else Some (struct_fields x)) ≡ Some us → is_some x.destructor ≡ false → (x.is_enum || is_some x.destructor) ≡ false
    go x true q e o = absurd (grind arith)
    go x false q e o = ap₂ (λ b c. b || c) q o

not_and : (a b : Bool) → (not a && b) ≡ true → (a ≡ false) × (b ≡ true)
not_and true b e = absurd (grind arith)
not_and false b e = (refl, e)

pub at_path_end : (ps : List Proj) (p : Proj) (v u w : Value) → at_path ps v ≡ Some u → inner p u ≡ Some w → at_path (ps ++ p ∷ []) v ≡ Some w
at_path_end [] p v u w e f = some_bind _ (subst (λ y. inner p y ≡ Some w) (let k : u ≡ v = grind arith in k) f) refl
at_path_end (q ∷ ps) p v u w e f = let (x, e1, e2) = bind_some e in some_bind _ e1 (at_path_end ps p x u w e2 f)

pub value_at_further : (m : Memory) (a : Addr) (p : Proj) (u w : Value) → value_at m a ≡ Some u → inner p u ≡ Some w → value_at m (further a p) ≡ Some w
unfolding value_at
value_at_further m a p u w e f = let (o, e1, e2) = bind_some e in some_bind _ e1 (at_path_end a.path p o u w e2 f)

module _ (D : List Shape) (G : TypeMap) where
  field_there : (i : ℕ) (us u : Tree) (v : Value) → HasTy D G us v → field_ty us i ≡ Some u → (a b : Tree) → us ≡ more a b → (w : Value) × (part i v ≡ Some w)
  field_there zero us u (cons v vs) h f a b q = (v, refl)
  field_there (suc i) us u (cons v vs) (x, y, e, h, hs) f a b q =
      let (_, same) = more_eq D G x y a b (sym e ∙ ap (fields_of D) q) in
      let f' : field_ty b i ≡ Some u = subst (λ t. field_ty t (suc i) ≡ Some u) q f in
      let (c, d, q') = is_more i b u f' in
      field_there i b u vs (subst (λ t. HasTy D G t vs) same hs) f' c d q'
    where
      is_more : (i : ℕ) (b u : Tree) → field_ty b i ≡ Some u → (c d : Tree) × (b ≡ more c d)
      is_more i (more c d) u f = (c, d, refl)
      is_more i (scalar s) u f = absurd (grind arith)
      is_more i empty u f = absurd (grind arith)
      is_more i (tree.ref t) u f = absurd (grind arith)
      is_more i (tree.ref_mut t) u f = absurd (grind arith)
      is_more i (named d) u f = absurd (grind arith)
  field_there i us u (number n) h f a b q = absurd (let k : is_scalar (more a b) ≡ true = subst (λ t. is_scalar t ≡ true) q h in grind arith)
  field_there i us u nil h f a b q = absurd (let k : ◌≡◌ {A = Option Tree} (Some (more a b)) (Some empty) = subst (λ t. fields_of D t ≡ Some empty) q h in grind arith)
  field_there i us u (variant k v) (t, e, h) f a b q = absurd (let z : variant_ty D (more a b) k ≡ Some t = subst (λ y. variant_ty D y k ≡ Some t) q e in grind arith)
  field_there i us u (pointer c) (t, e, h) f a b q = absurd (let z : pointee (more a b) ≡ Some t = subst (λ y. pointee y ≡ Some t) q e in grind arith)
  field_there i us u hole h f a b q = absurd (let z : can_hole D (more a b) ≡ true = subst (λ y. can_hole D y ≡ true) q h in grind arith)

  num_rows : (t us : Tree) → is_scalar t ≡ true → fields_of D t ≡ Some us → ⊥
  num_rows (scalar s) us h r = grind arith
  num_rows empty us h r = grind arith
  num_rows (more a b) us h r = grind arith
  num_rows (tree.ref t) us h r = grind arith
  num_rows (tree.ref_mut t) us h r = grind arith
  num_rows (named d) us h r = grind arith

  pointer_rows : (t us u : Tree) → pointee t ≡ Some u → fields_of D t ≡ Some us → ⊥
  pointer_rows (scalar s) us u h r = grind arith
  pointer_rows empty us u h r = grind arith
  pointer_rows (more a b) us u h r = grind arith
  pointer_rows (tree.ref t) us u h r = grind arith
  pointer_rows (tree.ref_mut t) us u h r = grind arith
  pointer_rows (named d) us u h r = grind arith

  variant_rows : (t us u : Tree) (k : ℕ) → variant_ty D t k ≡ Some u → fields_of D t ≡ Some us → ⊥
  variant_rows (named d) us u k h r =
      let (x, e1, e2) = bind_some h in
      let (y, f1, f2) = bind_some r in
      let same : x ≡ y = (let z : Some x ≡ Some y = sym e1 ∙ f1 in grind arith) in
      go x x.is_enum e2 (subst (λ y. fields_of_struct y ≡ Some us) (sym same) f2)
    where
      go : (x : Shape) (b : Bool) → (if b then slice_get x.variants k else None) ≡ Some u → (if b then None else Some (struct_fields x)) ≡ Some us → ⊥
      go x true e f = grind arith
      go x false e f = grind arith
  variant_rows (scalar s) us u k h r = grind arith
  variant_rows empty us u k h r = grind arith
  variant_rows (more a b) us u k h r = grind arith
  variant_rows (tree.ref t) us u k h r = grind arith
  variant_rows (tree.ref_mut t) us u k h r = grind arith

  rows_there : (i : ℕ) (t us u : Tree) (v : Value) → HasTy D G t v → fields_of D t ≡ Some us → can_hole D t ≡ false → field_ty us i ≡ Some u → (w : Value) × (part i v ≡ Some w)
  rows_there i t us u (cons v vs) h r c f = listed i us f (as_rows D G t us v vs h r)
    where
      listed : (i : ℕ) (us : Tree) → field_ty us i ≡ Some u → HasTy D G us (cons v vs) → (w : Value) × (part i (cons v vs) ≡ Some w)
      listed i (more a b) f h = field_there i (more a b) u (cons v vs) h f a b refl
      listed i (scalar s) f h = absurd (grind arith)
      listed i empty f h = absurd (grind arith)
      listed i (tree.ref t) f h = absurd (grind arith)
      listed i (tree.ref_mut t) f h = absurd (grind arith)
      listed i (named d) f h = absurd (grind arith)
  rows_there i t us u nil h r c f = absurd (let same : us ≡ empty = some_eq D G us empty (fields_of D t) r h in let z : field_ty empty i ≡ Some u = subst (λ y. field_ty y i ≡ Some u) same f in grind arith)
  rows_there i t us u (number n) h r c f = absurd (num_rows t us h r)
  rows_there i t us u (variant k v) (x, e, h) r c f = absurd (variant_rows t us x k e r)
  rows_there i t us u (pointer a) (x, e, h) r c f = absurd (pointer_rows t us x e r)
  rows_there i t us u hole h r c f = absurd (let z : true ≡ false = sym h ∙ c in grind arith)

  -- one projection
  solid_inner : (i : ℕ) (t u : Tree) (v : Value) → is_some (destructor_of D t) ≡ false → proj_ty D t (Field i) ≡ Some u → HasTy D G t v → (w : Value) × (part i v ≡ Some w) × HasTy D G u w
  solid_inner i t u v s e h =
      let (us, r, f) = bind_some e in
      let (w, p) = rows_there i t us u v h r (no_hole D t u i e s) f in
      (w, p, at_path_ty D G (Field i ∷ []) t u v w h (some_bind _ e refl) (some_bind _ p refl))

  pub at_path_solid : (ps : List Proj) (t u : Tree) (v : Value) → solid D (Some t) ps ≡ true → path_ty D t ps ≡ Some u → HasTy D G t v → (w : Value) × (at_path ps v ≡ Some w)
  at_path_solid [] t u v s e h = (v, refl)
  at_path_solid (Field i ∷ ps) t u v s e h =
      let (hs, s') = not_and (is_some (destructor_of D t)) (solid D (proj_ty D t (Field i)) ps) s in
      let (t', e1, e2) = bind_some e in
      let (w, p, h') = solid_inner i t t' v hs e1 h in
      let (z, q) = at_path_solid ps t' u w (subst (λ o. solid D o ps ≡ true) e1 s') e2 h' in
      (z, some_bind _ p q)
  at_path_solid (Downcast k ∷ ps) t u v s e h = absurd (grind arith)
  at_path_solid (Deref ∷ ps) t u v s e h = absurd (grind arith)

  pub walk_solid : (ps : List Proj) (m : Memory) (a : Addr) (t u : Tree) (v : Value) → solid D (Some t) ps ≡ true → path_ty D t ps ≡ Some u → HasTy D G t v → value_at m a ≡ Some v → (c : Addr) × (walk m a ps ≡ Some c)
  unfolding walk project
  walk_solid [] m a t u v s e h k = (a, refl)
  walk_solid (Field i ∷ ps) m a t u v s e h k =
      let (hs, s') = not_and (is_some (destructor_of D t)) (solid D (proj_ty D t (Field i)) ps) s in
      let (t', e1, e2) = bind_some e in
      let (w, p, h') = solid_inner i t t' v hs e1 h in
      let k' = value_at_further m a (Field i) v w k p in
      let (c, q) = walk_solid ps m (further a (Field i)) t' u w (subst (λ o. solid D o ps ≡ true) e1 s') e2 h' k' in
      (c, some_bind _ (ap (λ o. there o (further a (Field i))) k') q)
  walk_solid (Downcast n ∷ ps) m a t u v s e h k = absurd (grind arith)
  walk_solid (Deref ∷ ps) m a t u v s e h k = absurd (grind arith)

pub solid_plain : (D : List Shape) (t : Option Tree) (ps : List Proj) → solid D t ps ≡ true → has_deref ps ≡ false
solid_plain D t [] s = refl
solid_plain D None (p ∷ ps) s = absurd (grind arith)
solid_plain D (Some t) (Field i ∷ ps) s = solid_plain D (proj_ty D t (Field i)) ps (not_and (is_some (destructor_of D t)) (solid D (proj_ty D t (Field i)) ps) s).1
solid_plain D (Some t) (Downcast k ∷ ps) s = absurd (grind arith)
solid_plain D (Some t) (Deref ∷ ps) s = absurd (grind arith)

there_some : (m : Memory) (a b : Addr) → there (value_at m a) a ≡ Some b → (v : Value) × (value_at m a ≡ Some v)
there_some m a b e = go (value_at m a) refl e
  where
    go : (o : Option Value) → value_at m a ≡ o → there o a ≡ Some b → (v : Value) × (value_at m a ≡ Some v)
    go None h e = absurd (grind arith)
    go (Some v) h e = (v, h)

-- a local of which a part was resolved is there
pub walk_root : (ps : List Proj) (m : Memory) (a b : Addr) → is_nil ps ≡ false → has_deref ps ≡ false → walk m a ps ≡ Some b → (o : Value) × (local_at m a.frame a.local ≡ Some o)
unfolding walk project
walk_root [] m a b n h e = absurd (grind arith)
walk_root (Field i ∷ ps) m a b n h e =
    let (c, e1, e2) = bind_some e in
    let (v, k) = there_some m (further a (Field i)) c e1 in
    root_of m (further a (Field i)) v k
walk_root (Downcast i ∷ ps) m a b n h e =
    let (c, e1, e2) = bind_some e in
    let (v, k) = there_some m (further a (Downcast i)) c e1 in
    root_of m (further a (Downcast i)) v k
walk_root (Deref ∷ ps) m a b n h e = absurd (grind arith)
