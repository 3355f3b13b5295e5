-- Values have the types of their places, in every state that a statement leads to.
use Rattle.std.proofs.Common.{◌≡◌, ◌⊎◌, inl, inr, refl, sym, ap, ap₂, ◌∙◌, subst, ℕ, zero, suc, Bool, true, false, nat_eq, ◌||◌, if◌then◌else◌, List, [], ◌∷◌, ◌++◌, length, Option, Some, None, is_some, slice_get, option_map, arith}
use Rattle.std.proofs.lemmas.Bool.{eqb-true}
use Rattle.mir_syntax.specs.declared.types.ScalarTy.{ScalarTy}
use Rattle.mir_syntax.specs.declared.types.ScalarTy.TheVariants as scalar_ty
use Rattle.mir_syntax.specs.declared.body.Proj.{Proj}
use Rattle.mir_syntax.specs.declared.body.Proj.TheVariants.{Field, Downcast, Deref}
use Rattle.mir_syntax.specs.declared.body.Place.{Place}
use Rattle.mir_syntax.specs.declared.body.Const.{Const}
use Rattle.mir_syntax.specs.declared.body.Const.TheVariants as constant
use Rattle.mir_syntax.specs.declared.body.Operand.{Operand}
use Rattle.mir_syntax.specs.declared.body.Operand.TheVariants as operand
use Rattle.mir_syntax.specs.Tree.{Tree, scalar, empty, more, ref, ref_mut, named}
use Rattle.mir_syntax.specs.Crate.{TypedRvalue, «use», binary, overflow, unary, cast, discriminant, tuple, build, TypedStmt, assign, storage_live, storage_dead, set_discriminant}
use Rattle.mir_syntax.specs.Crate as rvalue
use Rattle.mir_syntax.specs.Shapes.{Shape, struct_fields, fields_of_struct, fields_of, field_ty, variant_of_enum, variant_ty, pointee, proj_ty, path_ty, place_ty}
use Rattle.mir_semantics.specs.Values.{Addr, Value, number, nil, cons, variant, pointer, hole, listed, whole, part, payload, inner, at_path, change_part, change_payload, change_inner, put, blank_by, blank_of, blank_def, blank}
use Rattle.mir_semantics.specs.Memory.{Memory, local_at, value_at, write, further, there, referent, project, walk}
use Rattle.mir_semantics.specs.Step.{Dest, Here, only_if, local_addr, resolve, type_of, dest_of, store, const_value, read_at, read, read_all, read_number, operand_ty, built_by, built, read_two, eval, set_blank, is_variant, write_unless, exec}
use Rattle.mir_renaming.specs.Renaming.{Renaming, ValueRel, RootOf}
use Rattle.mir_syntax.proofs.Binds.{bind_some, some_bind}
use Rattle.mir_renaming.proofs.Memory.{root_or_not, write_same, write_other}

-- the types of the locals of all frames, also of those that have ended
abbrev pub TypeMap : Type 0
TypeMap = ℕ → ℕ → Option Tree

-- the map has the types of a frame's locals
abbrev pub LocalsTy : TypeMap → List Tree → ℕ → Type 0
LocalsTy G ts f = (x : ℕ) (t : Tree) → slice_get ts x ≡ Some t → G f x ≡ Some t

abbrev pub is_scalar : Tree → Bool
is_scalar (scalar s) = true
is_scalar _ = false

abbrev pub holds_by : Option Shape → Bool
holds_by None = true
holds_by (Some d) = d.is_enum || is_some d.destructor

-- where a hole can stand; the blank of a definition that isn't there is one
abbrev pub can_hole : List Shape → Tree → Bool
can_hole D (scalar s) = true
can_hole D empty = false
can_hole D (more t ts) = false
can_hole D (ref t) = true
can_hole D (ref_mut t) = true
can_hole D (named d) = holds_by (slice_get D d)

module _ (D : List Shape) (G : TypeMap) where
  pub record AddrTy (a : Addr) (t : Tree) : Type 0 where
    pub local : Tree
    pub is : G a.frame a.local ≡ Some local
    pub path : path_ty D local a.path ≡ Some t

  abbrev pub HasTy : Tree → Value → Type 0
  HasTy t (number n) = is_scalar t ≡ true
  HasTy t nil = fields_of D t ≡ Some empty
  HasTy t (cons v vs) = (u us : Tree) × (fields_of D t ≡ Some (more u us)) × HasTy u v × HasTy us vs
  HasTy t (variant k v) = (u : Tree) × (variant_ty D t k ≡ Some u) × HasTy u v
  HasTy t (pointer a) = (u : Tree) × (pointee t ≡ Some u) × AddrTy a u
  HasTy t hole = can_hole D t ≡ true

  pub record MemTy (m : Memory) : Type 0 where
    pub at : (f x : ℕ) (t : Tree) (v : Value) → G f x ≡ Some t → local_at m f x ≡ Some v → HasTy t v

  pub some_eq : {A : Type 0} (a b : A) (o : Option A) → o ≡ Some a → o ≡ Some b → a ≡ b
  some_eq a b o e f = let g : Some a ≡ Some b = sym e ∙ f in grind arith

  pub more_eq : (t ts u us : Tree) → ◌≡◌ {A = Option Tree} (Some (more t ts)) (Some (more u us)) → (t ≡ u) × (ts ≡ us)
  more_eq t ts u us e = (grind arith, grind arith)

  -- a part of a tuple
  field_part : (i : ℕ) (us u : Tree) (v w : Value) → HasTy us v → field_ty us i ≡ Some u → part i v ≡ Some w → HasTy u w
  field_part zero (more x xs) u (cons v vs) w (a, as', e, h, hs) f p =
      let (same, _) = more_eq x xs a as' e in
      subst (λ y. HasTy u y) (let k : v ≡ w = grind arith in k) (subst (λ y. HasTy y v) (sym same ∙ (let k : x ≡ u = grind arith in k)) h)
  field_part (suc i) (more x xs) u (cons v vs) w (a, as', e, h, hs) f p =
      let (_, same) = more_eq x xs a as' e in
      field_part i xs u vs w (subst (λ y. HasTy y vs) (sym same) hs) f p
  field_part i us u v w h f p = absurd (grind arith)

  pub as_rows : (t us : Tree) (v vs : Value) → HasTy t (cons v vs) → fields_of D t ≡ Some us → HasTy us (cons v vs)
  as_rows t us v vs (a, as', e, h, hs) r = subst (λ y. HasTy y (cons v vs)) (some_eq (more a as') us (fields_of D t) e r) (let z : HasTy (more a as') (cons v vs) = (a, as', refl, h, hs) in z)

  part_ty : (i : ℕ) (t us u : Tree) (v w : Value) → HasTy t v → fields_of D t ≡ Some us → field_ty us i ≡ Some u → part i v ≡ Some w → HasTy u w
  part_ty i t us u (cons v vs) w h r f p = field_part i us u (cons v vs) w (as_rows t us v vs h r) f p
  part_ty zero t us u v w h r f p = absurd (grind arith)
  part_ty (suc i) t us u v w h r f p = absurd (grind arith)

  payload_ty : (k : ℕ) (t u : Tree) (v w : Value) → HasTy t v → variant_ty D t k ≡ Some u → payload k v ≡ Some w → HasTy u w
  payload_ty k t u (variant i v) w (a, e, h) f p = go (nat_eq i k) refl p
    where
      go : (b : Bool) → nat_eq i k ≡ b → (if b then Some v else None) ≡ Some w → HasTy u w
      go true n p =
          let i' : i ≡ k = eqb-true i k n in
          subst (λ y. HasTy u y) (let q : v ≡ w = grind arith in q) (subst (λ y. HasTy y v) (some_eq a u (variant_ty D t k) (subst (λ n. variant_ty D t n ≡ Some a) i' e) f) h)
      go false n p = absurd (grind arith)
  payload_ty k t u v w h f p = absurd (grind arith)

  inner_ty : (q : Proj) (t u : Tree) (v w : Value) → HasTy t v → proj_ty D t q ≡ Some u → inner q v ≡ Some w → HasTy u w
  inner_ty (Field i) t u v w h f p = let (us, r, f') = bind_some f in part_ty i t us u v w h r f' p
  inner_ty (Downcast k) t u v w h f p = payload_ty k t u v w h f p
  inner_ty Deref t u v w h f p = absurd (grind arith)

  pub at_path_ty : (ps : List Proj) (t u : Tree) (v w : Value) → HasTy t v → path_ty D t ps ≡ Some u → at_path ps v ≡ Some w → HasTy u w
  at_path_ty [] t u v w h f p = subst (λ y. HasTy u y) (let q : v ≡ w = grind arith in q) (subst (λ y. HasTy y v) (let q : t ≡ u = grind arith in q) h)
  at_path_ty (q ∷ ps) t u v w h f p =
      let (t', f1, f2) = bind_some f in
      let (v', p1, p2) = bind_some p in
      at_path_ty ps t' u v' w (inner_ty q t t' v v' h f1 p1) f2 p2

  -- a change of a part that keeps the part's type
  field_change : (i : ℕ) (us u : Tree) (g : Value → Value) (v : Value) → ((w : Value) → HasTy u w → HasTy u (g w)) → HasTy us v → field_ty us i ≡ Some u → HasTy us (change_part i g v)
  field_change zero (more x xs) u g (cons v vs) k (a, as', e, h, hs) f =
      let (same, _) = more_eq x xs a as' e in
      let same' : a ≡ u = sym same ∙ (let q : x ≡ u = grind arith in q) in
      (a, as', e, subst (λ y. HasTy y (g v)) (sym same') (k v (subst (λ y. HasTy y v) same' h)), hs)
  field_change (suc i) (more x xs) u g (cons v vs) k (a, as', e, h, hs) f =
      let (_, same) = more_eq x xs a as' e in
      (a, as', e, h, subst (λ y. HasTy y (change_part i g vs)) same (field_change i xs u g vs k (subst (λ y. HasTy y vs) (sym same) hs) f))
  field_change zero us u g (number n) k h f = h
  field_change zero us u g nil k h f = h
  field_change zero us u g (variant n v) k h f = h
  field_change zero us u g (pointer a) k h f = h
  field_change zero us u g hole k h f = h
  field_change (suc i) us u g (number n) k h f = h
  field_change (suc i) us u g nil k h f = h
  field_change (suc i) us u g (variant n v) k h f = h
  field_change (suc i) us u g (pointer a) k h f = h
  field_change (suc i) us u g hole k h f = h
  field_change i us u g v k h f = absurd (grind arith)

  -- back from the tuple to the type
  from_rows : (t us : Tree) (v vs : Value) → fields_of D t ≡ Some us → HasTy us (cons v vs) → fields_of D us ≡ Some us → HasTy t (cons v vs)
  from_rows t us v vs r (a, as', e, h, hs) k = (a, as', r ∙ sym k ∙ e, h, hs)

  part_change : (i : ℕ) (t us u : Tree) (g : Value → Value) (v : Value) → ((w : Value) → HasTy u w → HasTy u (g w)) → HasTy t v → fields_of D t ≡ Some us → field_ty us i ≡ Some u → HasTy t (change_part i g v)
  part_change zero t (more x xs) u g (cons v vs) k h r f = from_rows t (more x xs) (g v) vs r (field_change zero (more x xs) u g (cons v vs) k (as_rows t (more x xs) v vs h r) f) refl
  part_change (suc i) t (more x xs) u g (cons v vs) k h r f = from_rows t (more x xs) v (change_part i g vs) r (field_change (suc i) (more x xs) u g (cons v vs) k (as_rows t (more x xs) v vs h r) f) refl
  part_change zero t us u g (number n) k h r f = h
  part_change zero t us u g nil k h r f = h
  part_change zero t us u g (variant n v) k h r f = h
  part_change zero t us u g (pointer a) k h r f = h
  part_change zero t us u g hole k h r f = h
  part_change (suc i) t us u g (number n) k h r f = h
  part_change (suc i) t us u g nil k h r f = h
  part_change (suc i) t us u g (variant n v) k h r f = h
  part_change (suc i) t us u g (pointer a) k h r f = h
  part_change (suc i) t us u g hole k h r f = h
  part_change i t us u g v k h r f = absurd (grind arith)

  payload_change : (k : ℕ) (t u : Tree) (g : Value → Value) (v : Value) → ((w : Value) → HasTy u w → HasTy u (g w)) → HasTy t v → variant_ty D t k ≡ Some u → HasTy t (change_payload k g v)
  payload_change k t u g (variant i v) keeps (a, e, h) f = go (nat_eq i k) refl
    where
      go : (b : Bool) → nat_eq i k ≡ b → HasTy t (variant i (if b then g v else v))
      go true n =
          let same = some_eq a u (variant_ty D t k) (subst (λ n. variant_ty D t n ≡ Some a) (eqb-true i k n) e) f in
          (a, e, subst (λ y. HasTy y (g v)) (sym same) (keeps v (subst (λ y. HasTy y v) same h)))
      go false n = (a, e, h)
  payload_change k t u g (number n) keeps h f = h
  payload_change k t u g nil keeps h f = h
  payload_change k t u g (cons v vs) keeps h f = h
  payload_change k t u g (pointer a) keeps h f = h
  payload_change k t u g hole keeps h f = h

  inner_change : (q : Proj) (t u : Tree) (g : Value → Value) (v : Value) → ((w : Value) → HasTy u w → HasTy u (g w)) → HasTy t v → proj_ty D t q ≡ Some u → HasTy t (change_inner q g v)
  inner_change (Field i) t u g v k h f = let (us, r, f') = bind_some f in part_change i t us u g v k h r f'
  inner_change (Downcast n) t u g v k h f = payload_change n t u g v k h f
  inner_change Deref t u g v k h f = h

  pub put_ty : (ps : List Proj) (t u : Tree) (w v : Value) → HasTy u w → HasTy t v → path_ty D t ps ≡ Some u → HasTy t (put ps w v)
  put_ty [] t u w v hw h f = subst (λ y. HasTy y w) (let q : u ≡ t = grind arith in q) hw
  put_ty (q ∷ ps) t u w v hw h f =
      let (t', f1, f2) = bind_some f in
      inner_change q t t' (put ps w) v (λ x hx. put_ty ps t' u w x hw hx f2) h f1

  -- memory
  pub value_at_ty : (m : Memory) (a : Addr) (t : Tree) (v : Value) → MemTy m → AddrTy a t → value_at m a ≡ Some v → HasTy t v
  unfolding value_at
  value_at_ty m a t v k h e =
      let (o, e1, e2) = bind_some e in
      at_path_ty a.path h.local t o v (k.at a.frame a.local h.local o h.is e1) h.path e2

  pub write_ty : (m : Memory) (a : Addr) (t : Tree) (w : Value) → MemTy m → AddrTy a t → HasTy t w → MemTy (write m a w)
  write_ty m a t w k h hw = record { at = λ f x u v g e. go f x u v g e (root_or_not a f x) }
    where
      same : (f x : ℕ) (u v : Value) (ut : Tree) → G f x ≡ Some ut → RootOf a f x → (o : Option Value) → local_at m f x ≡ o → option_map (put a.path w) o ≡ Some v → HasTy ut v
      same f x u v ut g r None e p = absurd (grind arith)
      same f x u v ut g r (Some o) e p =
          let lt : h.local ≡ ut = some_eq h.local ut (G f x) (ap₂ G r.0 r.1 ∙ h.is) g in
          subst (λ y. HasTy ut y) (let q : put a.path w o ≡ v = grind arith in q) (put_ty a.path ut t w o hw (k.at f x ut o g e) (subst (λ y. path_ty D y a.path ≡ Some t) lt h.path))

      go : (f x : ℕ) (u : Tree) (v : Value) → G f x ≡ Some u → local_at (write m a w) f x ≡ Some v → RootOf a f x ⊎ (f ≡ a.frame → x ≡ a.local → ⊥) → HasTy u v
      go f x u v g e (inl r) = same f x v v u g r (local_at m f x) refl (sym (write_same m a w f x r) ∙ e)
      go f x u v g e (inr n) = k.at f x u v g (sym (write_other m a w f x n) ∙ e)

  -- places
  path_ty_end : (ps : List Proj) (q : Proj) (t u w : Tree) → path_ty D t ps ≡ Some u → proj_ty D u q ≡ Some w → path_ty D t (ps ++ q ∷ []) ≡ Some w
  path_ty_end [] q t u w e f = some_bind _ (subst (λ y. proj_ty D y q ≡ Some w) (let k : u ≡ t = grind arith in k) f) refl
  path_ty_end (p ∷ ps) q t u w e f =
      let (t', e1, e2) = bind_some e in
      some_bind _ e1 (path_ty_end ps q t' u w e2 f)

  pub further_ty : (a : Addr) (q : Proj) (t u : Tree) → AddrTy a t → proj_ty D t q ≡ Some u → AddrTy (further a q) u
  further_ty a q t u h f = record { local = h.local; is = h.is; path = path_ty_end a.path q h.local t u h.path f }

  there_ty : (o : Option Value) (a b : Addr) (t : Tree) → AddrTy a t → there o a ≡ Some b → AddrTy b t
  there_ty None a b t h e = absurd (grind arith)
  there_ty (Some v) a b t h e = subst (λ x. AddrTy x t) (let k : a ≡ b = grind arith in k) h

  target_ty : (v : Value) (t u : Tree) (a : Addr) → HasTy t v → pointee t ≡ Some u → referent v ≡ Some a → AddrTy a u
  target_ty (pointer b) t u a (x, e, h) f k = subst (λ y. AddrTy y u) (let q : b ≡ a = grind arith in q) (subst (λ y. AddrTy b y) (some_eq x u (pointee t) e f) h)
  target_ty v t u a h f k = absurd (grind arith)

  project_ty : (m : Memory) (a b : Addr) (q : Proj) (t u : Tree) → MemTy m → AddrTy a t → proj_ty D t q ≡ Some u → project m a q ≡ Some b → AddrTy b u
  unfolding project
  project_ty m a b (Field i) t u k h f e = there_ty _ _ b u (further_ty a (Field i) t u h f) e
  project_ty m a b (Downcast i) t u k h f e = there_ty _ _ b u (further_ty a (Downcast i) t u h f) e
  project_ty m a b Deref t u k h f e =
      let (c, e1, e4) = bind_some e in
      let (v, e2, e3) = bind_some e1 in
      there_ty _ c b u (target_ty v t u c (value_at_ty m a t v k h e2) f e3) e4

  pub walk_ty : (ps : List Proj) (m : Memory) (a b : Addr) (t u : Tree) → MemTy m → AddrTy a t → path_ty D t ps ≡ Some u → walk m a ps ≡ Some b → AddrTy b u
  unfolding walk
  walk_ty [] m a b t u k h f e = subst (λ x. AddrTy x u) (let q : a ≡ b = grind arith in q) (subst (λ y. AddrTy a y) (let q : t ≡ u = grind arith in q) h)
  walk_ty (q ∷ ps) m a b t u k h f e =
      let (t', f1, f2) = bind_some f in
      let (c, e1, e2) = bind_some e in
      walk_ty ps m c b t' u k (project_ty m a c q t t' k h f1 e1) f2 e2

-- a list is what operands make
abbrev pub IsList : Value → Type 0
IsList nil = Unit {0}
IsList (cons v vs) = IsList vs
IsList _ = ⊥

pub listed_list : (vs : List Value) → IsList (listed vs)
listed_list [] = tt
listed_list (v ∷ vs) = listed_list vs

-- the type of what a build makes of its fields
abbrev pub BuiltTy : List Shape → ℕ → ℕ → Tree → Tree → Type 0
BuiltTy D d k us t = (df : Shape) × (t ≡ named d) × (slice_get D d ≡ Some df) × ((variant_of_enum k df ≡ Some us) × (df.is_enum ≡ true) ⊎ (fields_of_struct df ≡ Some us) × (df.is_enum ≡ false) × (fields_of D us ≡ Some us))

pub built_ty : (D : List Shape) (G : TypeMap) (d k : ℕ) (us t : Tree) (os : List Operand) (v : Value) → IsList v → BuiltTy D d k us t → HasTy D G us v → HasTy D G t (built D d k v)
built_ty D G d k us t os v l (df, e, at, kind) h = subst (λ y. HasTy D G y (built D d k v)) (sym e) (subst (λ o. HasTy D G (named d) (built_by k v o)) (sym at) (go kind))
  where
    list : (v : Value) → IsList v → fields_of D (named d) ≡ Some us → fields_of D us ≡ Some us → HasTy D G us v → HasTy D G (named d) v
    list nil l r q h = r ∙ sym q ∙ h
    list (cons v vs) l r q (a, as', e, x, y) = (a, as', r ∙ sym q ∙ e, x, y)
    list v l r q h = absurd l

    go : ((variant_of_enum k df ≡ Some us) × (df.is_enum ≡ true) ⊎ (fields_of_struct df ≡ Some us) × (df.is_enum ≡ false) × (fields_of D us ≡ Some us)) → HasTy D G (named d) (if df.is_enum then variant k v else v)
    go (inl (a, b)) = subst (λ z. HasTy D G (named d) (if z then variant k v else v)) (sym b) (let z : HasTy D G (named d) (variant k v) = (us, some_bind _ at a, h) in z)
    go (inr (a, b, c)) = subst (λ z. HasTy D G (named d) (if z then variant k v else v)) (sym b) (list v l (some_bind _ at a) c h)

-- one frame
module _ (D : List Shape) (G : TypeMap) (blank_ok : (t : Tree) → HasTy D G t (blank D t)) (ts : List Tree) (f : ℕ) (locals_ok : (x : ℕ) (t : Tree) → slice_get ts x ≡ Some t → G f x ≡ Some t) where
  abbrev pub H : Here
  H = record { shapes = D; locals = ts; frame = f }

  pub resolve_ty : (m : Memory) (p : Place) (a : Addr) (t : Tree) → MemTy D G m → type_of H p ≡ Some t → resolve H m p ≡ Some a → AddrTy D G a t
  unfolding resolve type_of place_ty local_addr
  resolve_ty m p a t k e r =
      let (u, e1, e2) = bind_some e in
      walk_ty D G p.proj m _ a u t k (record { local = u; is = locals_ok p.local u e1; path = refl }) e2 r

  pub only_then : {A : Type 0} (b : Bool) (x y : A) → only_if b x ≡ Some y → x ≡ y
  only_then true x y e = grind arith
  only_then false x y e = absurd (grind arith)

  pub read_at_ty : (m : Memory) (a : Addr) (t : Tree) (v : Value) → MemTy D G m → AddrTy D G a t → read_at m a ≡ Some v → HasTy D G t v
  unfolding read_at
  read_at_ty m a t v k h e =
      let (u, e1, e2) = bind_some e in
      subst (λ x. HasTy D G t x) (only_then (whole u) u v e2) (value_at_ty D G m a t u k h e1)

  const_has_ty : (c : Const) (t : Tree) → operand_ty H (operand.Const c) ≡ Some t → HasTy D G t (const_value c)
  unfolding operand_ty const_value
  const_has_ty (constant.Int s n) t e = ap is_scalar (let k : t ≡ scalar (scalar_ty.Int s) = grind arith in k)
  const_has_ty (constant.Bool b) t e = ap is_scalar (let k : t ≡ scalar scalar_ty.Bool = grind arith in k)
  const_has_ty constant.Unit t e = ap (fields_of D) (let k : t ≡ empty = grind arith in k)

  -- a reading that keeps the memory's types
  abbrev pub Gives : (Value → Type 0) → Value × Memory → Type 0
  Gives V r = V r.0 × MemTy D G r.1

  pub read_ty : (m : Memory) (o : Operand) (t : Tree) (r : Value × Memory) → MemTy D G m → operand_ty H o ≡ Some t → read H m o ≡ Some r → Gives (HasTy D G t) r
  unfolding read operand_ty
  read_ty m (operand.Copy p) t r k e x =
      let (a, e1, k1) = bind_some x in
      let (v, e2, k2) = bind_some k1 in
      subst (λ r. Gives (HasTy D G t) r) (let q : (v, m) ≡ r = grind arith in q) (read_at_ty m a t v k (resolve_ty m p a t k e e1) e2, k)
  read_ty m (operand.Move p) t r k e x =
      let (a, e1, k1) = bind_some x in
      let (v, e2, k2) = bind_some k1 in
      let (u, e3, k3) = bind_some k2 in
      let h = resolve_ty m p a t k e e1 in
      let same : u ≡ t = some_eq D G u t (type_of H p) e3 e in
      subst (λ r. Gives (HasTy D G t) r) (let q : (v, write m a (blank D u)) ≡ r = grind arith in q) (read_at_ty m a t v k h e2, write_ty D G m a t (blank D u) k h (subst (λ y. HasTy D G y (blank D u)) same (blank_ok u)))
  read_ty m (operand.Const c) t r k e x = subst (λ r. Gives (HasTy D G t) r) (let q : (const_value c, m) ≡ r = grind arith in q) (const_has_ty c t e, k)

  -- the operands of a tuple's type
  abbrev pub OperandsTy : List Operand → Tree → Type 0
  OperandsTy [] t = t ≡ empty
  OperandsTy (o ∷ os) t = (u us : Tree) × (t ≡ more u us) × (operand_ty H o ≡ Some u) × OperandsTy os us

  read_all_ty : (os : List Operand) (m : Memory) (t : Tree) (r : List Value × Memory) → MemTy D G m → OperandsTy os t → read_all H m os ≡ Some r → HasTy D G t (listed r.0) × MemTy D G r.1
  unfolding read_all
  read_all_ty [] m t r k h x = subst (λ r. HasTy D G t (listed r.0) × MemTy D G r.1) (let q : ([], m) ≡ r = grind arith in q) (ap (fields_of D) h, k)
  read_all_ty (o ∷ os) m t r k (u, us, e, eo, hs) x =
      let (y, e1, k1) = bind_some x in
      let (ys, e2, k2) = bind_some k1 in
      let (hv, k') = read_ty m o u y k eo e1 in
      let (hvs, k'') = read_all_ty os y.1 us ys k' hs e2 in
      subst (λ r. HasTy D G t (listed r.0) × MemTy D G r.1) (let q : (y.0 ∷ ys.0, ys.1) ≡ r = grind arith in q) ((u, us, ap (fields_of D) e, hv, hvs), k'')

  pub read_number_ty : (m : Memory) (o : Operand) (t : Tree) (r : ℕ × Memory) → MemTy D G m → operand_ty H o ≡ Some t → read_number H m o ≡ Some r → MemTy D G r.1
  unfolding read_number
  read_number_ty m o t r k e x =
      let (v, e1, k1) = bind_some x in
      let (n, e2, k2) = bind_some k1 in
      let (_, k') = read_ty m o t v k e e1 in
      subst (λ r. MemTy D G r.1) (let q : (n, v.1) ≡ r = grind arith in q) k'

  two_ty : (m : Memory) (a b : Operand) (t u : Tree) (r : (ℕ × ℕ) × Memory) → MemTy D G m → operand_ty H a ≡ Some t → operand_ty H b ≡ Some u → read_two H m a b ≡ Some r → MemTy D G r.1
  unfolding read_two
  two_ty m a b t u r k ea eb x =
      let (v, e1, k1) = bind_some x in
      let (w, e2, k2) = bind_some k1 in
      let k' = read_number_ty m a t v k ea e1 in
      let k'' = read_number_ty v.1 b u w k' eb e2 in
      subst (λ r. MemTy D G r.1) (let q : ((v.0, w.0), w.1) ≡ r = grind arith in q) k''

  -- what a valid program says of an rvalue
  abbrev pub RvalueTy : TypedRvalue → Tree → Type 0
  RvalueTy («use» o) t = operand_ty H o ≡ Some t
  RvalueTy (binary op a b) t = (u w : Tree) × (is_scalar t ≡ true) × (operand_ty H a ≡ Some u) × (operand_ty H b ≡ Some w)
  RvalueTy (overflow op a b) t = (u w : Tree) × (s z : ScalarTy) × (t ≡ more (scalar s) (more (scalar z) empty)) × (operand_ty H a ≡ Some u) × (operand_ty H b ≡ Some w)
  RvalueTy (unary op a) t = (u : Tree) × (is_scalar t ≡ true) × (operand_ty H a ≡ Some u)
  RvalueTy (cast a s) t = (u : Tree) × (is_scalar t ≡ true) × (operand_ty H a ≡ Some u)
  RvalueTy (rvalue.ref p) t = (u : Tree) × (pointee t ≡ Some u) × (type_of H p ≡ Some u)
  RvalueTy (rvalue.ref_mut p) t = (u : Tree) × (pointee t ≡ Some u) × (type_of H p ≡ Some u)
  RvalueTy (discriminant p) t = is_scalar t ≡ true
  RvalueTy (tuple os) t = OperandsTy os t
  RvalueTy (build d k os) t = (us : Tree) × OperandsTy os us × BuiltTy D d k us t

  pub eval_ty : (m : Memory) (x : TypedRvalue) (t : Tree) (r : Value × Memory) → MemTy D G m → RvalueTy x t → eval H m x ≡ Some r → Gives (HasTy D G t) r
  unfolding eval
  eval_ty m («use» o) t r k h e = read_ty m o t r k h e
  eval_ty m (binary op a b) t r k (u, w, s, ha, hb) e =
      let (_, e1, k1) = bind_some e in
      let (x, e2, k2) = bind_some k1 in
      let (n, e3, k3) = bind_some k2 in
      subst (λ r. Gives (HasTy D G t) r) (let q : (number n, x.1) ≡ r = grind arith in q) (s, two_ty m a b u w x k ha hb e2)
  eval_ty m (overflow op a b) t r k (u, w, s, z, ht, ha, hb) e =
      let (_, e1, k1) = bind_some e in
      let (x, e2, k2) = bind_some k1 in
      subst (λ r. Gives (HasTy D G t) r) (let q = some_eq D G _ r _ refl k2 in q) ((scalar s, more (scalar z) empty, ap (fields_of D) ht, refl, (scalar z, empty, refl, refl, refl)), two_ty m a b u w x k ha hb e2)
  eval_ty m (unary op a) t r k (u, s, ha) e =
      let (_, e1, k1) = bind_some e in
      let (x, e2, k2) = bind_some k1 in
      subst (λ r. Gives (HasTy D G t) r) (some_eq D G _ r _ refl k2) (s, read_number_ty m a u x k ha e2)
  eval_ty m (cast a to) t r k (u, s, ha) e =
      let (_, e1, k1) = bind_some e in
      let (_, e2, k2) = bind_some k1 in
      let (x, e3, k3) = bind_some k2 in
      subst (λ r. Gives (HasTy D G t) r) (some_eq D G _ r _ refl k3) (s, read_number_ty m a u x k ha e3)
  eval_ty m (rvalue.ref p) t r k (u, hp, ht) e =
      let (a, e1, k1) = bind_some e in
      subst (λ r. Gives (HasTy D G t) r) (some_eq D G _ r _ refl k1) ((u, hp, resolve_ty m p a u k ht e1), k)
  eval_ty m (rvalue.ref_mut p) t r k (u, hp, ht) e =
      let (a, e1, k1) = bind_some e in
      subst (λ r. Gives (HasTy D G t) r) (some_eq D G _ r _ refl k1) ((u, hp, resolve_ty m p a u k ht e1), k)
  eval_ty m (discriminant p) t r k h e =
      let (a, e1, k1) = bind_some e in
      let (v, e2, k2) = bind_some k1 in
      let (n, e3, k3) = bind_some k2 in
      subst (λ r. Gives (HasTy D G t) r) (some_eq D G _ r _ refl k3) (h, k)
  eval_ty m (tuple os) t r k h e =
      let (x, e1, k1) = bind_some e in
      subst (λ r. Gives (HasTy D G t) r) (some_eq D G _ r _ refl k1) (read_all_ty os m t x k h e1)
  eval_ty m (build d n os) t r k (us, hs, hb) e =
      let (x, e1, k1) = bind_some e in
      let (hv, k') = read_all_ty os m us x k hs e1 in
      subst (λ r. Gives (HasTy D G t) r) (some_eq D G _ r _ refl k1) (built_ty D G d n us t os (listed x.0) (listed_list x.0) hb hv, k')

  pub store_ty : (m m' : Memory) (d : Dest) (t : Tree) (v : Value) → MemTy D G m → AddrTy D G d.addr t → HasTy D G t v → store D m d v ≡ Some m' → MemTy D G m'
  unfolding store
  store_ty m m' d t v k h hv e =
      let (old, e1, e2) = bind_some e in
      subst (λ m. MemTy D G m) (only_then _ (write m d.addr v) m' e2) (write_ty D G m d.addr t v k h hv)

  abbrev pub StmtTy : TypedStmt → Type 0
  StmtTy (assign p x) = (t : Tree) × (type_of H p ≡ Some t) × RvalueTy x t
  StmtTy (storage_live x) = Unit {0}
  StmtTy (storage_dead x) = Unit {0}
  StmtTy (set_discriminant p n) = Unit {0}

  pub dest_ty : (m : Memory) (p : Place) (t : Tree) (d : Dest) → MemTy D G m → type_of H p ≡ Some t → dest_of H m p ≡ Some d → AddrTy D G d.addr t
  unfolding dest_of
  dest_ty m p t d k e x =
      let (a, e1, k1) = bind_some x in
      let (u, e2, k2) = bind_some k1 in
      subst (λ d. AddrTy D G d.addr t) (some_eq D G _ d _ refl k2) (resolve_ty m p a t k e e1)

  blanked_ty : (m m' : Memory) (x : ℕ) → MemTy D G m → set_blank H m x ≡ Some m' → MemTy D G m'
  unfolding set_blank local_addr
  blanked_ty m m' x k e =
      let (t, e1, k1) = bind_some e in
      subst (λ m. MemTy D G m) (some_eq D G _ m' _ refl k1) (write_ty D G m _ t (blank D t) k (record { local = t; is = locals_ok x t e1; path = refl }) (blank_ok t))

  set_ty : (m : Memory) (a : Addr) (t us : Tree) (n : ℕ) (b : Bool) → MemTy D G m → AddrTy D G a t → variant_ty D t n ≡ Some us → MemTy D G (write_unless b m a (variant n (blank D us)))
  unfolding write_unless
  set_ty m a t us n true k h e = k
  set_ty m a t us n false k h e = write_ty D G m a t (variant n (blank D us)) k h (us, e, blank_ok us)

  pub exec_ty : (m m' : Memory) (x : TypedStmt) → MemTy D G m → StmtTy x → exec H m x ≡ Some m' → MemTy D G m'
  unfolding exec
  exec_ty m m' (assign p x) k (t, hp, hx) e =
      let (v, e1, k1) = bind_some e in
      let (d, e2, k2) = bind_some k1 in
      let (hv, k') = eval_ty m x t v k hx e1 in
      store_ty v.1 m' d t v.0 k' (dest_ty v.1 p t d k' hp e2) hv k2
  exec_ty m m' (storage_live x) k h e = blanked_ty m m' x k e
  exec_ty m m' (storage_dead x) k h e = blanked_ty m m' x k e
  exec_ty m m' (set_discriminant p n) k h e =
      let (a, e1, k1) = bind_some e in
      let (v, e2, k2) = bind_some k1 in
      let (t, e3, k3) = bind_some k2 in
      let (us, e4, k4) = bind_some k3 in
      subst (λ m. MemTy D G m) (some_eq D G _ m' _ refl k4) (set_ty m a t us n (is_variant n v) k (resolve_ty m p a t k e3 e1) e4)

-- the blank of a type is related to any value that stands where a value of that type stood
module _ (D : List Shape) (G : TypeMap) (j : Renaming) where
  abbrev Blanks : (ℕ → Value) → Type 0
  Blanks of_def = (d : ℕ) (v w : Value) → HasTy D G (named d) v → ValueRel j v w → ValueRel j (of_def d) w

  blank_by_any : (of_def : ℕ → Value) → Blanks of_def → (t : Tree) (v w : Value) → HasTy D G t v → ValueRel j v w → ValueRel j (blank_by of_def t) w
  blank_by_any of_def h (scalar s) v w ty r = tt
  blank_by_any of_def h (ref t) v w ty r = tt
  blank_by_any of_def h (ref_mut t) v w ty r = tt
  blank_by_any of_def h (named d) v w ty r = h d v w ty r
  blank_by_any of_def h empty nil nil ty r = tt
  blank_by_any of_def h (more t ts) (cons v vs) (cons w ws) (u, us, e, ty, tys) r =
      let (same, sames) = more_eq D G t ts u us e in
      (blank_by_any of_def h t v w (subst (λ y. HasTy D G y v) (sym same) ty) r.0, blank_by_any of_def h ts vs ws (subst (λ y. HasTy D G y vs) (sym sames) tys) r.1)
  blank_by_any of_def h empty v w ty r = absurd (grind arith)
  blank_by_any of_def h (more t ts) v w ty r = absurd (grind arith)

  neither : (a b : Bool) → (a || b) ≡ false → (a ≡ false) × (b ≡ false)
  neither true b e = absurd (grind arith)
  neither false b e = (refl, e)

  as_fields : (d : ℕ) (df : Shape) (v : Value) → slice_get D d ≡ Some df → (df.is_enum || is_some df.destructor) ≡ false → HasTy D G (named d) v → HasTy D G (struct_fields df) v
  as_fields d df v e not_hole ty = go v ty
    where
      row : fields_of D (named d) ≡ Some (struct_fields df)
      row = some_bind _ e (ap (λ b. if b then None else Some (struct_fields df)) (neither df.is_enum (is_some df.destructor) not_hole).0)

      no_variant : (k : ℕ) (u : Tree) → variant_ty D (named d) k ≡ Some u → ⊥
      no_variant k u f =
          let (x, f1, f2) = bind_some f in
          let same : x ≡ df = some_eq D G x df (slice_get D d) f1 e in
          let none : variant_of_enum k x ≡ None = ap (variant_of_enum k) same ∙ ap (λ b. if b then slice_get df.variants k else None) (neither df.is_enum (is_some df.destructor) not_hole).0 in
          grind arith

      go : (v : Value) → HasTy D G (named d) v → HasTy D G (struct_fields df) v
      go nil ty = ap (fields_of D) (some_eq D G (struct_fields df) empty (fields_of D (named d)) row ty)
      go (cons v vs) ty = as_rows D G (named d) (struct_fields df) v vs ty row
      go hole ty = absurd (let h : holds_by (slice_get D d) ≡ false = ap holds_by e ∙ not_hole in grind arith)
      go (number n) ty = absurd (grind arith)
      go (variant k w) (u, f, h) = absurd (no_variant k u f)
      go (pointer a) (u, f, h) = absurd (grind arith)

  blank_def_any : (n : ℕ) → Blanks (blank_def D n)
  blank_def_any zero d v w ty r = tt
  blank_def_any (suc n) d v w ty r = go (blank_def_any n) (slice_get D d) refl
    where
      go : Blanks (blank_def D n) → (o : Option Shape) → slice_get D d ≡ o → ValueRel j (blank_of (blank_def D n) o) w
      go ih None e = tt
      go ih (Some df) e = pick (df.is_enum || is_some df.destructor) refl
        where
          pick : (b : Bool) → (df.is_enum || is_some df.destructor) ≡ b → ValueRel j (if b then hole else blank_by (blank_def D n) (struct_fields df)) w
          pick true x = tt
          pick false x = blank_by_any (blank_def D n) ih (struct_fields df) v w (as_fields d df v e x ty) r

  pub blank_any : (t : Tree) (v w : Value) → HasTy D G t v → ValueRel j v w → ValueRel j (blank D t) w
  unfolding blank
  blank_any t v w ty r = blank_by_any (blank_def D (length D)) (blank_def_any (length D)) t v w ty r

-- more types known
pub addr_more : (D : List Shape) (G K : TypeMap) → ((f x : ℕ) (t : Tree) → G f x ≡ Some t → K f x ≡ Some t) → (a : Addr) (t : Tree) → AddrTy D G a t → AddrTy D K a t
addr_more D G K up a t h = record { local = h.local; is = up a.frame a.local h.local h.is; path = h.path }

pub has_more : (D : List Shape) (G K : TypeMap) → ((f x : ℕ) (t : Tree) → G f x ≡ Some t → K f x ≡ Some t) → (v : Value) (t : Tree) → HasTy D G t v → HasTy D K t v
has_more D G K up (number n) t h = h
has_more D G K up nil t h = h
has_more D G K up (cons v vs) t (a, as', e, h, hs) = (a, as', e, has_more D G K up v a h, has_more D G K up vs as' hs)
has_more D G K up (variant k v) t (u, e, h) = (u, e, has_more D G K up v u h)
has_more D G K up (pointer a) t (u, e, h) = (u, e, addr_more D G K up a u h)
has_more D G K up hole t h = h

-- the blank of a type is related to any value of the type
module _ (D : List Shape) (G : TypeMap) (j : Renaming) where
  abbrev Fits : (ℕ → Value) → Type 0
  Fits of_def = (d : ℕ) (w : Value) → HasTy D G (named d) w → ValueRel j (of_def d) w

  fits_by : (of_def : ℕ → Value) → Fits of_def → (t : Tree) (w : Value) → HasTy D G t w → ValueRel j (blank_by of_def t) w
  fits_by of_def h (scalar s) w ty = tt
  fits_by of_def h (ref t) w ty = tt
  fits_by of_def h (ref_mut t) w ty = tt
  fits_by of_def h (named d) w ty = h d w ty
  fits_by of_def h empty nil ty = tt
  fits_by of_def h (more t ts) (cons w ws) (u, us, e, ty, tys) =
      let (same, sames) = more_eq D G t ts u us e in
      (fits_by of_def h t w (subst (λ y. HasTy D G y w) (sym same) ty), fits_by of_def h ts ws (subst (λ y. HasTy D G y ws) (sym sames) tys))
  fits_by of_def h empty w ty = absurd (grind arith)
  fits_by of_def h (more t ts) w ty = absurd (grind arith)

  fits_def : (n : ℕ) → Fits (blank_def D n)
  fits_def zero d w ty = tt
  fits_def (suc n) d w ty = go (fits_def n) (slice_get D d) refl
    where
      go : Fits (blank_def D n) → (o : Option Shape) → slice_get D d ≡ o → ValueRel j (blank_of (blank_def D n) o) w
      go ih None e = tt
      go ih (Some df) e = pick (df.is_enum || is_some df.destructor) refl
        where
          pick : (b : Bool) → (df.is_enum || is_some df.destructor) ≡ b → ValueRel j (if b then hole else blank_by (blank_def D n) (struct_fields df)) w
          pick true x = tt
          pick false x = fits_by (blank_def D n) ih (struct_fields df) w (as_fields D G j d df w e x ty)

  pub blank_fits : (t : Tree) (w : Value) → HasTy D G t w → ValueRel j (blank D t) w
  unfolding blank
  blank_fits t w ty = fits_by (blank_def D (length D)) (fits_def (length D)) t w ty
