-- Where a type needs drop, the target has a hole exactly where the source has one.
use Rattle.std.proofs.Common.{◌≡◌, ◌⊎◌, inl, inr, refl, sym, ap, ap₂, ◌∙◌, subst, ℕ, zero, suc, Bool, true, false, nat_eq, if◌then◌else◌, List, [], ◌∷◌, Some, None, option_map, arith}
use Rattle.std.proofs.lemmas.Bool.{eqb-true, and_parts}
use Rattle.mir_syntax.specs.declared.body.Proj.{Proj}
use Rattle.mir_syntax.specs.declared.body.Proj.TheVariants.{Field, Downcast, Deref}
use Rattle.mir_syntax.specs.Tree.{Tree, scalar, empty, more, named}
use Rattle.mir_syntax.specs.Tree as tree
use Rattle.mir_syntax.specs.Shapes.{Shape, fields_of, field_ty, variant_ty, path_ty, needs_drop}
use Rattle.mir_semantics.specs.Values.{Addr, Value, number, nil, cons, variant, pointer, hole, is_hole, part, payload, at_path, change_part, change_payload, put, whole}
use Rattle.mir_semantics.specs.Memory.{Memory, local_at, value_at, write}
use Rattle.mir_renaming.specs.Renaming.{Renaming, ValueRel, MemRel, RootOf}
use Rattle.mir_syntax.proofs.Binds.{bind_some}
use Rattle.mir_renaming.proofs.Memory.{root_or_not, write_same, write_other, write_back, write_again}
use Rattle.mir_renaming.proofs.Types.{TypeMap, AddrTy, some_eq}

some_same : {a b : Value} → Some a ≡ Some b → a ≡ b
some_same e = grind arith

-- a hole exactly where a hole is
abbrev pub Tight : Value → Value → Type 0
Tight hole w = is_hole w ≡ true
Tight (cons v vs) (cons w ws) = Tight v w × Tight vs ws
Tight (variant k v) (variant i w) = Tight v w
Tight _ _ = Unit {0}

-- what needs no drop has no part that does: acyclic definitions
pub record NeedsOk (D : List Shape) : Type 0 where
  pub row : (t u us : Tree) → needs_drop D t ≡ false → fields_of D t ≡ Some (more u us) → (needs_drop D u ≡ false) × (needs_drop D us ≡ false)
  pub variant : (t u : Tree) (k : ℕ) → needs_drop D t ≡ false → variant_ty D t k ≡ Some u → needs_drop D u ≡ false

module _ (D : List Shape) where
  abbrev pub Agree : Tree → Value → Value → Type 0
  Agree t hole w = needs_drop D t ≡ true → is_hole w ≡ true
  Agree t (cons v vs) (cons w ws) = (u us : Tree) → fields_of D t ≡ Some (more u us) → Agree u v w × Agree us vs ws
  Agree t (variant k v) (variant i w) = (u : Tree) → variant_ty D t k ≡ Some u → Agree u v w
  Agree t _ _ = Unit {0}

  pub tight_agree : (v w : Value) (t : Tree) → Tight v w → Agree t v w
  tight_agree hole w t h = λ n. h
  tight_agree (cons v vs) (cons w ws) t h = λ u us e. (tight_agree v w u h.0, tight_agree vs ws us h.1)
  tight_agree (variant k v) (variant i w) t h = λ u e. tight_agree v w u h
  tight_agree v w t h = tt

  pub no_need : NeedsOk D → (v w : Value) (t : Tree) → needs_drop D t ≡ false → Agree t v w
  no_need k hole w t n = λ y. absurd (let z : true ≡ false = sym y ∙ n in grind arith)
  no_need k (cons v vs) (cons w ws) t n = λ u us e. (let (a, b) = k.row t u us n e in (no_need k v w u a, no_need k vs ws us b))
  no_need k (variant i v) (variant i' w) t n = λ u e. no_need k v w u (k.variant t u i n e)
  no_need k v w t n = tt

  more_is : (i : ℕ) (b u : Tree) → field_ty b i ≡ Some u → fields_of D b ≡ Some b
  more_is i (more c d) u f = refl
  more_is i (scalar s) u f = absurd (grind arith)
  more_is i empty u f = absurd (grind arith)
  more_is i (tree.ref t) u f = absurd (grind arith)
  more_is i (tree.ref_mut t) u f = absurd (grind arith)
  more_is i (named d) u f = absurd (grind arith)

  -- a part of both
  part_agree : (i : ℕ) (t us u : Tree) (v w v' w' : Value) → Agree t v w → fields_of D t ≡ Some us → field_ty us i ≡ Some u → part i v ≡ Some v' → part i w ≡ Some w' → Agree u v' w'
  part_agree zero t (more a as') u (cons v vs) (cons w ws) v' w' h r f e1 e2 =
      subst (λ y. Agree u y w') (let q : v ≡ v' = grind arith in q) (subst (λ y. Agree u v y) (let q : w ≡ w' = grind arith in q) (subst (λ y. Agree y v w) (let q : a ≡ u = grind arith in q) (h a as' r).0))
  part_agree (suc i) t (more a as') u (cons v vs) (cons w ws) v' w' h r f e1 e2 = part_agree i as' as' u vs ws v' w' (h a as' r).1 (more_is i as' u f) f e1 e2
  part_agree zero t us u v w v' w' h r f e1 e2 = absurd (grind arith)
  part_agree (suc i) t us u v w v' w' h r f e1 e2 = absurd (grind arith)

  payload_agree : (k : ℕ) (t u : Tree) (v w v' w' : Value) → Agree t v w → variant_ty D t k ≡ Some u → payload k v ≡ Some v' → payload k w ≡ Some w' → Agree u v' w'
  payload_agree k t u (variant i v) (variant i' w) v' w' h f e1 e2 = go (nat_eq i k) (nat_eq i' k) refl e1 e2
    where
      go : (b c : Bool) → nat_eq i k ≡ b → (if b then Some v else None) ≡ Some v' → (if c then Some w else None) ≡ Some w' → Agree u v' w'
      go true true n e1 e2 = subst (λ y. Agree u y w') (let q : v ≡ v' = grind arith in q) (subst (λ y. Agree u v y) (let q : w ≡ w' = grind arith in q) (h u (subst (λ z. variant_ty D t z ≡ Some u) (sym (eqb-true i k n)) f)))
      go false c n e1 e2 = absurd (grind arith)
      go true false n e1 e2 = absurd (grind arith)
  payload_agree k t u v w v' w' h f e1 e2 = absurd (grind arith)

  pub at_path_agree : (ps : List Proj) (t u : Tree) (v w v' w' : Value) → Agree t v w → path_ty D t ps ≡ Some u → at_path ps v ≡ Some v' → at_path ps w ≡ Some w' → Agree u v' w'
  at_path_agree [] t u v w v' w' h f e1 e2 = subst (λ y. Agree u y w') (let q : v ≡ v' = grind arith in q) (subst (λ y. Agree u v y) (let q : w ≡ w' = grind arith in q) (subst (λ y. Agree y v w) (let q : t ≡ u = grind arith in q) h))
  at_path_agree (Field i ∷ ps) t u v w v' w' h f e1 e2 =
      let (t', f1, f2) = bind_some f in
      let (us, r, f3) = bind_some f1 in
      let (x, p1, p2) = bind_some e1 in
      let (y, q1, q2) = bind_some e2 in
      at_path_agree ps t' u x y v' w' (part_agree i t us t' v w x y h r f3 p1 q1) f2 p2 q2
  at_path_agree (Downcast k ∷ ps) t u v w v' w' h f e1 e2 =
      let (t', f1, f2) = bind_some f in
      let (x, p1, p2) = bind_some e1 in
      let (y, q1, q2) = bind_some e2 in
      at_path_agree ps t' u x y v' w' (payload_agree k t t' v w x y h f1 p1 q1) f2 p2 q2
  at_path_agree (Deref ∷ ps) t u v w v' w' h f e1 e2 = let (x, p1, p2) = bind_some e1 in absurd (grind arith)

  -- changes of both
  module _ (j : Renaming) where
    abbrev Steps : Tree → (Value → Value) → (Value → Value) → Type 0
    Steps u g k = (x y : Value) → ValueRel j x y → Agree u x y → Agree u (g x) (k y)

    hole_part : (i : ℕ) (k : Value → Value) (w : Value) → is_hole w ≡ true → is_hole (change_part i k w) ≡ true
    hole_part zero k hole h = refl
    hole_part (suc i) k hole h = refl
    hole_part i k w h = absurd (grind arith)

    first : (us u : Tree) → field_ty us 0 ≡ Some u → (a as' : Tree) → us ≡ more a as' → a ≡ u
    first us u f a as' s = let z : field_ty (more a as') 0 ≡ Some u = subst (λ y. field_ty y 0 ≡ Some u) s f in grind arith

    part_change : (i : ℕ) (t us u : Tree) (g k : Value → Value) → Steps u g k → (v w : Value) → ValueRel j v w → Agree t v w → fields_of D t ≡ Some us → field_ty us i ≡ Some u → Agree t (change_part i g v) (change_part i k w)
    part_change zero t us u g k st (cons v vs) (cons w ws) rel h r f = λ a as' e. (let same : us ≡ more a as' = some_eq D (λ f x. None) us (more a as') (fields_of D t) r e in let q : a ≡ u = first us u f a as' same in (subst (λ y. Agree y (g v) (k w)) (sym q) (st v w rel.0 (subst (λ y. Agree y v w) q (h a as' e).0)), (h a as' e).1))
    part_change (suc i) t us u g k st (cons v vs) (cons w ws) rel h r f = λ a as' e. (let same : us ≡ more a as' = some_eq D (λ f x. None) us (more a as') (fields_of D t) r e in let f' : field_ty as' i ≡ Some u = subst (λ y. field_ty y (suc i) ≡ Some u) same f in ((h a as' e).0, part_change i as' as' u g k st vs ws rel.1 (h a as' e).1 (more_is i as' u f') f'))
    part_change zero t us u g k st hole w rel h r f = λ n. hole_part zero k w (h n)
    part_change (suc i) t us u g k st hole w rel h r f = λ n. hole_part (suc i) k w (h n)
    part_change zero t us u g k st (number n) (number m) rel h r f = tt
    part_change zero t us u g k st nil nil rel h r f = tt
    part_change zero t us u g k st (pointer a) (pointer b) rel h r f = tt
    part_change zero t us u g k st (variant n v) (variant m w) rel h r f = h
    part_change (suc i) t us u g k st (number n) (number m) rel h r f = tt
    part_change (suc i) t us u g k st nil nil rel h r f = tt
    part_change (suc i) t us u g k st (pointer a) (pointer b) rel h r f = tt
    part_change (suc i) t us u g k st (variant n v) (variant m w) rel h r f = h
    part_change i t us u g k st v w rel h r f = absurd rel

    hole_payload : (n : ℕ) (k : Value → Value) (w : Value) → is_hole w ≡ true → is_hole (change_payload n k w) ≡ true
    hole_payload n k hole h = refl
    hole_payload n k w h = absurd (grind arith)

    payload_change : (n : ℕ) (t u : Tree) (g k : Value → Value) → Steps u g k → (v w : Value) → ValueRel j v w → Agree t v w → variant_ty D t n ≡ Some u → Agree t (change_payload n g v) (change_payload n k w)
    payload_change n t u g k st (variant i v) (variant i' w) rel h f = λ a fa. by a fa (nat_eq i n) (nat_eq i' n) (ap (λ z. nat_eq z n) rel.0) refl
      where
        by : (a : Tree) → variant_ty D t i ≡ Some a → (b c : Bool) → b ≡ c → nat_eq i n ≡ b → Agree a (if b then g v else v) (if c then k w else w)
        by a fa true true z q = (let same : a ≡ u = some_eq D (λ f x. None) a u (variant_ty D t n) (subst (λ m. variant_ty D t m ≡ Some a) (eqb-true i n q) fa) f in subst (λ y. Agree y (g v) (k w)) (sym same) (st v w rel.1 (subst (λ y. Agree y v w) same (h a fa))))
        by a fa false false z q = h a fa
        by a fa true false z q = absurd (grind arith)
        by a fa false true z q = absurd (grind arith)
    payload_change n t u g k st hole w rel h f = λ y. hole_payload n k w (h y)
    payload_change n t u g k st (number m) (number m') rel h f = tt
    payload_change n t u g k st nil nil rel h f = tt
    payload_change n t u g k st (cons v vs) (cons w ws) rel h f = h
    payload_change n t u g k st (pointer a) (pointer b) rel h f = tt
    payload_change n t u g k st v w rel h f = absurd rel

    pub put_agree : (ps : List Proj) (t u : Tree) (x y : Value) → Agree u x y → (v w : Value) → ValueRel j v w → Agree t v w → path_ty D t ps ≡ Some u → Agree t (put ps x v) (put ps y w)
    put_agree [] t u x y h v w rel k f = subst (λ z. Agree z x y) (let q : u ≡ t = grind arith in q) h
    put_agree (Field i ∷ ps) t u x y h v w rel k f =
        let (t', f1, f2) = bind_some f in
        let (us, r, f3) = bind_some f1 in
        part_change i t us t' (put ps x) (put ps y) (λ a b ra ka. put_agree ps t' u x y h a b ra ka f2) v w rel k r f3
    put_agree (Downcast n ∷ ps) t u x y h v w rel k f =
        let (t', f1, f2) = bind_some f in
        payload_change n t t' (put ps x) (put ps y) (λ a b ra ka. put_agree ps t' u x y h a b ra ka f2) v w rel k f1
    put_agree (Deref ∷ ps) t u x y h v w rel k f = k

pub whole_tight : (j : Renaming) (v w : Value) → ValueRel j v w → whole v ≡ true → Tight v w
whole_tight j (number n) w r h = tt
whole_tight j nil w r h = tt
whole_tight j (cons v vs) (cons w ws) r h = let (a, b) = and_parts (whole v) (whole vs) h in (whole_tight j v w r.0 a, whole_tight j vs ws r.1 b)
whole_tight j (variant k v) (variant i w) r h = whole_tight j v w r.1 h
whole_tight j (pointer a) w r h = tt
whole_tight j hole w r h = absurd (grind arith)
whole_tight j v w r h = absurd r

pub tight_self : (v : Value) → Tight v v
tight_self (number n) = tt
tight_self nil = tt
tight_self (cons v vs) = (tight_self v, tight_self vs)
tight_self (variant k v) = tight_self v
tight_self (pointer a) = tt
tight_self hole = refl

-- memories that agree at some locals of known types
module _ (D : List Shape) (Loc : ℕ → ℕ → Tree → Type 0) where
  pub record AgreeMem (m2 m1 : Memory) : Type 0 where
    pub at : (h x : ℕ) (t : Tree) → Loc h x t → (v w : Value) → local_at m1 h x ≡ Some v → local_at m2 h x ≡ Some w → Agree D t v w

  module _ (G : TypeMap) (known : (h x : ℕ) (t : Tree) → Loc h x t → G h x ≡ Some t) (j L : Renaming) (in_l : (h x : ℕ) (t : Tree) → Loc h x t → L h x ≡ Some (h, x)) where
    -- both write at one place
    pub write_agree : (m2 m1 : Memory) (a : Addr) (u : Tree) (v w : Value) → MemRel j L m2 m1 → AgreeMem m2 m1 → AddrTy D G a u → Agree D u v w → AgreeMem (write m2 a w) (write m1 a v)
    write_agree m2 m1 a u v w r k ha hv = record { at = λ h x t l v' w' e1 e2. go h x t l v' w' e1 e2 (root_or_not a h x) }
      where
        same : (h x : ℕ) (t : Tree) → Loc h x t → (v' w' : Value) → RootOf a h x → (o1 o2 : Value) → local_at m1 h x ≡ Some o1 → local_at m2 h x ≡ Some o2 → local_at (write m1 a v) h x ≡ Some v' → local_at (write m2 a w) h x ≡ Some w' → Agree D t v' w'
        same h x t l v' w' ro o1 o2 p1 p2 e1 e2 =
            let (o2', q, rel) = r.at h x h x (in_l h x t l) o1 p1 in
            let s2 : o2' ≡ o2 = some_same (sym q ∙ p2) in
            let lt : ha.local ≡ t = some_eq D G ha.local t (G h x) (ap₂ G ro.0 ro.1 ∙ ha.is) (known h x t l) in
            let v1 : put a.path v o1 ≡ v' = some_same (sym (ap (option_map (put a.path v)) p1) ∙ sym (write_same m1 a v h x ro) ∙ e1) in
            let w1 : put a.path w o2 ≡ w' = some_same (sym (ap (option_map (put a.path w)) p2) ∙ sym (write_same m2 a w h x ro) ∙ e2) in
            subst (λ y. Agree D t y w') v1 (subst (λ y. Agree D t (put a.path v o1) y) w1 (put_agree D j a.path t u v w hv o1 o2 (subst (λ y. ValueRel j o1 y) s2 rel) (k.at h x t l o1 o2 p1 p2) (subst (λ y. path_ty D y a.path ≡ Some u) lt ha.path)))

        go : (h x : ℕ) (t : Tree) → Loc h x t → (v' w' : Value) → local_at (write m1 a v) h x ≡ Some v' → local_at (write m2 a w) h x ≡ Some w' → RootOf a h x ⊎ (h ≡ a.frame → x ≡ a.local → ⊥) → Agree D t v' w'
        go h x t l v' w' e1 e2 (inl ro) =
            let (o1, p1) = write_back m1 a v h x v' e1 in
            let (o2, p2) = write_back m2 a w h x w' e2 in
            same h x t l v' w' ro o1 o2 p1 p2 e1 e2
        go h x t l v' w' e1 e2 (inr n) = k.at h x t l v' w' (sym (write_other m1 a v h x n) ∙ e1) (sym (write_other m2 a w h x n) ∙ e2)

    -- the source alone writes at a place whose type needs no drop
    pub write_agree_source : NeedsOk D → (m2 m1 : Memory) (a : Addr) (u : Tree) (v w : Value) → MemRel j L m2 m1 → AgreeMem m2 m1 → AddrTy D G a u → needs_drop D u ≡ false → value_at m2 a ≡ Some w → AgreeMem m2 (write m1 a v)
    write_agree_source nk m2 m1 a u v w r k ha nd ew =
        let k' = write_agree m2 m1 a u v w r k ha (no_need D nk v w u nd) in
        record { at = λ h x t l v' w' e1 e2. k'.at h x t l v' w' e1 (write_again m2 a w h x ew ∙ e2) }

    -- and where no local is among them
    pub write_agree_other : (m2 m1 : Memory) (a : Addr) (v : Value) → AgreeMem m2 m1 → ((t : Tree) → Loc a.frame a.local t → ⊥) → AgreeMem m2 (write m1 a v)
    write_agree_other m2 m1 a v k no_loc = record { at = λ h x t l v' w' e1 e2. k.at h x t l v' w' (sym (write_other m1 a v h x (λ p q. no_loc t (subst (λ y. Loc a.frame y t) q (subst (λ g. Loc g x t) p l)))) ∙ e1) e2 }

-- What goes between frames on both sides: results, calls, calls of outside functions, drops and returns.

-- ---- holes of drop are the same, and so are the visits of the parts

pub hole_too : (D : List Shape) (t : Tree) (v w : Value) → needs_drop D t ≡ true → Agree D t v w → is_hole v ≡ true → is_hole w ≡ true
hole_too D t hole w nd ag q = ag nd
hole_too D t v w nd ag q = absurd (grind arith)

hole_back : (j : Renaming) (v w : Value) → ValueRel j v w → is_hole v ≡ false → is_hole w ≡ false
hole_back j hole w r q = absurd (grind arith)
hole_back j v hole r q = absurd r
hole_back j v w r q = refl

pub same_hole : (j : Renaming) (D : List Shape) (t : Tree) (v w : Value) → needs_drop D t ≡ true → ValueRel j v w → Agree D t v w → is_hole v ≡ is_hole w
same_hole j D t v w nd r ag = go (is_hole v) refl
  where
    go : (b : Bool) → is_hole v ≡ b → b ≡ is_hole w
    go true e = sym (hole_too D t v w nd ag e)
    go false e = sym (hole_back j v w r e)
