-- What is known of scalars holds: reads and writes of a frame.
use Rattle.std.proofs.Common.{◌≡◌, ◌⊎◌, inl, inr, ⊎_elim, refl, sym, ap, ap₂, ◌∙◌, subst, ℕ, Bool, true, false, nat_eq, if◌then◌else◌, List, [], ◌∷◌, ◌++◌, length, Option, Some, None, slice_get, option_map, arith}
use Rattle.std.proofs.lemmas.Bool.{eqb-false}
use Rattle.std.proofs.lemmas.List.{append-nil}
use Rattle.mir_syntax.specs.declared.body.Proj.{Proj}
use Rattle.mir_syntax.specs.declared.body.Proj.TheVariants.{Field, Downcast, Deref}
use Rattle.mir_syntax.specs.declared.body.Place.{Place}
use Rattle.mir_syntax.specs.Tree.{Tree, scalar}
use Rattle.mir_syntax.specs.Shapes.{Shape, ◌>>=◌, path_ty, place_ty}
use Rattle.mir_semantics.specs.Values.{Addr, Value, at_path, put, blank}
use Rattle.mir_semantics.specs.Memory.{Memory, local_at, value_at, write}
use Rattle.mir_semantics.specs.Step.{Here, local_addr, resolve, type_of}
use Rattle.mir_syntax.specs.Parts.{has_deref, is_direct}
use Rattle.mir_syntax.proofs.Binds.{bind_some}
use Rattle.mir_syntax.proofs.Parts.{direct_no_deref}
use Rattle.mir_renaming.specs.Renaming.{Renaming, ValueRel, Sub, MemRel, RootOf}
use Rattle.mir_renaming.proofs.Memory.{value_at_rel, root_or_not, write_same, write_other}
use Rattle.mir_renaming.proofs.Walks.{walk_plain, walk_deref_rel}
use Rattle.const_flow.specs.declared.cell.Cell.{Cell}
use Rattle.const_flow.specs.declared.cell.Cell.TheVariants.{Nothing, Many}
use Rattle.place_map.specs.Tracked.{rest_of, way}
use Rattle.const_flow.specs.Facts.{Fact, Facts, is_end, look, put_known, put_fact, learn, always}
use Rattle.place_map.proofs.Sides.{way_is}
use Rattle.const_flow.specs.Holding.{Fits, H, ScalarPlace, addr_of, HoldsAt, Holds}
use Rattle.const_flow.proofs.sound.Values.{nothing_fits, many_fits, put_apart, put_under, path_append, blank_scalar}

no_way : (qs ps : List Proj) → is_direct ps ≡ true → has_deref qs ≡ true → rest_of qs ps ≡ None
no_way [] ps f e = absurd (grind arith)
no_way (q ∷ qs) [] f e = refl
no_way (Field i ∷ qs) (Field j ∷ ps) f e = go (no_way qs ps f e) (nat_eq i j)
  where
    go : rest_of qs ps ≡ None → (b : Bool) → (if b then rest_of qs ps else None) ≡ None
    go ih true = ih
    go ih false = refl
no_way (Downcast k ∷ qs) (Field j ∷ ps) f e = refl
no_way (Deref ∷ qs) (Field j ∷ ps) f e = refl
no_way qs (Downcast k ∷ ps) f e = absurd (grind arith)
no_way qs (Deref ∷ ps) f e = absurd (grind arith)

-- what is reached through a reference: a local that is lent
abbrev pub Shared : Renaming → Addr → Type 0
Shared i a = i a.frame a.local ≡ Some (a.frame, a.local)

-- an address that a place of a frame can have
abbrev pub Where : Renaming → ℕ → Place → Addr → Type 0
Where i f p a = ((has_deref p.proj ≡ false) × (a ≡ record { frame = f; local = p.local; path = p.proj })) ⊎ ((has_deref p.proj ≡ true) × Shared i a)

some_one : {A : Type 0} {x y : A} → Some x ≡ Some y → x ≡ y
some_one e = grind arith

-- i: the lent locals, each for itself; K: those and the frame's own
pub record Seen (i K : Renaming) (f : ℕ) : Type 0 where
  pub low : Sub i K
  pub own : (x : ℕ) → K f x ≡ Some (f, x)
  pub selves : (h x : ℕ) (r : ℕ × ℕ) → K h x ≡ Some r → r ≡ (h, x)

-- from there references lead to lent locals alone
abbrev pub Sealed : Renaming → Renaming → Memory → Type 0
Sealed i K m = MemRel i K m m

module _ (i K : Renaming) (f : ℕ) (seen : Seen i K f) where
  pub where_seen : (p : Place) (a : Addr) → Where i f p a → K a.frame a.local ≡ Some (a.frame, a.local)
  where_seen p a (inl (d, same)) = ap (λ (a : Addr). K a.frame a.local) same ∙ seen.own p.local ∙ ap (λ (a : Addr). Some (a.frame, a.local)) (sym same)
  where_seen p a (inr (d, s)) = seen.low a.frame a.local _ s

  pub value_self : (m : Memory) (a : Addr) (v : Value) → Sealed i K m → K a.frame a.local ≡ Some (a.frame, a.local) → value_at m a ≡ Some v → ValueRel i v v
  value_self m a v s k e = let (w, e', r) = value_at_rel i K m m s a a (record { root = k; path = refl }) v e in subst (λ w. ValueRel i v w) (some_one (sym e' ∙ e)) r

  pub resolve_where : (D : List Shape) (ts : List Tree) (m : Memory) (p : Place) (a : Addr) → Sealed i K m → resolve (record { shapes = D; locals = ts; frame = f }) m p ≡ Some a → Where i f p a
  unfolding resolve local_addr
  resolve_where D ts m p a s e = go (has_deref p.proj) refl
    where
      go : (b : Bool) → has_deref p.proj ≡ b → Where i f p a
      go true h =
          let start : Addr = record { frame = f; local = p.local; path = [] } in
          let (b, e', r) = walk_deref_rel i K seen.low m m s p.proj start start a h (record { root = seen.own p.local; path = refl }) e in
          inr (h, r.root ∙ ap (λ (a : Addr). Some (a.frame, a.local)) (some_one (sym e' ∙ e)))
      go false h = let (x, y, z) = walk_plain p.proj m _ a h e in inl (h, ap₂ (λ (g x : ℕ). record { frame = g; local = x; path = a.path }) x y ∙ ap (λ q. record { frame = f; local = p.local; path = q }) z)

-- the facts of a frame whose locals have these types; some of them aren't borrowed
module _ (D : List Shape) (ts : List Tree) (f : ℕ) (Free : ℕ → Type 0) where
  abbrev E : Here
  E = H D ts f Free

  abbrev Scalar : Place → Type 0
  Scalar = ScalarPlace D ts f Free

  abbrev address : Place → Addr
  address = addr_of D ts f Free

  abbrev HoldAt : Memory → Fact → Type 0
  HoldAt = HoldsAt D ts f Free

  abbrev Hold : Memory → Facts → Type 0
  Hold = Holds D ts f Free

  -- ways
  way_parts : (q p : Place) (r : List Proj) → way q p ≡ Some r → (q.local ≡ p.local) × (p.proj ≡ q.proj ++ r)
  way_parts q p r e = let same = way_is q p r e in (ap (λ (p : Place). p.local) (sym same), ap (λ (p : Place). p.proj) same)

  way_none : (q p : Place) → way q p ≡ None → (q.local ≡ p.local → ⊥) ⊎ (rest_of q.proj p.proj ≡ None)
  unfolding way
  way_none q p e = go (nat_eq q.local p.local) refl e
    where
      go : (b : Bool) → nat_eq q.local p.local ≡ b → (if b then rest_of q.proj p.proj else None) ≡ None → (q.local ≡ p.local → ⊥) ⊎ (rest_of q.proj p.proj ≡ None)
      go true h e = inr e
      go false h e = inl (eqb-false q.local p.local h)

  deref_way : (q p : Place) → is_direct p.proj ≡ true → has_deref q.proj ≡ true → way q p ≡ None
  unfolding way
  deref_way q p h d = go (nat_eq q.local p.local)
    where
      go : (b : Bool) → (if b then rest_of q.proj p.proj else None) ≡ None
      go true = no_way q.proj p.proj h d
      go false = refl

  end_is : (o : Option (List Proj)) → is_end o ≡ true → o ≡ Some []
  end_is (Some []) e = refl
  end_is o e = absurd (grind arith)

  -- what is known of a place holds
  pub look_holds : (m : Memory) (fs : Facts) (p : Place) → Hold m fs → Fits (look fs p) (value_at m (address p))
  unfolding look
  look_holds m [] p h = many_fits (value_at m (address p))
  look_holds m (e ∷ fs) p h = go (look_holds m fs p h.1) (is_end (way e.place p)) refl
    where
      go : Fits (look fs p) (value_at m (address p)) → (b : Bool) → is_end (way e.place p) ≡ b → Fits (if b then e.known else look fs p) (value_at m (address p))
      go ih true q =
          let (same, path) = way_parts e.place p [] (end_is _ q) in
          subst (λ a. Fits e.known (value_at m a)) (ap₂ (λ x ps. record { frame = f; local = x; path = ps }) same (sym (append-nil e.place.proj) ∙ sym path)) h.0.1
      go ih false q = ih

  -- nothing is known of a place with a dereference
  pub look_deref : (m : Memory) (fs : Facts) (p : Place) → Hold m fs → has_deref p.proj ≡ true → look fs p ≡ Many
  unfolding look
  look_deref m [] p h d = refl
  look_deref m (e ∷ fs) p h d = go (look_deref m fs p h.1 d) (is_end (way e.place p)) refl
    where
      only : (ps : List Proj) → is_direct ps ≡ true → has_deref ps ≡ true → ⊥
      only ps h d = let z : true ≡ false = sym d ∙ direct_no_deref ps h in grind arith

      go : look fs p ≡ Many → (b : Bool) → is_end (way e.place p) ≡ b → (if b then e.known else look fs p) ≡ Many
      go ih true q =
          let (same, path) = way_parts e.place p [] (end_is _ q) in
          absurd (only p.proj (subst (λ ps. is_direct ps ≡ true) (sym (path ∙ append-nil e.place.proj)) h.0.0.direct) d)
      go ih false q = ih

  module _ (i : Renaming) (shut : (x : ℕ) → Free x → i f x ≡ None) where
    -- a write and what is then known
    write_fits : (m : Memory) (a : Addr) (v : Value) (k : Cell) (x : ℕ) (ps : List Proj) → is_direct ps ≡ true → (a.frame ≡ f → a.local ≡ x → rest_of a.path ps ≡ None) → Fits k (local_at m f x >>= at_path ps) → Fits k (local_at (write m a v) f x >>= at_path ps)
    unfolding ◌>>=◌
    write_fits m a v k x ps h free fit = go (root_or_not a f x)
      where
        on : (o : Option Value) → rest_of a.path ps ≡ None → Fits k (o >>= at_path ps) → Fits k (option_map (put a.path v) o >>= at_path ps)
        on None n fit = tt
        on (Some o) n fit = put_apart k a.path ps v o h n fit

        go : RootOf a f x ⊎ (f ≡ a.frame → x ≡ a.local → ⊥) → Fits k (local_at (write m a v) f x >>= at_path ps)
        go (inl r) = subst (λ o. Fits k (o >>= at_path ps)) (sym (write_same m a v f x r)) (on (local_at m f x) (free (sym r.0) (sym r.1)) fit)
        go (inr n) = subst (λ o. Fits k (o >>= at_path ps)) (sym (write_other m a v f x n)) fit

    write_under : (m : Memory) (x : ℕ) (qs r : List Proj) (v : Value) (k : Cell) → Fits k (at_path r v) → Fits k (local_at (write m (record { frame = f; local = x; path = qs }) v) f x >>= at_path (qs ++ r))
    unfolding ◌>>=◌
    write_under m x qs r v k fit = subst (λ o. Fits k (o >>= at_path (qs ++ r))) (sym (write_same m (record { frame = f; local = x; path = qs }) v f x (refl, refl))) (on (local_at m f x))
      where
        on : (o : Option Value) → Fits k (option_map (put qs v) o >>= at_path (qs ++ r))
        on None = tt
        on (Some o) = put_under k qs r v o fit

    shared_not : (a : Addr) (x : ℕ) → Shared i a → Free x → a.frame ≡ f → a.local ≡ x → ⊥
    shared_not a x s h e d = let z : ◌≡◌ {A = Option (ℕ × ℕ)} None (Some (a.frame, a.local)) = sym (shut x h) ∙ sym (ap₂ i e d) ∙ s in grind arith

    -- what a place's new value is to be
    abbrev pub NewOk : Place → (List Proj → Cell) → Value → Type 0
    NewOk q new v = (p : Place) (r : List Proj) → Scalar p → way q p ≡ Some r → Fits (new r) (at_path r v)

    learn_at : (m : Memory) (a : Addr) (v : Value) (q : Place) (new : List Proj → Cell) (e : Fact) → Where i f q a → NewOk q new v → HoldAt m e → HoldAt (write m a v) (put_fact q new e)
    unfolding value_at
    learn_at m a v q new e (inl (d, same)) ok h = go (way q e.place) refl
      where
        go : (o : Option (List Proj)) → way q e.place ≡ o → HoldAt (write m a v) (put_known new e o)
        go (Some r) w =
            let (l, path) = way_parts q e.place r w in
            (h.0, subst (λ a. Fits (new r) (local_at (write m a v) f e.place.local >>= at_path e.place.proj)) (sym same) (subst (λ ps. Fits (new r) (local_at (write m (address q) v) f e.place.local >>= at_path ps)) (sym path) (subst (λ x. Fits (new r) (local_at (write m (address q) v) f x >>= at_path (q.proj ++ r))) l (write_under m q.local q.proj r v (new r) (ok e.place r h.0 w)))))
        go None w = (h.0, subst (λ a. Fits e.known (local_at (write m a v) f e.place.local >>= at_path e.place.proj)) (sym same) (write_fits m (address q) v e.known e.place.local e.place.proj h.0.direct (λ _ l. ⊎_elim (λ n. absurd (n l)) (λ z. z) (way_none q e.place w)) h.1))
    learn_at m a v q new e (inr (d, s)) ok h =
        subst (λ o. HoldAt (write m a v) (put_known new e o)) (sym (deref_way q e.place h.0.direct d)) (h.0, write_fits m a v e.known e.place.local e.place.proj h.0.direct (λ x y. absurd (shared_not a e.place.local s h.0.free x y)) h.1)

    pub learn_holds : (m : Memory) (a : Addr) (v : Value) (q : Place) (new : List Proj → Cell) (fs : Facts) → Where i f q a → NewOk q new v → Hold m fs → Hold (write m a v) (learn q new fs)
    unfolding learn
    learn_holds m a v q new [] w ok h = tt
    learn_holds m a v q new (e ∷ fs) w ok h = (learn_at m a v q new e w ok h.0, learn_holds m a v q new fs w ok h.1)

    -- less is known
    forget_at : (m : Memory) (q : Place) (e : Fact) (o : Option (List Proj)) → HoldAt m (put_known (always Nothing) e o) → HoldAt m e
    forget_at m q e None h = h
    forget_at m q e (Some r) h = (h.0, nothing_fits e.known _ h.1)

    pub forget_holds : (m : Memory) (q : Place) (fs : Facts) → Hold m (learn q (always Nothing) fs) → Hold m fs
    unfolding learn
    forget_holds m q [] h = tt
    forget_holds m q (e ∷ fs) h = (forget_at m q e (way q e.place) h.0, forget_holds m q fs h.1)

    only_tail : (qs r : List Proj) → is_direct (qs ++ r) ≡ true → is_direct r ≡ true
    only_tail [] r h = h
    only_tail (Field i ∷ qs) r h = only_tail qs r h
    only_tail (Downcast k ∷ qs) r h = absurd (grind arith)
    only_tail (Deref ∷ qs) r h = absurd (grind arith)

    -- the way from a place to a tracked one under it
    pub under : (q : Place) (t : Tree) (p : Place) (r : List Proj) → type_of E q ≡ Some t → (g : Scalar p) → way q p ≡ Some r → is_direct r ≡ true × (path_ty D t r ≡ Some (scalar g.ty))
    unfolding type_of place_ty
    under q t p r e g w =
        let (l, path) = way_parts q p r w in
        let (u, e1, e2) = bind_some e in
        let (u', g1, g2) = bind_some g.scalar in
        let same : u ≡ u' = some_one (sym e1 ∙ ap (slice_get ts) l ∙ g1) in
        let e3 : path_ty D u (q.proj ++ r) ≡ Some (scalar g.ty) = subst (λ ps. path_ty D u ps ≡ Some (scalar g.ty)) path (subst (λ u. path_ty D u p.proj ≡ Some (scalar g.ty)) (sym same) g2) in
        (only_tail q.proj r (subst (λ ps. is_direct ps ≡ true) path g.direct), sym (path_append D u t q.proj r e2) ∙ e3)

    -- the blank of a place
    pub blank_new : (q : Place) (t : Tree) → type_of E q ≡ Some t → NewOk q (always Nothing) (blank D t)
    unfolding blank
    blank_new q t e p r g w = let (o, z) = under q t p r e g w in blank_scalar D r (length D) t g.ty o z
