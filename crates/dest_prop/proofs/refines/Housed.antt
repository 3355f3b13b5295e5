-- Memories of a frame whose locals that nobody has lent stand at their homes: what of them is related, and what writes leave.
use Rattle.std.proofs.Common.{◌≡◌, ◌⊎◌, inl, inr, refl, sym, ap, ap₂, ◌∙◌, subst, ℕ, ◌<◌, Bool, true, false, nat_eq, ◌&&◌, if◌then◌else◌, List, [], Option, Some, None, option_map, arith}
use Rattle.mir_syntax.specs.declared.body.Proj.{Proj}
use Rattle.mir_syntax.specs.Shapes.{Shape}
use Rattle.mir_syntax.proofs.Bools.{if_true, if_false}
use Rattle.mir_semantics.specs.Values.{Addr, Value, put}
use Rattle.mir_semantics.specs.Memory.{Memory, local_at, write}
use Rattle.mir_renaming.specs.Renaming.{Renaming, AddrRel, ValueRel, SomeRel, Sub, MemRel}
use Rattle.mir_renaming.proofs.Memory.{same_or_not, write_same, write_other, write_back, write_target, put_rel}
use Rattle.mir_renaming.proofs.Ghosts.{value_mono}
use Rattle.mir_renaming.proofs.Statements.{Linked}
use Rattle.mir_renaming.proofs.Types.{TypeMap}
use Rattle.mir_renaming.proofs.Stores.{pair_parts}
use Rattle.mir_relate.specs.Leaves.{Leaves}
use Rattle.mir_relate.proofs.Leaves.{some_val, leaves_source, leaves_target, leaves_then}
use Rattle.mir_relate.proofs.Living.{Placed, nobody, unlent_linked}

-- the values of a local and of its home, beside what is related
abbrev pub Beside : Type 1
Beside = ℕ → Value → Value → Type 0

module _ (j : Renaming) (f2 f1 : ℕ) (home : ℕ → ℕ) where
  -- locals that nobody has lent: those of a set are related to their homes, and each has room there
  pub record Housed (R : Beside) (a : ℕ → Bool) (m2 m1 : Memory) : Type 0 where
    pub at : (x : ℕ) (v : Value) → j f1 x ≡ None → a x ≡ true → local_at m1 f1 x ≡ Some v → SomeRel j v (local_at m2 f2 (home x))
    pub room : (x : ℕ) (v : Value) → j f1 x ≡ None → local_at m1 f1 x ≡ Some v → (w : Value) × (local_at m2 f2 (home x) ≡ Some w) × R x v w

  -- a lent local is its own home, and the home of one that isn't lent isn't lent
  pub record Homes : Type 0 where
    pub lent : (x g y : ℕ) → j f1 x ≡ Some (g, y) → home x ≡ x
    pub unlent : (x : ℕ) → j f1 x ≡ None → j f1 (home x) ≡ None

  -- those of the set stand at their homes
  abbrev pub homed : (ℕ → Bool) → Renaming
  homed a h x = if nat_eq f1 h && a x then Some (f2, home x) else j h x

  pub housed_more : (R R' : Beside) (a : ℕ → Bool) (m2 m1 : Memory) → ((x : ℕ) (v w : Value) → local_at m1 f1 x ≡ Some v → local_at m2 f2 (home x) ≡ Some w → R x v w → R' x v w) → Housed R a m2 m1 → Housed R' a m2 m1
  housed_more R R' a m2 m1 up h = record { at = h.at; room = λ x v none e. (let (w, g, r) = h.room x v none e in (w, g, up x v w e g r)) }

module _ (j : Renaming) (f2 f1 : ℕ) (home : ℕ → ℕ) (p : Placed j f2 f1) (hs : Homes j f2 f1 home) where
  lent_or_not : (h x : ℕ) → ((r : ℕ × ℕ) × (j h x ≡ Some r)) ⊎ (j h x ≡ None)
  lent_or_not h x = go (j h x) refl
    where
      go : (o : Option (ℕ × ℕ)) → j h x ≡ o → ((r : ℕ × ℕ) × (j h x ≡ Some r)) ⊎ (j h x ≡ None)
      go None e = inr e
      go (Some r) e = inl (r, e)

  module _ (a : ℕ → Bool) where
    abbrev L : Renaming
    L = homed j f2 f1 home a

    pub homed_at : (x : ℕ) → a x ≡ true → L f1 x ≡ Some (f2, home x)
    homed_at x e = go (same_or_not f1 f1)
      where
        go : ((nat_eq f1 f1 ≡ true) × (f1 ≡ f1)) ⊎ ((nat_eq f1 f1 ≡ false) × (f1 ≡ f1 → ⊥)) → homed j f2 f1 home a f1 x ≡ Some (f2, home x)
        go (inl q) = if_true (Some (f2, home x)) (j f1 x) (ap₂ (λ b c. b && c) q.0 e)
        go (inr q) = absurd (q.1 refl)

    homed_parts : (h x g y : ℕ) → L h x ≡ Some (g, y) → ((a x ≡ true) × (h ≡ f1) × (g ≡ f2) × (y ≡ home x)) ⊎ (j h x ≡ Some (g, y))
    homed_parts h x g y e = go (same_or_not f1 h) (a x) refl
      where
        go : ((nat_eq f1 h ≡ true) × (f1 ≡ h)) ⊎ ((nat_eq f1 h ≡ false) × (f1 ≡ h → ⊥)) → (b : Bool) → a x ≡ b → ((a x ≡ true) × (h ≡ f1) × (g ≡ f2) × (y ≡ home x)) ⊎ (j h x ≡ Some (g, y))
        go (inl q) true ax =
            let (u, v) = pair_parts f2 (home x) g y (sym (if_true (Some (f2, home x)) (j h x) (ap₂ (λ b c. b && c) q.0 ax)) ∙ e) in
            inl (ax, sym q.1, u, v)
        go (inl q) false ax = inr (sym (if_false (Some (f2, home x)) (j h x) (ap₂ (λ b c. b && c) q.0 ax)) ∙ e)
        go (inr q) b ax = inr (sym (if_false (Some (f2, home x)) (j h x) (ap (λ b. b && a x) q.0)) ∙ e)

    pub homed_low : Sub j L
    homed_low h x r e = go (same_or_not f1 h) (a x) refl r e
      where
        go : ((nat_eq f1 h ≡ true) × (f1 ≡ h)) ⊎ ((nat_eq f1 h ≡ false) × (f1 ≡ h → ⊥)) → (b : Bool) → a x ≡ b → (r : ℕ × ℕ) → j h x ≡ Some r → homed j f2 f1 home a h x ≡ Some r
        go (inl q) true ax (g, y) e =
            let here : j f1 x ≡ Some (g, y) = ap (λ i. j i x) q.1 ∙ e in
            let (u, v) = p.self x g y here in
            if_true (Some (f2, home x)) (j h x) (ap₂ (λ b c. b && c) q.0 ax) ∙ ap₂ (λ g y. Some (g, y)) (sym u) (hs.lent x g y here ∙ sym v)
        go (inl q) false ax r e = if_false (Some (f2, home x)) (j h x) (ap₂ (λ b c. b && c) q.0 ax) ∙ e
        go (inr q) b ax r e = if_false (Some (f2, home x)) (j h x) (ap (λ b. b && a x) q.0) ∙ e

    -- memories are related there
    pub homed_mem : (R : Beside) (m2 m1 : Memory) → MemRel j j m2 m1 → Housed j f2 f1 home R a m2 m1 → MemRel j L m2 m1
    homed_mem R m2 m1 l h = record { at = λ i x g y e v k. at i x g y v k (homed_parts i x g y e) (lent_or_not i x) }
      where
        at : (i x g y : ℕ) (v : Value) → local_at m1 i x ≡ Some v → ((a x ≡ true) × (i ≡ f1) × (g ≡ f2) × (y ≡ home x)) ⊎ (j i x ≡ Some (g, y)) → ((r : ℕ × ℕ) × (j i x ≡ Some r)) ⊎ (j i x ≡ None) → SomeRel j v (local_at m2 g y)
        at i x g y v k (inr e) o = l.at i x g y e v k
        at i x g y v k (inl (ax, u, w, z)) (inl ((g', y'), e)) =
            let here : j f1 x ≡ Some (g', y') = ap (λ i. j i x) (sym u) ∙ e in
            let (b, c) = p.self x g' y' here in
            l.at i x g y (e ∙ ap₂ (λ g y. Some (g, y)) (b ∙ sym w) (c ∙ sym (hs.lent x g' y' here) ∙ sym z)) v k
        at i x g y v k (inl (ax, u, w, z)) (inr none) =
            let (o, e, rel) = h.at x v (ap (λ i. j i x) (sym u) ∙ none) ax (ap (λ i. local_at m1 i x) (sym u) ∙ k) in
            (o, ap₂ (local_at m2) w z ∙ e, rel)

  module _ (R : Beside) (a : ℕ → Bool) where
    abbrev H : (ℕ → Bool) → Memory → Memory → Type 0
    H = Housed j f2 f1 home R

    -- a frame that waits
    pub housed_kept : (D : List Shape) (G : TypeMap) (j' : Renaming) (n2 n1 : ℕ) (m2' m1' m2 m1 : Memory) → f1 < n1 → f2 < n2 → Leaves D G j j' n2 n1 m2' m1' m2 m1 → H a m2 m1 → Housed j' f2 f1 home R a m2' m1'
    housed_kept D G j' n2 n1 m2' m1' m2 m1 l1 l2 l h = record {
      at = λ x v none ax k.
          let was = sym (l.same1 f1 x l1) ∙ none in
          let (w, e, r) = h.at x v was ax (sym (l.source f1 x l1 was) ∙ k) in
          (w, l.target f2 (home x) l2 (nobody j f2 f1 p (home x) (hs.unlent x was)) ∙ e, value_mono j j' l.up v w r);
      room = λ x v none k. (let was = sym (l.same1 f1 x l1) ∙ none in let (w, e, r) = h.room x v was (sym (l.source f1 x l1 was) ∙ k) in (w, l.target f2 (home x) l2 (nobody j f2 f1 p (home x) (hs.unlent x was)) ∙ e, r));
    }

    far1 : (b1 b2 : Addr) → AddrRel j b1 b2 → (x : ℕ) → j f1 x ≡ None → f1 ≡ b1.frame → x ≡ b1.local → ⊥
    far1 b1 b2 ab x none e e' = (let z : ◌≡◌ {A = Option (ℕ × ℕ)} None (Some (b2.frame, b2.local)) = sym none ∙ ap₂ j e e' ∙ ab.root in grind arith)

    far2 : (b1 b2 : Addr) → AddrRel j b1 b2 → (x : ℕ) → j f1 x ≡ None → f2 ≡ b2.frame → home x ≡ b2.local → ⊥
    far2 b1 b2 ab x none e e' = nobody j f2 f1 p (home x) (hs.unlent x none) b1.frame b1.local (ab.root ∙ ap₂ (λ g y. Some (g, y)) (sym e) (sym e'))

    -- writes of lent places: of both, and of the source alone
    pub lent_housed : (m2 m1 : Memory) (b1 b2 : Addr) (v w : Value) → AddrRel j b1 b2 → H a m2 m1 → H a (write m2 b2 w) (write m1 b1 v)
    lent_housed m2 m1 b1 b2 v w ab h = record {
      at = λ x u none ax k. (let (o, e, r) = h.at x u none ax (sym (write_other m1 b1 v f1 x (far1 b1 b2 ab x none)) ∙ k) in (o, write_other m2 b2 w f2 (home x) (far2 b1 b2 ab x none) ∙ e, r));
      room = λ x u none k. (let (o, e, r) = h.room x u none (sym (write_other m1 b1 v f1 x (far1 b1 b2 ab x none)) ∙ k) in (o, write_other m2 b2 w f2 (home x) (far2 b1 b2 ab x none) ∙ e, r));
    }

    pub alone_housed : (m2 m1 : Memory) (b1 b2 : Addr) (v : Value) → AddrRel j b1 b2 → H a m2 m1 → H a m2 (write m1 b1 v)
    alone_housed m2 m1 b1 b2 v ab h = record {
      at = λ x u none ax k. h.at x u none ax (sym (write_other m1 b1 v f1 x (far1 b1 b2 ab x none)) ∙ k);
      room = λ x u none k. h.room x u none (sym (write_other m1 b1 v f1 x (far1 b1 b2 ab x none)) ∙ k);
    }

    -- writes of a local that isn't lent
    module _ (x : ℕ) (none : j f1 x ≡ None) (ps : List Proj) where
      abbrev pub at1 : Addr
      at1 = record { frame = f1; local = x; path = ps }

      abbrev pub at2 : Addr
      at2 = record { frame = f2; local = home x; path = ps }

      pub own_linked : (m2 m1 : Memory) (v w : Value) → Linked j j m2 m1 → Linked j j (write m2 at2 w) (write m1 at1 v)
      own_linked m2 m1 v w l = (let s = unlent_linked j m2 m1 at1 v none l in record { mem = write_target j j m2 (write m1 at1 v) at2 w s.mem (λ h y u e k. nobody j f2 f1 p (home x) (hs.unlent x none) h y e); apart = s.apart })

      pub own_leaves : (D : List Shape) (G : TypeMap) (m2 m1 : Memory) (v w : Value) → Leaves D G j j f2 f1 (write m2 at2 w) (write m1 at1 v) m2 m1
      own_leaves D G m2 m1 v w = leaves_then D G j j j f2 f1 m2 m1 m2 (write m1 at1 v) (write m2 at2 w) (write m1 at1 v) (leaves_source D G j m2 m1 at1 v f2 f1 (omega arith)) (leaves_target D G j m2 (write m1 at1 v) at2 w f2 f1 (nobody j f2 f1 p (home x) (hs.unlent x none)) (omega arith))

      -- of both: the local may live then where it lived, or where it is written as a whole, and no other of its home
      pub own_housed : (b : ℕ → Bool) (m2 m1 : Memory) (v w : Value) → ((y : ℕ) → b y ≡ true → ((a y ≡ true) × (home y ≡ home x → y ≡ x)) ⊎ ((y ≡ x) × (ps ≡ []))) → ValueRel j v w → ((v0 w0 : Value) → R x v0 w0 → R x (put ps v v0) (put ps w w0)) → ((y : ℕ) (u w0 : Value) → home y ≡ home x → (y ≡ x → ⊥) → local_at m1 f1 y ≡ Some u → local_at m2 f2 (home y) ≡ Some w0 → R y u w0 → R y u (put ps w w0)) → H a m2 m1 → H b (write m2 at2 w) (write m1 at1 v)
      own_housed b m2 m1 v w new hv both second h = record {
        at = λ y u free by k. at y u free (new y by) k (same_or_not y x);
        room = λ y u free k. room y u free k (same_or_not y x) (same_or_not (home y) (home x));
      }
        where
          put_in : (y : ℕ) (w0 : Value) → home y ≡ home x → local_at m2 f2 (home y) ≡ Some w0 → local_at (write m2 (record { frame = f2; local = home x; path = ps }) w) f2 (home y) ≡ Some (put ps w w0)
          put_in y w0 e g = write_same m2 (record { frame = f2; local = home x; path = ps }) w f2 (home y) (refl, e) ∙ ap (option_map (put ps w)) g

          is_put : (y : ℕ) (o u : Value) → y ≡ x → local_at m1 f1 y ≡ Some o → local_at (write m1 (record { frame = f1; local = x; path = ps }) v) f1 y ≡ Some u → put ps v o ≡ u
          is_put y o u e g k = some_val (sym (write_same m1 (record { frame = f1; local = x; path = ps }) v f1 y (refl, e) ∙ ap (option_map (put ps v)) g) ∙ k)

          other_home : (y : ℕ) → (y ≡ x → ⊥) → ((home y ≡ home x → y ≡ x)) → local_at (write m2 (record { frame = f2; local = home x; path = ps }) w) f2 (home y) ≡ local_at m2 f2 (home y)
          other_home y ne only = write_other m2 (record { frame = f2; local = home x; path = ps }) w f2 (home y) (λ e e'. ne (only e'))

          at : (y : ℕ) (u : Value) → j f1 y ≡ None → ((a y ≡ true) × (home y ≡ home x → y ≡ x)) ⊎ ((y ≡ x) × (ps ≡ [])) → local_at (write m1 (record { frame = f1; local = x; path = ps }) v) f1 y ≡ Some u → ((nat_eq y x ≡ true) × (y ≡ x)) ⊎ ((nat_eq y x ≡ false) × (y ≡ x → ⊥)) → SomeRel j u (local_at (write m2 (record { frame = f2; local = home x; path = ps }) w) f2 (home y))
          at y u free (inl (ay, only)) k (inr ne) =
              let (o, e, r) = h.at y u free ay (sym (write_other m1 (record { frame = f1; local = x; path = ps }) v f1 y (λ p q. ne.1 q)) ∙ k) in
              (o, other_home y ne.1 only ∙ e, r)
          at y u free (inr (z, nil)) k (inr ne) = absurd (ne.1 z)
          at y u free (inl (ay, only)) k (inl s) =
              let (o, e) = write_back m1 (record { frame = f1; local = x; path = ps }) v f1 y u k in
              let (o2, e2, r) = h.at y o free ay e in
              (put ps w o2, put_in y o2 (ap home s.1) e2, subst (λ u. ValueRel j u (put ps w o2)) (is_put y o u s.1 e k) (put_rel j ps v w hv o o2 r))
          at y u free (inr (z, nil)) k (inl s) =
              let (o, e) = write_back m1 (record { frame = f1; local = x; path = ps }) v f1 y u k in
              let (o2, e2, r) = h.room y o free e in
              (put ps w o2, put_in y o2 (ap home s.1) e2, subst (λ u. ValueRel j u (put ps w o2)) (is_put y o u s.1 e k) (subst (λ ps. ValueRel j (put ps v o) (put ps w o2)) (sym nil) hv))

          room : (y : ℕ) (u : Value) → j f1 y ≡ None → local_at (write m1 (record { frame = f1; local = x; path = ps }) v) f1 y ≡ Some u → ((nat_eq y x ≡ true) × (y ≡ x)) ⊎ ((nat_eq y x ≡ false) × (y ≡ x → ⊥)) → ((nat_eq (home y) (home x) ≡ true) × (home y ≡ home x)) ⊎ ((nat_eq (home y) (home x) ≡ false) × (home y ≡ home x → ⊥)) → (o : Value) × (local_at (write m2 (record { frame = f2; local = home x; path = ps }) w) f2 (home y) ≡ Some o) × R y u o
          room y u free k (inl s) q =
              let (o, e) = write_back m1 (record { frame = f1; local = x; path = ps }) v f1 y u k in
              let (o2, e2, r) = h.room y o free e in
              (put ps w o2, put_in y o2 (ap home s.1) e2, subst (λ u. R y u (put ps w o2)) (is_put y o u s.1 e k) (subst (λ z. R z (put ps v o) (put ps w o2)) (sym s.1) (both o o2 (subst (λ z. R z o o2) s.1 r))))
          room y u free k (inr ne) (inl q) =
              let e : local_at m1 f1 y ≡ Some u = sym (write_other m1 (record { frame = f1; local = x; path = ps }) v f1 y (λ p q. ne.1 q)) ∙ k in
              let (o2, e2, r) = h.room y u free e in
              (put ps w o2, put_in y o2 q.1 e2, second y u o2 q.1 ne.1 e e2 r)
          room y u free k (inr ne) (inr nq) =
              let e : local_at m1 f1 y ≡ Some u = sym (write_other m1 (record { frame = f1; local = x; path = ps }) v f1 y (λ p q. ne.1 q)) ∙ k in
              let (o2, e2, r) = h.room y u free e in
              (o2, other_home y ne.1 (λ q. absurd (nq.1 q)) ∙ e2, r)

      -- of the source alone
      pub gone_housed : (b : ℕ → Bool) (m2 m1 : Memory) (v : Value) → ((y : ℕ) → b y ≡ true → (y ≡ x → ⊥) → a y ≡ true) → (b x ≡ true → (o : Value) → local_at m1 f1 x ≡ Some o → SomeRel j (put ps v o) (local_at m2 f2 (home x))) → ((v0 w0 : Value) → local_at m1 f1 x ≡ Some v0 → local_at m2 f2 (home x) ≡ Some w0 → R x v0 w0 → R x (put ps v v0) w0) → H a m2 m1 → H b m2 (write m1 at1 v)
      gone_housed b m2 m1 v old now first h = record {
        at = λ y u free by k. at y u free by k (same_or_not y x);
        room = λ y u free k. room y u free k (same_or_not y x);
      }
        where
          is_put : (y : ℕ) (o u : Value) → y ≡ x → local_at m1 f1 y ≡ Some o → local_at (write m1 (record { frame = f1; local = x; path = ps }) v) f1 y ≡ Some u → put ps v o ≡ u
          is_put y o u e g k = some_val (sym (write_same m1 (record { frame = f1; local = x; path = ps }) v f1 y (refl, e) ∙ ap (option_map (put ps v)) g) ∙ k)

          at : (y : ℕ) (u : Value) → j f1 y ≡ None → b y ≡ true → local_at (write m1 (record { frame = f1; local = x; path = ps }) v) f1 y ≡ Some u → ((nat_eq y x ≡ true) × (y ≡ x)) ⊎ ((nat_eq y x ≡ false) × (y ≡ x → ⊥)) → SomeRel j u (local_at m2 f2 (home y))
          at y u free by k (inr ne) = h.at y u free (old y by ne.1) (sym (write_other m1 (record { frame = f1; local = x; path = ps }) v f1 y (λ p q. ne.1 q)) ∙ k)
          at y u free by k (inl s) =
              let (o, e) = write_back m1 (record { frame = f1; local = x; path = ps }) v f1 y u k in
              subst (λ z. SomeRel j u (local_at m2 f2 (home z))) (sym s.1) (subst (λ u. SomeRel j u (local_at m2 f2 (home x))) (is_put y o u s.1 e k) (now (ap b (sym s.1) ∙ by) o (ap (local_at m1 f1) (sym s.1) ∙ e)))

          room : (y : ℕ) (u : Value) → j f1 y ≡ None → local_at (write m1 (record { frame = f1; local = x; path = ps }) v) f1 y ≡ Some u → ((nat_eq y x ≡ true) × (y ≡ x)) ⊎ ((nat_eq y x ≡ false) × (y ≡ x → ⊥)) → (o : Value) × (local_at m2 f2 (home y) ≡ Some o) × R y u o
          room y u free k (inr ne) = h.room y u free (sym (write_other m1 (record { frame = f1; local = x; path = ps }) v f1 y (λ p q. ne.1 q)) ∙ k)
          room y u free k (inl s) =
              let (o, e) = write_back m1 (record { frame = f1; local = x; path = ps }) v f1 y u k in
              let (o2, e2, r) = h.room y o free e in
              (o2, e2, subst (λ u. R y u o2) (is_put y o u s.1 e k) (subst (λ z. R z (put ps v o) o2) (sym s.1) (first o o2 (ap (local_at m1 f1) (sym s.1) ∙ e) (ap (λ z. local_at m2 f2 (home z)) (sym s.1) ∙ e2) (subst (λ z. R z o o2) s.1 r))))
