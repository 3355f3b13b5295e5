-- Frames whose locals stand for those of the same number and of which some live: lent locals are related always, the others while they live.
-- A local of the source has room in the target, whether it lives or not.
use Rattle.std.proofs.Common.{◌≡◌, ◌⊎◌, inl, inr, refl, sym, ap, ap₂, ◌∙◌, subst, ℕ, ◌<◌, ◌≤◌, Bool, true, false, nat_eq, ◌&&◌, if◌then◌else◌, List, [], Option, Some, None, option_map, arith}
use Rattle.mir_syntax.specs.declared.body.Proj.{Proj}
use Rattle.mir_syntax.specs.Shapes.{Shape}
use Rattle.mir_semantics.specs.Values.{Addr, Value, put}
use Rattle.mir_semantics.specs.Memory.{Memory, local_at, write}
use Rattle.mir_renaming.specs.Renaming.{Renaming, AddrRel, RootOf, ValueRel, SomeRel, Sub}
use Rattle.mir_renaming.proofs.Memory.{same_or_not, root_or_not, write_same, write_other, write_back, write_source, write_target, fewer, put_rel}
use Rattle.mir_syntax.proofs.Bools.{if_true, if_false}
use Rattle.mir_renaming.proofs.Ghosts.{value_mono}
use Rattle.mir_renaming.proofs.Statements.{Linked}
use Rattle.mir_renaming.proofs.Types.{TypeMap}
use Rattle.mir_renaming.proofs.Stores.{pair_parts, write_there}
use Rattle.mir_relate.specs.Leaves.{Leaves}
use Rattle.mir_relate.proofs.Leaves.{some_val, leaves_source, leaves_target, leaves_then}
use Rattle.mir_relate.proofs.Near.{Near, Nears}

-- the locals of frame f1 that live stand for those of f2
abbrev pub living : Renaming → ℕ → ℕ → (ℕ → Bool) → Renaming
living j f2 f1 a h x = if nat_eq f1 h && a x then Some (f2, x) else j h x

-- what of a frame is related beside what is lent
pub record Holds (j : Renaming) (f2 f1 : ℕ) (a : ℕ → Bool) (m2 m1 : Memory) : Type 0 where
  pub at : (x : ℕ) (v : Value) → j f1 x ≡ None → a x ≡ true → local_at m1 f1 x ≡ Some v → SomeRel j v (local_at m2 f2 x)
  pub room : (x : ℕ) (v : Value) → j f1 x ≡ None → local_at m1 f1 x ≡ Some v → (w : Value) × (local_at m2 f2 x ≡ Some w)

-- a lent local of the frame stands for the one of its number, and nothing else stands for a local of the target's frame
pub record Placed (j : Renaming) (f2 f1 : ℕ) : Type 0 where
  pub self : (x g y : ℕ) → j f1 x ≡ Some (g, y) → (g ≡ f2) × (y ≡ x)
  pub only : (h x y : ℕ) → j h x ≡ Some (f2, y) → (h ≡ f1) × (x ≡ y)

-- a write of the source at a local that isn't lent
pub unlent_linked : (j : Renaming) (m2 m1 : Memory) (a : Addr) (v : Value) → j a.frame a.local ≡ None → Linked j j m2 m1 → Linked j j m2 (write m1 a v)
unlent_linked j m2 m1 a v none l = record { mem = write_source j j m2 m1 a v l.mem none; apart = λ h y h' y' r u u' e e' k k'. (let (o, q) = write_back m1 a v h y u k in let (o', q') = write_back m1 a v h' y' u' k' in l.apart h y h' y' r o o' e e' q q') }

module _ (j : Renaming) (f2 f1 : ℕ) (p : Placed j f2 f1) where
  -- nothing stands for a local that isn't lent
  pub nobody : (x : ℕ) → j f1 x ≡ None → (h y : ℕ) → j h y ≡ Some (f2, x) → ⊥
  nobody x none h y e = (let (a, b) = p.only h y x e in let z : None ≡ Some (f2, x) = sym none ∙ ap₂ j (sym a) (sym b) ∙ e in grind arith)

  module _ (a : ℕ → Bool) where
    pub living_at : (x : ℕ) → a x ≡ true → living j f2 f1 a f1 x ≡ Some (f2, x)
    living_at x e = go (same_or_not f1 f1)
      where
        go : ((nat_eq f1 f1 ≡ true) × (f1 ≡ f1)) ⊎ ((nat_eq f1 f1 ≡ false) × (f1 ≡ f1 → ⊥)) → living j f2 f1 a f1 x ≡ Some (f2, x)
        go (inl q) = if_true (Some (f2, x)) (j f1 x) (ap₂ (λ b c. b && c) q.0 e)
        go (inr q) = absurd (q.1 refl)

    pub living_parts : (h x g y : ℕ) → living j f2 f1 a h x ≡ Some (g, y) → ((a x ≡ true) × (h ≡ f1) × (g ≡ f2) × (y ≡ x)) ⊎ (j h x ≡ Some (g, y))
    living_parts h x g y e = go (same_or_not f1 h) (a x) refl
      where
        go : ((nat_eq f1 h ≡ true) × (f1 ≡ h)) ⊎ ((nat_eq f1 h ≡ false) × (f1 ≡ h → ⊥)) → (b : Bool) → a x ≡ b → ((a x ≡ true) × (h ≡ f1) × (g ≡ f2) × (y ≡ x)) ⊎ (j h x ≡ Some (g, y))
        go (inl q) true ax =
            let (u, v) = pair_parts f2 x g y (sym (if_true (Some (f2, x)) (j h x) (ap₂ (λ b c. b && c) q.0 ax)) ∙ e) in
            inl (ax, sym q.1, u, v)
        go (inl q) false ax = inr (sym (if_false (Some (f2, x)) (j h x) (ap₂ (λ b c. b && c) q.0 ax)) ∙ e)
        go (inr q) b ax = inr (sym (if_false (Some (f2, x)) (j h x) (ap (λ b. b && a x) q.0)) ∙ e)

    pub living_low : Sub j (living j f2 f1 a)
    living_low h x r e = go (same_or_not f1 h) (a x) refl r e
      where
        go : ((nat_eq f1 h ≡ true) × (f1 ≡ h)) ⊎ ((nat_eq f1 h ≡ false) × (f1 ≡ h → ⊥)) → (b : Bool) → a x ≡ b → (r : ℕ × ℕ) → j h x ≡ Some r → living j f2 f1 a h x ≡ Some r
        go (inl q) true ax (g, y) e =
            let (u, v) = p.self x g y (ap (λ i. j i x) q.1 ∙ e) in
            if_true (Some (f2, x)) (j h x) (ap₂ (λ b c. b && c) q.0 ax) ∙ ap₂ (λ g y. Some (g, y)) (sym u) (sym v)
        go (inl q) false ax r e = if_false (Some (f2, x)) (j h x) (ap₂ (λ b c. b && c) q.0 ax) ∙ e
        go (inr q) b ax r e = if_false (Some (f2, x)) (j h x) (ap (λ b. b && a x) q.0) ∙ e

    pub living_only : (h x y : ℕ) → living j f2 f1 a h x ≡ Some (f2, y) → (h ≡ f1) × (x ≡ y)
    living_only h x y e = go (living_parts h x f2 y e)
      where
        go : ((a x ≡ true) × (h ≡ f1) × (◌≡◌ {A = ℕ} f2 f2) × (y ≡ x)) ⊎ (j h x ≡ Some (f2, y)) → (h ≡ f1) × (x ≡ y)
        go (inl (ax, u, v, w)) = (u, sym w)
        go (inr e) = p.only h x y e

    pub lent_or_not : (h x : ℕ) → ((r : ℕ × ℕ) × (j h x ≡ Some r)) ⊎ (j h x ≡ None)
    lent_or_not h x = go (j h x) refl
      where
        go : (o : Option (ℕ × ℕ)) → j h x ≡ o → ((r : ℕ × ℕ) × (j h x ≡ Some r)) ⊎ (j h x ≡ None)
        go None e = inr e
        go (Some r) e = inl (r, e)

    -- as `Near` asks it
    pub living_near : Nears j (living j f2 f1 a) f2 f1
    living_near h x g y e = go (living_parts h x g y e) (lent_or_not h x)
      where
        go : ((a x ≡ true) × (h ≡ f1) × (g ≡ f2) × (y ≡ x)) ⊎ (j h x ≡ Some (g, y)) → ((r : ℕ × ℕ) × (j h x ≡ Some r)) ⊎ (j h x ≡ None) → (j h x ≡ Some (g, y)) ⊎ ((j h x ≡ None) × (f1 ≤ h) × (f2 ≤ g) × ((h' x' : ℕ) → j h' x' ≡ Some (g, y) → ⊥))
        go (inr q) o = inl q
        go (inl q) (inl (r, l)) = inl (l ∙ sym (living_low h x r l) ∙ e)
        go (inl (ax, u, v, w)) (inr none) = inr (none, omega (arith, u), omega (arith, v), λ h' x' z. nobody x (ap (λ i. j i x) (sym u) ∙ none) h' x' (z ∙ ap₂ (λ g y. Some (g, y)) v w))

    pub living_once : (x y h x' : ℕ) (v : Value) (m : Memory) → living j f2 f1 a f1 x ≡ Some (f2, y) → living j f2 f1 a h x' ≡ Some (f2, y) → local_at m h x' ≡ Some v → (h ≡ f1) × (x' ≡ x)
    living_once x y h x' v m e e' k = (let (u, w) = living_only h x' y e' in let (u', w') = living_only f1 x y e in (u, w ∙ sym w'))

    pub living_linked : (m2 m1 : Memory) → Linked j j m2 m1 → Holds j f2 f1 a m2 m1 → Linked j (living j f2 f1 a) m2 m1
    living_linked m2 m1 l h = record { mem = record { at = λ h x g y e v k. at h x g y v k (living_parts h x g y e) (lent_or_not h x) }; apart = λ h x h' x' r u u' e e' k k'. apart h x h' x' r u u' e e' k k' }
      where
        at : (i x g y : ℕ) (v : Value) → local_at m1 i x ≡ Some v → ((a x ≡ true) × (i ≡ f1) × (g ≡ f2) × (y ≡ x)) ⊎ (j i x ≡ Some (g, y)) → ((r : ℕ × ℕ) × (j i x ≡ Some r)) ⊎ (j i x ≡ None) → SomeRel j v (local_at m2 g y)
        at i x g y v k (inr e) o = l.mem.at i x g y e v k
        at i x g y v k (inl (ax, u, w, z)) (inl ((g', y'), e)) =
            let (b, c) = p.self x g' y' (ap (λ i. j i x) (sym u) ∙ e) in
            l.mem.at i x g y (e ∙ ap₂ (λ g y. Some (g, y)) (b ∙ sym w) (c ∙ sym z)) v k
        at i x g y v k (inl (ax, u, w, z)) (inr none) =
            let (o, e, rel) = h.at x v (ap (λ i. j i x) (sym u) ∙ none) ax (ap (λ i. local_at m1 i x) (sym u) ∙ k) in
            (o, ap₂ (local_at m2) w z ∙ e, rel)

        apart : (i x i' x' : ℕ) (r : ℕ × ℕ) (u u' : Value) → living j f2 f1 a i x ≡ Some r → living j f2 f1 a i' x' ≡ Some r → local_at m1 i x ≡ Some u → local_at m1 i' x' ≡ Some u' → (i ≡ i') × (x ≡ x')
        apart i x i' x' (g, y) u u' e e' k k' = go (living_parts i x g y e) (living_parts i' x' g y e')
          where
            go : ((a x ≡ true) × (i ≡ f1) × (g ≡ f2) × (y ≡ x)) ⊎ (j i x ≡ Some (g, y)) → ((a x' ≡ true) × (i' ≡ f1) × (g ≡ f2) × (y ≡ x')) ⊎ (j i' x' ≡ Some (g, y)) → (i ≡ i') × (x ≡ x')
            go (inr q) (inr q') = l.apart i x i' x' (g, y) u u' q q' k k'
            go (inl (b, c, d, z)) (inl (b', c', d', z')) = (c ∙ sym c', sym z ∙ z')
            go (inl (b, c, d, z)) (inr q) = (let (u, w) = p.only i' x' y (q ∙ ap (λ g. Some (g, y)) d) in (c ∙ sym u, sym z ∙ sym w))
            go (inr q) (inl (b, c, d, z)) = (let (u, w) = p.only i x y (q ∙ ap (λ g. Some (g, y)) d) in (u ∙ sym c, w ∙ z))

    pub living_lent : (m2 m1 : Memory) → Linked j (living j f2 f1 a) m2 m1 → Linked j j m2 m1
    living_lent m2 m1 l = record { mem = fewer j (living j f2 f1 a) j m2 m1 living_low l.mem; apart = λ h x h' x' r u u' e e' k k'. l.apart h x h' x' r u u' (living_low h x r e) (living_low h' x' r e') k k' }

    -- nothing stands for a local that neither lives nor is lent
    pub living_none : (x : ℕ) → j f1 x ≡ None → a x ≡ false → (h y : ℕ) → living j f2 f1 a h y ≡ Some (f2, x) → ⊥
    living_none x none ax h y e = out (living_parts h y f2 x e)
      where
        out : ((a y ≡ true) × (h ≡ f1) × (◌≡◌ {A = ℕ} f2 f2) × (x ≡ y)) ⊎ (j h y ≡ Some (f2, x)) → ⊥
        out (inl (b, c, d, w)) = (let q : true ≡ false = sym b ∙ ap a (sym w) ∙ ax in grind arith)
        out (inr e) = nobody x none h y e

    -- what evaluating leaves
    pub holds_near : (D : List Shape) (G : TypeMap) (m2s m1s m2 m1 : Memory) → Near D G j (living j f2 f1 a) f2 f1 m2s m1s m2 m1 → Holds j f2 f1 a m2s m1s → Holds j f2 f1 a m2 m1
    holds_near D G m2s m1s m2 m1 n h = record {
      at = λ x v none ax k. n.linked.mem.at f1 x f2 x (living_at x ax) v k;
      room = λ x v none k. room x v none k (a x) refl;
    }
      where
        room : (x : ℕ) (v : Value) → j f1 x ≡ None → local_at m1 f1 x ≡ Some v → (b : Bool) → a x ≡ b → (w : Value) × (local_at m2 f2 x ≡ Some w)
        room x v none k true ax = (let (w, e, r) = n.linked.mem.at f1 x f2 x (living_at x ax) v k in (w, e))
        room x v none k false ax =
            let (o, e) = n.back f1 x v k in
            let (w, g) = h.room x o none e in
            (w, n.still f2 x (living_none x none ax) ∙ g)

    -- a frame that waits
    pub holds_kept : (D : List Shape) (G : TypeMap) (j' : Renaming) (n2 n1 : ℕ) (m2' m1' m2 m1 : Memory) → f1 < n1 → f2 < n2 → Leaves D G j j' n2 n1 m2' m1' m2 m1 → Holds j f2 f1 a m2 m1 → Holds j' f2 f1 a m2' m1'
    holds_kept D G j' n2 n1 m2' m1' m2 m1 l1 l2 l h = record {
      at = λ x v none ax k.
          let was = sym (l.same1 f1 x l1) ∙ none in
          let (w, e, r) = h.at x v was ax (sym (l.source f1 x l1 was) ∙ k) in
          (w, l.target f2 x l2 (nobody x was) ∙ e, value_mono j j' l.up v w r);
      room = λ x v none k. (let was = sym (l.same1 f1 x l1) ∙ none in let (w, e) = h.room x v was (sym (l.source f1 x l1 was) ∙ k) in (w, l.target f2 x l2 (nobody x was) ∙ e));
    }

    -- what writes of lent places leave
    pub lent_holds : (m2 m1 : Memory) (b1 b2 : Addr) (v w : Value) → AddrRel j b1 b2 → Holds j f2 f1 a m2 m1 → Holds j f2 f1 a (write m2 b2 w) (write m1 b1 v)
    lent_holds m2 m1 b1 b2 v w ab h = record {
      at = λ x u none ax k. (let (o, e, r) = h.at x u none ax (sym (write_other m1 b1 v f1 x (far1 x none)) ∙ k) in (o, write_other m2 b2 w f2 x (far2 x none) ∙ e, r));
      room = λ x u none k. (let (o, e) = h.room x u none (sym (write_other m1 b1 v f1 x (far1 x none)) ∙ k) in (o, write_other m2 b2 w f2 x (far2 x none) ∙ e));
    }
      where
        far1 : (x : ℕ) → j f1 x ≡ None → f1 ≡ b1.frame → x ≡ b1.local → ⊥
        far1 x none e e' = (let z : ◌≡◌ {A = Option (ℕ × ℕ)} None (Some (b2.frame, b2.local)) = sym none ∙ ap₂ j e e' ∙ ab.root in grind arith)

        far2 : (x : ℕ) → j f1 x ≡ None → f2 ≡ b2.frame → x ≡ b2.local → ⊥
        far2 x none e e' = nobody x none b1.frame b1.local (ab.root ∙ ap₂ (λ g y. Some (g, y)) (sym e) (sym e'))

    -- what writes of places that aren't lent leave
    module _ (x : ℕ) (none : j f1 x ≡ None) (ps : List Proj) where
      abbrev pub at1 : Addr
      at1 = record { frame = f1; local = x; path = ps }

      abbrev pub at2 : Addr
      at2 = record { frame = f2; local = x; path = ps }

      linked_target : (m2 m1 : Memory) (w : Value) → Linked j j m2 m1 → Linked j j (write m2 at2 w) m1
      linked_target m2 m1 w l = record { mem = write_target j j m2 m1 at2 w l.mem (λ h y u e k. nobody x none h y e); apart = l.apart }

      -- of both: related values; the local may live then where it lived, or where it is written as a whole
      pub own_linked : (m2 m1 : Memory) (v w : Value) → Linked j j m2 m1 → Linked j j (write m2 at2 w) (write m1 at1 v)
      own_linked m2 m1 v w l = linked_target m2 (write m1 at1 v) w (unlent_linked j m2 m1 at1 v none l)

      pub own_leaves : (D : List Shape) (G : TypeMap) (m2 m1 : Memory) (v w : Value) → Leaves D G j j f2 f1 (write m2 at2 w) (write m1 at1 v) m2 m1
      own_leaves D G m2 m1 v w = leaves_then D G j j j f2 f1 m2 m1 m2 (write m1 at1 v) (write m2 at2 w) (write m1 at1 v) (leaves_source D G j m2 m1 at1 v f2 f1 (omega arith)) (leaves_target D G j m2 (write m1 at1 v) at2 w f2 f1 (nobody x none) (omega arith))

      pub own_holds : (b : ℕ → Bool) → ((y : ℕ) → b y ≡ true → (a y ≡ true) ⊎ ((y ≡ x) × (ps ≡ []))) → (m2 m1 : Memory) (v w : Value) → ValueRel j v w → Holds j f2 f1 a m2 m1 → Holds j f2 f1 b (write m2 at2 w) (write m1 at1 v)
      own_holds b new m2 m1 v w hv h = record {
        at = λ y u free by k. at y u free (new y by) k (root_or_not at1 f1 y);
        room = λ y u free k. (let (o, e) = write_back m1 at1 v f1 y u k in let (o2, e2) = h.room y o free e in write_there m2 at2 w f2 y o2 e2);
      }
        where
          at : (y : ℕ) (u : Value) → j f1 y ≡ None → (a y ≡ true) ⊎ ((y ≡ x) × (ps ≡ [])) → local_at (write m1 at1 v) f1 y ≡ Some u → RootOf at1 f1 y ⊎ (f1 ≡ at1.frame → y ≡ at1.local → ⊥) → SomeRel j u (local_at (write m2 at2 w) f2 y)
          at y u free (inl ay) k (inr n) =
              let (o, e, r) = h.at y u free ay (sym (write_other m1 at1 v f1 y n) ∙ k) in
              (o, write_other m2 at2 w f2 y (λ p q. n refl q) ∙ e, r)
          at y u free (inr (z, nil)) k (inr n) = absurd (n refl z)
          at y u free (inl ay) k (inl root) =
              let (o, e) = write_back m1 at1 v f1 y u k in
              let (o2, e2, r) = h.at y o free ay e in
              let is : put ps v o ≡ u = some_val (sym (write_same m1 at1 v f1 y root ∙ ap (option_map (put ps v)) e) ∙ k) in
              (put ps w o2, write_same m2 at2 w f2 y (refl, root.1) ∙ ap (option_map (put ps w)) e2, subst (λ u. ValueRel j u (put ps w o2)) is (put_rel j ps v w hv o o2 r))
          at y u free (inr (z, nil)) k (inl root) =
              let (o, e) = write_back m1 at1 v f1 y u k in
              let (o2, e2) = h.room y o free e in
              let is : put ps v o ≡ u = some_val (sym (write_same m1 at1 v f1 y root ∙ ap (option_map (put ps v)) e) ∙ k) in
              (put ps w o2, write_same m2 at2 w f2 y (refl, root.1) ∙ ap (option_map (put ps w)) e2, subst (λ u. ValueRel j u (put ps w o2)) is (subst (λ ps. ValueRel j (put ps v o) (put ps w o2)) (sym nil) hv))

      -- of the source alone: the local lives no more
      pub gone_holds : (b : ℕ → Bool) → ((y : ℕ) → b y ≡ true → (a y ≡ true) × (y ≡ x → ⊥)) → (m2 m1 : Memory) (v : Value) → Holds j f2 f1 a m2 m1 → Holds j f2 f1 b m2 (write m1 at1 v)
      gone_holds b less m2 m1 v h = record {
        at = λ y u free by k. (let (ay, ne) = less y by in h.at y u free ay (sym (write_other m1 at1 v f1 y (λ p q. ne q)) ∙ k));
        room = λ y u free k. (let (o, e) = write_back m1 at1 v f1 y u k in h.room y o free e);
      }
