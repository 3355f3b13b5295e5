-- What single writes, and frames that open and close, leave of the frames that wait.
use Rattle.std.proofs.Common.{◌≡◌, ◌⊎◌, inl, inr, refl, sym, ap, ap₂, ◌∙◌, subst, ℕ, ◌<◌, ◌≤◌, false, List, Option, Some, None, option_map, arith}
use Rattle.mir_syntax.specs.Tree.{Tree}
use Rattle.mir_syntax.specs.Shapes.{Shape, path_ty, needs_drop}
use Rattle.mir_semantics.specs.Values.{Addr, Value, put}
use Rattle.mir_semantics.specs.Memory.{Memory, local_at, value_at, write, open_frame, close_frame}
use Rattle.mir_renaming.specs.Renaming.{Renaming, AddrRel, ValueRel, MemRel, RootOf}
use Rattle.mir_renaming.proofs.Memory.{root_or_not, write_same, write_other, write_back, write_again}
use Rattle.mir_renaming.proofs.Types.{TypeMap, AddrTy, some_eq}
use Rattle.mir_renaming.proofs.Frames.{open_other, close_other}
use Rattle.mir_renaming.proofs.Agree.{NeedsOk, Agree, no_need, put_agree}
use Rattle.mir_renaming.proofs.Stores.{pair_parts}
use Rattle.mir_relate.specs.Leaves.{Steady, Leaves}

pub some_val : {A : Type 0} {x y : A} → Some x ≡ Some y → x ≡ y
some_val e = grind arith

module _ (D : List Shape) (G : TypeMap) where
  stays : (t : Tree) (o2 o1 o2' o1' : Option Value) (w' v' : Value) → o1' ≡ o1 → o2' ≡ o2 → o1' ≡ Some v' → o2' ≡ Some w' → Steady D t o2 o1 w' v'
  stays t o2 o1 o2' o1' w' v' p q e g = record { old1 = v'; old2 = w'; was1 = sym p ∙ e; was2 = sym q ∙ g; agree = λ h. h }

  pub leaves_none : (j : Renaming) (n2 n1 : ℕ) (m2 m1 : Memory) → Leaves D G j j n2 n1 m2 m1 m2 m1
  leaves_none j n2 n1 m2 m1 = record {
    up = λ h x r e. e;
    same1 = λ h x l. refl;
    same2 = λ h x g y l e. e;
    source = λ h x l e. refl;
    target = λ g y l e. refl;
    steady = λ h x g y t v' w' l e ty a b. stays t _ _ _ _ w' v' refl refl a b;
  }

  pub leaves_then : (j j' j'' : Renaming) (n2 n1 : ℕ) (m2 m1 m2' m1' m2'' m1'' : Memory) → Leaves D G j j' n2 n1 m2' m1' m2 m1 → Leaves D G j' j'' n2 n1 m2'' m1'' m2' m1' → Leaves D G j j'' n2 n1 m2'' m1'' m2 m1
  leaves_then j j' j'' n2 n1 m2 m1 m2' m1' m2'' m1'' a b = record {
    up = λ h x r e. b.up h x r (a.up h x r e);
    same1 = λ h x l. b.same1 h x l ∙ a.same1 h x l;
    same2 = λ h x g y l e. a.same2 h x g y l (b.same2 h x g y l e);
    source = λ h x l e. b.source h x l (a.same1 h x l ∙ e) ∙ a.source h x l e;
    target = λ g y l ne. b.target g y l (λ h x e. ne h x (a.same2 h x g y l e)) ∙ a.target g y l ne;
    steady = λ h x g y t v'' w'' l e ty p q.
        let s = b.steady h x g y t v'' w'' l (a.up h x _ e) ty p q in
        let r = a.steady h x g y t s.old1 s.old2 l e ty s.was1 s.was2 in
        record { old1 = r.old1; old2 = r.old2; was1 = r.was1; was2 = r.was2; agree = λ h. s.agree (r.agree h) };
  }

  pub leaves_less : (j j' : Renaming) (n2 n1 k2 k1 : ℕ) (m2' m1' m2 m1 : Memory) → k2 ≤ n2 → k1 ≤ n1 → Leaves D G j j' n2 n1 m2' m1' m2 m1 → Leaves D G j j' k2 k1 m2' m1' m2 m1
  leaves_less j j' n2 n1 k2 k1 m2' m1' m2 m1 le2 le1 a = record {
    up = a.up;
    same1 = λ h x l. a.same1 h x (omega (arith, l, le1));
    same2 = λ h x g y l e. a.same2 h x g y (omega (arith, l, le2)) e;
    source = λ h x l e. a.source h x (omega (arith, l, le1)) e;
    target = λ g y l e. a.target g y (omega (arith, l, le2)) e;
    steady = λ h x g y t v' w' l e ty p q. a.steady h x g y t v' w' (omega (arith, l, le1)) e ty p q;
  }

  -- memories change and what references stand for doesn't
  changed : (j : Renaming) (n2 n1 : ℕ) (m2' m1' m2 m1 : Memory) → ((h x : ℕ) → h < n1 → j h x ≡ None → local_at m1' h x ≡ local_at m1 h x) → ((g y : ℕ) → g < n2 → ((h x : ℕ) → j h x ≡ Some (g, y) → ⊥) → local_at m2' g y ≡ local_at m2 g y) → ((h x g y : ℕ) (t : Tree) (v' w' : Value) → h < n1 → j h x ≡ Some (g, y) → G h x ≡ Some t → local_at m1' h x ≡ Some v' → local_at m2' g y ≡ Some w' → Steady D t (local_at m2 g y) (local_at m1 h x) w' v') → Leaves D G j j n2 n1 m2' m1' m2 m1
  changed j n2 n1 m2' m1' m2 m1 so ta st = record { up = λ h x r e. e; same1 = λ h x l. refl; same2 = λ h x g y l e. e; source = so; target = ta; steady = st }

  -- a write of both at a related address
  module _ (j : Renaming) (m2 m1 : Memory) (a b : Addr) (v w : Value) (l : MemRel j j m2 m1) (ab : AddrRel j a b) (u : Tree) (at : AddrTy D G a u) (hv : Agree D u v w) (once : (h x : ℕ) (v : Value) → j h x ≡ Some (b.frame, b.local) → local_at m1 h x ≡ Some v → (h ≡ a.frame) × (x ≡ a.local)) where
    source_same : (h x : ℕ) → j h x ≡ None → local_at (write m1 a v) h x ≡ local_at m1 h x
    source_same h x e = write_other m1 a v h x (λ p q. absurd (let z : ◌≡◌ {A = Option (ℕ × ℕ)} None (Some (b.frame, b.local)) = sym e ∙ ap₂ j p q ∙ ab.root in grind arith))

    target_same : (g y : ℕ) → ((h x : ℕ) → j h x ≡ Some (g, y) → ⊥) → local_at (write m2 b w) g y ≡ local_at m2 g y
    target_same g y ne = write_other m2 b w g y (λ p q. ne a.frame a.local (ab.root ∙ ap₂ (λ g y. Some (g, y)) (sym p) (sym q)))

    at_root : (h x g y : ℕ) (t : Tree) (v' w' o1 o2 : Value) → RootOf a h x → RootOf b g y → j h x ≡ Some (g, y) → G h x ≡ Some t → local_at m1 h x ≡ Some o1 → local_at m2 g y ≡ Some o2 → local_at (write m1 a v) h x ≡ Some v' → local_at (write m2 b w) g y ≡ Some w' → Agree D t o1 o2 → Agree D t v' w'
    at_root h x g y t v' w' o1 o2 ra rb e ty p1 p2 e1 e2 h0 =
        let (o2', q, rel) = l.at h x g y e o1 p1 in
        let s2 : o2' ≡ o2 = some_val (sym q ∙ p2) in
        let lt : at.local ≡ t = some_eq D G at.local t (G h x) (ap₂ G ra.0 ra.1 ∙ at.is) ty in
        let v1 : put a.path v o1 ≡ v' = some_val (sym (ap (option_map (put a.path v)) p1) ∙ sym (write_same m1 a v h x ra) ∙ e1) in
        let w1 : put b.path w o2 ≡ w' = some_val (sym (ap (option_map (put b.path w)) p2) ∙ sym (write_same m2 b w g y rb) ∙ e2) in
        let hp : Agree D t (put a.path v o1) (put a.path w o2) = put_agree D j a.path t u v w hv o1 o2 (subst (λ y. ValueRel j o1 y) s2 rel) h0 (subst (λ y. path_ty D y a.path ≡ Some u) lt at.path) in
        subst (λ y. Agree D t y w') v1 (subst (λ y. Agree D t (put a.path v o1) y) w1 (subst (λ ps. Agree D t (put a.path v o1) (put ps w o2)) ab.path hp))

    steady_same : (h x g y : ℕ) (t : Tree) (v' w' : Value) → j h x ≡ Some (g, y) → G h x ≡ Some t → local_at (write m1 a v) h x ≡ Some v' → local_at (write m2 b w) g y ≡ Some w' → Steady D t (local_at m2 g y) (local_at m1 h x) w' v'
    steady_same h x g y t v' w' e ty p q = go (root_or_not a h x)
      where
        go : RootOf a h x ⊎ (h ≡ a.frame → x ≡ a.local → ⊥) → Steady D t (local_at m2 g y) (local_at m1 h x) w' v'
        go (inl ra) =
            let (o1, p1) = write_back m1 a v h x v' p in
            let (o2, p2) = write_back m2 b w g y w' q in
            let z : ◌≡◌ {A = Option (ℕ × ℕ)} (Some (b.frame, b.local)) (Some (g, y)) = sym ab.root ∙ ap₂ j (sym ra.0) (sym ra.1) ∙ e in
            let rb : RootOf b g y = pair_parts b.frame b.local g y z in
            record { old1 = o1; old2 = o2; was1 = p1; was2 = p2; agree = at_root h x g y t v' w' o1 o2 ra rb e ty p1 p2 p q }
        go (inr n) = other (root_or_not b g y)
          where
            src : local_at (write m1 a v) h x ≡ local_at m1 h x
            src = write_other m1 a v h x n

            other : RootOf b g y ⊎ (g ≡ b.frame → y ≡ b.local → ⊥) → Steady D t (local_at m2 g y) (local_at m1 h x) w' v'
            other (inl rb) = absurd (let (p1, p2) = once h x v' (e ∙ ap₂ (λ g y. Some (g, y)) rb.0 rb.1) (sym src ∙ p) in n p1 p2)
            other (inr k) = stays t _ _ _ _ w' v' src (write_other m2 b w g y k) p q

    pub leaves_write : (n2 n1 : ℕ) → Leaves D G j j n2 n1 (write m2 b w) (write m1 a v) m2 m1
    leaves_write n2 n1 = changed j n2 n1 (write m2 b w) (write m1 a v) m2 m1 (λ h x lt e. source_same h x e) (λ g y lt ne. target_same g y ne) (λ h x g y t v' w' lt e ty p q. steady_same h x g y t v' w' e ty p q)

  -- a write of the source alone, where the target's value is related already and nothing needs drop
  pub leaves_alone : NeedsOk D → (j : Renaming) (m2 m1 : Memory) (a b : Addr) (v w : Value) (u : Tree) (n2 n1 : ℕ) → MemRel j j m2 m1 → AddrRel j a b → AddrTy D G a u → needs_drop D u ≡ false → value_at m2 b ≡ Some w → ((h x : ℕ) (v : Value) → j h x ≡ Some (b.frame, b.local) → local_at m1 h x ≡ Some v → (h ≡ a.frame) × (x ≡ a.local)) → Leaves D G j j n2 n1 m2 (write m1 a v) m2 m1
  leaves_alone nk j m2 m1 a b v w u n2 n1 l ab at nd ew once =
      let r = leaves_write j m2 m1 a b v w l ab u at (no_need D nk v w u nd) once n2 n1 in
      changed j n2 n1 m2 (write m1 a v) m2 m1 r.source (λ g y lt ne. refl) (λ h x g y t v' w' lt e ty p q. r.steady h x g y t v' w' lt e ty p (write_again m2 b w g y ew ∙ q))

  -- a write of the source alone to a frame above
  pub leaves_source : (j : Renaming) (m2 m1 : Memory) (a : Addr) (v : Value) (n2 n1 : ℕ) → n1 ≤ a.frame → Leaves D G j j n2 n1 m2 (write m1 a v) m2 m1
  leaves_source j m2 m1 a v n2 n1 le = changed j n2 n1 m2 (write m1 a v) m2 m1 (λ h x lt e. same h x lt) (λ g y lt ne. refl) (λ h x g y t v' w' lt e ty p q. stays t _ _ _ _ w' v' (same h x lt) refl p q)
    where
      same : (h x : ℕ) → h < n1 → local_at (write m1 a v) h x ≡ local_at m1 h x
      same h x lt = write_other m1 a v h x (λ p q. absurd (omega (arith, p, lt, le)))

  -- and of the target alone
  pub leaves_target : (j : Renaming) (m2 m1 : Memory) (b : Addr) (w : Value) (n2 n1 : ℕ) → ((h x : ℕ) → j h x ≡ Some (b.frame, b.local) → ⊥) → n2 ≤ b.frame → Leaves D G j j n2 n1 (write m2 b w) m1 m2 m1
  leaves_target j m2 m1 b w n2 n1 none le = changed j n2 n1 (write m2 b w) m1 m2 m1 (λ h x lt e. refl) (λ g y lt ne. write_other m2 b w g y (λ p q. absurd (omega (arith, p, lt, le)))) (λ h x g y t v' w' lt e ty p q. stays t _ _ _ _ w' v' refl (write_other m2 b w g y (λ p2 q2. none h x (e ∙ ap₂ (λ g y. Some (g, y)) p2 q2))) p q)

  -- a frame above closes, on both sides; no lent local of a frame below stands in it
  pub leaves_close : (j : Renaming) (m2 m1 : Memory) (k2 k1 n2 n1 : ℕ) → n2 ≤ k2 → n1 ≤ k1 → ((h x y : ℕ) → h < n1 → j h x ≡ Some (k2, y) → ⊥) → Leaves D G j j n2 n1 (close_frame m2 k2) (close_frame m1 k1) m2 m1
  leaves_close j m2 m1 k2 k1 n2 n1 le2 le1 none = changed j n2 n1 (close_frame m2 k2) (close_frame m1 k1) m2 m1 (λ h x lt e. src h x lt) (λ g y lt ne. close_other m2 k2 g y (λ p. absurd (omega (arith, p, lt, le2)))) (λ h x g y t v' w' lt e ty p q. stays t _ _ _ _ w' v' (src h x lt) (close_other m2 k2 g y (λ z. none h x y lt (e ∙ ap (λ g. Some (g, y)) z))) p q)
    where
      src : (h x : ℕ) → h < n1 → local_at (close_frame m1 k1) h x ≡ local_at m1 h x
      src h x lt = close_other m1 k1 h x (λ p. absurd (omega (arith, p, lt, le1)))

  -- a frame of the source alone opens or closes above them
  pub leaves_open_source : (j : Renaming) (m2 m1 : Memory) (k1 : ℕ) (vs : List Value) (n2 n1 : ℕ) → n1 ≤ k1 → Leaves D G j j n2 n1 m2 (open_frame m1 k1 vs) m2 m1
  leaves_open_source j m2 m1 k1 vs n2 n1 le = changed j n2 n1 m2 (open_frame m1 k1 vs) m2 m1 (λ h x lt e. src h x lt) (λ g y lt ne. refl) (λ h x g y t v' w' lt e ty p q. stays t _ _ _ _ w' v' (src h x lt) refl p q)
    where
      src : (h x : ℕ) → h < n1 → local_at (open_frame m1 k1 vs) h x ≡ local_at m1 h x
      src h x lt = open_other m1 k1 vs h x (λ p. absurd (omega (arith, p, lt, le)))

  pub leaves_close_source : (j : Renaming) (m2 m1 : Memory) (k1 n2 n1 : ℕ) → n1 ≤ k1 → Leaves D G j j n2 n1 m2 (close_frame m1 k1) m2 m1
  leaves_close_source j m2 m1 k1 n2 n1 le = changed j n2 n1 m2 (close_frame m1 k1) m2 m1 (λ h x lt e. src h x lt) (λ g y lt ne. refl) (λ h x g y t v' w' lt e ty p q. stays t _ _ _ _ w' v' (src h x lt) refl p q)
    where
      src : (h x : ℕ) → h < n1 → local_at (close_frame m1 k1) h x ≡ local_at m1 h x
      src h x lt = close_other m1 k1 h x (λ p. absurd (omega (arith, p, lt, le)))

  -- more stands for something, in frames of both sides that are not below
  pub leaves_more : (j j' : Renaming) (m2 m1 : Memory) (n2 n1 : ℕ) → ((h x : ℕ) (r : ℕ × ℕ) → j h x ≡ Some r → j' h x ≡ Some r) → ((h x : ℕ) → h < n1 → j' h x ≡ j h x) → ((h x g y : ℕ) → g < n2 → j' h x ≡ Some (g, y) → j h x ≡ Some (g, y)) → Leaves D G j j' n2 n1 m2 m1 m2 m1
  leaves_more j j' m2 m1 n2 n1 up s1 s2 = record { up = up; same1 = s1; same2 = s2; source = λ h x l e. refl; target = λ g y l e. refl; steady = λ h x g y t v' w' l e ty a b. stays t _ _ _ _ w' v' refl refl a b }
