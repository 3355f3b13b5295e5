-- Frames that open and close on both sides.
use Rattle.std.proofs.Common.{◌≡◌, ◌⊎◌, inl, inr, refl, sym, ap, ◌∙◌, ℕ, ◌<◌, ◌≤◌, true, false, nat_eq, List, Option, Some, None, slice_get, arith}
use Rattle.mir_syntax.specs.Shapes.{Shape}
use Rattle.mir_semantics.specs.Values.{Value}
use Rattle.mir_semantics.specs.Memory.{Memory, local_at, open_frame, close_frame}
use Rattle.mir_renaming.specs.Renaming.{Renaming, SomeRel, Sub}
use Rattle.mir_renaming.proofs.Memory.{same_or_not}
use Rattle.mir_syntax.proofs.Bools.{if_true, if_false}
use Rattle.mir_renaming.proofs.Statements.{Linked}
use Rattle.mir_renaming.proofs.Types.{TypeMap}
use Rattle.mir_renaming.proofs.Frames.{open_same, open_other, close_same, close_other}
use Rattle.mir_renaming.proofs.Ghosts.{value_mono}
use Rattle.mir_renaming.proofs.Stores.{pair_parts}
use Rattle.mir_relate.specs.Leaves.{Leaves}
use Rattle.mir_relate.specs.Frames.{in_frame, opened}

in_frame_parts : (k g y : ℕ) (o : Option ℕ) → ◌≡◌ {A = Option (ℕ × ℕ)} (in_frame k o) (Some (g, y)) → (g ≡ k) × (o ≡ Some y)
in_frame_parts k g y None e = absurd (grind arith)
in_frame_parts k g y (Some z) e = let (a, b) = pair_parts k z g y e in (a, ap Some (sym b))

-- a frame that is new on both sides
module _ (j : Renaming) (k2 k1 : ℕ) (place : ℕ → Option ℕ) (fresh1 : (x : ℕ) → j k1 x ≡ None) (fresh2 : (h x g y : ℕ) → j h x ≡ Some (g, y) → g < k2) where
  abbrev pub j' : Renaming
  j' = opened j k2 k1 place

  pub opened_at : (x y : ℕ) → place x ≡ Some y → j' k1 x ≡ Some (k2, y)
  opened_at x y e = go (same_or_not k1 k1)
    where
      go : ((nat_eq k1 k1 ≡ true) × (k1 ≡ k1)) ⊎ ((nat_eq k1 k1 ≡ false) × (k1 ≡ k1 → ⊥)) → j' k1 x ≡ Some (k2, y)
      go (inl p) = if_true (in_frame k2 (place x)) (j k1 x) p.0 ∙ ap (in_frame k2) e
      go (inr p) = absurd (p.1 refl)

  pub opened_old : (h x : ℕ) → (k1 ≡ h → ⊥) → j' h x ≡ j h x
  opened_old h x ne = go (same_or_not k1 h)
    where
      go : ((nat_eq k1 h ≡ true) × (k1 ≡ h)) ⊎ ((nat_eq k1 h ≡ false) × (k1 ≡ h → ⊥)) → j' h x ≡ j h x
      go (inl p) = absurd (ne p.1)
      go (inr p) = if_false (in_frame k2 (place x)) (j h x) p.0

  -- what stands for something is new on both sides, or old on both
  pub opened_parts : (h x g y : ℕ) → j' h x ≡ Some (g, y) → ((h ≡ k1) × (g ≡ k2) × (place x ≡ Some y)) ⊎ ((k1 ≡ h → ⊥) × (j h x ≡ Some (g, y)))
  opened_parts h x g y e = go (same_or_not k1 h)
    where
      go : ((nat_eq k1 h ≡ true) × (k1 ≡ h)) ⊎ ((nat_eq k1 h ≡ false) × (k1 ≡ h → ⊥)) → ((h ≡ k1) × (g ≡ k2) × (place x ≡ Some y)) ⊎ ((k1 ≡ h → ⊥) × (j h x ≡ Some (g, y)))
      go (inl p) =
          let (a, b) = in_frame_parts k2 g y (place x) (sym (if_true (in_frame k2 (place x)) (j h x) p.0) ∙ e) in
          inl (sym p.1, a, b)
      go (inr p) = inr (p.1, sym (if_false (in_frame k2 (place x)) (j h x) p.0) ∙ e)

  pub opened_up : Sub j j'
  opened_up h x r e = go (same_or_not k1 h)
    where
      go : ((nat_eq k1 h ≡ true) × (k1 ≡ h)) ⊎ ((nat_eq k1 h ≡ false) × (k1 ≡ h → ⊥)) → j' h x ≡ Some r
      go (inl p) = absurd (let z : None ≡ Some r = sym (fresh1 x) ∙ ap (λ i. j i x) p.1 ∙ e in grind arith)
      go (inr p) = if_false (in_frame k2 (place x)) (j h x) p.0 ∙ e

  -- the frames below
  pub leaves_open : (D : List Shape) (G : TypeMap) (m2 m1 : Memory) (ws vs : List Value) (n2 n1 : ℕ) → n2 ≤ k2 → n1 ≤ k1 → Leaves D G j j' n2 n1 (open_frame m2 k2 ws) (open_frame m1 k1 vs) m2 m1
  leaves_open D G m2 m1 ws vs n2 n1 le2 le1 = record {
    up = opened_up;
    same1 = λ h x l. opened_old h x (λ p. absurd (omega (arith, p, l, le1)));
    same2 = λ h x g y l e. old h x g y l (opened_parts h x g y e);
    source = λ h x l e. src h x l;
    target = λ g y l ne. open_other m2 k2 ws g y (λ p. absurd (omega (arith, p, l, le2)));
    steady = λ h x g y t v' w' l e ty p q. record { old1 = v'; old2 = w'; was1 = sym (src h x l) ∙ p; was2 = sym (open_other m2 k2 ws g y (λ z. (let lt = fresh2 h x g y e in omega (arith, z, lt)))) ∙ q; agree = λ a. a };
  }
    where
      src : (h x : ℕ) → h < n1 → local_at (open_frame m1 k1 vs) h x ≡ local_at m1 h x
      src h x l = open_other m1 k1 vs h x (λ p. absurd (omega (arith, p, l, le1)))

      old : (h x g y : ℕ) → g < n2 → ((h ≡ k1) × (g ≡ k2) × (place x ≡ Some y)) ⊎ ((k1 ≡ h → ⊥) × (j h x ≡ Some (g, y))) → j h x ≡ Some (g, y)
      old h x g y l (inl p) = (let e = p.1 in absurd (omega (arith, e, l, le2)))
      old h x g y l (inr p) = p.1

  -- and the memories
  pub linked_open : (m2 m1 : Memory) (ws vs : List Value) → Linked j j m2 m1 → ((x x' y : ℕ) → place x ≡ Some y → place x' ≡ Some y → x ≡ x') → ((x y : ℕ) → place x ≡ Some y → (v : Value) → slice_get vs x ≡ Some v → SomeRel j' v (slice_get ws y)) → Linked j' j' (open_frame m2 k2 ws) (open_frame m1 k1 vs)
  linked_open m2 m1 ws vs l once slots = record { mem = record { at = λ h x g y e v r. at h x g y v r (opened_parts h x g y e) }; apart = λ h x h' x' r u u' e e' p p'. apart h x h' x' r.0 r.1 u u' p p' (opened_parts h x r.0 r.1 e) (opened_parts h' x' r.0 r.1 e') }
    where
      at : (h x g y : ℕ) (v : Value) → local_at (open_frame m1 k1 vs) h x ≡ Some v → ((h ≡ k1) × (g ≡ k2) × (place x ≡ Some y)) ⊎ ((k1 ≡ h → ⊥) × (j h x ≡ Some (g, y))) → SomeRel j' v (local_at (open_frame m2 k2 ws) g y)
      at h x g y v r (inl (p, q, e)) =
          let (w, s, rel) = slots x y e v (sym (open_same m1 k1 vs x) ∙ ap (λ i. local_at (open_frame m1 k1 vs) i x) (sym p) ∙ r) in
          (w, ap (λ i. local_at (open_frame m2 k2 ws) i y) q ∙ open_same m2 k2 ws y ∙ s, rel)
      at h x g y v r (inr (ne, e)) =
          let (w, s, rel) = l.mem.at h x g y e v (sym (open_other m1 k1 vs h x ne) ∙ r) in
          let lt = fresh2 h x g y e in
          (w, open_other m2 k2 ws g y (λ z. absurd (omega (arith, z, lt))) ∙ s, value_mono j j' opened_up v w rel)

      apart : (h x h' x' g y : ℕ) (u u' : Value) → local_at (open_frame m1 k1 vs) h x ≡ Some u → local_at (open_frame m1 k1 vs) h' x' ≡ Some u' → ((h ≡ k1) × (g ≡ k2) × (place x ≡ Some y)) ⊎ ((k1 ≡ h → ⊥) × (j h x ≡ Some (g, y))) → ((h' ≡ k1) × (g ≡ k2) × (place x' ≡ Some y)) ⊎ ((k1 ≡ h' → ⊥) × (j h' x' ≡ Some (g, y))) → (h ≡ h') × (x ≡ x')
      apart h x h' x' g y u u' p p' (inl (a, b, c)) (inl (a', b', c')) = (a ∙ sym a', once x x' y c c')
      apart h x h' x' g y u u' p p' (inr (ne, e)) (inr (ne', e')) = l.apart h x h' x' (g, y) u u' e e' (sym (open_other m1 k1 vs h x ne) ∙ p) (sym (open_other m1 k1 vs h' x' ne') ∙ p')
      apart h x h' x' g y u u' p p' (inl (a, b, c)) (inr (ne, e)) = (let lt = fresh2 h' x' g y e in absurd (omega (arith, b, lt)))
      apart h x h' x' g y u u' p p' (inr (ne, e)) (inl (a, b, c)) = (let lt = fresh2 h x g y e in absurd (omega (arith, b, lt)))

-- a frame that closes, where nothing else stands for its locals
pub linked_close : (j : Renaming) (m2 m1 : Memory) (k2 k1 : ℕ) → ((h x y : ℕ) (v : Value) → j h x ≡ Some (k2, y) → local_at m1 h x ≡ Some v → h ≡ k1) → Linked j j m2 m1 → Linked j j (close_frame m2 k2) (close_frame m1 k1)
linked_close j m2 m1 k2 k1 only l = record { mem = record { at = λ h x g y e v r. at h x g y e v r (same_or_not h k1) }; apart = λ h x h' x' r u u' e e' p p'. l.apart h x h' x' r u u' e e' (back h x u p) (back h' x' u' p') }
  where
    back : (h x : ℕ) (u : Value) → local_at (close_frame m1 k1) h x ≡ Some u → local_at m1 h x ≡ Some u
    back h x u p = go (same_or_not h k1)
      where
        go : ((nat_eq h k1 ≡ true) × (h ≡ k1)) ⊎ ((nat_eq h k1 ≡ false) × (h ≡ k1 → ⊥)) → local_at m1 h x ≡ Some u
        go (inl q) = absurd (let z : local_at (close_frame m1 k1) h x ≡ None = ap (λ i. local_at (close_frame m1 k1) i x) q.1 ∙ close_same m1 k1 x in grind arith)
        go (inr q) = sym (close_other m1 k1 h x q.1) ∙ p

    at : (h x g y : ℕ) → j h x ≡ Some (g, y) → (v : Value) → local_at (close_frame m1 k1) h x ≡ Some v → ((nat_eq h k1 ≡ true) × (h ≡ k1)) ⊎ ((nat_eq h k1 ≡ false) × (h ≡ k1 → ⊥)) → SomeRel j v (local_at (close_frame m2 k2) g y)
    at h x g y e v r (inl p) = absurd (let z : local_at (close_frame m1 k1) h x ≡ None = ap (λ i. local_at (close_frame m1 k1) i x) p.1 ∙ close_same m1 k1 x in grind arith)
    at h x g y e v r (inr p) =
        let (w, s, rel) = l.mem.at h x g y e v (back h x v r) in
        (w, close_other m2 k2 g y (λ q. p.1 (only h x y v (e ∙ ap (λ g. Some (g, y)) q) (back h x v r))) ∙ s, rel)
