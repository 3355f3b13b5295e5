-- Of related memories the source's is sealed: its references lead to lent locals.
use Rattle.std.proofs.Common.{◌≡◌, refl, sym, ap, ◌∙◌, subst, ℕ, Option, Some, None, arith}
use Rattle.mir_semantics.specs.Values.{Value, number, nil, cons, variant, pointer, hole}
use Rattle.mir_semantics.specs.Memory.{Memory, local_at}
use Rattle.mir_renaming.specs.Renaming.{Renaming, ValueRel, SomeRel, Sub, MemRel}
use Rattle.const_flow.proofs.sound.Frames.{Seen, Sealed}

-- what a renaming is of, each for itself
abbrev pub self_if : Option (ℕ × ℕ) → ℕ → ℕ → Option (ℕ × ℕ)
self_if None h x = None
self_if (Some r) h x = Some (h, x)

abbrev pub selves : Renaming → Renaming
selves j h x = self_if (j h x) h x

pub self_is : (o : Option (ℕ × ℕ)) (h x : ℕ) (r : ℕ × ℕ) → self_if o h x ≡ Some r → r ≡ (h, x)
self_is None h x r e = absurd (grind arith)
self_is (Some q) h x r e = grind arith

pub self_of : (o : Option (ℕ × ℕ)) (h x : ℕ) (r : ℕ × ℕ) → o ≡ Some r → self_if o h x ≡ Some (h, x)
self_of o h x r e = ap (λ o. self_if o h x) e

pub self_some : (o : Option (ℕ × ℕ)) (h x : ℕ) (r : ℕ × ℕ) → self_if o h x ≡ Some r → (q : ℕ × ℕ) × (o ≡ Some q)
self_some None h x r e = absurd (grind arith)
self_some (Some q) h x r e = (q, refl)

pub value_self : (j : Renaming) (v w : Value) → ValueRel j v w → ValueRel (selves j) v v
value_self j hole w h = tt
value_self j (number n) (number m) h = refl
value_self j nil nil h = tt
value_self j (cons v vs) (cons w ws) h = (value_self j v w h.0, value_self j vs ws h.1)
value_self j (variant k v) (variant i w) h = (refl, value_self j v w h.1)
value_self j (pointer a) (pointer b) h = record { root = self_of (j a.frame a.local) a.frame a.local _ h.root; path = refl }
value_self j v w h = absurd h

module _ (j K : Renaming) (low : Sub j K) (f1 f2 : ℕ) (own : (x : ℕ) → K f1 x ≡ Some (f2, x)) where
  pub seen : Seen (selves j) (selves K) f1
  seen = record {
    low = λ h x r e. (let (q, eq) = self_some (j h x) h x r e in self_of (K h x) h x q (low h x q eq) ∙ ap Some (sym (self_is (j h x) h x r e)));
    own = λ x. self_of (K f1 x) f1 x _ (own x);
    selves = λ h x r e. self_is (K h x) h x r e;
  }

  pub sealed : (m2 m1 : Memory) → MemRel j K m2 m1 → Sealed (selves j) (selves K) m1
  sealed m2 m1 l = record { at = λ h x g y e v ev. at h x g y v (self_is (K h x) h x (g, y) e) (self_some (K h x) h x (g, y) e) ev }
    where
      at : (h x g y : ℕ) (v : Value) → ◌≡◌ {A = ℕ × ℕ} (g, y) (h, x) → (q : ℕ × ℕ) × (K h x ≡ Some q) → local_at m1 h x ≡ Some v → SomeRel (selves j) v (local_at m1 g y)
      at h x g y v e (q, eq) ev =
          let (w, ew, rel) = l.at h x q.0 q.1 eq v ev in
          subst (λ (r : ℕ × ℕ). SomeRel (selves j) v (local_at m1 r.0 r.1)) (sym e) (v, ev, value_self j v w rel)
