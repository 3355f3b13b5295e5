-- Who asks for another has the greater weight, so no one asks for himself in the end.
use Rattle.std.proofs.Common.{◌≡◌, refl, subst, ℕ, zero, suc, ◌+◌, ◌*◌, ◌<◌, ◌≤◌, Bool, true, false, List, [], ◌∷◌, length, ◌⊎◌, inl, inr, arith}
use Rattle.std.proofs.lemmas.Bool.Decides.{nat_tests}
use Rattle.bit_rows.specs.Rows.{stands}
use Rattle.call_graph.specs.Graph.{Graph, IsGraph, Reaches, reach, some_reaches, asks, one_if, count_below, above, weight}
use Rattle.call_graph.proofs.Once.{bool_tells, once_within, once_fewer, once_below}
use Rattle.call_graph.proofs.Reached.{reaches_trans, reach_grows, reach_self, reach_all, reach_only}

-- ---- how many numbers below n pass

module _ (p q : ℕ → Bool) (h : (x : ℕ) → p x ≡ true → q x ≡ true) where
  one_less : (a b : Bool) → (a ≡ true → b ≡ true) → one_if a ≤ one_if b
  one_less true true k = omega arith
  one_less true false k = absurd (let e = k refl in cc)
  one_less false true k = omega arith
  one_less false false k = omega arith

  fewer_pass : (n : ℕ) → count_below p n ≤ count_below q n
  fewer_pass zero = omega arith
  fewer_pass (suc n) = let a = one_less (p n) (q n) (h n) in let b = fewer_pass n in omega (arith, a, b)

  one_fewer : (a b : Bool) → a ≡ false → b ≡ true → one_if a < one_if b
  one_fewer true b k e = absurd (cc)
  one_fewer false true k e = omega arith
  one_fewer false false k e = absurd (cc)

  pub fewer_by_one : (n x : ℕ) → x < n → p x ≡ false → q x ≡ true → count_below p n < count_below q n
  fewer_by_one zero x lt k e = absurd (omega arith)
  fewer_by_one (suc n) x lt k e = go (let c : (x ≡ n) ⊎ (x < n) = grind arith in c) (λ l. fewer_by_one n x l k e)
    where
      go : (x ≡ n) ⊎ (x < n) → (x < n → count_below p n < count_below q n) → one_if (p n) + count_below p n < one_if (q n) + count_below q n
      go (inl s) r = let a = one_fewer (p n) (q n) (subst (λ (y : ℕ). p y ≡ false) s k) (subst (λ (y : ℕ). q y ≡ true) s e) in let b = fewer_pass n in omega (arith, a, b)
      go (inr l) r = let a = one_less (p n) (q n) (h n) in let b = r l in omega (arith, a, b)

pub few_pass : (p : ℕ → Bool) (n : ℕ) → count_below p n ≤ n
few_pass p zero = omega arith
few_pass p (suc n) = let r = few_pass p n in let a = one (p n) in omega (arith, a, r)
  where
    one : (b : Bool) → one_if b ≤ 1
    one true = omega arith
    one false = omega arith

lesser_product : (a b n x y : ℕ) → a < b → x ≤ n → a * suc n + x < b * suc n + y
lesser_product a b n x y l m = let k : suc a ≤ b = omega (arith, l) in let p : suc a * suc n ≤ b * suc n = grind arith in omega (arith, p, m)

more_product : (a b n x y : ℕ) → a ≤ b → x < y → a * suc n + x < b * suc n + y
more_product a b n x y l m = let p : a * suc n ≤ b * suc n = grind arith in omega (arith, p, m)

module _ (G : Graph) (l : IsGraph G) where
  pub callee_of : (f : ℕ) (hs : List ℕ) (g : ℕ) → some_reaches G hs g ≡ true → (h : ℕ) × (stands h hs ≡ true) × (stands g (reach G h) ≡ true)
  callee_of f [] g e = absurd (cc)
  callee_of f (h ∷ hs) g e = go (bool_tells (stands g (reach G h))) (callee_of f hs g)
    where
      go : (stands g (reach G h) ≡ true) ⊎ (stands g (reach G h) ≡ false) → (some_reaches G hs g ≡ true → (k : ℕ) × (stands k hs ≡ true) × (stands g (reach G k) ≡ true)) → (k : ℕ) × (stands k (h ∷ hs) ≡ true) × (stands g (reach G k) ≡ true)
      go (inl c) r = (h, (grind (arith, nat_tests)), c)
      go (inr c) r = let s = r (grind arith) in (s.0, (let t = s.1 in grind (arith, nat_tests)), s.2)

  -- a callee of f reaches whom f asks for
  pub asked_reached : (f g : ℕ) → asks G f g ≡ true → (h : ℕ) × (stands h (G.callees f) ≡ true) × Reaches G h g × (g < G.functions)
  unfolding asks
  asked_reached f g a =
      let some : some_reaches G (G.callees f) g ≡ true = grind arith in
      let c = callee_of f (G.callees f) g some in
      let lt = l.callees_below f c.0 c.1 in
      (c.0, c.1, reach_only G l c.0 lt g c.2, (reach_grows G l c.0 lt).below g c.2)

  pub asked_below : (f g : ℕ) → asks G f g ≡ true → g < G.functions
  asked_below f g a = (asked_reached f g a).3

  pub f_reaches : (f g : ℕ) → asks G f g ≡ true → Reaches G f g
  f_reaches f g a = let r = asked_reached f g a in let c = r.2 in (suc c.0, (r.0, r.1, c.1))

  -- what g reaches, f reaches
  within : (f g : ℕ) → f < G.functions → asks G f g ≡ true → (x : ℕ) → stands x (reach G g) ≡ true → stands x (reach G f) ≡ true
  within f g lt a x k = reach_all G l f lt x (reaches_trans G f g x (f_reaches f g a) (reach_only G l g (asked_below f g a) x k))

  pub lower : (f g : ℕ) → asks G f g ≡ true → stands f (reach G g) ≡ true → G.below f g ≡ true
  unfolding asks
  lower f g a k = grind arith

  pub weight_falls : (f g : ℕ) → f < G.functions → asks G f g ≡ true → weight G g < weight G f
  unfolding weight above
  weight_falls f g lt a = go (bool_tells (stands f (reach G g)))
    where
      go : (stands f (reach G g) ≡ true) ⊎ (stands f (reach G g) ≡ false) → length (reach G g) * suc G.functions + count_below (G.below g) G.functions < length (reach G f) * suc G.functions + count_below (G.below f) G.functions
      go (inr out) =
          let size : length (reach G g) < length (reach G f) = once_fewer (reach G g) (reach G f) f (reach_grows G l g (asked_below f g a)).once (within f g lt a) (reach_self G l f lt) out in
          lesser_product (length (reach G g)) (length (reach G f)) G.functions (count_below (G.below g) G.functions) (count_below (G.below f) G.functions) size (few_pass (G.below g) G.functions)
      go (inl back) =
          let size : length (reach G g) ≤ length (reach G f) = once_within (reach G g) (reach G f) (reach_grows G l g (asked_below f g a)).once (within f g lt a) in
          let fewer = fewer_by_one (G.below g) (G.below f) (λ h k. l.transitive f g h (lower f g a back) k) G.functions g (asked_below f g a) (l.irreflexive g) (lower f g a back) in
          more_product (length (reach G g)) (length (reach G f)) G.functions (count_below (G.below g) G.functions) (count_below (G.below f) G.functions) size fewer

  -- nobody asks for himself
  pub asks_another : (f : ℕ) → f < G.functions → asks G f f ≡ true → ⊥
  asks_another f lt a = let r = weight_falls f f lt a in omega (arith, r)

  -- a weight is at most so much
  pub weight_few : (f : ℕ) → f < G.functions → weight G f ≤ G.functions * suc G.functions + G.functions
  unfolding weight above
  weight_few f lt =
      let r = reach_grows G l f lt in
      let size : length (reach G f) ≤ G.functions = once_below (reach G f) G.functions r.once r.below in
      let few = few_pass (G.below f) G.functions in
      let m : length (reach G f) * suc G.functions ≤ G.functions * suc G.functions = grind arith in
      omega (arith, m, few)
