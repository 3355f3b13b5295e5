-- The list of a reach holds what chains of calls lead to, each once.
use Rattle.std.proofs.Common.{◌≡◌, refl, sym, ap, ◌∙◌, subst, ℕ, zero, suc, ◌+◌, ◌<◌, ◌≤◌, Bool, true, false, not, ◌==◌, ◌||◌, ◌&&◌, List, [], ◌∷◌, ◌++◌, length, length-append, append-nil, ◌⊎◌, inl, inr, arith}
use Rattle.std.specs.Prelude.{Option, Some, None, option_to_list}
use Rattle.std.proofs.lemmas.Bool.Decides.{nat_tests}
use Rattle.bit_rows.specs.Rows.{stands}
use Rattle.call_graph.specs.Graph.{Graph, IsGraph, Chain, Reaches, called_by, is_known, least, next_known, reach_from, reach}
use Rattle.call_graph.proofs.Once.{IsOnce, bool_tells, stands_cases, stands_first, stands_append, once_below, once_snoc}

-- ---- chains

pub chain_snoc : (G : Graph) (n g h x : ℕ) → Chain G n g h → stands x (G.callees h) ≡ true → Chain G (suc n) g x
chain_snoc G zero g h x c k = (x, subst (λ (y : ℕ). stands x (G.callees y) ≡ true) (sym c) k, refl)
chain_snoc G (suc n) g h x c k = (c.0, c.1, chain_snoc G n c.0 h x c.2 k)

pub chain_append : (G : Graph) (n m g h x : ℕ) → Chain G n g h → Chain G m h x → Reaches G g x
chain_append G zero m g h x c d = (m, subst (λ (y : ℕ). Chain G m y x) (sym c) d)
chain_append G (suc n) m g h x c d = let r = chain_append G n m c.0 h x c.2 d in (suc r.0, (c.0, c.1, r.1))

pub reaches_trans : (G : Graph) (g h x : ℕ) → Reaches G g h → Reaches G h x → Reaches G g x
reaches_trans G g h x a b = chain_append G a.0 b.0 g h x a.1 b.1

-- ---- the least number that passes

pub least_is : (p : ℕ → Bool) (i n h : ℕ) → least p i n ≡ Some h → (p h ≡ true) × (i ≤ h) × (h < i + n)
least_is p i zero h e = absurd (cc)
least_is p i (suc n) h e = go (bool_tells (p i)) (least_is p (suc i) n h)
  where
    go : (p i ≡ true) ⊎ (p i ≡ false) → (least p (suc i) n ≡ Some h → (p h ≡ true) × (suc i ≤ h) × (h < suc i + n)) → (p h ≡ true) × (i ≤ h) × (h < i + suc n)
    go (inl k) r = let same : i ≡ h = grind arith in (subst (λ (x : ℕ). p x ≡ true) same k, omega (arith, same), omega (arith, same))
    go (inr k) r = let rest : least p (suc i) n ≡ Some h = grind arith in let s = r rest in (s.0, (let a = s.1 in omega arith), (let b = s.2 in omega arith))

pub least_none : (p : ℕ → Bool) (i n : ℕ) → least p i n ≡ None → (h : ℕ) → i ≤ h → h < i + n → p h ≡ false
least_none p i zero e h a b = absurd (omega arith)
least_none p i (suc n) e h a b = go (bool_tells (p i)) (least_none p (suc i) n)
  where
    go : (p i ≡ true) ⊎ (p i ≡ false) → (least p (suc i) n ≡ None → (x : ℕ) → suc i ≤ x → x < suc i + n → p x ≡ false) → p h ≡ false
    go (inl k) r = absurd (grind arith)
    go (inr k) r =
        let rest : least p (suc i) n ≡ None = grind arith in
        elim (let c : (i ≡ h) ⊎ (suc i ≤ h) = grind arith in c) [ inl s ↦ subst (λ (x : ℕ). p x ≡ false) s k | inr l ↦ r rest h l (omega arith) ]

called_is : (G : Graph) (ks : List ℕ) (h : ℕ) → called_by G ks h ≡ true → (k : ℕ) × (stands k ks ≡ true) × (stands h (G.callees k) ≡ true)
called_is G [] h e = absurd (cc)
called_is G (k ∷ ks) h e = go (bool_tells (stands h (G.callees k))) (called_is G ks h)
  where
    go : (stands h (G.callees k) ≡ true) ⊎ (stands h (G.callees k) ≡ false) → (called_by G ks h ≡ true → (j : ℕ) × (stands j ks ≡ true) × (stands h (G.callees j) ≡ true)) → (j : ℕ) × (stands j (k ∷ ks) ≡ true) × (stands h (G.callees j) ≡ true)
    go (inl c) r = (k, stands_first k ks, c)
    go (inr c) r = let s = r (grind arith) in (s.0, (let t = s.1 in grind (arith, nat_tests)), s.2)

called_of : (G : Graph) (ks : List ℕ) (k h : ℕ) → stands k ks ≡ true → stands h (G.callees k) ≡ true → called_by G ks h ≡ true
called_of G [] k h e f = absurd (cc)
called_of G (j ∷ ks) k h e f = go (stands_cases k j ks e) (called_of G ks k h)
  where
    go : (k ≡ j) ⊎ (stands k ks ≡ true) → (stands k ks ≡ true → stands h (G.callees k) ≡ true → called_by G ks h ≡ true) → (stands h (G.callees j) || called_by G ks h) ≡ true
    go (inl s) r = let t : stands h (G.callees j) ≡ true = subst (λ (x : ℕ). stands h (G.callees x) ≡ true) s f in grind arith
    go (inr s) r = let t = r s f in grind arith

module _ (G : Graph) (l : IsGraph G) (g : ℕ) (here : g < G.functions) where
  -- what holds of the list while it grows
  pub record Grows (given : List ℕ) : Type 0 where
    pub once : IsOnce given
    pub below : (h : ℕ) → stands h given ≡ true → h < G.functions
    pub reached : (h : ℕ) → stands h given ≡ true → Reaches G g h
    pub known : (h : ℕ) → stands h given ≡ true → is_known G g given h ≡ true

  pub next_is : (given : List ℕ) (h : ℕ) → next_known G g given ≡ Some h → (is_known G g given h ≡ true) × (stands h given ≡ false) × (h < G.functions)
  unfolding next_known
  next_is given h e =
      let r = least_is (λ x. is_known G g given x && not (stands x given)) 0 G.functions h e in
      let a = r.0 in
      ((grind arith), (grind arith), (let b = r.2 in omega arith))

  known_reached : (given : List ℕ) (h : ℕ) → Grows given → is_known G g given h ≡ true → Reaches G g h
  known_reached given h w k = go (bool_tells (h == g)) (called_is G given h)
    where
      go : ((h == g) ≡ true) ⊎ ((h == g) ≡ false) → (called_by G given h ≡ true → (j : ℕ) × (stands j given ≡ true) × (stands h (G.callees j) ≡ true)) → Reaches G g h
      go (inl e) r = (0, (let s : g ≡ h = grind (arith, nat_tests) in s))
      go (inr e) r =
          let s = r (grind arith) in
          let c = w.reached s.0 s.1 in
          (suc c.0, chain_snoc G c.0 g s.0 h c.1 s.2)

  called_still : (ks : List ℕ) (h x : ℕ) → called_by G ks x ≡ true → called_by G (ks ++ h ∷ []) x ≡ true
  called_still [] h x e = absurd (cc)
  called_still (k ∷ ks) h x e = let r = called_still ks h x in grind arith

  still_known : (given : List ℕ) (h x : ℕ) → is_known G g given x ≡ true → is_known G g (given ++ h ∷ []) x ≡ true
  still_known given h x e = let r = called_still given h x in grind arith

  pub grows_more : (given : List ℕ) (h : ℕ) → next_known G g given ≡ Some h → Grows given → Grows (given ++ h ∷ [])
  grows_more given h e w = let n = next_is given h e in record {
    once = once_snoc given h w.once n.1;
    below = λ x k. elim (stands_append x given (h ∷ []) k) [ inl a ↦ w.below x a | inr a ↦ (let s : x ≡ h = grind (arith, nat_tests) in let b = n.2 in omega (arith, s, b)) ];
    reached = λ x k. elim (stands_append x given (h ∷ []) k) [ inl a ↦ w.reached x a | inr a ↦ (let s : h ≡ x = grind (arith, nat_tests) in subst (Reaches G g) s (known_reached given h w n.0)) ];
    known = λ x k. elim (stands_append x given (h ∷ []) k) [ inl a ↦ still_known given h x (w.known x a) | inr a ↦ (let s : h ≡ x = grind (arith, nat_tests) in still_known given h x (subst (λ (y : ℕ). is_known G g given y ≡ true) s n.0)) ];
  }

  pub grows_start : Grows []
  grows_start = record { once = tt; below = λ h k. absurd (cc); reached = λ h k. absurd (cc); known = λ h k. absurd (cc) }

  pub stays : (n : ℕ) (given : List ℕ) → next_known G g given ≡ None → reach_from G g n given ≡ given
  stays zero given e = refl
  stays (suc n) given e =
      let same : given ++ option_to_list (next_known G g given) ≡ given = ap (λ o. given ++ option_to_list o) e ∙ append-nil given in
      ap (reach_from G g n) same ∙ stays n given e

  -- the list is finished
  pub record Ended (given : List ℕ) : Type 0 where
    pub grows : Grows given
    pub none : next_known G g given ≡ None

  pub full : (given : List ℕ) (h : ℕ) → Grows given → G.functions ≤ length given → next_known G g given ≡ Some h → ⊥
  full given h w many e =
      let r : length (given ++ h ∷ []) ≤ G.functions = once_below (given ++ h ∷ []) G.functions (grows_more given h e w).once (grows_more given h e w).below in
      omega (arith, r, length-append given (h ∷ []))

  ends : (n : ℕ) (given : List ℕ) → Grows given → G.functions ≤ n + length given → Ended (reach_from G g n given)
  ends zero given w many = go (next_known G g given) refl
    where
      go : (o : Option ℕ) → next_known G g given ≡ o → Ended given
      go None e = record { grows = w; none = e }
      go (Some h) e = absurd (full given h w (omega (arith, many)) e)
  ends (suc n) given w many = go (λ h e x. ends n (given ++ h ∷ []) x) (next_known G g given) refl
    where
      go : ((h : ℕ) → next_known G g given ≡ Some h → Grows (given ++ h ∷ []) → G.functions ≤ n + length (given ++ h ∷ []) → Ended (reach_from G g n (given ++ h ∷ []))) → (o : Option ℕ) → next_known G g given ≡ o → Ended (reach_from G g n (given ++ option_to_list (next_known G g given)))
      go more None e = subst Ended (sym (stays (suc n) given e)) (record { grows = w; none = e })
      go more (Some h) e =
          subst (λ o. Ended (reach_from G g n (given ++ option_to_list o))) (sym e)
          (more h e (grows_more given h e w) (omega (arith, many, length-append given (h ∷ []))))

  pub reach_ended : Ended (reach G g)
  unfolding reach
  reach_ended = ends G.functions [] grows_start (omega arith)

  pub reach_grows : Grows (reach G g)
  reach_grows = reach_ended.grows

  -- ---- what is reached stands in the list

  pub known_given : (h : ℕ) → h < G.functions → is_known G g (reach G g) h ≡ true → stands h (reach G g) ≡ true
  unfolding next_known
  known_given h lt k =
      let no = least_none (λ x. is_known G g (reach G g) x && not (stands x (reach G g))) 0 G.functions reach_ended.none h (omega arith) (omega (arith, lt)) in
      elim (bool_tells (stands h (reach G g))) [ inl a ↦ a | inr a ↦ absurd (grind arith) ]

  pub reach_self : stands g (reach G g) ≡ true
  reach_self = known_given g here (let s : (g == g) ≡ true = grind (arith, nat_tests) in grind arith)

  chain_in : (n k h : ℕ) → stands k (reach G g) ≡ true → Chain G n k h → stands h (reach G g) ≡ true
  chain_in zero k h a c = subst (λ (x : ℕ). stands x (reach G g) ≡ true) c a
  chain_in (suc n) k h a c =
      let called = called_of G (reach G g) k c.0 a c.1 in
      chain_in n c.0 h (known_given c.0 (l.callees_below k c.0 c.1) (grind arith)) c.2

  -- the list of a reach holds exactly what chains of calls lead to
  pub reach_all : (h : ℕ) → Reaches G g h → stands h (reach G g) ≡ true
  reach_all h r = chain_in r.0 g h reach_self r.1

  pub reach_only : (h : ℕ) → stands h (reach G g) ≡ true → Reaches G g h
  reach_only = reach_grows.reached

  -- and each of them was known
  pub is_known_of : (h : ℕ) → stands h (reach G g) ≡ true → is_known G g (reach G g) h ≡ true
  is_known_of = reach_grows.known
