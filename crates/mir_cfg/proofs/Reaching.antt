-- A block to which a path leads is led to by no more edges than there are blocks.
use Rattle.std.proofs.Common.{◌≡◌, ◌⊎◌, inl, inr, refl, sym, ap, ◌∙◌, ℕ, zero, suc, ◌+◌, ◌-◌, ◌<◌, ◌≤◌, Bool, true, false, cond, ◌==◌, List, length, get_or, arith}
use Rattle.std.specs.Prelude.{IsTrue, ◌↔◌}
use Rattle.std.specs.List.{All, Contains, list_any}
use Rattle.std.proofs.lemmas.Bool.{eqb-true, eq-eqb, or_cases, or_left, or_right, cases_Bool, cases_lt, both_ways}
use Rattle.std.proofs.lemmas.List.Folds.{Any-from_list_any, list_any_at}
use Rattle.std.proofs.lemmas.List.Elements.{All-contains, All-contains_itself}
use Rattle.mir_syntax.specs.declared.body.Term.{Term}
use Rattle.mir_cfg.specs.Paths.{exits, Closed, leads, is_reached, ReachedBy, Reached}

-- ---- tests of a list

any_in : (p : ℕ → Bool) (xs : List ℕ) (x : ℕ) → Contains xs x → p x ≡ true → list_any p xs ≡ true
any_in p xs x (k, l, e) h = list_any_at p xs k x l (ap p e ∙ h)

pub any_which : (p : ℕ → Bool) (xs : List ℕ) → list_any p xs ≡ true → (x : ℕ) × Contains xs x × (p x ≡ true)
any_which p xs a = let h = Any-from_list_any p xs a in (h.1, (h.0, h.2, h.3), h.4)

-- ---- counts

-- how many numbers below a bound pass
abbrev count : (ℕ → Bool) → ℕ → ℕ
count p zero = 0
count p (suc k) = count p k + cond (p k) 1 0

one_up : (a b : Bool) → (a ≡ true → b ≡ true) → cond a 1 0 ≤ cond b 1 0
one_up true true h = omega arith
one_up true false h = absurd (both_ways false refl (h refl))
one_up false b h = omega arith

count_few : (p : ℕ → Bool) (k : ℕ) → count p k ≤ k
count_few p zero = omega arith
count_few p (suc k) =
    let rest = count_few p k in
    let here : ◌≤◌ (cond (p k) 1 0) 1 = one_up (p k) true (λ e. refl) in
    omega (arith, rest, here)

count_up : (p q : ℕ → Bool) → ((x : ℕ) → p x ≡ true → q x ≡ true) → (k : ℕ) → count p k ≤ count q k
count_up p q h zero = omega arith
count_up p q h (suc k) =
    let rest = count_up p q h k in
    let here = one_up (p k) (q k) (h k) in
    omega (arith, rest, here)

count_more : (p q : ℕ → Bool) → ((x : ℕ) → p x ≡ true → q x ≡ true) → (b : ℕ) → q b ≡ true → p b ≡ false → (k : ℕ) → b < k → count p k + 1 ≤ count q k
count_more p q h b new none zero l = absurd (omega arith)
count_more p q h b new none (suc k) l = elim (cases_lt b k) [
  | inl m ↦ (
      let rest = count_more p q h b new none k m in
      let here = one_up (p k) (q k) (h k) in
      omega (arith, rest, here))
  | inr m ↦ (
      let same : b ≡ k = omega (arith, l, m) in
      let rest = count_up p q h k in
      let zeroed : ◌≡◌ {A = ℕ} (cond (p k) 1 0) 0 = ap (λ v. cond v 1 0) (ap p (sym same) ∙ none) in
      let one : ◌≡◌ {A = ℕ} (cond (q k) 1 0) 1 = ap (λ v. cond v 1 0) (ap q (sym same) ∙ new) in
      omega (arith, rest, zeroed, one))
]

module _ (terms : List Term) where
  -- ---- paths

  leads_self : (n b : ℕ) → leads terms n b b ≡ true
  leads_self zero b = eq-eqb b b refl
  leads_self (suc n) b = or_left (b == b) (list_any (λ c. leads terms n c b) (exits terms b)) (eq-eqb b b refl)

  pub start_reached : is_reached terms 0 ≡ true
  start_reached = leads_self (length terms) 0

  leads_more : (n a b : ℕ) → leads terms n a b ≡ true → leads terms (suc n) a b ≡ true
  leads_more zero a b h = or_left (a == b) (list_any (λ c. leads terms zero c b) (exits terms a)) h
  leads_more (suc n) a b h = elim (or_cases (a == b) (list_any (λ c. leads terms n c b) (exits terms a)) h) [
    | inl e ↦ or_left (a == b) (list_any (λ c. leads terms (suc n) c b) (exits terms a)) e
    | inr e ↦ (let (c, on, path) = any_which (λ c. leads terms n c b) (exits terms a) e in
        or_right (a == b) (list_any (λ c. leads terms (suc n) c b) (exits terms a)) (any_in (λ c. leads terms (suc n) c b) (exits terms a) c on (leads_more n c b path)))
  ]

  leads_up : (k n a b : ℕ) → leads terms n a b ≡ true → leads terms (k + n) a b ≡ true
  leads_up zero n a b h = (let e : 0 + n ≡ n = omega arith in rw e h)
  leads_up (suc k) n a b h = (let e : suc k + n ≡ suc (k + n) = omega arith in rw e (leads_more (k + n) a b (leads_up k n a b h)))

  leads_within : (n m a b : ℕ) → n ≤ m → leads terms n a b ≡ true → leads terms m a b ≡ true
  leads_within n m a b l h = (let e : (m - n) + n ≡ m = omega arith in rw e at (leads_up (m - n) n a b h))

  -- one edge more at the end of a path
  leads_step : (n a b c : ℕ) → Contains (exits terms b) c → leads terms n a b ≡ true → leads terms (suc n) a c ≡ true
  leads_step zero a b c on h =
      let same : a ≡ b = eqb-true a b h in
      rw same (or_right (b == c) (list_any (λ x. leads terms zero x c) (exits terms b)) (any_in (λ x. leads terms zero x c) (exits terms b) c on (leads_self zero c)))
  leads_step (suc n) a b c on h = elim (or_cases (a == b) (list_any (λ x. leads terms n x b) (exits terms a)) h) [
    | inl e ↦ (let same : a ≡ b = eqb-true a b e in
        rw same (or_right (b == c) (list_any (λ x. leads terms (suc n) x c) (exits terms b)) (any_in (λ x. leads terms (suc n) x c) (exits terms b) c on (leads_self (suc n) c))))
    | inr e ↦ (let (x, first, path) = any_which (λ x. leads terms n x b) (exits terms a) e in
        or_right (a == c) (list_any (λ x. leads terms (suc n) x c) (exits terms a)) (any_in (λ x. leads terms (suc n) x c) (exits terms a) x first (leads_step n x b c on path)))
  ]

  pub reached_more : (a c : ℕ) → Reached terms a → Contains (exits terms a) c → Reached terms c
  reached_more a c (n, path) on = (suc n, (a, path, on))

  reached_along : (n a b : ℕ) → Reached terms a → leads terms n a b ≡ true → Reached terms b
  reached_along zero a b r h = rw (eqb-true a b h) at r
  reached_along (suc n) a b r h = elim (or_cases (a == b) (list_any (λ c. leads terms n c b) (exits terms a)) h) [
    | inl e ↦ rw (eqb-true a b e) at r
    | inr e ↦ (let (c, on, path) = any_which (λ c. leads terms n c b) (exits terms a) e in reached_along n c b (reached_more a c r on) path)
  ]

  pub reached_from : (b : ℕ) → is_reached terms b ≡ true → Reached terms b
  reached_from b h = reached_along (length terms) 0 b (0, refl) h

  -- ---- where one edge more leads to no other block

  abbrev Stable : ℕ → Type 0
  Stable n = (b : ℕ) → b < length terms → leads terms (suc n) 0 b ≡ true → leads terms n 0 b ≡ true

  abbrev Differs : ℕ → ℕ → Type 0
  Differs n b = (leads terms (suc n) 0 b ≡ true) × (leads terms n 0 b ≡ false)

  look : (n k : ℕ) → ((b : ℕ) → b < k → leads terms (suc n) 0 b ≡ true → leads terms n 0 b ≡ true) ⊎ ((b : ℕ) × (b < k) × Differs n b)
  look n zero = inl (λ b l. absurd (omega arith))
  look n (suc k) = elim (look n k) [
    | inr (b, l, d) ↦ inr (b, omega (arith, l), d)
    | inl old ↦ elim (cases_Bool (leads terms n 0 k)) [
      | inl now ↦ inl (all old (λ e. now))
      | inr none ↦ elim (cases_Bool (leads terms (suc n) 0 k)) [
        | inl new ↦ inr (k, omega arith, (new, none))
        | inr stays ↦ inl (all old (λ e. absurd (both_ways (leads terms (suc n) 0 k) stays e)))
      ]
    ]
  ]
    where
      all : ((b : ℕ) → b < k → leads terms (suc n) 0 b ≡ true → leads terms n 0 b ≡ true) → (leads terms (suc n) 0 k ≡ true → leads terms n 0 k ≡ true) → (b : ℕ) → b < suc k → leads terms (suc n) 0 b ≡ true → leads terms n 0 b ≡ true
      all old here b l h = elim (cases_lt b k) [
        | inl m ↦ old b m h
        | inr m ↦ (let same : b ≡ k = omega (arith, l, m) in rw same (here (rw same at h)))
      ]

  grows : 0 < length terms → (n : ℕ) → ((m : ℕ) × (m ≤ n) × Stable m) ⊎ (suc n ≤ count (λ b. leads terms n 0 b) (length terms))
  grows some zero = inr (
      let more = count_more (λ b. false) (λ b. leads terms 0 0 b) (λ x e. absurd (both_ways false refl e)) 0 (leads_self 0 0) refl (length terms) some in
      omega (arith, more))
  grows some (suc n) = elim (grows some n) [
    | inl (m, l, s) ↦ inl (m, omega (arith, l), s)
    | inr many ↦ elim (look n (length terms)) [
      | inl s ↦ inl (n, omega arith, s)
      | inr (b, l, (new, none)) ↦ inr (
          let more = count_more (λ b. leads terms n 0 b) (λ b. leads terms (suc n) 0 b) (λ x. leads_more n 0 x) b new none (length terms) l in
          omega (arith, many, more))
    ]
  ]

  stable : 0 < length terms → (m : ℕ) × (m ≤ length terms) × Stable m
  stable some = elim (grows some (length terms)) [
    | inl found ↦ found
    | inr many ↦ absurd (let few = count_few (λ b. leads terms (length terms) 0 b) (length terms) in omega (arith, many, few))
  ]

  module _ (closed : Closed terms) (some : 0 < length terms) where
    kept : (m : ℕ) → Stable m → (n b : ℕ) → ReachedBy terms n b → leads terms m 0 b ≡ true
    kept m s zero b e = rw e (leads_self m 0)
    kept m s (suc n) b (a, path, on) = s b (All-contains (λ c. c < length terms) (exits terms a) b (closed a) on) (leads_step m 0 a b on (kept m s n a path))

    pub reached_to : (b : ℕ) → Reached terms b → is_reached terms b ≡ true
    reached_to b (n, path) = let (m, l, s) = stable some in leads_within m (length terms) 0 b l (kept m s n b path)

    -- the marks of a search
    pub reached_flag : (flag : Bool) (b : ℕ) → IsTrue flag ↔ Reached terms b → flag ≡ is_reached terms b
    reached_flag flag b h = go flag (is_reached terms b) (λ e. reached_to b (h.0 e)) (λ e. h.1 (reached_from b e))
      where
        go : (p q : Bool) → (p ≡ true → q ≡ true) → (q ≡ true → IsTrue p) → p ≡ q
        go true q f g = sym (f refl)
        go false true f g = g refl
        go false false f g = refl

    pub exits_reached : (a : ℕ) → is_reached terms a ≡ true → All (λ c. is_reached terms c ≡ true) (exits terms a)
    exits_reached a r k d l =
        let c = get_or (exits terms a) k d in
        reached_to c (reached_more a c (reached_from a r) (All-contains_itself (exits terms a) k d l))
