-- What an optimised body calls, its function reaches.
use Rattle.std.proofs.Common.{◌≡◌, refl, sym, ap, ◌∙◌, subst, ℕ, zero, suc, ◌<◌, Bool, true, false, not, ◌||◌, List, [], ◌∷◌, ◌++◌, ◌⊎◌, inl, inr, arith}
use Rattle.std.specs.Prelude.{Option, Some, None, if◌then◌else◌}
use Rattle.bit_rows.specs.Rows.{stands}
use Rattle.call_graph.specs.Callees.{once_after}
use Rattle.call_graph.specs.Graph.{Chain, Reaches, reach, some_reaches, asks, weight}
use Rattle.call_graph.proofs.Once.{bool_tells, stands_cases, stands_first, stands_later, stands_append}
use Rattle.call_graph.proofs.Reached.{reaches_trans, reach_all}
use Rattle.call_graph.proofs.Falls.{weight_falls, asked_below, f_reaches}
use Rattle.query_plan.specs.Queries.{Pipeline, is_large, qualifies, graph, callees_of, may_take, takes, brought, brought_after, cands, lent, if_taken, taken, opt}
use Rattle.query_plan.specs.Source.{IsSource}
use Rattle.query_plan.proofs.Outs.{opt_is}

-- what is lent is the optimised body of a function that is asked for
pub lent_is : {B : Type 0} (P : Pipeline B) (one : ℕ → B) (f g : ℕ) (b : B) → lent P one f g ≡ Some b → (asks (graph P) f g ≡ true) × (one g ≡ b)
unfolding lent
lent_is P one f g b h = go (bool_tells (stands g (cands P one f))) (bool_tells (asks (graph P) f g)) (bool_tells (may_take P f g))
  where
    go : (stands g (cands P one f) ≡ true) ⊎ (stands g (cands P one f) ≡ false) → (asks (graph P) f g ≡ true) ⊎ (asks (graph P) f g ≡ false) → (may_take P f g ≡ true) ⊎ (may_take P f g ≡ false) → (asks (graph P) f g ≡ true) × (one g ≡ b)
    go (inl c) (inl a) (inl m) = (a, grind arith)
    go (inl c) (inl a) (inr m) = absurd (grind arith)
    go (inl c) (inr a) m = absurd (grind arith)
    go (inr c) a m = absurd (grind arith)

-- and so is what is taken
some_if : {B : Type 0} (t : Bool) (c b : B) → (if t then Some c else None) ≡ Some b → c ≡ b
some_if true c b e = (cc)
some_if false c b e = absurd (cc)

pub taken_is : {B : Type 0} (P : Pipeline B) (one : ℕ → B) (f g : ℕ) (b : B) → taken P one f g ≡ Some b → (asks (graph P) f g ≡ true) × (one g ≡ b)
taken_is {B = B} P one f g b h = go (lent P one f g) refl h
  where
    go : (o : Option B) → lent P one f g ≡ o → if_taken P f g o ≡ Some b → (asks (graph P) f g ≡ true) × (one g ≡ b)
    go None e k = absurd (cc)
    go (Some c) e k = lent_is P one f g b (e ∙ ap Some (some_if (P.takes (is_large P f) (P.inlining g) (qualifies P g) c) c b k))

pub in_once_after : (seen xs : List ℕ) (x : ℕ) → stands x (once_after seen xs) ≡ true → stands x xs ≡ true
in_once_after seen [] x h = absurd (cc)
in_once_after seen (y ∷ ys) x h = go (stands y seen) h (in_once_after seen ys x) (in_once_after (y ∷ seen) ys x)
  where
    go : (b : Bool) → stands x (if b then once_after seen ys else y ∷ once_after (y ∷ seen) ys) ≡ true → (stands x (once_after seen ys) ≡ true → stands x ys ≡ true) → (stands x (once_after (y ∷ seen) ys) ≡ true → stands x ys ≡ true) → stands x (y ∷ ys) ≡ true
    go true k r s = stands_later x y ys (r k)
    go false k r s = elim (stands_cases x y (once_after (y ∷ seen) ys) k) [ inl e ↦ subst (λ (z : ℕ). stands x (z ∷ ys) ≡ true) e (stands_first x ys) | inr m ↦ stands_later x y ys (s m) ]

module _ {B : Type 0} (P : Pipeline B) (is : IsSource P) where
  chain_below : (n g h : ℕ) → g < P.functions → Chain (graph P) n g h → h < P.functions
  chain_below zero g h lt c = subst (λ (x : ℕ). x < P.functions) c lt
  chain_below (suc n) g h lt c = chain_below n c.0 h (is.graph.callees_below g c.0 c.1) c.2

  pub reaches_below : (g h : ℕ) → g < P.functions → Reaches (graph P) g h → h < P.functions
  reaches_below g h lt r = chain_below r.0 g h lt r.1

  -- by the weight, as far as n
  calls_by : (n f g : ℕ) → f < P.functions → weight (graph P) f < n → stands g (P.callees (opt P f)) ≡ true → Reaches (graph P) f g
  calls_by zero f g lt w h = absurd (omega (arith, w))
  calls_by (suc n) f g lt w h =
      let h2 = is.calls.rest_keeps f g lt (subst (λ b. stands g (P.callees b) ≡ true) (opt_is P is.graph f lt) h) in
      elim (is.calls.splice_keeps f g lt h2) [
        | inl k ↦ (1, (g, is.calls.elab_keeps f g lt k, refl))
        | inr k ↦ (let l = taken_is P (opt P) f k.0 k.1 k.2 in
            let falls = weight_falls (graph P) is.graph f k.0 lt l.0 in
            let there = asked_below (graph P) is.graph f k.0 l.0 in
            let r = calls_by n k.0 g there (omega (arith, falls, w)) (subst (λ b. stands g (P.callees b) ≡ true) (sym l.1) k.3) in
            reaches_trans (graph P) f k.0 g (f_reaches (graph P) is.graph f k.0 l.0) r)
      ]

  pub calls_reached : (f g : ℕ) → f < P.functions → stands g (P.callees (opt P f)) ≡ true → Reaches (graph P) f g
  calls_reached f g lt h = calls_by (suc (weight (graph P) f)) f g lt (omega arith) h

  pub calls_below : (f g : ℕ) → f < P.functions → stands g (P.callees (opt P f)) ≡ true → g < P.functions
  calls_below f g lt h = reaches_below f g lt (calls_reached f g lt h)

  -- ---- each candidate is reached by a callee, so only its path and its own reach tell whether it is asked for

  abbrev pub Under : ℕ → ℕ → Type 0
  Under f g = (h : ℕ) × (stands h (callees_of P f) ≡ true) × Reaches (graph P) h g

  brought_under : (f : ℕ) (gs : List ℕ) → ((g : ℕ) → stands g gs ≡ true → Under f g) → (x : ℕ) → stands x (brought P (opt P) f gs) ≡ true → Under f x
  brought_under f [] u x h = absurd (cc)
  brought_under f (g ∷ gs) u x h = elim (stands_append x (if takes P (opt P) f g then P.callees (opt P g) else []) (brought P (opt P) f gs) h) [
    | inl k ↦ one (takes P (opt P) f g) k
    | inr k ↦ brought_under f gs (λ y m. u y (stands_later y g gs m)) x k
  ]
    where
      one : (t : Bool) → stands x (if t then P.callees (opt P g) else []) ≡ true → Under f x
      one true k =
          let a = u g (stands_first g gs) in
          let low = reaches_below a.0 g (is.graph.callees_below f a.0 a.1) a.2 in
          (a.0, a.1, reaches_trans (graph P) a.0 g x a.2 (calls_reached g x low k))
      one false k = absurd (cc)

  pub cands_under : (f g : ℕ) → stands g (cands P (opt P) f) ≡ true → Under f g
  cands_under f g h =
      let first = callees_of P f in
      let second = brought_after P (opt P) f first first in
      let b1 : (x : ℕ) → stands x first ≡ true → Under f x = λ x k. (x, k, (0, refl)) in
      let b2 : (x : ℕ) → stands x second ≡ true → Under f x = λ x k. brought_under f first b1 x (in_once_after first (brought P (opt P) f first) x k) in
      elim (stands_append g first (second ++ brought_after P (opt P) f (first ++ second) second) h) [
        | inl k ↦ b1 g k
        | inr k ↦ elim (stands_append g second (brought_after P (opt P) f (first ++ second) second) k) [
          | inl m ↦ b2 g m
          | inr m ↦ brought_under f second b2 g (in_once_after (first ++ second) (brought P (opt P) f second) g m)
        ]
      ]

  some_of : (hs : List ℕ) (h g : ℕ) → stands h hs ≡ true → stands g (reach (graph P) h) ≡ true → some_reaches (graph P) hs g ≡ true
  some_of [] h g k r = absurd (cc)
  some_of (x ∷ hs) h g k r = go (stands_cases h x hs k) (λ m. some_of hs h g m r)
    where
      go : (h ≡ x) ⊎ (stands h hs ≡ true) → (stands h hs ≡ true → some_reaches (graph P) hs g ≡ true) → (stands g (reach (graph P) x) || some_reaches (graph P) hs g) ≡ true
      go (inl e) s = let t : stands g (reach (graph P) x) ≡ true = subst (λ (y : ℕ). stands g (reach (graph P) y) ≡ true) e r in grind arith
      go (inr m) s = let t = s m in grind arith

  pub cand_reached : (f g : ℕ) → stands g (cands P (opt P) f) ≡ true → some_reaches (graph P) (callees_of P f) g ≡ true
  cand_reached f g h =
      let u = cands_under f g h in
      let low = is.graph.callees_below f u.0 u.1 in
      some_of (callees_of P f) u.0 g u.1 (reach_all (graph P) is.graph u.0 low g u.2)

  pub asks_of_cand : (f g : ℕ) → stands g (cands P (opt P) f) ≡ true → asks (graph P) f g ≡ (P.below f g || not (stands f (reach (graph P) g)))
  unfolding asks
  asks_of_cand f g h = let s = cand_reached f g h in grind arith
