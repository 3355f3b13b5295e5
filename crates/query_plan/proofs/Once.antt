-- Each need of a query stands once in its list.
use Rattle.std.proofs.Common.{◌≡◌, ◌≢◌, refl, sym, ◌∙◌, subst, ℕ, ◌<◌, Bool, true, false, List, [], ◌∷◌, ◌++◌, map, ◌⊎◌, inl, inr, arith}
use Rattle.std.specs.Prelude.{if◌then◌else◌}
use Rattle.std.proofs.lemmas.Bool.Decides.{nat_tests}
use Rattle.bit_rows.specs.Rows.{stands}
use Rattle.call_graph.specs.Callees.{once_after}
use Rattle.call_graph.specs.Graph.{reach, asks}
use Rattle.call_graph.proofs.Once.{IsOnce, bool_tells, both, stands_cases, stands_first, stands_later, stands_append, stands_left, stands_right}
use Rattle.call_graph.proofs.Reached.{reach_grows}
use Rattle.query_plan.specs.declared.kind.Kind.{Kind}
use Rattle.query_plan.specs.declared.kind.Kind.TheVariants.{Built, Qualif, Prom, Callees, Cost, Reach, Elab, Opt}
use Rattle.query_plan.specs.Queries.{Pipeline, is_never, graph, prom, callees_of, brought, brought_after, cands, opt}
use Rattle.query_plan.specs.Needs.{query, asked, asked_of, needs_of}
use Rattle.query_plan.proofs.Members.{not_in, is_once}
use Rattle.query_plan.proofs.Numbers.{same_query}
use Rattle.query_plan.specs.Source.{IsSource}
use Rattle.query_plan.proofs.Needs.{cands_below}

-- ---- lists that are joined and mapped

once_append : (xs ys : List ℕ) → IsOnce xs → IsOnce ys → ((x : ℕ) → stands x xs ≡ true → stands x ys ≡ false) → IsOnce (xs ++ ys)
once_append [] ys a b h = b
once_append (x ∷ xs) ys a b h = (apart (bool_tells (stands x (xs ++ ys))) (stands_append x xs ys), once_append xs ys a.1 b (λ y k. h y (stands_later y x xs k)))
  where
    apart : (stands x (xs ++ ys) ≡ true) ⊎ (stands x (xs ++ ys) ≡ false) → (stands x (xs ++ ys) ≡ true → (stands x xs ≡ true) ⊎ (stands x ys ≡ true)) → stands x (xs ++ ys) ≡ false
    apart (inr k) f = k
    apart (inl k) f = elim (f k) [ inl m ↦ absurd (both (stands x xs) m a.0) | inr m ↦ absurd (both (stands x ys) m (h x (stands_first x xs))) ]

stands_map : (o : ℕ → ℕ) → ((a b : ℕ) → o a ≡ o b → a ≡ b) → (x : ℕ) (xs : List ℕ) → stands (o x) (map o xs) ≡ true → stands x xs ≡ true
stands_map o inj x [] h = absurd (cc)
stands_map o inj x (y ∷ ys) h = elim (stands_cases (o x) (o y) (map o ys) h) [
  | inl e ↦ subst (λ (z : ℕ). stands x (z ∷ ys) ≡ true) (inj x y e) (stands_first x ys)
  | inr k ↦ stands_later x y ys (stands_map o inj x ys k)
]

once_map : (o : ℕ → ℕ) → ((a b : ℕ) → o a ≡ o b → a ≡ b) → (xs : List ℕ) → IsOnce xs → IsOnce (map o xs)
once_map o inj [] h = tt
once_map o inj (x ∷ xs) h = (apart (bool_tells (stands (o x) (map o xs))), once_map o inj xs h.1)
  where
    apart : (stands (o x) (map o xs) ≡ true) ⊎ (stands (o x) (map o xs) ≡ false) → stands (o x) (map o xs) ≡ false
    apart (inr k) = k
    apart (inl k) = absurd (both (stands x xs) (stands_map o inj x xs k) h.0)

query_one_to_one : (n : ℕ) (k : Kind) (a b : ℕ) → query n k a ≡ query n k b → a ≡ b
unfolding query
query_one_to_one n k a b e = omega (arith, e)

-- ---- lists of what is new

after_apart : (seen xs : List ℕ) (x : ℕ) → stands x (once_after seen xs) ≡ true → stands x seen ≡ false
after_apart seen [] x h = absurd (cc)
after_apart seen (y ∷ ys) x h = go (bool_tells (stands y seen)) (after_apart seen ys x) (after_apart (y ∷ seen) ys x)
  where
    go : (stands y seen ≡ true) ⊎ (stands y seen ≡ false) → (stands x (once_after seen ys) ≡ true → stands x seen ≡ false) → (stands x (once_after (y ∷ seen) ys) ≡ true → stands x (y ∷ seen) ≡ false) → stands x seen ≡ false
    go (inl s) r t = r (grind arith)
    go (inr s) r t =
        let k : stands x (y ∷ once_after (y ∷ seen) ys) ≡ true = grind arith in
        elim (stands_cases x y (once_after (y ∷ seen) ys) k) [ inl e ↦ subst (λ (z : ℕ). stands z seen ≡ false) (sym e) s | inr m ↦ (let u = t m in grind (arith, nat_tests)) ]

pub after_once : (seen xs : List ℕ) → IsOnce (once_after seen xs)
after_once seen [] = tt
after_once seen (y ∷ ys) = go (stands y seen) (after_once seen ys) (after_once (y ∷ seen) ys)
  where
    go : (b : Bool) → IsOnce (once_after seen ys) → IsOnce (once_after (y ∷ seen) ys) → IsOnce (if b then once_after seen ys else y ∷ once_after (y ∷ seen) ys)
    go true r t = r
    go false r t = (not_in y (once_after (y ∷ seen) ys) (λ k. both (stands y (y ∷ seen)) (stands_first y seen) (after_apart (y ∷ seen) ys y k)), t)

module _ {B : Type 0} (P : Pipeline B) (is : IsSource P) where
  pub cands_once : (f : ℕ) → IsOnce (cands P (opt P) f)
  cands_once f =
      let first = callees_of P f in
      let second = brought_after P (opt P) f first first in
      let third = brought_after P (opt P) f (first ++ second) second in
      let late : IsOnce (second ++ third) = once_append second third (after_once first (brought P (opt P) f first)) (after_once (first ++ second) (brought P (opt P) f second))
      (λ x k. not_in x third (λ m. both (stands x (first ++ second)) (stands_right x first second k) (after_apart (first ++ second) (brought P (opt P) f second) x m))) in
      once_append first (second ++ third) (is_once (callees_of P f) (is.calls.once (prom P f))) late
      (λ x k. not_in x (second ++ third) (λ m. elim (stands_append x second third m) [
        | inl s ↦ both (stands x first) k (after_apart first (brought P (opt P) f first) x s)
        | inr t ↦ both (stands x (first ++ second)) (stands_left x first second k) (after_apart (first ++ second) (brought P (opt P) f second) x t)
      ]))

  abbrev IsAsked : Kind → Type 0
  IsAsked Reach = Unit {0}
  IsAsked Qualif = Unit {0}
  IsAsked Opt = Unit {0}
  IsAsked _ = ⊥

  -- what is asked of g is one of its queries of these kinds
  record OfOne (g x : ℕ) : Type 0 where
    pub kind : Kind
    pub number : x ≡ query P.functions kind g
    pub asks : IsAsked kind

  in_one : (g x : ℕ) (k : Kind) → IsAsked k → stands x (query P.functions k g ∷ []) ≡ true → OfOne g x
  in_one g x k a h = elim (stands_cases x (query P.functions k g) [] h) [ inl e ↦ record { kind = k; number = e; asks = a } | inr m ↦ absurd (cc) ]

  in_reach : (g x : ℕ) (b : Bool) → stands x (if b then [] else query P.functions Reach g ∷ []) ≡ true → OfOne g x
  in_reach g x true h = absurd (cc)
  in_reach g x false h = in_one g x Reach tt h

  in_opt : (g x : ℕ) (b : Bool) → stands x (if b then query P.functions Qualif g ∷ query P.functions Opt g ∷ [] else []) ≡ true → OfOne g x
  in_opt g x false h = absurd (cc)
  in_opt g x true h = elim (stands_cases x (query P.functions Qualif g) (query P.functions Opt g ∷ []) h) [ inl e ↦ record { kind = Qualif; number = e; asks = tt } | inr m ↦ in_one g x Opt tt m ]

  in_asked : (f g x : ℕ) → stands x (asked P f g) ≡ true → OfOne g x
  in_asked f g x h = go (is_never (P.inlining g)) h
    where
      go : (b : Bool) → stands x (if b then [] else (if P.below f g then [] else query P.functions Reach g ∷ []) ++ (if asks (graph P) f g then query P.functions Qualif g ∷ query P.functions Opt g ∷ [] else [])) ≡ true → OfOne g x
      go true k = absurd (cc)
      go false k = elim (stands_append x (if P.below f g then [] else query P.functions Reach g ∷ []) (if asks (graph P) f g then query P.functions Qualif g ∷ query P.functions Opt g ∷ [] else []) k) [
        | inl m ↦ in_reach g x (P.below f g) m
        | inr m ↦ in_opt g x (asks (graph P) f g) m
      ]

  in_all : (f : ℕ) (gs : List ℕ) (x : ℕ) → stands x (asked_of P f gs) ≡ true → (g : ℕ) × (stands g gs ≡ true) × OfOne g x
  in_all f [] x h = absurd (cc)
  in_all f (g ∷ gs) x h = elim (stands_append x (asked P f g) (asked_of P f gs) h) [
    | inl k ↦ (g, stands_first g gs, in_asked f g x k)
    | inr k ↦ (let r = in_all f gs x k in (r.0, stands_later r.0 g gs r.1, r.2))
  ]

  apart : (k l : Kind) (f g : ℕ) → f < P.functions → g < P.functions → k ≢ l → stands (query P.functions k f) (query P.functions l g ∷ []) ≡ false
  apart k l f g a b ne = not_in (query P.functions k f) (query P.functions l g ∷ []) (λ h. elim (stands_cases (query P.functions k f) (query P.functions l g) [] h) [ inl e ↦ ne (same_query P.functions k l f g a b e).0 | inr m ↦ (cc) ])

  once_reach : (g : ℕ) (b : Bool) → IsOnce (if b then [] else query P.functions Reach g ∷ [])
  once_reach g true = tt
  once_reach g false = (refl, tt)

  once_opt : (g : ℕ) (b : Bool) → g < P.functions → IsOnce (if b then query P.functions Qualif g ∷ query P.functions Opt g ∷ [] else [])
  once_opt g false lt = tt
  once_opt g true lt = (apart Qualif Opt g g lt lt (λ e. absurd (cc)), (refl, tt))

  asked_once : (f g : ℕ) → g < P.functions → IsOnce (asked P f g)
  asked_once f g lt = go (is_never (P.inlining g))
    where
      other : (x : ℕ) (a b : Bool) → stands x (if a then [] else query P.functions Reach g ∷ []) ≡ true → stands x (if b then query P.functions Qualif g ∷ query P.functions Opt g ∷ [] else []) ≡ true → ⊥
      other x true b h k = absurd (cc)
      other x false false h k = absurd (cc)
      other x false true h k =
          let e : x ≡ query P.functions Reach g = elim (stands_cases x (query P.functions Reach g) [] h) [ inl e ↦ e | inr m ↦ absurd (cc) ] in
          elim (stands_cases x (query P.functions Qualif g) (query P.functions Opt g ∷ []) k) [
            | inl q ↦ (let c = (same_query P.functions Reach Qualif g g lt lt (sym e ∙ q)).0 in absurd (cc))
            | inr m ↦ elim (stands_cases x (query P.functions Opt g) [] m) [ inl q ↦ (let c = (same_query P.functions Reach Opt g g lt lt (sym e ∙ q)).0 in absurd (cc)) | inr w ↦ absurd (cc) ]
          ]

      go : (b : Bool) → IsOnce (if b then [] else (if P.below f g then [] else query P.functions Reach g ∷ []) ++ (if asks (graph P) f g then query P.functions Qualif g ∷ query P.functions Opt g ∷ [] else []))
      go true = tt
      go false = once_append (if P.below f g then [] else query P.functions Reach g ∷ []) (if asks (graph P) f g then query P.functions Qualif g ∷ query P.functions Opt g ∷ [] else []) (once_reach g (P.below f g)) (once_opt g (asks (graph P) f g) lt)
          (λ x h. not_in x (if asks (graph P) f g then query P.functions Qualif g ∷ query P.functions Opt g ∷ [] else []) (other x (P.below f g) (asks (graph P) f g) h))

  all_once : (f : ℕ) (gs : List ℕ) → IsOnce gs → ((g : ℕ) → stands g gs ≡ true → g < P.functions) → IsOnce (asked_of P f gs)
  all_once f [] o b = tt
  all_once f (g ∷ gs) o b = once_append (asked P f g) (asked_of P f gs) (asked_once f g (b g (stands_first g gs))) (all_once f gs o.1 (λ x k. b x (stands_later x g gs k)))
      (λ x h. not_in x (asked_of P f gs) (λ k.
      let here = in_asked f g x h in
      let there = in_all f gs x k in
      let same = (same_query P.functions here.kind there.2.kind g there.0 (b g (stands_first g gs)) (b there.0 (stands_later there.0 g gs there.1)) (sym here.number ∙ there.2.number)).1 in
      both (stands g gs) (subst (λ (y : ℕ). stands y gs ≡ true) (sym same) there.1) o.0))

  not_asked : (f : ℕ) (k : Kind) → f < P.functions → (IsAsked k → ⊥) → stands (query P.functions k f) (asked_of P f (cands P (opt P) f)) ≡ false
  not_asked f k lt never = not_in (query P.functions k f) (asked_of P f (cands P (opt P) f)) (λ h.
      let r = in_all f (cands P (opt P) f) (query P.functions k f) h in
      let low = cands_below P is f r.0 r.1 in
      never (subst IsAsked (sym (same_query P.functions k r.2.kind f r.0 lt low r.2.number).0) r.2.asks))

  not_two : (f : ℕ) → f < P.functions → (k l m : Kind) → k ≢ l → k ≢ m → stands (query P.functions k f) (query P.functions l f ∷ query P.functions m f ∷ []) ≡ false
  not_two f lt k l m a b = not_in (query P.functions k f) (query P.functions l f ∷ query P.functions m f ∷ []) (λ h. elim (stands_cases (query P.functions k f) (query P.functions l f) (query P.functions m f ∷ []) h) [
    | inl e ↦ a (same_query P.functions k l f f lt lt e).0
    | inr w ↦ both (stands (query P.functions k f) (query P.functions m f ∷ [])) w (apart k m f f lt lt b)
  ])

  pub needs_once : (k : Kind) (f : ℕ) → f < P.functions → IsOnce (needs_of P k f)
  needs_once Built f lt = tt
  needs_once Qualif f lt = (refl, tt)
  needs_once Prom f lt = (apart Qualif Built f f lt lt (λ e. absurd (cc)), (refl, tt))
  needs_once Callees f lt = (refl, tt)
  needs_once Cost f lt = (refl, tt)
  needs_once Reach f lt = once_map (query P.functions Callees) (query_one_to_one P.functions Callees) (reach (graph P) f) (reach_grows (graph P) is.graph f lt).once
  needs_once Elab f lt = (not_two f lt Callees Cost Prom (λ e. absurd (cc)) (λ e. absurd (cc)), (apart Cost Prom f f lt lt (λ e. absurd (cc)), (refl, tt)))
  needs_once Opt f lt =
      let gs = asked_of P f (cands P (opt P) f) in
      let end = query P.functions Elab f ∷ [] in
      let rest : IsOnce (gs ++ end) = once_append gs end (all_once f (cands P (opt P) f) (cands_once f) (cands_below P is f)) (refl, tt)
      (λ x h. not_in x end (λ k. elim (stands_cases x (query P.functions Elab f) [] k) [ inl e ↦ both (stands (query P.functions Elab f) gs) (subst (λ (y : ℕ). stands y gs ≡ true) e h) (not_asked f Elab lt (λ a. a)) | inr m ↦ (cc) ])) in
      let cost : stands (query P.functions Cost f) (gs ++ end) ≡ false = not_in (query P.functions Cost f) (gs ++ end) (λ h. elim (stands_append (query P.functions Cost f) gs end h) [
        | inl m ↦ both (stands (query P.functions Cost f) gs) m (not_asked f Cost lt (λ a. a))
        | inr m ↦ both (stands (query P.functions Cost f) end) m (apart Cost Elab f f lt lt (λ e. absurd (cc)))
      ]) in
      let list : stands (query P.functions Callees f) (query P.functions Cost f ∷ (gs ++ end)) ≡ false = not_in (query P.functions Callees f) (query P.functions Cost f ∷ (gs ++ end)) (λ h. elim (stands_cases (query P.functions Callees f) (query P.functions Cost f) (gs ++ end) h) [
        | inl e ↦ (let c = (same_query P.functions Callees Cost f f lt lt e).0 in absurd (cc))
        | inr w ↦ elim (stands_append (query P.functions Callees f) gs end w) [
          | inl m ↦ both (stands (query P.functions Callees f) gs) m (not_asked f Callees lt (λ a. a))
          | inr m ↦ both (stands (query P.functions Callees f) end) m (apart Callees Elab f f lt lt (λ e. absurd (cc)))
        ]
      ]) in
      (list, (cost, rest))
