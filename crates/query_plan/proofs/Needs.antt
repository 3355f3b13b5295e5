-- Which queries a query may need.
use Rattle.std.proofs.Common.{◌≡◌, ◌≢◌, refl, sym, ℕ, ◌<◌, Bool, true, false, List, [], ◌∷◌, ◌++◌, ◌⊎◌, inl, inr}
use Rattle.std.specs.Prelude.{map, if◌then◌else◌}
use Rattle.bit_rows.specs.Rows.{stands}
use Rattle.call_graph.specs.Graph.{reach, asks}
use Rattle.call_graph.proofs.Once.{stands_cases, stands_first, stands_later, stands_append}
use Rattle.call_graph.proofs.Reached.{reach_grows}
use Rattle.query_plan.specs.declared.kind.Kind.{Kind}
use Rattle.query_plan.specs.declared.kind.Kind.TheVariants.{Built, Qualif, Prom, Callees, Cost, Reach, Elab, Opt}
use Rattle.query_plan.specs.Queries.{Pipeline, is_never, graph, cands, opt}
use Rattle.query_plan.specs.Needs.{query, asked, asked_of, needs_of}
use Rattle.query_plan.specs.Source.{IsSource}
use Rattle.query_plan.proofs.Calls.{reaches_below, cands_under}

module _ {B : Type 0} (P : Pipeline B) (is : IsSource P) where
  -- which query of g a query of f may need
  abbrev pub Allowed : Kind → ℕ → Kind → ℕ → Type 0
  Allowed Qualif f Built g = g ≡ f
  Allowed Prom f Qualif g = g ≡ f
  Allowed Prom f Built g = g ≡ f
  Allowed Callees f Prom g = g ≡ f
  Allowed Cost f Prom g = g ≡ f
  Allowed Reach f Callees g = Unit {0}
  Allowed Elab f Callees g = g ≡ f
  Allowed Elab f Cost g = g ≡ f
  Allowed Elab f Prom g = g ≡ f
  Allowed Opt f Callees g = g ≡ f
  Allowed Opt f Cost g = g ≡ f
  Allowed Opt f Reach g = Unit {0}
  Allowed Opt f Qualif g = Unit {0}
  Allowed Opt f Opt g = asks (graph P) f g ≡ true
  Allowed Opt f Elab g = g ≡ f
  Allowed _ f _ g = ⊥

  pub record Need (k : Kind) (f x : ℕ) : Type 0 where
    pub kind : Kind
    pub of : ℕ
    pub number : x ≡ query P.functions kind of
    pub below : of < P.functions
    pub allowed : Allowed k f kind of

  one_need : (k l : Kind) (f g x : ℕ) → g < P.functions → Allowed k f l g → x ≡ query P.functions l g → Need k f x
  one_need k l f g x lt a e = record { kind = l; of = g; number = e; below = lt; allowed = a }

  pub nothing : (x : ℕ) → stands x [] ≡ true → ⊥
  nothing x h = absurd (cc)

  list_of : (f : ℕ) (hs : List ℕ) (x : ℕ) → ((h : ℕ) → stands h hs ≡ true → h < P.functions) → stands x (map (query P.functions Callees) hs) ≡ true → Need Reach f x
  list_of f [] x b h = absurd (cc)
  list_of f (y ∷ ys) x b h = go (stands_cases x (query P.functions Callees y) (map (query P.functions Callees) ys) h) (list_of f ys x (λ z k. b z (stands_later z y ys k)))
    where
      go : (x ≡ query P.functions Callees y) ⊎ (stands x (map (query P.functions Callees) ys) ≡ true) → (stands x (map (query P.functions Callees) ys) ≡ true → Need Reach f x) → Need Reach f x
      go (inl e) r = one_need Reach Callees f y x (b y (stands_first y ys)) tt e
      go (inr k) r = r k

  -- what is asked of others isn't the own elaborated body
  pub record Asked (f x : ℕ) : Type 0 where
    pub need : Need Opt f x
    pub other : need.kind ≢ Elab

  one_asked : (l : Kind) (f g x : ℕ) → g < P.functions → Allowed Opt f l g → l ≢ Elab → x ≡ query P.functions l g → Asked f x
  unfolding one_need
  one_asked l f g x lt a o e = record { need = one_need Opt l f g x lt a e; other = o }

  reach_if : (f g x : ℕ) (b : Bool) → g < P.functions → stands x (if b then [] else query P.functions Reach g ∷ []) ≡ true → Asked f x
  reach_if f g x true lt h = absurd (nothing x h)
  reach_if f g x false lt h = elim (stands_cases x (query P.functions Reach g) [] h) [ inl e ↦ one_asked Reach f g x lt tt (λ k. absurd (cc)) e | inr k ↦ absurd (nothing x k) ]

  opt_if : (f g x : ℕ) (b : Bool) → b ≡ asks (graph P) f g → g < P.functions → stands x (if b then query P.functions Qualif g ∷ query P.functions Opt g ∷ [] else []) ≡ true → Asked f x
  opt_if f g x false s lt h = absurd (nothing x h)
  opt_if f g x true s lt h = elim (stands_cases x (query P.functions Qualif g) (query P.functions Opt g ∷ []) h) [
    | inl e ↦ one_asked Qualif f g x lt tt (λ k. absurd (cc)) e
    | inr k ↦ elim (stands_cases x (query P.functions Opt g) [] k) [ inl e ↦ one_asked Opt f g x lt (sym s) (λ k. absurd (cc)) e | inr m ↦ absurd (nothing x m) ]
  ]

  asked_need : (f g x : ℕ) → g < P.functions → stands x (asked P f g) ≡ true → Asked f x
  asked_need f g x lt h = go (is_never (P.inlining g)) h
    where
      go : (b : Bool) → stands x (if b then [] else (if P.below f g then [] else query P.functions Reach g ∷ []) ++ (if asks (graph P) f g then query P.functions Qualif g ∷ query P.functions Opt g ∷ [] else [])) ≡ true → Asked f x
      go true k = absurd (nothing x k)
      go false k = elim (stands_append x (if P.below f g then [] else query P.functions Reach g ∷ []) (if asks (graph P) f g then query P.functions Qualif g ∷ query P.functions Opt g ∷ [] else []) k) [
        | inl m ↦ reach_if f g x (P.below f g) lt m
        | inr m ↦ opt_if f g x (asks (graph P) f g) refl lt m
      ]

  pub all_asked : (f : ℕ) (gs : List ℕ) (x : ℕ) → ((g : ℕ) → stands g gs ≡ true → g < P.functions) → stands x (asked_of P f gs) ≡ true → Asked f x
  all_asked f [] x b h = absurd (cc)
  all_asked f (g ∷ gs) x b h = elim (stands_append x (asked P f g) (asked_of P f gs) h) [
    | inl k ↦ asked_need f g x (b g (stands_first g gs)) k
    | inr k ↦ all_asked f gs x (λ y m. b y (stands_later y g gs m)) k
  ]

  pub cands_below : (f g : ℕ) → stands g (cands P (opt P) f) ≡ true → g < P.functions
  cands_below f g h = let u = cands_under P is f g h in reaches_below P is u.0 g (is.graph.callees_below f u.0 u.1) u.2

  pub needed : (k : Kind) (f x : ℕ) → f < P.functions → stands x (needs_of P k f) ≡ true → Need k f x
  needed Built f x lt h = absurd (nothing x h)
  needed Qualif f x lt h = elim (stands_cases x (query P.functions Built f) [] h) [ inl e ↦ one_need Qualif Built f f x lt refl e | inr k ↦ absurd (nothing x k) ]
  needed Prom f x lt h = elim (stands_cases x (query P.functions Qualif f) (query P.functions Built f ∷ []) h) [
    | inl e ↦ one_need Prom Qualif f f x lt refl e
    | inr k ↦ elim (stands_cases x (query P.functions Built f) [] k) [ inl e ↦ one_need Prom Built f f x lt refl e | inr m ↦ absurd (nothing x m) ]
  ]
  needed Callees f x lt h = elim (stands_cases x (query P.functions Prom f) [] h) [ inl e ↦ one_need Callees Prom f f x lt refl e | inr k ↦ absurd (nothing x k) ]
  needed Cost f x lt h = elim (stands_cases x (query P.functions Prom f) [] h) [ inl e ↦ one_need Cost Prom f f x lt refl e | inr k ↦ absurd (nothing x k) ]
  needed Reach f x lt h = list_of f (reach (graph P) f) x (reach_grows (graph P) is.graph f lt).below h
  needed Elab f x lt h = elim (stands_cases x (query P.functions Callees f) (query P.functions Cost f ∷ query P.functions Prom f ∷ []) h) [
    | inl e ↦ one_need Elab Callees f f x lt refl e
    | inr k ↦ elim (stands_cases x (query P.functions Cost f) (query P.functions Prom f ∷ []) k) [
      | inl e ↦ one_need Elab Cost f f x lt refl e
      | inr m ↦ elim (stands_cases x (query P.functions Prom f) [] m) [ inl e ↦ one_need Elab Prom f f x lt refl e | inr o ↦ absurd (nothing x o) ]
    ]
  ]
  needed Opt f x lt h = elim (stands_cases x (query P.functions Callees f) (query P.functions Cost f ∷ (asked_of P f (cands P (opt P) f) ++ query P.functions Elab f ∷ [])) h) [
    | inl e ↦ one_need Opt Callees f f x lt refl e
    | inr k ↦ elim (stands_cases x (query P.functions Cost f) (asked_of P f (cands P (opt P) f) ++ query P.functions Elab f ∷ []) k) [
      | inl e ↦ one_need Opt Cost f f x lt refl e
      | inr m ↦ elim (stands_append x (asked_of P f (cands P (opt P) f)) (query P.functions Elab f ∷ []) m) [
        | inl o ↦ (all_asked f (cands P (opt P) f) x (cands_below f) o).need
        | inr o ↦ elim (stands_cases x (query P.functions Elab f) [] o) [ inl e ↦ one_need Opt Elab f f x lt refl e | inr w ↦ absurd (nothing x w) ]
      ]
    ]
  ]
