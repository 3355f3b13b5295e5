-- The plan of a crate's queries is one that a schedule can answer.
use Rattle.std.proofs.Common.{◌≡◌, ◌≢◌, refl, sym, ap, ap₂, ◌∙◌, subst, ℕ, ◌*◌, ◌/◌, ◌%◌, ◌<◌, ◌≤◌, true, false, List, [], ◌∷◌, ◌++◌, ◌⊎◌, inl, inr, arith}
use Rattle.std.specs.Prelude.{Some}
use Rattle.bit_rows.specs.Rows.{stands}
use Rattle.sched_core.specs.Plan.{IsLawful, has}
use Rattle.call_graph.proofs.Once.{stands_cases, stands_first, stands_later}
use Rattle.call_graph.proofs.Falls.{weight_falls}
use Rattle.query_plan.specs.declared.kind.Kind.{Kind}
use Rattle.query_plan.specs.declared.kind.Kind.TheVariants.{Built, Qualif, Prom, Callees, Cost, Reach, Elab, Opt}
use Rattle.query_plan.specs.Queries.{Pipeline, graph, cands, opt}
use Rattle.query_plan.specs.Needs.{kind_at, query, asked_of, needs_of, stolen_by, rank_of, plan}
use Rattle.query_plan.proofs.Members.{has_is_stands, not_in}
use Rattle.query_plan.proofs.Numbers.{kind_of_query, function_of_query, query_below, query_back, same_query}
use Rattle.query_plan.specs.Source.{IsSource}
use Rattle.query_plan.proofs.Needs.{Allowed, Need, needed, nothing, all_asked, cands_below}

module _ {B : Type 0} (P : Pipeline B) (is : IsSource P) where
  -- ---- of any number

  not_built : (q x : ℕ) → stands x (needs_of P (kind_at (q / P.functions)) (q % P.functions)) ≡ true → kind_at (q / P.functions) ≢ Built
  not_built q x h e = nothing P is x (subst (λ k. stands x (needs_of P k (q % P.functions)) ≡ true) e h)

  fn_below : (q x : ℕ) → stands x (needs_of P (kind_at (q / P.functions)) (q % P.functions)) ≡ true → q % P.functions < P.functions
  fn_below q x h = (query_back P.functions q (not_built q x h)).1

  need_at : (q x : ℕ) → stands x (needs_of P (kind_at (q / P.functions)) (q % P.functions)) ≡ true → Need P is (kind_at (q / P.functions)) (q % P.functions) x
  need_at q x h = needed P is (kind_at (q / P.functions)) (q % P.functions) x (fn_below q x h) h

  falls : (k : Kind) (f : ℕ) (l : Kind) (g : ℕ) → f < P.functions → Allowed P is k f l g → rank_of P l g < rank_of P k f
  falls Qualif f Built g lt a = omega arith
  falls Prom f Qualif g lt a = omega arith
  falls Prom f Built g lt a = omega arith
  falls Callees f Prom g lt a = omega arith
  falls Cost f Prom g lt a = omega arith
  falls Reach f Callees g lt a = omega arith
  falls Elab f Callees g lt a = omega arith
  falls Elab f Cost g lt a = omega arith
  falls Elab f Prom g lt a = omega arith
  falls Opt f Callees g lt a = omega arith
  falls Opt f Cost g lt a = omega arith
  falls Opt f Reach g lt a = omega arith
  falls Opt f Qualif g lt a = omega arith
  falls Opt f Opt g lt a = let w = weight_falls (graph P) is.graph f g lt a in omega (arith, w)
  falls Opt f Elab g lt a = omega arith
  falls _ f _ g lt a = absurd a

  rank_of_query : (k : Kind) (f : ℕ) → f < P.functions → rank_of P (kind_at (query P.functions k f / P.functions)) (query P.functions k f % P.functions) ≡ rank_of P k f
  rank_of_query k f lt = ap₂ (rank_of P) (kind_of_query P.functions k f lt) (function_of_query P.functions k f lt)

  no_cycle : (q x : ℕ) → stands x ((plan P).needs q) ≡ true → (plan P).rank x < (plan P).rank q
  no_cycle q x h =
      let d = need_at q x h in
      let r = falls (kind_at (q / P.functions)) (q % P.functions) d.kind d.of (fn_below q x h) d.allowed in
      let e = ap (λ (y : ℕ). rank_of P (kind_at (y / P.functions)) (y % P.functions)) d.number ∙ rank_of_query d.kind d.of d.below in
      omega (arith, r, e)

  needs_below : (q x : ℕ) → stands x ((plan P).needs q) ≡ true → x < 8 * P.functions
  needs_below q x h = let d = need_at q x h in let b = query_below P.functions d.kind d.of d.below in let e = d.number in omega (arith, b, e)

  -- ---- what is stolen

  -- the three kinds that steal, and what each steals
  abbrev Steals : Kind → Kind → Type 0
  Steals Prom Built = Unit {0}
  Steals Elab Prom = Unit {0}
  Steals Opt Elab = Unit {0}
  Steals _ _ = ⊥

  record Theft (k : Kind) (f s : ℕ) : Type 0 where
    pub kind : Kind
    pub number : s ≡ query P.functions kind f
    pub steals : Steals k kind

  some_is : {A : Type 0} (x y : A) → Some x ≡ Some y → x ≡ y
  some_is x y e = (cc)

  theft : (k : Kind) (f s : ℕ) → stolen_by P k f ≡ Some s → Theft k f s
  theft Built f s h = absurd (cc)
  theft Qualif f s h = absurd (cc)
  theft Callees f s h = absurd (cc)
  theft Cost f s h = absurd (cc)
  theft Reach f s h = absurd (cc)
  theft Prom f s h = record { kind = Built; number = sym (some_is (query P.functions Built f) s h); steals = tt }
  theft Elab f s h = record { kind = Prom; number = sym (some_is (query P.functions Prom f) s h); steals = tt }
  theft Opt f s h = record { kind = Elab; number = sym (some_is (query P.functions Elab f) s h); steals = tt }

  thief_not_built : (k l : Kind) → Steals k l → k ≢ Built
  thief_not_built Built l t e = absurd t
  thief_not_built Qualif l t e = absurd t
  thief_not_built Prom l t e = absurd (cc)
  thief_not_built Callees l t e = absurd t
  thief_not_built Cost l t e = absurd t
  thief_not_built Reach l t e = absurd t
  thief_not_built Elab l t e = absurd (cc)
  thief_not_built Opt l t e = absurd (cc)

  one_thief_kind : (k j l : Kind) → Steals k l → Steals j l → k ≡ j
  one_thief_kind Prom Prom Built a b = refl
  one_thief_kind Elab Elab Prom a b = refl
  one_thief_kind Opt Opt Elab a b = refl
  one_thief_kind Prom _ Built a b = absurd b
  one_thief_kind Elab _ Prom a b = absurd b
  one_thief_kind Opt _ Elab a b = absurd b
  one_thief_kind _ _ _ a b = absurd a

  module _ (q s : ℕ) (h : (plan P).steals q ≡ Some s) where
    theft_at : Theft (kind_at (q / P.functions)) (q % P.functions) s
    theft_at = theft (kind_at (q / P.functions)) (q % P.functions) s h

    thief_is : (q ≡ query P.functions (kind_at (q / P.functions)) (q % P.functions)) × (q % P.functions < P.functions)
    thief_is = query_back P.functions q (thief_not_built (kind_at (q / P.functions)) theft_at.kind theft_at.steals)

  one_thief : (s q r : ℕ) → (plan P).steals q ≡ Some s → (plan P).steals r ≡ Some s → q ≡ r
  one_thief s q r h k =
      let t = theft_at q s h in
      let u = theft_at r s k in
      let (is_q, lt_q) = thief_is q s h in
      let (is_r, lt_r) = thief_is r s k in
      let (kinds, fns) = same_query P.functions t.kind u.kind (q % P.functions) (r % P.functions) lt_q lt_r (sym t.number ∙ u.number) in
      let same = one_thief_kind (kind_at (q / P.functions)) (kind_at (r / P.functions)) u.kind (subst (Steals (kind_at (q / P.functions))) kinds t.steals) u.steals in
      is_q ∙ ap₂ (query P.functions) same fns ∙ sym is_r

  stolen_low : (k l : Kind) (f : ℕ) → f < P.functions → Steals k l → query P.functions l f < 7 * P.functions
  unfolding query
  stolen_low Prom Built f lt t = omega (arith, lt)
  stolen_low Elab Prom f lt t = omega (arith, lt)
  stolen_low Opt Elab f lt t = omega (arith, lt)
  stolen_low _ _ f lt t = absurd t

  root_high : (i : ℕ) → 7 * P.functions ≤ query P.functions Opt i
  unfolding query
  root_high i = omega arith

  roots_stay : (i q : ℕ) → (plan P).steals q ≢ Some (query P.functions Opt i)
  roots_stay i q h =
      let t = theft_at q (query P.functions Opt i) h in
      let (is_q, lt) = thief_is q (query P.functions Opt i) h in
      let low = stolen_low (kind_at (q / P.functions)) t.kind (q % P.functions) lt t.steals in
      let high = root_high i in
      let e = t.number in
      absurd (omega (arith, low, high, e))

  abbrev IsRobbed : Kind → Type 0
  IsRobbed Built = Unit {0}
  IsRobbed Prom = Unit {0}
  IsRobbed Elab = Unit {0}
  IsRobbed _ = ⊥

  robbed : (j l : Kind) → Steals j l → IsRobbed l
  robbed Prom Built t = tt
  robbed Elab Prom t = tt
  robbed Opt Elab t = tt
  robbed _ _ t = absurd t

  -- who may need a slot steals it or is needed by the thief
  readers : (k : Kind) (f : ℕ) (l : Kind) (g : ℕ) (j : Kind) → Allowed P is k f l g → Steals j l → (stolen_by P k f ≡ Some (query P.functions l g)) ⊎ (stands (query P.functions k f) (needs_of P j g) ≡ true)
  readers Qualif f Built g Prom a t = inr (subst (λ (x : ℕ). stands (query P.functions Qualif x) (needs_of P Prom g) ≡ true) a (stands_first (query P.functions Qualif g) (query P.functions Built g ∷ [])))
  readers Prom f Built g Prom a t = inl (ap (λ (x : ℕ). Some (query P.functions Built x)) (sym a))
  readers Callees f Prom g Elab a t = inr (subst (λ (x : ℕ). stands (query P.functions Callees x) (needs_of P Elab g) ≡ true) a (stands_first (query P.functions Callees g) (query P.functions Cost g ∷ query P.functions Prom g ∷ [])))
  readers Cost f Prom g Elab a t = inr (subst (λ (x : ℕ). stands (query P.functions Cost x) (needs_of P Elab g) ≡ true) a (stands_later (query P.functions Cost g) (query P.functions Callees g) (query P.functions Cost g ∷ query P.functions Prom g ∷ []) (stands_first (query P.functions Cost g) (query P.functions Prom g ∷ []))))
  readers Elab f Prom g Elab a t = inl (ap (λ (x : ℕ). Some (query P.functions Prom x)) (sym a))
  readers Opt f Elab g Opt a t = inl (ap (λ (x : ℕ). Some (query P.functions Elab x)) (sym a))
  readers Qualif f Built g _ a t = absurd t
  readers Prom f Built g _ a t = absurd t
  readers _ f Built g _ a t = absurd a
  readers Callees f Prom g _ a t = absurd t
  readers Cost f Prom g _ a t = absurd t
  readers Elab f Prom g _ a t = absurd t
  readers _ f Prom g _ a t = absurd a
  readers Opt f Elab g _ a t = absurd t
  readers _ f Elab g _ a t = absurd a
  readers _ f l g j a t = absurd (robbed j l t)

  waits : (s q r : ℕ) → (plan P).steals q ≡ Some s → stands s ((plan P).needs r) ≡ true → (plan P).steals r ≢ Some s → stands r ((plan P).needs q) ≡ true
  waits s q r h k unstolen =
      let t = theft_at q s h in
      let (is_q, lt_q) = thief_is q s h in
      let d = need_at r s k in
      let lt_r = fn_below r s k in
      let is_r = (query_back P.functions r (not_built r s k)).0 in
      let (kinds, fns) = same_query P.functions d.kind t.kind d.of (q % P.functions) d.below lt_q (sym d.number ∙ t.number) in
      let a1 = subst (λ l. Allowed P is (kind_at (r / P.functions)) (r % P.functions) l d.of) kinds d.allowed in
      let a2 = subst (Allowed P is (kind_at (r / P.functions)) (r % P.functions) t.kind) fns a1 in
      elim (readers (kind_at (r / P.functions)) (r % P.functions) t.kind (q % P.functions) (kind_at (q / P.functions)) a2 t.steals) [
        | inl e ↦ absurd (unstolen (e ∙ ap Some (sym t.number)))
        | inr e ↦ subst (λ (x : ℕ). stands x (needs_of P (kind_at (q / P.functions)) (q % P.functions)) ≡ true) (sym is_r) e
      ]

  other_query : (k l : Kind) (f g : ℕ) → f < P.functions → g < P.functions → k ≢ l → query P.functions k f ≡ query P.functions l g → ⊥
  other_query k l f g a b ne e = ne (same_query P.functions k l f g a b e).0

  last_of : (k : Kind) (f : ℕ) (s : ℕ) → f < P.functions → stolen_by P k f ≡ Some s → (before : List ℕ) × (needs_of P k f ≡ before ++ s ∷ []) × (stands s before ≡ false)
  last_of Built f s lt h = absurd (cc)
  last_of Qualif f s lt h = absurd (cc)
  last_of Callees f s lt h = absurd (cc)
  last_of Cost f s lt h = absurd (cc)
  last_of Reach f s lt h = absurd (cc)
  last_of Prom f s lt h =
      let e = some_is (query P.functions Built f) s h in
      (query P.functions Qualif f ∷ [], ap (λ (x : ℕ). query P.functions Qualif f ∷ (x ∷ [])) e, not_in s (query P.functions Qualif f ∷ []) (λ k. elim (stands_cases s (query P.functions Qualif f) [] k) [ inl m ↦ other_query Built Qualif f f lt lt (λ x. absurd (cc)) (e ∙ m) | inr m ↦ nothing P is s m ]))
  last_of Elab f s lt h =
      let e = some_is (query P.functions Prom f) s h in (
        query P.functions Callees f ∷ query P.functions Cost f ∷ [],
        ap (λ (x : ℕ). query P.functions Callees f ∷ query P.functions Cost f ∷ (x ∷ [])) e,
        not_in s (query P.functions Callees f ∷ query P.functions Cost f ∷ []) (λ k. elim (stands_cases s (query P.functions Callees f) (query P.functions Cost f ∷ []) k) [
          | inl m ↦ other_query Prom Callees f f lt lt (λ x. absurd (cc)) (e ∙ m)
          | inr m ↦ elim (stands_cases s (query P.functions Cost f) [] m) [ inl o ↦ other_query Prom Cost f f lt lt (λ x. absurd (cc)) (e ∙ o) | inr o ↦ nothing P is s o ]
        ]),
      )
  last_of Opt f s lt h =
      let e = some_is (query P.functions Elab f) s h in
      let others = asked_of P f (cands P (opt P) f) in (
        query P.functions Callees f ∷ query P.functions Cost f ∷ others,
        ap (λ (x : ℕ). query P.functions Callees f ∷ query P.functions Cost f ∷ (others ++ x ∷ [])) e,
        not_in s (query P.functions Callees f ∷ query P.functions Cost f ∷ others) (λ k. elim (stands_cases s (query P.functions Callees f) (query P.functions Cost f ∷ others) k) [
          | inl m ↦ other_query Elab Callees f f lt lt (λ x. absurd (cc)) (e ∙ m)
          | inr m ↦ elim (stands_cases s (query P.functions Cost f) others m) [
            | inl o ↦ other_query Elab Cost f f lt lt (λ x. absurd (cc)) (e ∙ o)
            | inr o ↦ (let a = all_asked P is f (cands P (opt P) f) s (cands_below P is f) o in a.other (sym (same_query P.functions Elab a.need.kind f a.need.of lt a.need.below (e ∙ a.need.number)).0))
          ]
        ]),
      )

  -- members of a list of needs, as the schedule tells them
  stands_of : (x q : ℕ) → has x ((plan P).needs q) ≡ true → stands x ((plan P).needs q) ≡ true
  stands_of x q h = sym (has_is_stands x ((plan P).needs q)) ∙ h

  stolen_last : (s q : ℕ) → (plan P).steals q ≡ Some s → (before : List ℕ) × ((plan P).needs q ≡ before ++ s ∷ []) × (has s before ≡ false)
  stolen_last s q h = let (before, is_last, apart) = last_of (kind_at (q / P.functions)) (q % P.functions) s (thief_is q s h).1 h in (before, is_last, has_is_stands s before ∙ apart)

  pub lawful : IsLawful (plan P)
  lawful = record {
    roots_below = λ i h. query_below P.functions Opt i h;
    needs_below = λ q n h k. needs_below q n (stands_of n q k);
    no_cycle = λ q n h. no_cycle q n (stands_of n q h);
    one_thief = one_thief;
    distinct_roots = λ i j h k e. (same_query P.functions Opt Opt i j h k e).1;
    roots_stay = roots_stay;
    thief_waits = λ s q r h k. has_is_stands r ((plan P).needs q) ∙ waits s q r h (stands_of s r k.0) k.1;
    stolen_last = stolen_last;
  }
