-- What the starts have and each join along an edge keeps, the least solution has.
use Rattle.std.proofs.Common.{◌≡◌, ◌⊎◌, inl, inr, refl, sym, ap, ap₂, ◌∙◌, subst, ℕ, zero, suc, ◌+◌, ◌*◌, ◌<◌, ◌≤◌, List, [], ◌∷◌, length, get_or, set, Option, Some, None, slice_get, sum_by, arith}
use Rattle.std.proofs.lemmas.Bool.{cases_eq}
use Rattle.std.proofs.lemmas.Option.{slice_get_within, slice_get-get_or, get_or_from_slice_get}
use Rattle.std.proofs.lemmas.List.Sums.{sum_by-set, sum_by-cons}
use Rattle.mir_syntax.proofs.Lists.{set_there}
use Rattle.flow_engine.specs.declared.edges.Edge.{Edge}
use Rattle.flow_engine.specs.Flow.{Arrow, Flow, Solves, AllFacts, Least, Lawful, problem}
use Rattle.flow_engine.specs.Solving.{IsUnder}
use Rattle.flow_engine.proofs.Lists.{some_one, get_set_other, length-starts, start_at, arrow_is, arrow_to}
use Rattle.flow_engine.proofs.Laws.{Laws, laws_of}
use Rattle.flow_engine.proofs.Going.{joined_under, starts_under}

option_cases : {A : Type 0} (o : Option A) → (o ≡ None) ⊎ ((x : A) × (o ≡ Some x))
option_cases None = inl refl
option_cases (Some x) = inr (x, refl)

below_next : (i n : ℕ) → i < suc n → (i < n) ⊎ (i ≡ n)
below_next i n l = elim (cases_eq i n) [ inl e ↦ inr e | inr ne ↦ inl (omega arith) ]

module _ {A : Type 0} (Ok : A → Type 0) (Below : A → A → Type 0) (rank : A → ℕ) (h : ℕ) (p : Flow A) (laws : Laws Ok Below rank h p) where
  -- an edge that adds something
  record Rising (xs : List A) : Type 0 where
    i : ℕ
    e : Arrow A
    x : A
    y : A
    is : slice_get p.arrows i ≡ Some e
    at_from : slice_get xs e.from ≡ Some x
    at_to : slice_get xs e.to ≡ Some y
    climbs : rank y + 1 ≤ rank (p.join y (e.flow x))

  abbrev Quiet : List A → ℕ → Type 0
  Quiet xs i = (e : Arrow A) (x y : A) → slice_get p.arrows i ≡ Some e → slice_get xs e.from ≡ Some x → slice_get xs e.to ≡ Some y → Below (e.flow x) y

  facts_low : (xs : List A) → AllFacts Ok xs → sum_by rank xs ≤ length xs * h
  facts_low [] k = omega arith
  facts_low (x ∷ xs) k =
      let a = laws.height x (k 0 x refl) in
      let b = facts_low xs (λ b y e. k (suc b) y e) in
      let c : suc (length xs) * h ≡ h + length xs * h = grind arith in
      subst (λ s. s ≤ suc (length xs) * h) (sym (sum_by-cons rank x xs)) (subst (λ n. rank x + sum_by rank xs ≤ n) (sym c) (omega arith))

  module _ (xs : List A) (u : IsUnder Ok Below p xs) where
    here : (i : ℕ) (e : Arrow A) (x y : A) → slice_get p.arrows i ≡ Some e → slice_get xs e.from ≡ Some x → slice_get xs e.to ≡ Some y → Below (e.flow x) y ⊎ Rising xs
    here i e x y is gx gy =
        let ox = u.facts e.from x gx in
        let oy = u.facts e.to y gy in
        let of = laws.flow_ok i e x is ox in
        let up = laws.left y (e.flow x) oy of in
        let le = laws.rank_below y (p.join y (e.flow x)) up in
        elim (cases_eq (rank y) (rank (p.join y (e.flow x)))) [
          | inl same ↦ inl (subst (Below (e.flow x)) (sym (laws.rank_same y (p.join y (e.flow x)) up same)) (laws.right y (e.flow x) oy of))
          | inr ne ↦ inr (record { i = i; e = e; x = x; y = y; is = is; at_from = gx; at_to = gy; climbs = omega arith })
        ]

    one : (i : ℕ) → Quiet xs i ⊎ Rising xs
    one i = elim (option_cases (slice_get p.arrows i)) [
      | inl none ↦ inl (λ e x y is gx gy. absurd (let z : ◌≡◌ {A = Option (Arrow A)} None (Some e) = sym none ∙ is in grind arith))
      | inr q ↦ at_arrow q.0 q.1
    ]
      where
        at_arrow : (e : Arrow A) → slice_get p.arrows i ≡ Some e → Quiet xs i ⊎ Rising xs
        at_arrow e is = elim (option_cases (slice_get xs e.from)) [
          | inl none ↦ inl (λ e2 x y is2 gx gy. absurd (let z : ◌≡◌ {A = Option A} None (Some x) = sym none ∙ ap (λ (a : Arrow A). slice_get xs a.from) (some_one (sym is ∙ is2)) ∙ gx in grind arith))
          | inr qx ↦ elim (option_cases (slice_get xs e.to)) [
            | inl none ↦ inl (λ e2 x y is2 gx gy. absurd (let z : ◌≡◌ {A = Option A} None (Some y) = sym none ∙ ap (λ (a : Arrow A). slice_get xs a.to) (some_one (sym is ∙ is2)) ∙ gy in grind arith))
            | inr qy ↦ elim (here i e qx.0 qy.0 is qx.1 qy.1) [
              | inr r ↦ inr r
              | inl low ↦ inl (λ e2 x y is2 gx gy.
                  let same : e ≡ e2 = some_one (sym is ∙ is2) in
                  let sx : qx.0 ≡ x = some_one (sym qx.1 ∙ ap (λ (a : Arrow A). slice_get xs a.from) same ∙ gx) in
                  let sy : qy.0 ≡ y = some_one (sym qy.1 ∙ ap (λ (a : Arrow A). slice_get xs a.to) same ∙ gy) in
                  subst (λ z. Below z y) (ap₂ (λ (a : Arrow A) v. a.flow v) same sx) (subst (Below (e.flow qx.0)) sy low))
            ]
          ]
        ]

    so_far : (n : ℕ) → ((i : ℕ) → i < n → Quiet xs i) ⊎ Rising xs
    so_far zero = inl (λ i l. absurd (omega arith))
    so_far (suc n) = elim (so_far n) [
      | inr r ↦ inr r
      | inl all ↦ elim (one n) [
        | inr r ↦ inr r
        | inl last ↦ inl (λ i l. elim (below_next i n l) [ inl m ↦ all i m | inr e ↦ subst (Quiet xs) (sym e) last ])
      ]
    ]

  module _ (R : ℕ → A → Type 0) (first : (b : ℕ) (s : A) → slice_get p.starts b ≡ Some s → R b s) (joins : (i : ℕ) (e : Arrow A) (x y : A) → slice_get p.arrows i ≡ Some e → Ok x → Ok y → R e.from x → R e.to y → R e.to (p.join y (e.flow x))) where
    abbrev Each : List A → Type 0
    Each xs = (b : ℕ) (x : A) → slice_get xs b ≡ Some x → R b x

    record Found : Type 0 where
      zs : List A
      under : IsUnder Ok Below p zs
      each : Each zs
      quiet : (i : ℕ) → i < length p.arrows → Quiet zs i

    raised : (xs : List A) → IsUnder Ok Below p xs → Each xs → (r : Rising xs) → Each (set xs r.e.to (p.join r.y (r.e.flow r.x)))
    raised xs u each r b z g = elim (cases_eq b r.e.to) [
      | inl s ↦ subst (R b) (some_one (sym (set_there xs r.e.to (p.join r.y (r.e.flow r.x)) r.y r.at_to) ∙ ap (slice_get (set xs r.e.to (p.join r.y (r.e.flow r.x)))) (sym s) ∙ g))
          (subst (λ k. R k (p.join r.y (r.e.flow r.x))) (sym s) (joins r.i r.e r.x r.y r.is (u.facts r.e.from r.x r.at_from) (u.facts r.e.to r.y r.at_to) (each r.e.from r.x r.at_from) (each r.e.to r.y r.at_to)))
      | inr ne ↦ each b z (sym (get_set_other xs r.e.to b (p.join r.y (r.e.flow r.x)) ne) ∙ g)
    ]

    total_next : (xs : List A) (r : Rising xs) → sum_by rank xs + 1 ≤ sum_by rank (set xs r.e.to (p.join r.y (r.e.flow r.x)))
    total_next xs r =
        let z = p.join r.y (r.e.flow r.x) in
        let s : sum_by rank (set xs r.e.to z) + rank r.y ≡ sum_by rank xs + rank z = subst (λ v. sum_by rank (set xs r.e.to z) + rank v ≡ sum_by rank xs + rank z) (get_or_from_slice_get xs r.e.to r.y r.y r.at_to) (sum_by-set rank xs r.e.to z r.y (slice_get_within xs r.e.to r.y r.at_to)) in
        let c = r.climbs in omega arith

    no_room : (xs : List A) → IsUnder Ok Below p xs → Rising xs → length p.starts * h ≤ sum_by rank xs → ⊥
    no_room xs u r room =
        let v = joined_under Ok Below rank h p laws xs u r.i r.e r.x r.y r.is r.at_from r.at_to in
        let next = set xs r.e.to (p.join r.y (r.e.flow r.x)) in
        let low : sum_by rank next ≤ length p.starts * h = subst (λ n. sum_by rank next ≤ n * h) v.long (facts_low next v.facts) in
        let t = total_next xs r in omega arith

    goes : (fuel : ℕ) (xs : List A) → IsUnder Ok Below p xs → Each xs → length p.starts * h ≤ sum_by rank xs + fuel → Found
    goes zero xs u each room = elim (so_far xs u (length p.arrows)) [
      | inl all ↦ record { zs = xs; under = u; each = each; quiet = all }
      | inr r ↦ absurd (no_room xs u r (omega arith))
    ]
    goes (suc fuel) xs u each room = elim (so_far xs u (length p.arrows)) [
      | inl all ↦ record { zs = xs; under = u; each = each; quiet = all }
      | inr r ↦ goes fuel (set xs r.e.to (p.join r.y (r.e.flow r.x))) (joined_under Ok Below rank h p laws xs u r.i r.e r.x r.y r.is r.at_from r.at_to) (raised xs u each r) (let t = total_next xs r in omega arith)
    ]

    found : Found
    found = goes (length p.starts * h) p.starts (starts_under Ok Below rank h p laws) first (omega arith)

    pub least_has : (xs : List A) → Least Ok Below p xs → (b : ℕ) (x : A) → slice_get xs b ≡ Some x → R b x
    least_has xs l b x g =
        let f = found in
        let long : length f.zs ≡ length p.starts = f.under.long in
        let same_long : length xs ≡ length p.starts = l.solves.same_length in
        let z = get_or f.zs b x in
        let gz : slice_get f.zs b ≡ Some z = slice_get-get_or f.zs b x (omega (arith, slice_get_within xs b x g)) in
        let solves : Solves Below p f.zs = record {
          same_length = f.under.long;
          start = f.under.above;
          edge = λ i e x y is gx gy. f.quiet i (slice_get_within p.arrows i e is) e x y is gx gy;
        } in
        let up : Below x z = l.least f.zs f.under.facts solves b x z g gz in
        let down : Below z x = f.under.under xs l.facts l.solves b z x gz g in
        let same : z ≡ x = laws.rank_same z x down (let m = laws.rank_below x z up in let n = laws.rank_below z x down in omega arith) in
        subst (R b) same (f.each b z gz)

module _ {A : Type 0} (Ok : A → Type 0) (Below : A → A → Type 0) (rank : A → ℕ) (h : ℕ) (start : ℕ → A) (join : A → A → A) (flow : ℕ → A → A) (l : Lawful Ok Below rank h start join flow) (n : ℕ) (es : List Edge) (xs : List A) (least : Least Ok Below (problem join start flow n es) xs) where
  pub least_long : length xs ≡ n
  unfolding problem
  least_long = least.solves.same_length ∙ length-starts start 0 n

  pub least_start : (b : ℕ) (x : A) → slice_get xs b ≡ Some x → Below (start b) x
  unfolding problem
  least_start b x g =
      let in_starts : b < length (problem join start flow n es).starts = (let m = slice_get_within xs b x g in let k = least.solves.same_length in omega arith) in
      let s = get_or (problem join start flow n es).starts b x in
      let gs : slice_get (problem join start flow n es).starts b ≡ Some s = slice_get-get_or (problem join start flow n es).starts b x in_starts in
      let is : s ≡ start (0 + b) = start_at start 0 n b s gs in
      subst (λ s. Below s x) (is ∙ ap start (let z : 0 + b ≡ b = omega arith in z)) (least.solves.start b s x gs g)

  pub least_edge : (i : ℕ) (e : Edge) (x y : A) → slice_get es i ≡ Some e → slice_get xs e.from ≡ Some x → slice_get xs e.to ≡ Some y → Below (flow i x) y
  unfolding problem
  least_edge i e x y at gx gy =
      let r : Arrow A = record { from = e.from; to = e.to; flow = flow i } in
      let is : slice_get (problem join start flow n es).arrows i ≡ Some r = arrow_to flow 0 es i e at ∙ ap (λ k. Some (let r : Arrow A = record { from = e.from; to = e.to; flow = flow k } in r)) (let z : 0 + i ≡ i = omega arith in z) in
      least.solves.edge i r x y is gx gy

  -- induction over the least solution
  pub least_holds : (R : ℕ → A → Type 0) → ((b : ℕ) → R b (start b)) → ((i : ℕ) (e : Edge) (x y : A) → slice_get es i ≡ Some e → Ok x → Ok y → R e.from x → R e.to y → R e.to (join y (flow i x))) → (b : ℕ) (x : A) → slice_get xs b ≡ Some x → R b x
  unfolding problem
  least_holds R first joins = least_has Ok Below rank h (problem join start flow n es) (laws_of Ok Below rank h start join flow l n es) R
      (λ b s gs. subst (R b) (ap start (let z : b ≡ 0 + b = omega arith in z) ∙ sym (start_at start 0 n b s gs)) (first b))
      (λ i a x y is ox oy rx ry. (let k = arrow_is flow es i a is in
      subst (λ t. R t (join y (a.flow x))) (sym k.to) (subst (λ (f : A → A). R k.edge.to (join y (f x))) (sym k.flows) (joins i k.edge x y k.at ox oy (subst (λ t. R t x) k.from rx) (subst (λ t. R t y) k.to ry)))))
      xs least
