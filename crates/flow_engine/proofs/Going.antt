-- How the facts go on their way to the least solution.
use Rattle.std.proofs.Common.{◌≡◌, ◌≢◌, ◌⊎◌, inl, inr, refl, sym, ap, ap₂, ◌∙◌, subst, ℕ, suc, ◌+◌, ◌*◌, ◌<◌, ◌≤◌, Bool, true, false, List, [], ◌∷◌, ◌++◌, length, get_or, set, replicate, Some, slice_get, sum_by, IsTrue, ◌↔◌, if◌then◌else◌, arith}
use Rattle.std.specs.List.{All, Contains}
use Rattle.std.proofs.lemmas.Bool.{cases_eq, both_ways, false≢true}
use Rattle.std.proofs.lemmas.List.{length-set, length-replicate, get_or-set_same, get_or-set_other, get_or-replicate}
use Rattle.std.proofs.lemmas.List.Elements.{Contains-push_cases}
use Rattle.std.proofs.lemmas.Option.{slice_get_within, slice_get-get_or, get_or_from_slice_get}
use Rattle.std.proofs.lemmas.List.Sums.{sum_by-set, sum_by-cons}
use Rattle.mir_syntax.proofs.Lists.{set_there, set_same}
use Rattle.flow_engine.specs.declared.edges.Edge.{Edge}
use Rattle.flow_engine.specs.Flow.{Arrow, Flow, Solves, AllFacts, Least, Lawful, starts_to, problem}
use Rattle.flow_engine.specs.Solving.{SleepAll, waiting, IsUnder, IsSent, IsGoing, IsLeaving}
use Rattle.flow_engine.proofs.Lists.{some_one, get_set_other, none_in_empty, length-starts, arrow_is, arrow_to}
use Rattle.flow_engine.proofs.Waiting.{one_more}
use Rattle.flow_engine.proofs.Laws.{Laws, laws_of, absorbs, climbs}

module _ {A : Type 0} (Ok : A → Type 0) (Below : A → A → Type 0) (rank : A → ℕ) (h : ℕ) (p : Flow A) (laws : Laws Ok Below rank h p) where
  -- ---- a join along an edge
  module _ (xs : List A) (u : IsUnder Ok Below p xs) (i : ℕ) (e : Arrow A) (x y : A) (is : slice_get p.arrows i ≡ Some e) (at_from : slice_get xs e.from ≡ Some x) (at_to : slice_get xs e.to ≡ Some y) where
    abbrev joined : A
    joined = p.join y (e.flow x)

    abbrev next : List A
    next = set xs e.to joined

    ok_x : Ok x
    ok_x = u.facts e.from x at_from

    ok_y : Ok y
    ok_y = u.facts e.to y at_to

    ok_flow : Ok (e.flow x)
    ok_flow = laws.flow_ok i e x is ok_x

    ok_joined : Ok joined
    ok_joined = laws.join_ok y (e.flow x) ok_y ok_flow

    -- a fact of the next list is the new one, or the old one
    at_next : (b : ℕ) (z : A) → slice_get next b ≡ Some z → ((b ≡ e.to) × (z ≡ joined)) ⊎ ((b ≢ e.to) × (slice_get xs b ≡ Some z))
    at_next b z g = elim (cases_eq b e.to) [
      | inl s ↦ inl (s, some_one (sym g ∙ ap (slice_get next) s ∙ set_there xs e.to joined y at_to))
      | inr ne ↦ inr (ne, sym (get_set_other xs e.to b joined ne) ∙ g)
    ]

    pub joined_under : IsUnder Ok Below p next
    joined_under = record {
      long = length-set xs e.to joined ∙ u.long;
      facts = λ b z g. elim (at_next b z g) [ inl k ↦ subst Ok (sym k.1) ok_joined | inr k ↦ u.facts b z k.1 ];
      above = λ b s z gs g. elim (at_next b z g) [
        | inl k ↦ subst (Below s) (sym k.1) (laws.then_below s y joined (u.above b s y gs (ap (slice_get xs) k.0 ∙ at_to)) (laws.left y (e.flow x) ok_y ok_flow))
        | inr k ↦ u.above b s z gs k.1
      ];
      under = λ ys ok s b z w g gw. elim (at_next b z g) [
        | inl k ↦ subst (λ v. Below v w) (sym k.1) (below ys ok s w (ap (slice_get ys) (sym k.0) ∙ gw))
        | inr k ↦ u.under ys ok s b z w k.1 gw
      ];
    }
      where
        below : (ys : List A) → AllFacts Ok ys → Solves Below p ys → (w : A) → slice_get ys e.to ≡ Some w → Below joined w
        below ys ok s w gw =
            let long : length xs ≡ length ys = u.long ∙ sym s.same_length in
            let v = get_or ys e.from x in
            let gv : slice_get ys e.from ≡ Some v = slice_get-get_or ys e.from x (omega (arith, slice_get_within xs e.from x at_from)) in
            laws.least y (e.flow x) w ok_y ok_flow (u.under ys ok s e.to y w at_to gw)
            (laws.then_below (e.flow x) (e.flow v) w (laws.flow_below i e x v is ok_x (ok e.from v gv) (u.under ys ok s e.from x v at_from gv)) (s.edge i e v w is gv gw))

    -- an edge that adds nothing was sent
    pub sent_still : (marks : List Bool) (block : ℕ) (sent : List ℕ) → IsSent p xs marks block sent → joined ≡ y → IsSent p xs marks block (sent ++ i ∷ [])
    sent_still marks block sent all adds j d v w isd unmarked listed gv gw = elim (cases_eq j i) [
      | inl s ↦ (let same : d ≡ e = some_one (sym isd ∙ ap (slice_get p.arrows) s ∙ is) in
          let sv : v ≡ x = some_one (sym gv ∙ ap (λ (d : Arrow A). slice_get xs d.from) same ∙ at_from) in
          let sw : w ≡ y = some_one (sym gw ∙ ap (λ (d : Arrow A). slice_get xs d.to) same ∙ at_to) in
          ap₂ (λ w (k : A). p.join w k) sw (ap₂ (λ (d : Arrow A) v. d.flow v) same sv) ∙ adds ∙ sym sw)
      | inr ne ↦ all j d v w isd unmarked (λ f. elim (Contains-push_cases sent i j (listed f)) [ inl c ↦ c | inr c ↦ absurd (ne (sym c)) ]) gv gw
    ]

    -- where the fact at the edge's end changed, that block is marked
    pub sent_changed : (marks : List Bool) (block : ℕ) (sent : List ℕ) → length marks ≡ length p.starts → IsSent p xs marks block sent → IsSent p next (set marks e.to true) block (sent ++ i ∷ [])
    sent_changed marks block sent long all j d v w isd unmarked listed gv gw = elim (at_next d.to w gw) [
      | inl k ↦ rw k.1 (absorbs Ok Below rank h p laws joined (d.flow v) ok_joined (laws.flow_ok j d v isd (u.facts d.from v old_v)) (flow_below k.0))
      | inr k ↦ elim (cases_eq j i) [
        | inl s ↦ (let same : d ≡ e = some_one (sym isd ∙ ap (slice_get p.arrows) s ∙ is) in absurd (k.0 (ap (λ (d : Arrow A). d.to) same)))
        | inr ne ↦ all j d v w isd was (earlier ne) old_v k.1
      ]
    ]
      where
        in_marks : e.to < length marks
        in_marks = omega (arith, slice_get_within xs e.to y at_to, u.long, long)

        from_other : d.from ≢ e.to
        from_other s = both_ways (get_or (set marks e.to true) d.from false) unmarked (ap (λ n. get_or (set marks e.to true) n false) s ∙ get_or-set_same marks e.to true false in_marks)

        was : get_or marks d.from false ≡ false
        was = sym (get_or-set_other marks e.to d.from true false from_other) ∙ unmarked

        old_v : slice_get xs d.from ≡ Some v
        old_v = sym (get_set_other xs e.to d.from joined from_other) ∙ gv

        earlier : j ≢ i → d.from ≡ block → Contains sent j
        earlier ne f = elim (Contains-push_cases sent i j (listed f)) [ inl c ↦ c | inr c ↦ absurd (ne (sym c)) ]

        flow_below : d.to ≡ e.to → Below (d.flow v) joined
        flow_below s = elim (cases_eq j i) [
          | inl q ↦ (let same : d ≡ e = some_one (sym isd ∙ ap (slice_get p.arrows) q ∙ is) in
              let sv : v ≡ x = some_one (sym old_v ∙ ap (λ (d : Arrow A). slice_get xs d.from) same ∙ at_from) in
              subst (λ z. Below z joined) (sym (ap₂ (λ (d : Arrow A) v. d.flow v) same sv)) (laws.right y (e.flow x) ok_y ok_flow))
          | inr ne ↦ (let adds : p.join y (d.flow v) ≡ y = all j d v y isd was (earlier ne) old_v (ap (slice_get xs) s ∙ at_to) in
              let low : Below (d.flow v) y = subst (Below (d.flow v)) adds (laws.right y (d.flow v) ok_y (laws.flow_ok j d v isd (u.facts d.from v old_v))) in
              laws.then_below (d.flow v) y joined low (laws.left y (e.flow x) ok_y ok_flow))
        ]

    pub joined_climbs : joined ≢ y → rank y + 1 ≤ rank joined
    joined_climbs ne = climbs Ok Below rank h p laws y (e.flow x) ok_y ok_flow ne

  -- ---- the beginning and the end
  pub starts_under : IsUnder Ok Below p p.starts
  starts_under = record {
    long = refl;
    facts = laws.starts_ok;
    above = λ b s x gs g. subst (Below s) (some_one (sym gs ∙ g)) (laws.same s (laws.starts_ok b s gs));
    under = λ ys ok s b x y g gy. s.start b x y g gy;
  }

  pub ends_least : (xs : List A) (marks : List Bool) (block : ℕ) → SleepAll marks → IsGoing Ok Below p xs marks block [] → ((i : ℕ) (e : Arrow A) → slice_get p.arrows i ≡ Some e → e.from ≢ block) → Least Ok Below p xs
  ends_least xs marks block asleep g outside = record {
    solves = record {
      same_length = g.under.long;
      start = g.under.above;
      edge = λ i e x y is gx gy. subst (Below (e.flow x)) (g.sent_on i e x y is (asleep e.from) (λ f. absurd (outside i e is f)) gx gy) (laws.right y (e.flow x) (g.under.facts e.to y gy) (laws.flow_ok i e x is (g.under.facts e.from x gx)));
    };
    facts = g.under.facts;
    least = g.under.under;
  }

  -- ---- a block's turn
  pub turn_begins : (xs : List A) (marks : List Bool) (n block : ℕ) → ((i : ℕ) (e : Arrow A) → slice_get p.arrows i ≡ Some e → e.from ≢ n) → IsSent p xs marks n [] → IsSent p xs (set marks block false) block []
  turn_begins xs marks n block outside all j d v w isd unmarked listed gv gw = elim (cases_eq d.from block) [
    | inl s ↦ absurd (none_in_empty j (listed s))
    | inr ne ↦ all j d v w isd (sym (get_or-set_other marks block d.from false false ne) ∙ unmarked) (λ f. absurd (outside j d isd f)) gv gw
  ]

  pub turn_ends : (xs : List A) (marks : List Bool) (n block : ℕ) (sent : List ℕ) → ((i : ℕ) (e : Arrow A) → slice_get p.arrows i ≡ Some e → e.from ≡ block → Contains sent i) → IsSent p xs marks block sent → IsSent p xs marks n []
  turn_ends xs marks n block sent has all j d v w isd unmarked listed gv gw = all j d v w isd unmarked (λ f. has j d isd f) gv gw

-- ---- a step of the loop over the edges that leave a block
module _ {A : Type 0} (Ok : A → Type 0) (Below : A → A → Type 0) (rank : A → ℕ) (h : ℕ) (start : ℕ → A) (join : A → A → A) (flow : ℕ → A → A) (l : Lawful Ok Below rank h start join flow) (n : ℕ) (es : List Edge) where
  abbrev P : Flow A
  P = problem join start flow n es

  pub laws : Laws Ok Below rank h (problem join start flow n es)
  laws = laws_of Ok Below rank h start join flow l n es

  pub starts_count : length P.starts ≡ n
  unfolding problem
  starts_count = length-starts start 0 n

  pub starts_are : starts_to start 0 n ≡ P.starts
  unfolding problem
  starts_are = refl

  join_is : P.join ≡ join
  unfolding problem
  join_is = refl

  low_from : All (λ e. (e.from < n) × (e.to < n)) es → (i : ℕ) (a : Arrow A) → slice_get P.arrows i ≡ Some a → a.from < n
  unfolding problem
  low_from all i a is =
      let k = arrow_is flow es i a is in
      let p = all i k.edge (slice_get_within es i k.edge k.at) in
      let m : get_or es i k.edge ≡ k.edge = get_or_from_slice_get es i k.edge k.edge k.at in
      let low2 : k.edge.from < n = subst (λ (e : Edge). e.from < n) m p.0 in
      let q : a.from ≡ k.edge.from = k.from in omega arith

  pub from_inside : All (λ e. (e.from < n) × (e.to < n)) es → (i : ℕ) (a : Arrow A) → slice_get P.arrows i ≡ Some a → a.from ≢ n
  from_inside all i a is e = let l = low_from all i a is in omega arith

  pub has_all : (lists : List (List ℕ)) → IsLeaving es n lists → (block : ℕ) (list : List ℕ) → slice_get lists block ≡ Some list → (i : ℕ) (a : Arrow A) → slice_get P.arrows i ≡ Some a → a.from ≡ block → Contains list i
  unfolding problem
  has_all lists v block list at i a is e = let k = arrow_is flow es i a is in v.has i k.edge k.at list (ap (slice_get lists) (sym k.from ∙ e) ∙ at)

  arrow_at : (i : ℕ) (e : Edge) → slice_get es i ≡ Some e → (a : Arrow A) × (slice_get P.arrows i ≡ Some a) × (a.from ≡ e.from) × (a.to ≡ e.to) × (a.flow ≡ flow i)
  unfolding problem
  arrow_at i e at =
      let r : Arrow A = record { from = e.from; to = e.to; flow = flow i } in
      (r, arrow_to flow 0 es i e at ∙ ap (λ k. Some (let r : Arrow A = record { from = e.from; to = e.to; flow = flow k } in r)) (let z : 0 + i ≡ i = omega arith in z), refl, refl, refl)

  pub record Sent (xs xs2 : List A) (marks marks2 : List Bool) (block : ℕ) (sent : List ℕ) : Type 0 where
    pub going : IsGoing Ok Below P xs2 marks2 block sent
    pub climbs : waiting marks2 + 2 * sum_by rank xs ≤ waiting marks + 2 * sum_by rank xs2

  module _ (xs : List A) (marks : List Bool) (block : ℕ) (sent : List ℕ) (g : IsGoing Ok Below P xs marks block sent) (i : ℕ) (e : Edge) (at : slice_get es i ≡ Some e) (from_is : e.from ≡ block) (x y y2 : A) (at_from : slice_get xs block ≡ Some x) (at_to : slice_get xs e.to ≡ Some y) (is : y2 ≡ join y (flow i x)) where
    a : Arrow A
    a = (arrow_at i e at).0

    a_is : slice_get P.arrows i ≡ Some ((arrow_at i e at).0)
    a_is = (arrow_at i e at).1

    x_at : slice_get xs ((arrow_at i e at).0).from ≡ Some x
    x_at = ap (slice_get xs) ((arrow_at i e at).2 ∙ from_is) ∙ at_from

    y_at : slice_get xs ((arrow_at i e at).0).to ≡ Some y
    y_at = ap (slice_get xs) ((arrow_at i e at).3) ∙ at_to

    y2_is : P.join y (((arrow_at i e at).0).flow x) ≡ y2
    y2_is = ap₂ (λ (j : A → A → A) (f : A → A). j y (f x)) join_is ((arrow_at i e at).4) ∙ sym is

    next_is : set xs ((arrow_at i e at).0).to (P.join y (((arrow_at i e at).0).flow x)) ≡ set xs e.to y2
    next_is = ap₂ (λ t z. set xs t z) ((arrow_at i e at).3) y2_is

    pub sent_under : IsUnder Ok Below P (set xs e.to y2)
    sent_under = subst (IsUnder Ok Below P) next_is (joined_under Ok Below rank h P laws xs g.under i ((arrow_at i e at).0) x y a_is x_at y_at)

    sum_next : sum_by rank (set xs e.to y2) + rank y ≡ sum_by rank xs + rank y2
    sum_next = subst (λ v. sum_by rank (set xs e.to y2) + rank v ≡ sum_by rank xs + rank y2) (get_or_from_slice_get xs e.to y y at_to) (sum_by-set rank xs e.to y2 y (slice_get_within xs e.to y at_to))

    pub sent_kept : y2 ≡ y → Sent xs (set xs e.to y2) marks marks block (sent ++ i ∷ [])
    sent_kept same = record {
      going = record {
        under = sent_under;
        marked = g.marked;
        sent_on = subst (λ zs. IsSent P zs marks block (sent ++ i ∷ [])) (sym (ap (set xs e.to) same ∙ set_same xs e.to y at_to)) (sent_still Ok Below rank h P laws xs g.under i ((arrow_at i e at).0) x y a_is x_at y_at marks block sent g.sent_on (y2_is ∙ same));
      };
      climbs = (let s = sum_next in let r : rank y2 ≡ rank y = ap rank same in omega arith);
    }

    pub sent_new : y2 ≢ y → Sent xs (set xs e.to y2) marks (set marks e.to true) block (sent ++ i ∷ [])
    sent_new ne = record {
      going = record {
        under = sent_under;
        marked = length-set marks e.to true ∙ g.marked;
        sent_on = subst (λ t. IsSent P (set xs e.to y2) (set marks t true) block (sent ++ i ∷ [])) ((arrow_at i e at).3) (subst (λ zs. IsSent P zs (set marks ((arrow_at i e at).0).to true) block (sent ++ i ∷ [])) next_is (sent_changed Ok Below rank h P laws xs g.under i ((arrow_at i e at).0) x y a_is x_at y_at marks block sent g.marked g.sent_on));
      };
      climbs = (let s = sum_next in
          let w = one_more marks e.to in
          let r : rank y + 1 ≤ rank y2 = subst (λ z. rank y + 1 ≤ rank z) y2_is (joined_climbs Ok Below rank h P laws xs g.under i ((arrow_at i e at).0) x y a_is x_at y_at (λ s. ne (sym y2_is ∙ s))) in omega arith);
    }

    pub sent_if : (changed : Bool) → (IsTrue changed ↔ (y2 ≢ y)) → Sent xs (set xs e.to y2) marks (if changed then set marks e.to true else marks) block (sent ++ i ∷ [])
    sent_if true tells = sent_new (tells.0 refl)
    sent_if false tells = elim (same_or_not (rank y2) (rank y)) [
      | inl s ↦ sent_kept (sym (laws.rank_same y y2 low (sym s)))
      | inr ne ↦ absurd (false≢true (tells.1 (λ s. ne (ap rank s))))
    ]
      where
        low : Below y y2
        low = subst (Below y) (ap (λ (j : A → A → A). j y (flow i x)) join_is ∙ sym is) (laws.left y (flow i x) (g.under.facts e.to y at_to) (l.flow_ok i x (g.under.facts block x at_from)))

        same_or_not : (a b : ℕ) → (a ≡ b) ⊎ (a ≡ b → ⊥)
        same_or_not a b = cases_eq a b

  -- ---- the loop over the blocks that wait
  pub begins_going : (xs : List A) (marks : List Bool) → All (λ e. (e.from < n) × (e.to < n)) es → xs ≡ starts_to start 0 n → marks ≡ replicate n true → IsGoing Ok Below P xs marks n []
  begins_going xs marks all e m = record {
    under = subst (IsUnder Ok Below P) (sym (e ∙ starts_are)) (starts_under Ok Below rank h P laws);
    marked = ap length m ∙ length-replicate n true ∙ sym starts_count;
    sent_on = λ i a x y is unmarked listed gx gy. absurd (both_ways (get_or marks a.from false) unmarked (ap (λ ms. get_or ms a.from false) m ∙ get_or-replicate n a.from true false (low_from all i a is)));
  }

  pub turn_going : (xs : List A) (marks marks2 : List Bool) (block : ℕ) → All (λ e. (e.from < n) × (e.to < n)) es → IsGoing Ok Below P xs marks n [] → marks2 ≡ set marks block false → IsGoing Ok Below P xs marks2 block []
  turn_going xs marks marks2 block all g m = record {
    under = g.under;
    marked = ap length m ∙ length-set marks block false ∙ g.marked;
    sent_on = subst (λ ms. IsSent P xs ms block []) (sym m) (turn_begins Ok Below rank h P laws xs marks n block (from_inside all) g.sent_on);
  }

  pub turn_over : (xs : List A) (marks : List Bool) (block : ℕ) (sent : List ℕ) (lists : List (List ℕ)) → IsLeaving es n lists → slice_get lists block ≡ Some sent → IsGoing Ok Below P xs marks block sent → IsGoing Ok Below P xs marks n []
  turn_over xs marks block sent lists v at g = record {
    under = g.under;
    marked = g.marked;
    sent_on = turn_ends Ok Below rank h P laws xs marks n block sent (has_all lists v block sent at) g.sent_on;
  }

  pub over : (xs : List A) (marks : List Bool) → All (λ e. (e.from < n) × (e.to < n)) es → IsGoing Ok Below P xs marks n [] → SleepAll marks → Least Ok Below P xs
  over xs marks all g asleep = ends_least Ok Below rank h P laws xs marks n asleep g (from_inside all)

  -- no list of facts is higher than this
  pub low_total : (xs : List A) → IsUnder Ok Below P xs → sum_by rank xs ≤ n * h
  low_total xs u = subst (λ k. sum_by rank xs ≤ k * h) (u.long ∙ starts_count) (total xs u.facts)
    where
      total : (xs : List A) → AllFacts Ok xs → sum_by rank xs ≤ length xs * h
      total [] k = omega arith
      total (x ∷ xs) k =
          let a = laws.height x (k 0 x refl) in
          let b = total xs (λ b y e. k (suc b) y e) in
          let c : suc (length xs) * h ≡ h + length xs * h = grind arith in
          subst (λ s. s ≤ suc (length xs) * h) (sym (sum_by-cons rank x xs)) (subst (λ n. rank x + sum_by rank xs ≤ n) (sym c) (omega arith))
