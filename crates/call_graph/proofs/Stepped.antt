-- A step of the search for components keeps what holds, and leaves less to do.
use Rattle.std.proofs.Common.{◌≡◌, ◌≢◌, refl, sym, ap, ap₂, subst, ◌∙◌, ℕ, zero, suc, ◌+◌, ◌-◌, ◌<◌, ◌≤◌, true, false, List, [], ◌∷◌, ◌++◌, map, length, get_or, set, ◌⊎◌, inl, inr, arith, length-append, get_or-set_same, get_or-set_other}
use Rattle.std.proofs.lemmas.List.{length-map, get_or_default, get_or-map}
use Rattle.std.proofs.Math.Seq.{get_or-append_seam}
use Rattle.std.proofs.lemmas.Bool.{cases_eq}
use Rattle.bit_rows.specs.Rows.{stands}
use Rattle.call_graph.specs.declared.components.Mark.TheVariants.{Unseen, OnStack}
use Rattle.call_graph.specs.Graph.{Reaches, listed, StaysInside}
use Rattle.call_graph.specs.Search.{State, graph_by, mark_of, on_stack, IsLed, IsSearch, Joined, Left, LookedAt, Sees, Stepped, entered, looked_more, closed_from, to_look}
use Rattle.call_graph.proofs.Once.{bool_tells}
use Rattle.call_graph.proofs.Reached.{reaches_trans}
use Rattle.call_graph.proofs.Rising.{stands_at, rising_last}
use Rattle.call_graph.proofs.Entered.{entering, unseen_less}
use Rattle.call_graph.proofs.Joining.{IsTop, called_reached, reaches_top, joining, joined_led, looking}
use Rattle.call_graph.proofs.Leaving.{leaving, closing, still_seen, unseen_still}

pub to_look_less : {A : Type 0} (css : List (List A)) (ns : List ℕ) (f : ℕ) → f < length css → f < length ns → get_or ns f 0 < length (get_or css f []) → to_look css (set ns f (get_or ns f 0 + 1)) < to_look css ns
to_look_less [] ns f a b l = absurd (omega arith)
to_look_less (cs ∷ css) [] f a b l = absurd (omega arith)
to_look_less (cs ∷ css) (n ∷ ns) zero a b l = omega (arith, l)
to_look_less (cs ∷ css) (n ∷ ns) (suc f) a b l = let r = to_look_less css ns f (omega (arith, a)) (omega (arith, b)) l in omega (arith, r)

module _ {A : Type 0} (number : A → ℕ) (lists : List (List A)) (s : State) (c : IsSearch (graph_by number lists) s) (inside : StaysInside number lists) (p f : ℕ) (t : IsTop s p f) where
  f_in : f < length lists
  f_in = let w = c.stack.within p t.place in let e = t.at_place in omega (arith, w, e)

  long : length (listed number lists f) ≡ length (get_or lists f [])
  long = length-map (get_or lists f []) number

  -- a function is found
  found : (g : ℕ) → mark_of s g ≡ Unseen → g < length lists → ((a : ℕ) → a < length s.stack → Reaches (graph_by number lists) (on_stack s a) g) → Stepped number lists s (entered s g)
  found g m low from = record {
    search = entering (graph_by number lists) s g c low m from;
    seen = λ h ne. elim (cases_eq h g) [
      | inl e ↦ absurd (ne (ap (mark_of s) e ∙ m))
      | inr other ↦ λ k. ne (sym (get_or-set_other s.marks g h (OnStack (length s.stack)) Unseen other) ∙ k)
    ];
    less = (let u = unseen_less s.marks g (length s.stack) (let z = c.sized.marks in omega (arith, z, low)) m in let l = length-append s.path (length s.stack ∷ []) in omega (arith, u, l));
  }

  -- a callee more was looked at
  looked : get_or s.looked f 0 < length (listed number lists f) → IsLed s p (get_or (listed number lists f) (get_or s.looked f 0) 0) → Stepped number lists s (looked_more s f)
  looked more led = record {
    search = looking (graph_by number lists) s c p f t more led;
    seen = λ h ne. ne;
    less = (let l = to_look_less lists s.looked f f_in (let z = c.sized.looked in let w = f_in in omega (arith, z, w)) (let e = long in omega (arith, more, e)) in omega (arith, l));
  }

  module _ (more : get_or s.looked f 0 < length (listed number lists f)) where
    abbrev next : ℕ
    next = get_or (listed number lists f) (get_or s.looked f 0) 0

    is_called : stands next (listed number lists f) ≡ true
    is_called = stands_at (listed number lists f) (get_or s.looked f 0) more

    joined : (place : ℕ) (u : State) → mark_of s next ≡ OnStack place → Joined s u place → Stepped number lists s (looked_more u f)
    joined place u m j = subst (λ v. Stepped number lists s (looked_more v f)) (sym j.rest) (record {
      search = looking (graph_by number lists) (record s { starts = u.starts }) (joining (graph_by number lists) s c p f next place t is_called m (record s { starts = u.starts }) same) p f
          (record { on_path = t.on_path; place = t.place; at_place = t.at_place; last = t.last }) more
          (joined_led (graph_by number lists) s c p f next place t is_called m (record s { starts = u.starts }) same);
      seen = λ h ne. ne;
      less = (let l = to_look_less lists s.looked f f_in (let z = c.sized.looked in let w = f_in in omega (arith, z, w)) (let e = long in omega (arith, more, e)) in omega (arith, l));
    })
      where
        same : Joined s (record s { starts = u.starts }) place
        same = subst (λ v. Joined s v place) j.rest j

    pub looked_at : (u : State) → LookedAt s u f next → Stepped number lists s u
    looked_at u (inl e) = subst (Stepped number lists s) (sym e.1) (found next e.0 (inside f next is_called) (λ a l. reaches_trans (graph_by number lists) (on_stack s a) f next (reaches_top (graph_by number lists) s c p f t a l) (called_reached (graph_by number lists) f next is_called)))
    looked_at u (inr (inl e)) = subst (Stepped number lists s) (sym e.4) (joined e.0 e.1 e.2 e.3)
    looked_at u (inr (inr e)) = subst (Stepped number lists s) (sym e.1) (looked more (inl e.0))

-- ---- the last function of the path

module _ {A : Type 0} (number : A → ℕ) (lists : List (List A)) (s : State) (c : IsSearch (graph_by number lists) s) (some : 0 < length s.path) (p : ℕ) (is_last : get_or s.path (length s.path - 1) 0 ≡ p) where
  pub top : IsTop s p (on_stack s p)
  top = record {
    on_path = on_path;
    place = c.path.on_stack p on_path;
    at_place = refl;
    last = λ q e. (let l = rising_last s.path (length s.path - 1) (omega (arith, some)) c.path.rises q e in omega (arith, l, is_last));
  }
    where
      on_path : stands p s.path ≡ true
      on_path = subst (λ x. stands x s.path ≡ true) is_last (stands_at s.path (length s.path - 1) (omega (arith, some)))

  pub some_starts : 0 < length s.starts
  some_starts = elim (let d : (0 ≡ length s.starts) ⊎ (0 < length s.starts) = grind arith in d) [
    | inl e ↦ (let first = c.path.first (let l = top.place in omega (arith, l)) in absurd (empty s.starts e first))
    | inr l ↦ l
  ]
    where
      empty : (xs : List ℕ) → 0 ≡ length xs → stands 0 xs ≡ true → ⊥
      empty [] e k = absurd (cc)
      empty (x ∷ xs) e k = absurd (omega arith)

  -- no part begins with it where the last one doesn't
  no_start : get_or s.starts (length s.starts - 1) 0 ≢ p → stands p s.starts ≡ false
  no_start ne = elim (bool_tells (stands p s.starts)) [
    | inr e ↦ e
    | inl e ↦ (let a = rising_last s.starts (length s.starts - 1) (let l = some_starts in omega (arith, l)) c.path.starts_rise p e in
        let b = top.last (get_or s.starts (length s.starts - 1) 0) (c.path.starts_on (get_or s.starts (length s.starts - 1) 0) (stands_at s.starts (length s.starts - 1) (let l = some_starts in omega (arith, l)))) in
        let same : get_or s.starts (length s.starts - 1) 0 ≡ p = omega (arith, a, b) in absurd (ne same))
  ]

  pub left : length (listed number lists (on_stack s p)) ≤ get_or s.looked (on_stack s p) 0 → (u : State) → Left s u p → Stepped number lists s u
  left enough u (front, last, cut, how) = go how
    where
      done : get_or s.looked (on_stack s p) 0 ≡ length (listed number lists (on_stack s p))
      done = let m = c.looked.most (on_stack s p) in omega (arith, m, enough)

      is_p : last ≡ p
      is_p =
          let n : length s.path - 1 ≡ length front = (let l = ap length cut in let k = length-append front (last ∷ []) in omega (arith, l, k)) in
          sym (get_or-append_seam front last [] 0) ∙ ap (λ xs. get_or xs (length front) 0) (sym cut) ∙ ap (λ i. get_or s.path i 0) (sym n) ∙ is_last

      popped : s.path ≡ front ++ p ∷ []
      popped = cut ∙ ap (λ x. front ++ x ∷ []) is_p

      shorter : length front < length s.path
      shorter = let l = ap length popped in let k = length-append front (p ∷ []) in omega (arith, l, k)

      go : ((starts : List ℕ) × (s.starts ≡ starts ++ p ∷ []) × (u ≡ closed_from (record s { path = front; starts = starts }) p)) ⊎ ((get_or s.starts (length s.starts - 1) 0 ≢ p) × (u ≡ record s { path = front })) → Stepped number lists s u
      go (inl e) = subst (Stepped number lists s) (sym e.2) (record {
        search = closing (graph_by number lists) s c front p popped done e.0 e.1;
        seen = still_seen (graph_by number lists) s c front p popped done e.0 e.1;
        less = (let n = unseen_still (graph_by number lists) s c front p popped done e.0 e.1 in let l = shorter in omega (arith, n, l));
      })
      go (inr e) = subst (Stepped number lists s) (sym e.1) (record {
        search = leaving (graph_by number lists) s c front p popped done (no_start e.0);
        seen = λ h ne. ne;
        less = (let l = shorter in omega (arith, l));
      })

-- ---- the first step: a node is found while the path is empty

module _ {A : Type 0} (number : A → ℕ) (lists : List (List A)) (s : State) (c : IsSearch (graph_by number lists) s) (none : s.path ≡ []) where
  pub stack_empty : (a : ℕ) → a < length s.stack → ⊥
  stack_empty a l = let o = subst (λ xs. stands 0 xs ≡ true) none (c.path.starts_on 0 (c.path.first (omega (arith, l)))) in absurd (cc)

  module _ (root : ℕ) (low : root < length lists) (fresh : mark_of s root ≡ Unseen) (t : State) (e : t ≡ entered s root) where
    pub root_search : IsSearch (graph_by number lists) t
    root_search = subst (IsSearch (graph_by number lists)) (sym e) (entering (graph_by number lists) s root c low fresh (λ a l. absurd (stack_empty a l)))

    pub root_sees : Sees s t
    root_sees = subst (Sees s) (sym e) (λ h ne. elim (cases_eq h root) [
      | inl k ↦ absurd (ne (ap (mark_of s) k ∙ fresh))
      | inr other ↦ λ k. ne (sym (get_or-set_other s.marks root h (OnStack (length s.stack)) Unseen other) ∙ k)
    ])

    pub root_seen : mark_of t root ≢ Unseen
    root_seen k = let m = sym (get_or-set_same s.marks root (OnStack (length s.stack)) Unseen (let z = c.sized.marks in omega (arith, z, low))) ∙ ap (λ u. mark_of u root) (sym e) ∙ k in absurd (cc)

-- ---- what the code has at hand: the last place of the path, the node there, its targets, and how many were looked at

module _ {A : Type 0} (number : A → ℕ) (lists : List (List A)) (s : State) (c : IsSearch (graph_by number lists) s) (some : 0 < length s.path) (n p : ℕ) (is_n : n ≡ length s.path) (is_p : p ≡ get_or s.path (n - 1) p) where
  is_last : get_or s.path (length s.path - 1) 0 ≡ p
  is_last = get_or_default s.path (length s.path - 1) 0 p (omega (arith, some)) ∙ ap (λ m. get_or s.path (m - 1) p) (sym is_n) ∙ sym is_p

  pub at_place : p < length s.stack
  at_place = (top number lists s c some p is_last).place

  pub has_start : 0 < length s.starts
  has_start = some_starts number lists s c some p is_last

  module _ (f : ℕ) (is_f : f ≡ get_or s.stack p f) where
    on_top : on_stack s p ≡ f
    on_top = get_or_default s.stack p 0 f at_place ∙ sym is_f

    pub node_in : f < length lists
    node_in = let w = c.stack.within p at_place in let e = on_top in omega (arith, w, e)

    at_top : IsTop s p f
    at_top = subst (IsTop s p) on_top (top number lists s c some p is_last)

    module _ (list : List A) (is_list : list ≡ get_or lists f list) (next : ℕ) (is_next : next ≡ get_or s.looked f next) where
      same_list : listed number lists f ≡ map number list
      same_list = ap (map number) (get_or_default lists f [] list node_in ∙ sym is_list)

      pub looked_so : get_or s.looked f 0 ≡ next
      looked_so = get_or_default s.looked f 0 next (let z = c.sized.looked in let l = node_in in omega (arith, z, l)) ∙ sym is_next

      pub left_now : length list ≤ next → (u : State) → Left s u p → Stepped number lists s u
      left_now enough u how =
          left number lists s c some p is_last (subst (λ x. length (listed number lists x) ≤ get_or s.looked x 0) (sym on_top) (let a = ap length same_list in let b = length-map list number in let d = looked_so in omega (arith, a, b, d, enough))) u how

      module _ (inside : StaysInside number lists) (more : next < length list) (x : A) (is_x : x ≡ get_or list next x) where
        more_there : get_or s.looked f 0 < length (listed number lists f)
        more_there = let a = ap length same_list in let b = length-map list number in let d = looked_so in omega (arith, a, b, d, more)

        is_target : number x ≡ get_or (listed number lists f) (get_or s.looked f 0) 0
        is_target = ap number is_x ∙ sym (get_or-map number list next x 0 more) ∙ ap₂ (λ xs k. get_or xs k 0) (sym same_list) (sym looked_so)

        pub target_in : number x < length lists
        target_in = inside f (number x) (subst (λ y. stands y (listed number lists f) ≡ true) (sym is_target) (stands_at (listed number lists f) (get_or s.looked f 0) more_there))

        pub looked_now : (u : State) → LookedAt s u f (number x) → Stepped number lists s u
        looked_now u how = looked_at number lists s c inside p f at_top more_there u (subst (LookedAt s u f) is_target how)
