-- The last function of the path is left in the search for components, and closes one where a part begins with it.
use Rattle.std.proofs.Common.{◌≡◌, ◌≢◌, sym, ap, subst, ◌∙◌, ℕ, ◌+◌, ◌-◌, ◌<◌, ◌≤◌, true, false, List, [], ◌∷◌, ◌++◌, length, get_or, drop, length-drop, ◌⊎◌, inl, inr, arith}
use Rattle.std.proofs.lemmas.List.{get_or-drop, get_or-take, length-take-le}
use Rattle.std.proofs.lemmas.Bool.{cases_eq}
use Rattle.bit_rows.specs.Rows.{stands}
use Rattle.call_graph.specs.declared.components.Mark.TheVariants.{Unseen, OnStack, Closed}
use Rattle.call_graph.specs.Graph.{Graph, Reaches}
use Rattle.call_graph.specs.Search.{State, mark_of, on_stack, Rising, Ahead, IsLed, unseen, IsStack, IsPath, IsLooked, IsClosed, IsSearch, closed_from}
use Rattle.call_graph.proofs.Once.{bool_tells, both, stands_first, stands_append, stands_left, stands_right}
use Rattle.call_graph.proofs.Rising.{stands_one, stands_at, stands_where, not_snoc, rising_front}
use Rattle.call_graph.proofs.AllSet.{all_set_long, all_set_else, all_set_there, unseen_kept}

module _ (G : Graph) (s : State) (c : IsSearch G s) (front : List ℕ) (p : ℕ) (popped : s.path ≡ front ++ p ∷ []) (done : get_or s.looked (on_stack s p) 0 ≡ length (G.callees (on_stack s p))) where
  rises : Rising front × ((y : ℕ) → stands y front ≡ true → y < p)
  rises = rising_front front p (subst Rising popped c.path.rises)

  in_path : (q : ℕ) → stands q s.path ≡ true → (stands q front ≡ true) ⊎ (q ≡ p)
  in_path q e = elim (stands_append q front (p ∷ []) (subst (λ xs. stands q xs ≡ true) popped e)) [ inl a ↦ inl a | inr a ↦ inr (stands_one q p a) ]

  front_in : (q : ℕ) → stands q front ≡ true → stands q s.path ≡ true
  front_in q e = subst (λ xs. stands q xs ≡ true) (sym popped) (stands_left q front (p ∷ []) e)

  on_path : stands p s.path ≡ true
  on_path = subst (λ xs. stands p xs ≡ true) (sym popped) (stands_right p front (p ∷ []) (stands_first p []))

  last : (q : ℕ) → stands q s.path ≡ true → q ≤ p
  last q e = elim (in_path q e) [ inl a ↦ (let l = rises.1 q a in omega (arith, l)) | inr a ↦ omega (arith, a) ]

  place : p < length s.stack
  place = c.path.on_stack p on_path

  -- who isn't on the path any more was looked at whole
  finished : (i : ℕ) → i < length s.stack → stands i front ≡ false → get_or s.looked (on_stack s i) 0 ≡ length (G.callees (on_stack s i))
  finished i l e = elim (cases_eq i p) [
    | inl k ↦ subst (λ j. get_or s.looked (on_stack s j) 0 ≡ length (G.callees (on_stack s j))) (sym k) done
    | inr ne ↦ c.looked.all i l (subst (λ xs. stands i xs ≡ false) (sym popped) (not_snoc i p front e ne))
  ]

  pub leaving : stands p s.starts ≡ false → IsSearch G (record s { path = front })
  leaving none = record {
    sized = record { marks = c.sized.marks; looked = c.sized.looked; component = c.sized.component };
    stack = record { within = c.stack.within; marked = c.stack.marked; placed = c.stack.placed };
    path = record {
      on_stack = λ q e. c.path.on_stack q (front_in q e);
      rises = rises.0;
      starts_rise = c.path.starts_rise;
      starts_on = λ q e. elim (in_path q (c.path.starts_on q e)) [
        | inl a ↦ a
        | inr a ↦ absurd (both (stands p s.starts) (subst (λ x. stands x s.starts ≡ true) a e) none)
      ];
      first = c.path.first;
    };
    looked = record { none = c.looked.none; most = c.looked.most; all = finished; led = c.looked.led };
    reaches = c.reaches;
    closed = record { calls = c.closed.calls; both = c.closed.both; below = c.closed.below };
    few = c.few;
  }

  module _ (starts : List ℕ) (cut : s.starts ≡ starts ++ p ∷ []) where
    abbrev gone : List ℕ
    gone = drop p s.stack

    abbrev after : State
    after = closed_from (record s { path = front; starts = starts }) p

    starts_low : Rising starts × ((y : ℕ) → stands y starts ≡ true → y < p)
    starts_low = rising_front starts p (subst Rising cut c.path.starts_rise)

    starts_in : (q : ℕ) → stands q starts ≡ true → stands q s.starts ≡ true
    starts_in q e = subst (λ xs. stands q xs ≡ true) (sym cut) (stands_left q starts (p ∷ []) e)

    in_starts : (q : ℕ) → stands q s.starts ≡ true → (stands q starts ≡ true) ⊎ (q ≡ p)
    in_starts q e = elim (stands_append q starts (p ∷ []) (subst (λ xs. stands q xs ≡ true) cut e)) [ inl a ↦ inl a | inr a ↦ inr (stands_one q p a) ]

    p_starts : stands p s.starts ≡ true
    p_starts = subst (λ xs. stands p xs ≡ true) (sym cut) (stands_right p starts (p ∷ []) (stands_first p []))

    gone_where : (g : ℕ) → stands g gone ≡ true → (j : ℕ) × (p ≤ j) × (j < length s.stack) × (on_stack s j ≡ g)
    gone_where g e =
        let w = stands_where g (drop p s.stack) e in
        (p + w.0, omega arith, (let l = w.1 in let k = length-drop p s.stack in omega (arith, l, k)), sym (get_or-drop p s.stack w.0 0) ∙ w.2)

    gone_of : (j : ℕ) → p ≤ j → j < length s.stack → stands (on_stack s j) gone ≡ true
    gone_of j up l =
        let same : p + (j - p) ≡ j = omega (arith, up) in
        subst (λ x. stands x (drop p s.stack) ≡ true) (get_or-drop p s.stack (j - p) 0 ∙ ap (on_stack s) same)
        (stands_at (drop p s.stack) (j - p) (let k = length-drop p s.stack in omega (arith, up, l, k)))

    gone_below : (g : ℕ) → stands g gone ≡ true → g < G.functions
    gone_below g e = let w = gone_where g e in subst (λ x. x < G.functions) w.3 (c.stack.within w.0 w.2)

    gone_marked : (g : ℕ) → stands g gone ≡ true → (j : ℕ) × (p ≤ j) × (mark_of s g ≡ OnStack j)
    gone_marked g e = let w = gone_where g e in (w.0, w.1, ap (mark_of s) (sym w.3) ∙ c.stack.marked w.0 w.2)

    shut : (g : ℕ) → stands g gone ≡ true → mark_of after g ≡ Closed
    shut g e = all_set_there s.marks (drop p s.stack) Closed Unseen g (let b = gone_below g e in let z = c.sized.marks in omega (arith, b, z)) e

    shut_in : (g : ℕ) → stands g gone ≡ true → get_or after.component g 0 ≡ s.closed
    shut_in g e = all_set_there s.component (drop p s.stack) s.closed 0 g (let b = gone_below g e in let z = c.sized.component in omega (arith, b, z)) e

    kept : (g : ℕ) → stands g gone ≡ false → mark_of after g ≡ mark_of s g
    kept g e = all_set_else s.marks (drop p s.stack) Closed Unseen g e

    kept_in : (g : ℕ) → stands g gone ≡ false → get_or after.component g 0 ≡ get_or s.component g 0
    kept_in g e = all_set_else s.component (drop p s.stack) s.closed 0 g e

    -- who is closed, or stands before the place, isn't closed now
    closed_kept : (g : ℕ) → mark_of s g ≡ Closed → stands g gone ≡ false
    closed_kept g m = elim (bool_tells (stands g gone)) [
      | inl e ↦ (let w = gone_marked g e in let k = sym m ∙ w.2 in absurd (cc))
      | inr e ↦ e
    ]

    low_kept : (g b : ℕ) → mark_of s g ≡ OnStack b → b < p → stands g gone ≡ false
    low_kept g b m l = elim (bool_tells (stands g gone)) [
      | inl e ↦ (let w = gone_marked g e in let k = sym m ∙ w.2 in let same : b ≡ w.0 = cc in let up = w.1 in absurd (omega (arith, same, up, l)))
      | inr e ↦ e
    ]

    high_gone : (g b : ℕ) → mark_of s g ≡ OnStack b → p ≤ b → stands g gone ≡ true
    high_gone g b m up = let w = c.stack.placed g b m in subst (λ x. stands x gone ≡ true) w.1 (gone_of b up w.0)

    closed_now : (g : ℕ) → mark_of after g ≡ Closed → (stands g gone ≡ true) ⊎ ((stands g gone ≡ false) × (mark_of s g ≡ Closed))
    closed_now g m = elim (bool_tells (stands g gone)) [ inl e ↦ inl e | inr e ↦ inr (e, sym (kept g e) ∙ m) ]

    still_closed : (g : ℕ) → mark_of s g ≡ Closed → mark_of after g ≡ Closed
    still_closed g m = kept g (closed_kept g m) ∙ m

    component_most : (g : ℕ) → mark_of after g ≡ Closed → get_or after.component g 0 ≤ s.closed
    component_most g m = elim (closed_now g m) [
      | inl e ↦ (let k = shut_in g e in omega (arith, k))
      | inr u ↦ (let k = kept_in g u.0 in let l = c.closed.below g u.1 in omega (arith, k, l))
    ]

    -- where a callee of those that are closed now is, it is closed
    led_closed : (i g : ℕ) → p ≤ i → IsLed s i g → mark_of after g ≡ Closed
    led_closed i g up (inl m) = still_closed g m
    led_closed i g up (inr u) = shut g (high_gone g u.0 u.1 (u.2 p p_starts up))

    low : (i : ℕ) → i < p → on_stack after i ≡ on_stack s i
    low i l = get_or-take p s.stack i 0 l

    size : length after.stack ≡ p
    size = length-take-le p s.stack (let l = place in omega (arith, l))

    stack : IsStack G after
    stack = record {
      within = λ i l. (let a : i < p = (let z = size in omega (arith, z, l)) in subst (λ x. x < G.functions) (sym (low i a)) (c.stack.within i (let w = place in omega (arith, w, a))));
      marked = λ i l. (let a : i < p = (let z = size in omega (arith, z, l)) in
          let b : i < length s.stack = (let w = place in omega (arith, w, a)) in
          ap (mark_of after) (low i a) ∙ kept (on_stack s i) (low_kept (on_stack s i) i (c.stack.marked i b) a) ∙ c.stack.marked i b);
      placed = λ f i m. elim (bool_tells (stands f gone)) [
        | inl e ↦ (let k = sym (shut f e) ∙ m in absurd (cc))
        | inr e ↦ (let n = sym (kept f e) ∙ m in
            let w = c.stack.placed f i n in
            elim (let d : (i < p) ⊎ (p ≤ i) = grind arith in d) [
              | inl a ↦ ((let z = size in omega (arith, z, a)), low i a ∙ w.1)
              | inr a ↦ absurd (both (stands f gone) (high_gone f i n a) e)
            ])
      ];
    }

    path : IsPath after
    path = record {
      on_stack = λ q e. (let l = rises.1 q e in let z = length-take-le p s.stack (let w = place in omega (arith, w)) in omega (arith, l, z));
      rises = rises.0;
      starts_rise = starts_low.0;
      starts_on = λ q e. elim (in_path q (c.path.starts_on q (starts_in q e))) [ inl a ↦ a | inr a ↦ (let l = starts_low.1 q e in absurd (omega (arith, l, a))) ];
      first = λ l. elim (in_starts 0 (c.path.first (let w = place in omega (arith, w)))) [
        | inl a ↦ a
        | inr a ↦ (let z = length-take-le p s.stack (let w = place in omega (arith, w)) in absurd (omega (arith, z, a, l)))
      ];
    }

    looked : IsLooked G after
    looked = record {
      none = λ f m. elim (bool_tells (stands f gone)) [
        | inl e ↦ (let k = sym (shut f e) ∙ m in absurd (cc))
        | inr e ↦ c.looked.none f (sym (kept f e) ∙ m)
      ];
      most = c.looked.most;
      all = λ i l e. (let a : i < p = (let z = size in omega (arith, z, l)) in
          subst (λ x. get_or s.looked x 0 ≡ length (G.callees x)) (sym (low i a)) (finished i (let w = place in omega (arith, w, a)) e));
      led = λ i k l h. (let a : i < p = (let z = size in omega (arith, z, l)) in
          subst (λ x. IsLed after i (get_or (G.callees x) k 0)) (sym (low i a))
          (still (get_or (G.callees (on_stack s i)) k 0) i a (c.looked.led i k (let w = place in omega (arith, w, a)) (subst (λ x. k < get_or s.looked x 0) (low i a) h))));
    }
      where
        still : (g i : ℕ) → i < p → IsLed s i g → IsLed after i g
        still g i a (inl m) = inl (still_closed g m)
        still g i a (inr u) = elim (let d : (u.0 < p) ⊎ (p ≤ u.0) = grind arith in d) [
          | inl b ↦ inr (u.0, kept g (low_kept g u.0 u.1 b) ∙ u.1, λ q e l. u.2 q (starts_in q e) l)
          | inr b ↦ inl (shut g (high_gone g u.0 u.1 b))
        ]

    reaches : (a b : ℕ) → a < length after.stack → b < length after.stack → Ahead starts a b → Reaches G (on_stack after a) (on_stack after b)
    reaches a b la lb ahead =
        let x : a < p = (let z = size in omega (arith, z, la)) in
        let y : b < p = (let z = size in omega (arith, z, lb)) in
        subst (λ g. Reaches G g (on_stack after b)) (sym (low a x)) (subst (λ g. Reaches G (on_stack s a) g) (sym (low b y))
        (c.reaches a b (let w = place in omega (arith, w, x)) (let w = place in omega (arith, w, y)) (λ q e l. elim (in_starts q e) [
          | inl i ↦ ahead q i l
          | inr k ↦ absurd (omega (arith, k, l, x))
        ])))

    closed : IsClosed G after
    closed = record { calls = calls; both = reach_back; below = below }
      where
        calls : (f k : ℕ) → mark_of after f ≡ Closed → k < length (G.callees f) → (mark_of after (get_or (G.callees f) k 0) ≡ Closed) × (get_or after.component (get_or (G.callees f) k 0) 0 ≤ get_or after.component f 0)
        calls f k m l = elim (closed_now f m) [
          | inl e ↦ (let w = gone_where f e in
              let all = finished w.0 w.2 (elim (bool_tells (stands w.0 front)) [ inl t ↦ (let h = rises.1 w.0 t in let up = w.1 in absurd (omega (arith, h, up))) | inr t ↦ t ]) in
              let here : mark_of after (get_or (G.callees f) k 0) ≡ Closed =
              subst (λ x. mark_of after (get_or (G.callees x) k 0) ≡ Closed) w.3
              (led_closed w.0 (get_or (G.callees (on_stack s w.0)) k 0) w.1 (c.looked.led w.0 k w.2 (let n = ap (λ x. length (G.callees x)) w.3 in omega (arith, all, n, l)))) in
              (here, (let n = component_most (get_or (G.callees f) k 0) here in let o = shut_in f e in omega (arith, n, o))))
          | inr u ↦ (let r = c.closed.calls f k u.1 l in
              (still_closed (get_or (G.callees f) k 0) r.0, (let n = kept_in (get_or (G.callees f) k 0) (closed_kept (get_or (G.callees f) k 0) r.0) in let o = kept_in f u.0 in let q = r.1 in omega (arith, n, o, q))))
        ]

        reach_back : (f g : ℕ) → mark_of after f ≡ Closed → mark_of after g ≡ Closed → get_or after.component f 0 ≡ get_or after.component g 0 → Reaches G f g
        reach_back f g m n same = go (closed_now f m) (closed_now g n)
          where
            go : (stands f gone ≡ true) ⊎ ((stands f gone ≡ false) × (mark_of s f ≡ Closed)) → (stands g gone ≡ true) ⊎ ((stands g gone ≡ false) × (mark_of s g ≡ Closed)) → Reaches G f g
            go (inl a) (inl b) =
                let v = gone_where f a in
                let w = gone_where g b in
                subst (λ x. Reaches G x g) v.3 (subst (Reaches G (on_stack s v.0)) w.3 (c.reaches v.0 w.0 v.2 w.2 (λ q e _. let h = last q (c.path.starts_on q e) in let up = w.1 in omega (arith, h, up))))
            go (inl a) (inr b) = absurd (let h = shut_in f a in let k = kept_in g b.0 in let l = c.closed.below g b.1 in omega (arith, same, h, k, l))
            go (inr a) (inl b) = absurd (let h = shut_in g b in let k = kept_in f a.0 in let l = c.closed.below f a.1 in omega (arith, same, h, k, l))
            go (inr a) (inr b) = c.closed.both f g a.1 b.1 (sym (kept_in f a.0) ∙ same ∙ kept_in g b.0)

        below : (f : ℕ) → mark_of after f ≡ Closed → get_or after.component f 0 < s.closed + 1
        below f m = let h = component_most f m in omega (arith, h)

    pub unseen_still : unseen after.marks ≡ unseen s.marks
    unseen_still = unseen_kept s.marks (drop p s.stack) (λ g e k. let w = gone_marked g e in let m = sym k ∙ w.2 in absurd (cc))

    pub still_seen : (f : ℕ) → mark_of s f ≢ Unseen → mark_of after f ≢ Unseen
    still_seen f ne k = elim (bool_tells (stands f gone)) [
      | inl e ↦ (let m = sym (shut f e) ∙ k in absurd (cc))
      | inr e ↦ ne (sym (kept f e) ∙ k)
    ]

    pub closing : IsSearch G (closed_from (record s { path = front; starts = starts }) p)
    closing = record {
      sized = record { marks = all_set_long s.marks (drop p s.stack) Closed ∙ c.sized.marks; looked = c.sized.looked; component = all_set_long s.component (drop p s.stack) s.closed ∙ c.sized.component };
      stack = stack;
      path = path;
      looked = looked;
      reaches = reaches;
      closed = closed;
      few = (let z = size in let u = unseen_still in let w = c.few in let l = place in omega (arith, z, u, w, l));
    }
