-- What the homes of a body keep: no two members of a group conflict, at most one is fixed, all are of one type, and none is borrowed. It goes
-- over the pairs of members, candidate by candidate.
use Rattle.std.proofs.Common.{◌≡◌, ◌⊎◌, inl, inr, refl, sym, ap, ap₂, ◌∙◌, subst, ℕ, zero, suc, ◌+◌, ◌<◌, ◌≤◌, min, Bool, true, false, cond, not, nat_eq, ◌&&◌, ◌||◌, if◌then◌else◌, List, [], ◌∷◌, length, Option, Some, None, slice_get, arith, eq-eqb, eqb-true}
use Rattle.std.specs.List.{filter, flat_map, list_all, list_any, range_with_len}
use Rattle.std.proofs.lemmas.Bool.{cases_lt, and_parts, le-leb}
use Rattle.std.proofs.lemmas.Option.{slice_get_within}
use Rattle.mir_syntax.specs.Tree.{Tree}
use Rattle.mir_syntax.specs.Crate.{TypedBlock, TypedBody}
use Rattle.mir_syntax.specs.Shapes.{Shape}
use Rattle.mir_syntax.proofs.Bools.{if_true, if_false}
use Rattle.mir_rules.proofs.Lists.{or_false-left, or_false-right}
use Rattle.mir_rules.proofs.Same.{same_tree_is}
use Rattle.mir_renaming.proofs.Memory.{same_or_not}
use Rattle.escape_info.specs.Borrowed.{borrowed}
use Rattle.dest_prop.specs.Merged.{Pair, copies, one_type, may_share, hurts, conflict, members, is_fixed, agree, may_join, joined, homes_after, home_of, is_shared}

-- ---- members of a filtered range

pub above : (y a : ℕ) → a ≤ y → (y ≡ a → ⊥) → a + 1 ≤ y
above y a l ne = go (cases_lt a y)
  where
    go : (a < y) ⊎ (y ≤ a) → a + 1 ≤ y
    go (inl q) = omega (arith, q)
    go (inr q) = absurd (ne (omega (arith, l, q)))

pub all_at : (t p : ℕ → Bool) (a n : ℕ) → list_all t (filter p (range_with_len a n)) ≡ true → (y : ℕ) → a ≤ y → y < a + n → p y ≡ true → t y ≡ true
all_at t p a zero h y l l' e = absurd (omega (arith, l, l'))
all_at t p a (suc n) h y l l' e = go (p a) refl (same_or_not y a) h (λ h ne. all_at t p (a + 1) n h y (above y a l ne) (omega (arith, l')) e)
  where
    go : (b : Bool) → p a ≡ b → ((nat_eq y a ≡ true) × (y ≡ a)) ⊎ ((nat_eq y a ≡ false) × (y ≡ a → ⊥)) → list_all t (cond b (a ∷ filter p (range_with_len (a + 1) n)) (filter p (range_with_len (a + 1) n))) ≡ true → (list_all t (filter p (range_with_len (a + 1) n)) ≡ true → (y ≡ a → ⊥) → t y ≡ true) → t y ≡ true
    go true q (inl s) h ih = ap t s.1 ∙ (and_parts (t a) (list_all t (filter p (range_with_len (a + 1) n))) h).0
    go true q (inr s) h ih = ih (and_parts (t a) (list_all t (filter p (range_with_len (a + 1) n))) h).1 s.1
    go false q (inl s) h ih = absurd (let z : true ≡ false = sym e ∙ ap p s.1 ∙ q in grind arith)
    go false q (inr s) h ih = ih h s.1

any_at : (t p : ℕ → Bool) (a n : ℕ) → list_any t (filter p (range_with_len a n)) ≡ true → (y : ℕ) × (p y ≡ true) × (t y ≡ true)
any_at t p a zero h = absurd (grind arith)
any_at t p a (suc n) h = go (p a) refl h (λ h. any_at t p (a + 1) n h)
  where
    in_two : (b : Bool) → t a ≡ b → p a ≡ true → (b || list_any t (filter p (range_with_len (a + 1) n))) ≡ true → (list_any t (filter p (range_with_len (a + 1) n)) ≡ true → (y : ℕ) × (p y ≡ true) × (t y ≡ true)) → (y : ℕ) × (p y ≡ true) × (t y ≡ true)
    in_two true ta pa h ih = (a, pa, ta)
    in_two false ta pa h ih = ih h

    go : (b : Bool) → p a ≡ b → list_any t (cond b (a ∷ filter p (range_with_len (a + 1) n)) (filter p (range_with_len (a + 1) n))) ≡ true → (list_any t (filter p (range_with_len (a + 1) n)) ≡ true → (y : ℕ) × (p y ≡ true) × (t y ≡ true)) → (y : ℕ) × (p y ≡ true) × (t y ≡ true)
    go true q h ih = in_two (t a) refl q h ih
    go false q h ih = ih h

none_at : (t p : ℕ → Bool) (a n : ℕ) → list_any t (filter p (range_with_len a n)) ≡ false → (y : ℕ) → a ≤ y → y < a + n → p y ≡ true → t y ≡ false
none_at t p a zero h y l l' e = absurd (omega (arith, l, l'))
none_at t p a (suc n) h y l l' e = go (p a) refl (same_or_not y a) h (λ h ne. none_at t p (a + 1) n h y (above y a l ne) (omega (arith, l')) e)
  where
    go : (b : Bool) → p a ≡ b → ((nat_eq y a ≡ true) × (y ≡ a)) ⊎ ((nat_eq y a ≡ false) × (y ≡ a → ⊥)) → list_any t (cond b (a ∷ filter p (range_with_len (a + 1) n)) (filter p (range_with_len (a + 1) n))) ≡ false → (list_any t (filter p (range_with_len (a + 1) n)) ≡ false → (y ≡ a → ⊥) → t y ≡ false) → t y ≡ false
    go true q (inl s) h ih = ap t s.1 ∙ or_false-left (t a) (list_any t (filter p (range_with_len (a + 1) n))) h
    go true q (inr s) h ih = ih (or_false-right (t a) (list_any t (filter p (range_with_len (a + 1) n))) h) s.1
    go false q (inl s) h ih = absurd (let z : true ≡ false = sym e ∙ ap p s.1 ∙ q in grind arith)
    go false q (inr s) h ih = ih h s.1

pub not_true : (a : Bool) → not a ≡ true → a ≡ false
not_true true e = absurd (grind arith)
not_true false e = refl

pub not_false : (a : Bool) → not a ≡ false → a ≡ true
not_false true e = refl
not_false false e = absurd (grind arith)

module _ (D : List Shape) (b : TypedBody) where
  -- two members of one group
  pub record Both (x y : ℕ) : Type 0 where
    pub free : conflict D b x y ≡ false
    pub one_fixed : x ≤ b.args → y ≤ b.args → ⊥
    pub types : slice_get b.locals x ≡ slice_get b.locals y
    pub first_unlent : borrowed D b x ≡ false
    pub second_unlent : borrowed D b y ≡ false
    pub first_within : x < length b.locals
    pub second_within : y < length b.locals

  swapped : (x y : ℕ) → Both x y → Both y x
  unfolding conflict
  swapped x y h = record {
    free = or_swap (hurts D b x y) (hurts D b y x) h.free;
    one_fixed = λ l k. h.one_fixed k l;
    types = sym h.types;
    first_unlent = h.second_unlent;
    second_unlent = h.first_unlent;
    first_within = h.second_within;
    second_within = h.first_within;
  }
    where
      or_swap : (a c : Bool) → (a || c) ≡ false → (c || a) ≡ false
      or_swap true c e = absurd (grind arith)
      or_swap false true e = absurd (grind arith)
      or_swap false false e = refl

  -- homes at some time
  pub record Good (home : ℕ → ℕ) : Type 0 where
    pub pairs : (x y : ℕ) → home x ≡ home y → (x ≡ y) ⊎ Both x y
    pub again : (x : ℕ) → home (home x) ≡ home x
    pub least : (x : ℕ) → home x ≤ x

  alone : Good (λ x. x)
  alone = record { pairs = λ x y e. inl e; again = λ x. refl; least = λ x. omega arith }

  module _ (home : ℕ → ℕ) (good : Good home) (c : Pair) (fit : may_share D b c ≡ true) where
    fit_types : (slice_get b.locals c.0 ≡ slice_get b.locals c.1) × ((c.0 < length b.locals) × (c.1 < length b.locals))
    fit_types = go (slice_get b.locals c.0) (slice_get b.locals c.1) refl refl (and_parts (one_type (slice_get b.locals c.0) (slice_get b.locals c.1)) (not (borrowed D b c.0) && not (borrowed D b c.1)) fit).0
      where
        go : (o p : Option Tree) → slice_get b.locals c.0 ≡ o → slice_get b.locals c.1 ≡ p → one_type o p ≡ true → (slice_get b.locals c.0 ≡ slice_get b.locals c.1) × ((c.0 < length b.locals) × (c.1 < length b.locals))
        go (Some t) (Some u) e1 e2 h = (e1 ∙ ap Some (same_tree_is t u h) ∙ sym e2, (slice_get_within b.locals c.0 t e1, slice_get_within b.locals c.1 u e2))
        go None p e1 e2 h = absurd (grind arith)
        go (Some t) None e1 e2 h = absurd (grind arith)

    fit_lent : (borrowed D b c.0 ≡ false) × (borrowed D b c.1 ≡ false)
    fit_lent =
        let h = (and_parts (one_type (slice_get b.locals c.0) (slice_get b.locals c.1)) (not (borrowed D b c.0) && not (borrowed D b c.1)) fit).1 in
        let k = and_parts (not (borrowed D b c.0)) (not (borrowed D b c.1)) h in
        (not_true (borrowed D b c.0) k.0, not_true (borrowed D b c.1) k.1)

    -- a member of the group of one of the two
    Member : ℕ → ℕ → Type 0
    Member x z = (slice_get b.locals x ≡ slice_get b.locals z) × ((borrowed D b x ≡ false) × (x < length b.locals))

    member : (z : ℕ) → borrowed D b z ≡ false → z < length b.locals → (x : ℕ) → home x ≡ home z → Member x z
    unfolding Member
    member z nl l x e = go (good.pairs x z e)
      where
        go : (x ≡ z) ⊎ Both x z → (slice_get b.locals x ≡ slice_get b.locals z) × ((borrowed D b x ≡ false) × (x < length b.locals))
        go (inl s) = (ap (slice_get b.locals) s, (ap (borrowed D b) s ∙ nl, subst (λ x. x < length b.locals) (sym s) l))
        go (inr h) = (h.types, (h.first_unlent, h.first_within))

    module _ (join : may_join D b home c ≡ true) where
      agreed : (x y : ℕ) → x < length b.locals → y < length b.locals → home x ≡ home c.0 → home y ≡ home c.1 → agree D b x y ≡ true
      agreed x y lx ly ex ey =
          let all = all_at (λ x. list_all (agree D b x) (members b home c.1)) (λ y. nat_eq (home y) (home c.0)) 0 (length b.locals) join x (omega arith) (omega (arith, lx)) (eq-eqb (home x) (home c.0) ex) in
          all_at (agree D b x) (λ y. nat_eq (home y) (home c.1)) 0 (length b.locals) all y (omega arith) (omega (arith, ly)) (eq-eqb (home y) (home c.1) ey)

      met : (x y : ℕ) → home x ≡ home c.0 → home y ≡ home c.1 → Both x y
      unfolding Member
      met x y ex ey =
          let (tx, (nx, lx)) = member c.0 fit_lent.0 fit_types.1.0 x ex in
          let (ty, (ny, ly)) = member c.1 fit_lent.1 fit_types.1.1 y ey in
          let k = and_parts (not (conflict D b x y)) (not (is_fixed b x && is_fixed b y)) (agreed x y lx ly ex ey) in
          record {
            free = not_true (conflict D b x y) k.0;
            one_fixed = λ l m. (let z : true ≡ false = sym (ap₂ (λ a c. a && c) (le-leb x b.args l) (le-leb y b.args m)) ∙ not_true (is_fixed b x && is_fixed b y) k.1 in absurd (grind arith));
            types = tx ∙ fit_types.0 ∙ sym ty;
            first_unlent = nx;
            second_unlent = ny;
            first_within = lx;
            second_within = ly;
          }

      abbrev least_of : ℕ
      least_of = min (home c.0) (home c.1)

      -- a local of the two groups, or another one
      abbrev In : ℕ → Type 0
      In x = (home x ≡ home c.0) ⊎ (home x ≡ home c.1)

      abbrev Placed : ℕ → Type 0
      Placed x = (In x × (joined home c x ≡ min (home c.0) (home c.1))) ⊎ ((In x → ⊥) × (joined home c x ≡ home x))

      placed : (x : ℕ) → Placed x
      placed x = go (same_or_not (home x) (home c.0)) (same_or_not (home x) (home c.1))
        where
          go : ((nat_eq (home x) (home c.0) ≡ true) × (home x ≡ home c.0)) ⊎ ((nat_eq (home x) (home c.0) ≡ false) × (home x ≡ home c.0 → ⊥)) → ((nat_eq (home x) (home c.1) ≡ true) × (home x ≡ home c.1)) ⊎ ((nat_eq (home x) (home c.1) ≡ false) × (home x ≡ home c.1 → ⊥)) → Placed x
          go (inl p) q = inl (inl p.1, if_true (min (home c.0) (home c.1)) (home x) (ap (λ b. b || nat_eq (home x) (home c.1)) p.0))
          go (inr p) (inl q) = inl (inr q.1, if_true (min (home c.0) (home c.1)) (home x) (ap₂ (λ b c. b || c) p.0 q.0))
          go (inr p) (inr q) = inr ((λ h. out p.1 q.1 h), if_false (min (home c.0) (home c.1)) (home x) (ap₂ (λ b c. b || c) p.0 q.0))
            where
              out : (home x ≡ home c.0 → ⊥) → (home x ≡ home c.1 → ⊥) → In x → ⊥
              out n m (inl e) = n e
              out n m (inr e) = m e

      -- the least is one of the two homes
      one_of : (min (home c.0) (home c.1) ≡ home c.0) ⊎ (min (home c.0) (home c.1) ≡ home c.1)
      one_of = go (cases_lt (home c.0) (home c.1))
        where
          go : (home c.0 < home c.1) ⊎ (home c.1 ≤ home c.0) → (min (home c.0) (home c.1) ≡ home c.0) ⊎ (min (home c.0) (home c.1) ≡ home c.1)
          go (inl l) = inl (omega (arith, l))
          go (inr l) = inr (omega (arith, l))

      least_in : (z : ℕ) → z ≡ min (home c.0) (home c.1) → (z ≡ home c.0) ⊎ (z ≡ home c.1)
      least_in z e = go one_of
        where
          go : (min (home c.0) (home c.1) ≡ home c.0) ⊎ (min (home c.0) (home c.1) ≡ home c.1) → (z ≡ home c.0) ⊎ (z ≡ home c.1)
          go (inl q) = inl (e ∙ q)
          go (inr q) = inr (e ∙ q)

      pairs_joined : (x y : ℕ) → joined home c x ≡ joined home c y → (x ≡ y) ⊎ Both x y
      pairs_joined x y e = go (placed x) (placed y)
        where
          two : In x → In y → (x ≡ y) ⊎ Both x y
          two (inl p) (inl q) = good.pairs x y (p ∙ sym q)
          two (inr p) (inr q) = good.pairs x y (p ∙ sym q)
          two (inl p) (inr q) = inr (met x y p q)
          two (inr p) (inl q) = inr (swapped y x (met y x q p))

          go : Placed x → Placed y → (x ≡ y) ⊎ Both x y
          go (inl p) (inl q) = two p.0 q.0
          go (inl p) (inr q) = absurd (q.0 (least_in (home y) (sym q.1 ∙ sym e ∙ p.1)))
          go (inr p) (inl q) = absurd (p.0 (least_in (home x) (sym p.1 ∙ e ∙ q.1)))
          go (inr p) (inr q) = good.pairs x y (sym p.1 ∙ e ∙ q.1)

      in_least : In (min (home c.0) (home c.1))
      in_least = go one_of
        where
          go : (min (home c.0) (home c.1) ≡ home c.0) ⊎ (min (home c.0) (home c.1) ≡ home c.1) → In (min (home c.0) (home c.1))
          go (inl q) = inl (ap home q ∙ good.again c.0)
          go (inr q) = inr (ap home q ∙ good.again c.1)

      again_joined : (x : ℕ) → joined home c (joined home c x) ≡ joined home c x
      again_joined x = go (placed x) (placed (min (home c.0) (home c.1))) (placed (home x))
        where
          go : Placed x → Placed (min (home c.0) (home c.1)) → Placed (home x) → joined home c (joined home c x) ≡ joined home c x
          go (inl p) (inl q) r = ap (joined home c) p.1 ∙ q.1 ∙ sym p.1
          go (inl p) (inr q) r = absurd (q.0 in_least)
          go (inr p) q (inl r) = absurd (p.0 (back r.0))
            where
              back : In (home x) → In x
              back (inl h) = inl (sym (good.again x) ∙ h)
              back (inr h) = inr (sym (good.again x) ∙ h)
          go (inr p) q (inr r) = ap (joined home c) p.1 ∙ r.1 ∙ good.again x ∙ sym p.1

      least_joined : (x : ℕ) → joined home c x ≤ x
      least_joined x = go (placed x)
        where
          below : In x → min (home c.0) (home c.1) ≤ x
          below (inl h) = (let l = good.least x in omega (arith, l, h))
          below (inr h) = (let l = good.least x in omega (arith, l, h))

          go : Placed x → joined home c x ≤ x
          go (inl p) = subst (λ z. z ≤ x) (sym p.1) (below p.0)
          go (inr p) = subst (λ z. z ≤ x) (sym p.1) (good.least x)

      good_joined : Good (joined home c)
      good_joined = record { pairs = pairs_joined; again = again_joined; least = least_joined }

  good_after : (cs : List Pair) (home : ℕ → ℕ) → Good home → Good (homes_after D b home (filter (may_share D b) cs))
  good_after [] home good = good
  good_after (c ∷ cs) home good = go (may_share D b c) refl (λ home good. good_after cs home good)
    where
      step : (d : Bool) → may_join D b home c ≡ d → may_share D b c ≡ true → Good (if d then joined home c else home)
      step true j f = good_joined home good c f j
      step false j f = good

      go : (d : Bool) → may_share D b c ≡ d → ((home : ℕ → ℕ) → Good home → Good (homes_after D b home (filter (may_share D b) cs))) → Good (homes_after D b home (cond d (c ∷ filter (may_share D b) cs) (filter (may_share D b) cs)))
      go true f ih = ih (if may_join D b home c then joined home c else home) (step (may_join D b home c) refl f)
      go false f ih = ih home good

  pub good : Good (home_of D b)
  unfolding home_of
  good = good_after (flat_map (λ (k : TypedBlock). flat_map copies k.stmts) b.blocks) (λ x. x) alone

  abbrev home : ℕ → ℕ
  home = home_of D b

  abbrev shared : ℕ → Bool
  shared = is_shared b (home_of D b)

  pub types : (x : ℕ) → slice_get b.locals (home x) ≡ slice_get b.locals x
  types x = go (good.pairs (home x) x (good.again x))
    where
      go : (home_of D b x ≡ x) ⊎ Both (home_of D b x) x → slice_get b.locals (home_of D b x) ≡ slice_get b.locals x
      go (inl e) = ap (slice_get b.locals) e
      go (inr h) = h.types

  pub fixed_self : (x : ℕ) → x ≤ b.args → home x ≡ x
  fixed_self x l = go (good.pairs (home x) x (good.again x))
    where
      go : (home_of D b x ≡ x) ⊎ Both (home_of D b x) x → home_of D b x ≡ x
      go (inl e) = e
      go (inr h) = absurd (h.one_fixed (let k = good.least x in omega (arith, k, l)) l)

  -- a local that isn't shared is the only one with its home
  pub sole : (x y : ℕ) → shared x ≡ false → home y ≡ home x → y ≡ x
  unfolding is_shared
  sole x y n e = go (good.pairs y x e)
    where
      go : (y ≡ x) ⊎ Both y x → y ≡ x
      go (inl s) = s
      go (inr h) = eqb-true y x (not_false (nat_eq y x) (none_at (λ y. not (nat_eq y x)) (λ y. nat_eq (home_of D b y) (home_of D b x)) 0 (length b.locals) n y (omega arith) (let l = h.first_within in omega (arith, l)) (eq-eqb (home_of D b y) (home_of D b x) e)))

  pub sole_self : (x : ℕ) → shared x ≡ false → home x ≡ x
  sole_self x n = sole x (home x) n (good.again x)

  pub other : (x : ℕ) → shared x ≡ true → (y : ℕ) × (home y ≡ home x) × (y ≡ x → ⊥)
  unfolding is_shared
  other x h =
      let (y, p, t) = any_at (λ y. not (nat_eq y x)) (λ y. nat_eq (home_of D b y) (home_of D b x)) 0 (length b.locals) h in
      (y, eqb-true (home_of D b y) (home_of D b x) p, λ e. (let z : true ≡ false = sym (eq-eqb y x e) ∙ not_true (nat_eq y x) t in absurd (grind arith)))

  pub shared_of : (x y : ℕ) → home y ≡ home x → (y ≡ x → ⊥) → shared x ≡ true
  shared_of x y e ne = go (shared x) refl
    where
      go : (c : Bool) → is_shared b (home_of D b) x ≡ c → is_shared b (home_of D b) x ≡ true
      go true q = q
      go false q = absurd (ne (sole x y q e))

  -- no borrowed local is shared
  pub lent_sole : (x : ℕ) → borrowed D b x ≡ true → shared x ≡ false
  lent_sole x l = go (shared x) refl
    where
      out : (y : ℕ) → (y ≡ x) ⊎ Both y x → (y ≡ x → ⊥) → ⊥
      out y (inl e) ne = ne e
      out y (inr h) ne = (let z : true ≡ false = sym l ∙ h.second_unlent in grind arith)

      go : (c : Bool) → is_shared b (home_of D b) x ≡ c → is_shared b (home_of D b) x ≡ false
      go true q = (let (y, e, ne) = other x q in absurd (out y (good.pairs y x e) ne))
      go false q = q

  pub unlent : (x : ℕ) → shared x ≡ true → borrowed D b x ≡ false
  unlent x s = go (borrowed D b x) refl
    where
      go : (c : Bool) → borrowed D b x ≡ c → borrowed D b x ≡ false
      go true q = absurd (let z : true ≡ false = sym s ∙ lent_sole x q in grind arith)
      go false q = q

  -- the home of a shared local is shared
  pub home_shared : (x : ℕ) → shared x ≡ true → shared (home x) ≡ true
  home_shared x s = go (same_or_not x (home x))
    where
      go : ((nat_eq x (home_of D b x) ≡ true) × (x ≡ home_of D b x)) ⊎ ((nat_eq x (home_of D b x) ≡ false) × (x ≡ home_of D b x → ⊥)) → is_shared b (home_of D b) (home_of D b x) ≡ true
      go (inl q) = ap (is_shared b (home_of D b)) (sym q.1) ∙ s
      go (inr q) = shared_of (home x) x (sym (good.again x)) q.1

  -- members of a group don't conflict
  pub free : (x y : ℕ) → home x ≡ home y → (x ≡ y → ⊥) → conflict D b x y ≡ false
  free x y e ne = go (good.pairs x y e)
    where
      go : (x ≡ y) ⊎ Both x y → conflict D b x y ≡ false
      go (inl q) = absurd (ne q)
      go (inr h) = h.free
