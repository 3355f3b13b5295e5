-- What the test tells is what paths leave of a unit: paths of as many edges as there are ways to come to a block are enough.
use Rattle.std.proofs.Common.{◌≡◌, refl, sym, ap, ◌∙◌, subst, ◌⊎◌, inl, inr, ℕ, zero, suc, ◌+◌, ◌*◌, ◌<◌, Bool, true, false, ◌==◌, ◌&&◌, ◌||◌, List, [], ◌∷◌, length, Option, Some, None, slice_get, arith}
use Rattle.std.specs.List.{Contains, list_any, range_with_len}
use Rattle.std.proofs.lemmas.Bool.{eq-eqb, eqb-true, and_parts, and_from, or_cases, or_left, or_right}
use Rattle.std.proofs.lemmas.List.Folds.{Any-from_list_any, list_any-from_Any, list_any_at}
use Rattle.std.proofs.lemmas.List.FromFn.{length-range_with_len, get_or-range_with_len}
use Rattle.std.proofs.lemmas.Option.{slice_get_within}
use Rattle.bit_rows.specs.Rows.{stands}
use Rattle.mir_syntax.specs.declared.body.Place.{Place}
use Rattle.mir_syntax.specs.Crate.{TypedBlock, TypedBody}
use Rattle.mir_syntax.specs.Parts.{targets}
use Rattle.liveness.specs.Bits.{stands_has, has_stands}
use Rattle.liveness.proofs.Growing.{Each, enough}
use Rattle.move_paths.specs.Inits.{after_block, is_argument, ComesBy, Comes}
use Rattle.move_paths.specs.Rows.{has}
use Rattle.move_paths.specs.Decided.{leaves, leaves_from, begins, comes_by, comes}

has_is : (now x : Bool) → has now x ≡ true → x ≡ now
has_is true x h = h
has_is false true h = absurd (grind arith)
has_is false false h = refl

has_itself : (now : Bool) → has now now ≡ true
has_itself true = refl
has_itself false = refl

any_more : (p q : ℕ → Bool) → ((a : ℕ) → p a ≡ true → q a ≡ true) → (as' : List ℕ) → list_any p as' ≡ true → list_any q as' ≡ true
any_more p q h as' k = let m = Any-from_list_any p as' k in list_any-from_Any q as' (m.0, m.1, m.2, m.3, h m.1 m.4)

any_below : (p : ℕ → Bool) (n a : ℕ) → a < n → p a ≡ true → list_any p (range_with_len 0 n) ≡ true
any_below p n a l h = list_any_at p (range_with_len 0 n) a 0 (omega (arith, l, length-range_with_len 0 n)) (ap p (get_or-range_with_len 0 n a 0 l ∙ (let z : 0 + a ≡ a = omega arith in z)) ∙ h)

module _ (b : TypedBody) (u : Place) where
  -- the block that leaves it so
  record Left (i : ℕ) (now : Bool) (a : ℕ) (was : Bool) : Type 0 where
    pub block : TypedBlock
    pub at : slice_get b.blocks a ≡ Some block
    pub goes : Contains (targets block.term) i
    pub is : now ≡ after_block u block was

  left_is : (i : ℕ) (now : Bool) (a : ℕ) (was : Bool) → leaves u i now was (slice_get b.blocks a) ≡ true → Left i now a was
  left_is i now a was h = go (slice_get b.blocks a) refl h
    where
      go : (o : Option TypedBlock) → slice_get b.blocks a ≡ o → leaves u i now was o ≡ true → Left i now a was
      go None e h = absurd (cc)
      go (Some k) e h =
          let parts = and_parts (stands i (targets k.term)) (has now (after_block u k was)) h in
          record { block = k; at = e; goes = stands_has i (targets k.term) parts.0; is = sym (has_is now (after_block u k was) parts.1) }

  left_of : (i : ℕ) (now : Bool) (a : ℕ) (was : Bool) → Left i now a was → leaves u i now was (slice_get b.blocks a) ≡ true
  left_of i now a was l =
      ap (leaves u i now was) l.at
      ∙ and_from (stands i (targets l.block.term)) (has now (after_block u l.block was)) (has_stands i (targets l.block.term) l.goes) (subst (λ (x : Bool). has now x ≡ true) l.is (has_itself now))

  -- ---- the test tells what the paths do

  abbrev from : ℕ → ℕ → Bool → ℕ → Bool
  from m i now = leaves_from b u (λ a was. comes_by b u m a was) i now

  start_is : (i : ℕ) (now : Bool) → begins b u i now ≡ true → Comes b u i now
  start_is i now s =
      let parts = and_parts (i == 0) (has now (is_argument b.args u)) s in
      (0, (eqb-true i 0 parts.0, sym (has_is now (is_argument b.args u) parts.1)))

  start_of : (i : ℕ) (now : Bool) → i ≡ 0 → now ≡ is_argument b.args u → begins b u i now ≡ true
  start_of i now e is = and_from (i == 0) (has now (is_argument b.args u)) (eq-eqb i 0 e) (subst (λ (x : Bool). has now x ≡ true) is (has_itself now))

  -- over block a, at whose start the unit was so
  way_is : (m i : ℕ) (now : Bool) (a : ℕ) (was : Bool) → (comes_by b u m a was ≡ true → Comes b u a was) → (comes_by b u m a was && leaves u i now was (slice_get b.blocks a)) ≡ true → Comes b u i now
  way_is m i now a was before h =
      let parts = and_parts (comes_by b u m a was) (leaves u i now was (slice_get b.blocks a)) h in
      let path = before parts.0 in
      let l = left_is i now a was parts.1 in
      (suc path.0, (a, l.block, was, path.1, l.at, l.goes, l.is))

  by_is : (m i : ℕ) (now : Bool) → comes_by b u m i now ≡ true → Comes b u i now
  by_is zero i now h = absurd (cc)
  by_is (suc m) i now h = elim (or_cases (begins b u i now) (list_any (from m i now) (range_with_len 0 (length b.blocks))) h) [
    | inl s ↦ start_is i now s
    | inr r ↦ (let found = Any-from_list_any (from m i now) (range_with_len 0 (length b.blocks)) r in
        elim (or_cases (comes_by b u m found.1 true && leaves u i now true (slice_get b.blocks found.1)) (comes_by b u m found.1 false && leaves u i now false (slice_get b.blocks found.1)) found.4) [
          | inl w ↦ way_is m i now found.1 true (by_is m found.1 true) w
          | inr w ↦ way_is m i now found.1 false (by_is m found.1 false) w
        ])
  ]

  from_of : (m i : ℕ) (now : Bool) (a : ℕ) (was : Bool) → comes_by b u m a was ≡ true → leaves u i now was (slice_get b.blocks a) ≡ true → from m i now a ≡ true
  from_of m i now a true c l = or_left (comes_by b u m a true && leaves u i now true (slice_get b.blocks a)) (comes_by b u m a false && leaves u i now false (slice_get b.blocks a)) (and_from (comes_by b u m a true) (leaves u i now true (slice_get b.blocks a)) c l)
  from_of m i now a false c l = or_right (comes_by b u m a true && leaves u i now true (slice_get b.blocks a)) (comes_by b u m a false && leaves u i now false (slice_get b.blocks a)) (and_from (comes_by b u m a false) (leaves u i now false (slice_get b.blocks a)) c l)

  by_of : (n i : ℕ) (now : Bool) → ComesBy b u n i now → comes_by b u (suc n) i now ≡ true
  by_of zero i now p = or_left (begins b u i now) (list_any (from zero i now) (range_with_len 0 (length b.blocks))) (start_of i now p.0 p.1)
  by_of (suc n) i now (a, k, was, path, at, goes, is) =
      let left : Left i now a was = record { block = k; at = at; goes = goes; is = is } in
      or_right (begins b u i now) (list_any (from (suc n) i now) (range_with_len 0 (length b.blocks)))
      (any_below (from (suc n) i now) (length b.blocks) a (slice_get_within b.blocks a k at) (from_of (suc n) i now a was (by_of n a was path) (left_of i now a was left)))

  -- one edge more does no harm
  from_more : (m i : ℕ) (now : Bool) (a : ℕ) → ((was : Bool) → comes_by b u m a was ≡ true → comes_by b u (suc m) a was ≡ true) → from m i now a ≡ true → from (suc m) i now a ≡ true
  from_more m i now a more h = elim (or_cases (comes_by b u m a true && leaves u i now true (slice_get b.blocks a)) (comes_by b u m a false && leaves u i now false (slice_get b.blocks a)) h) [
    | inl w ↦ (let parts = and_parts (comes_by b u m a true) (leaves u i now true (slice_get b.blocks a)) w in from_of (suc m) i now a true (more true parts.0) parts.1)
    | inr w ↦ (let parts = and_parts (comes_by b u m a false) (leaves u i now false (slice_get b.blocks a)) w in from_of (suc m) i now a false (more false parts.0) parts.1)
  ]

  grows : (m i : ℕ) (now : Bool) → comes_by b u m i now ≡ true → comes_by b u (suc m) i now ≡ true
  grows zero i now h = absurd (cc)
  grows (suc m) i now h = elim (or_cases (begins b u i now) (list_any (from m i now) (range_with_len 0 (length b.blocks))) h) [
    | inl s ↦ or_left (begins b u i now) (list_any (from (suc m) i now) (range_with_len 0 (length b.blocks))) s
    | inr r ↦ or_right (begins b u i now) (list_any (from (suc m) i now) (range_with_len 0 (length b.blocks)))
        (any_more (from m i now) (from (suc m) i now) (λ a. from_more m i now a (λ was. grows m a was)) (range_with_len 0 (length b.blocks)) r)
  ]

-- ---- the ways to come to a block

ways : ℕ → List (ℕ × Bool)
ways zero = []
ways (suc n) = (n, true) ∷ ((n, false) ∷ ways n)

ways_long : (n : ℕ) → length (ways n) ≡ 2 * n
unfolding ways
ways_long zero = refl
ways_long (suc n) = let r = ways_long n in omega (arith, r)

module _ (P : ℕ × Bool → Type 0) where
  way_at : (n i : ℕ) (now : Bool) → i < n → Each P (ways n) → P (i, now)
  unfolding ways
  way_at zero i now l e = absurd (omega arith)
  way_at (suc n) i now l e = elim (let c : (i ≡ n) ⊎ (i < n) = grind arith in c) [ inl s ↦ subst (λ (k : ℕ). P (k, now)) (sym s) (last now) | inr r ↦ way_at n i now r e.1.1 ]
    where
      last : (now : Bool) → P (n, now)
      last true = e.0
      last false = e.1.0

  ways_all : (n : ℕ) → ((i : ℕ) (now : Bool) → i < n → P (i, now)) → Each P (ways n)
  unfolding ways
  ways_all zero h = tt
  ways_all (suc n) h = (h n true (omega arith), (h n false (omega arith), ways_all n (λ i now l. h i now (omega (arith, l)))))

module _ (b : TypedBody) (u : Place) where
  StaysSame : ℕ → ℕ × Bool → Type 0
  StaysSame m w = comes_by b u m w.0 w.1 ≡ comes_by b u (suc m) w.0 w.1

  step : (m : ℕ) → Each (StaysSame m) (ways (length b.blocks)) → Each (StaysSame (suc m)) (ways (length b.blocks))
  unfolding StaysSame
  step m e = ways_all (StaysSame (suc m)) (length b.blocks) (λ i now l. one i now)
    where
      each : (i : ℕ) (now : Bool) (a : ℕ) (was : Bool) → (comes_by b u m a was && leaves u i now was (slice_get b.blocks a)) ≡ (comes_by b u (suc m) a was && leaves u i now was (slice_get b.blocks a))
      each i now a was = go (slice_get b.blocks a) refl
        where
          nothing : (c d : Bool) → (c && false) ≡ (d && false)
          nothing true true = refl
          nothing true false = refl
          nothing false true = refl
          nothing false false = refl

          go : (o : Option TypedBlock) → slice_get b.blocks a ≡ o → (comes_by b u m a was && leaves u i now was o) ≡ (comes_by b u (suc m) a was && leaves u i now was o)
          go None s = nothing (comes_by b u m a was) (comes_by b u (suc m) a was)
          go (Some k) s = ap (λ (c : Bool). c && leaves u i now was (Some k)) (way_at (StaysSame m) (length b.blocks) a was (slice_get_within b.blocks a k s) e)

      one : (i : ℕ) (now : Bool) → comes_by b u (suc m) i now ≡ comes_by b u (suc (suc m)) i now
      one i now =
          let same : from b u m i now ≡ from b u (suc m) i now = λ j a. each i now a true j || each i now a false j in
          ap (λ (p : ℕ → Bool). begins b u i now || list_any p (range_with_len 0 (length b.blocks))) same

  pub comes_told : (i : ℕ) (now : Bool) → i < length b.blocks → Comes b u i now → comes b u i now ≡ true
  unfolding comes StaysSame
  comes_told i now l h =
      let all = enough (ways (length b.blocks)) (λ m w. comes_by b u m w.0 w.1) (λ m w g. grows b u m w.0 w.1 g) step (suc h.0) in
      let at = way_at (λ w. comes_by b u (suc h.0) w.0 w.1 ≡ true → comes_by b u (length (ways (length b.blocks))) w.0 w.1 ≡ true) (length b.blocks) i now l all in
      subst (λ (m : ℕ). comes_by b u m i now ≡ true) (ways_long (length b.blocks)) (at (by_of b u h.0 i now h.1))

  pub told_comes : (i : ℕ) (now : Bool) → comes b u i now ≡ true → Comes b u i now
  unfolding comes
  told_comes i now h = by_is b u (2 * length b.blocks) i now h
