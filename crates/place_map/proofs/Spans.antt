-- The tracked places at or under a place lie side by side, and the place itself is the first of them.
use Rattle.std.proofs.Common.{◌≡◌, inl, inr, refl, sym, ap, ◌∙◌, subst, ℕ, ◌≤◌, ◌<◌, Bool, true, false, nat_lt, List, [], ◌∷◌, length, Option, Some, None, is_some, IsTrue, slice_get, get_or, arith, rules}
use Rattle.std.specs.List.Sorted.{IsPartitionedBy, IsPartitionPoint}
use Rattle.std.proofs.lemmas.Bool.{cases_eq, cases_Bool}
use Rattle.std.proofs.lemmas.Option.{slice_get-get_or, slice_get_within, get_or_from_slice_get}
use Rattle.std.proofs.lemmas.List.{append-nil, length-append}
use Rattle.mir_syntax.specs.declared.body.Proj.{Proj}
use Rattle.mir_syntax.specs.declared.body.Place.{Place}
use Rattle.place_map.specs.declared.side.Side.{Side}
use Rattle.place_map.specs.declared.side.Side.TheVariants.{Before, Within, After}
use Rattle.place_map.specs.Order.{place_side, is_before, is_until, IsOrdered}
use Rattle.place_map.specs.Tracked.{way, SpansUnder, IsNumber}
use Rattle.place_map.proofs.Sides.{is_within, level, side_rises, side_way, way_self, way_is}

abbrev pub before : Place → Place → Bool
before p q = is_before (place_side q p)

abbrev pub until : Place → Place → Bool
until p q = is_until (place_side q p)

before_low : (s r : Side) → level s ≤ level r → is_before r ≡ true → is_before s ≡ true
before_low Before r l e = refl
before_low Within Before l e = absurd (omega arith)
before_low After Before l e = absurd (omega arith)
before_low Within Within l e = absurd cc
before_low Within After l e = absurd cc
before_low After Within l e = absurd cc
before_low After After l e = absurd cc

until_low : (s r : Side) → level s ≤ level r → is_until r ≡ true → is_until s ≡ true
until_low Before r l e = refl
until_low Within r l e = refl
until_low After Before l e = absurd (omega arith)
until_low After Within l e = absurd (omega arith)
until_low After After l e = absurd cc

within_is : (s : Side) → is_before s ≡ false → is_until s ≡ true → is_within s ≡ true
within_is Before a b = absurd cc
within_is Within a b = refl
within_is After a b = absurd cc

not_before : (s : Side) → is_within s ≡ true → is_before s ≡ true → ⊥
not_before Before a b = cc
not_before Within a b = cc
not_before After a b = cc

not_after : (s : Side) → is_within s ≡ true → is_until s ≡ false → ⊥
not_after Before a b = cc
not_after Within a b = cc
not_after After a b = cc

module _ (places : List Place) (ordered : IsOrdered places) (p : Place) where
  at : (i : ℕ) (d : Place) → i < length places → slice_get places i ≡ Some (get_or places i d)
  at i d l = slice_get-get_or places i d l

  lower : (i j : ℕ) (d : Place) → i ≤ j → j < length places → level (place_side (get_or places i d) p) ≤ level (place_side (get_or places j d) p)
  lower i j d le lt = elim (cases_eq i j) [
    | inl e ↦ rw e (omega arith)
    | inr ne ↦ side_rises (get_or places i d) (get_or places j d) p (ordered.direct j (get_or places j d) (at j d lt)) (ordered.rising i j (get_or places i d) (get_or places j d) (omega arith) (at i d (omega arith)) (at j d lt))
  ]

  pub before_parted : IsPartitionedBy (before p) places
  before_parted i j d le lt e = before_low (place_side (get_or places i d) p) (place_side (get_or places j d) p) (lower i j d le lt) e

  pub until_parted : IsPartitionedBy (until p) places
  until_parted i j d le lt e = until_low (place_side (get_or places i d) p) (place_side (get_or places j d) p) (lower i j d le lt) e

  module _ (from to : ℕ) (first : IsPartitionPoint (λ q. before p q ≡ true) (λ q. before p q ≡ false) places from) (last : IsPartitionPoint (λ q. until p q ≡ true) (λ q. until p q ≡ false) places to) where
    -- where the i-th place is within, and where it isn't
    starts : (i : ℕ) (q : Place) → slice_get places i ≡ Some q → is_within (place_side q p) ≡ true → (from ≤ i) × (i < to)
    starts i q e w =
        let l = slice_get_within places i q e in
        let same : get_or places i q ≡ q = get_or_from_slice_get places i q q e in
        let low : i < from → ⊥ = λ h. not_before (place_side q p) w (subst (λ z. before p z ≡ true) same (first.0 i q (omega arith) h)) in
        let high : to ≤ i → ⊥ = λ h. not_after (place_side q p) w (subst (λ z. until p z ≡ false) same (last.1 i q h l)) in (
          elim (cases_Bool (nat_lt i from)) [ inl h ↦ absurd (low (grind arith)) | inr h ↦ grind arith ],
          elim (cases_Bool (nat_lt i to)) [ inl h ↦ grind arith | inr h ↦ absurd (high (grind arith)) ],
        )

    stays : (i : ℕ) (q : Place) → slice_get places i ≡ Some q → (from ≤ i) × (i < to) → is_within (place_side q p) ≡ true
    stays i q e h =
        let l = slice_get_within places i q e in
        let same : get_or places i q ≡ q = get_or_from_slice_get places i q q e in
        within_is (place_side q p) (subst (λ z. before p z ≡ false) same (first.1 i q h.0 l)) (subst (λ z. until p z ≡ true) same (last.0 i q (omega arith) h.1))

    pub spans : SpansUnder places p from to
    spans i q e = (
      (λ h. starts i q e (sym (side_way q p (ordered.direct i q e)) ∙ search rules)),
      (λ h. (let w : is_some (way p q) ≡ true = side_way q p (ordered.direct i q e) ∙ stays i q e h in search rules)),
    )

    pub spans_up : from ≤ length places → from ≤ to
    spans_up l = elim (cases_Bool (nat_lt to from)) [
      | inl h ↦ (let low : to < from = grind arith in
          let a : before p (get_or places to p) ≡ true = first.0 to p (omega arith) low in
          let b : until p (get_or places to p) ≡ false = last.1 to p (omega arith) (omega arith) in
          absurd (clash (place_side (get_or places to p) p) a b))
      | inr h ↦ grind arith
    ]
      where
        clash : (s : Side) → is_before s ≡ true → is_until s ≡ false → ⊥
        clash Before a b = cc
        clash Within a b = cc
        clash After a b = cc

-- ---- the number of the place
module _ (places : List Place) (p : Place) (from to : ℕ) (span : SpansUnder places p from to) where
  self_in : (i : ℕ) → slice_get places i ≡ Some p → (from ≤ i) × (i < to)
  self_in i e = (span i p e).0 (let h : is_some (way p p) ≡ true = ap is_some (way_self p) in search rules)

  pub none_between : from ≡ to → (i : ℕ) → slice_get places i ≡ Some p → ⊥
  none_between n i e = (let h = self_in i e in omega arith)

  pub is_first : (q : Place) → slice_get places from ≡ Some q → (from ≡ to → ⊥) → from ≤ to → length q.proj ≡ length p.proj → slice_get places from ≡ Some p
  is_first q e apart up long = go (way p q) refl
    where
      go : (o : Option (List Proj)) → way p q ≡ o → slice_get places from ≡ Some p
      go None n = absurd (let h : IsTrue (is_some (way p q)) = (span from q e).1 (omega arith, (let l : from < to = grind arith in l)) in let z : is_some (way p q) ≡ false = ap is_some n in search rules)
      go (Some []) n = (let is : q ≡ p = way_is p q [] n ∙ ap (λ ps. record { local = p.local; proj = ps }) (append-nil p.proj) in e ∙ ap Some is)
      go (Some (r ∷ rs)) n = absurd (let is = way_is p q (r ∷ rs) n in let more = ap (λ (z : Place). length z.proj) is in let sum = length-append p.proj (r ∷ rs) in omega arith)

  pub none_is : IsOrdered places → (q : Place) → slice_get places from ≡ Some q → (length q.proj ≡ length p.proj → ⊥) → (i : ℕ) → slice_get places i ≡ Some p → ⊥
  none_is ordered q e other i here = (let h = self_in i here in elim (cases_eq from i) [
    | inl same ↦ (let is : q ≡ p = (let two = sym e ∙ ap (slice_get places) same ∙ here in cc) in other (ap (λ (z : Place). length z.proj) is))
    | inr ne ↦ (let rises = ordered.rising from i q p (omega arith) e here in
        let inside : IsTrue (is_some (way p q)) = (span from q e).1 (omega arith, omega arith) in
        let w : is_within (place_side q p) ≡ true = sym (side_way q p (ordered.direct from q e)) ∙ search rules in
        not_before (place_side q p) w (ap is_before rises))
  ])

  pub number_is : IsOrdered places → slice_get places from ≡ Some p → IsNumber places p from
  number_is ordered here = record {
    stands = here;
    alone = λ j there. elim (cases_eq j from) [
      | inl same ↦ same
      | inr ne ↦ (let h = self_in j there in
          let rises = ordered.rising from j p p (omega arith) here there in
          let w : is_within (place_side p p) ≡ true = sym (side_way p p (ordered.direct from p here)) ∙ ap is_some (way_self p) in
          absurd (not_before (place_side p p) w (ap is_before rises)))
    ];
  }
