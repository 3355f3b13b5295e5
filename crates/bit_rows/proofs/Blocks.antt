-- Words in lanes, and words that are mixed in parts.
use Rattle.std.proofs.Common.{◌≡◌, ◌≢◌, ◌⊎◌, inl, inr, refl, sym, ap, ap₂, ◌∙◌, subst, ℕ, zero, suc, ◌+◌, ◌-◌, ◌*◌, ◌^◌, ◌<◌, ◌≤◌, eqb, nat_eq, Bool, true, false, not, ◌||◌, List, [], ◌∷◌, ◌++◌, length, get_or, T, IsTrue, ◌↔◌, ◌%◌, arith}
use Rattle.std.specs.Prelude.{bit_and}
use Rattle.std.proofs.lemmas.Bool.{cases_eq, cases_lt, cases_Bool, both_ways, ne_eqb}
use Rattle.std.proofs.Math.Facts.{eqb_no}
use Rattle.std.proofs.lemmas.List.{length-append, get_or_append_left, get_or-append_right, get_or_past}
use Rattle.std.proofs.lemmas.Simd.{length-zip2, get_or-zip2, mask_l-mod, get_or-chunk, length-put_chunk, get_or-put_chunk_at, get_or-put_chunk_below, get_or-put_chunk_above}
use lib.Lanes.{zip2, mask_l, chunk, put_chunk}
use Rattle.bit_rows.specs.declared.kernel.Mix.{Mix}
use Rattle.bit_rows.specs.Words.{mixed_word, Mixed}

-- ---- lanes that differ

some_lane : (ms : List Bool) → (mask_l ms ≡ 0 → ⊥) → (i : ℕ) × (i < length ms) × (get_or ms i false ≡ true)
some_lane [] ne = absurd (ne refl)
some_lane (true ∷ ms) ne = (0, omega arith, refl)
some_lane (false ∷ ms) ne = let r = some_lane ms (λ e. ne (let z : 0 + 2 * mask_l ms ≡ 0 = omega (arith, e) in z)) in (suc r.0, omega (arith, r.1), r.2)

lane_counts : (ms : List Bool) (i : ℕ) → get_or ms i false ≡ true → 0 < mask_l ms
lane_counts [] i e = absurd (both_ways (get_or {A = Bool} [] i false) (get_or_past {X = Bool} [] i false (omega arith)) e)
lane_counts (true ∷ ms) i e = let z : 0 < 1 + 2 * mask_l ms = omega arith in z
lane_counts (false ∷ ms) zero e = absurd (both_ways false refl e)
lane_counts (false ∷ ms) (suc i) e = let z : 0 < 0 + 2 * mask_l ms = omega (arith, lane_counts ms i e) in z

abbrev pub other : ℕ → ℕ → Bool
other x y = not (eqb x y)

other-is : (x y : ℕ) → other x y ≡ true → x ≢ y
other-is x y t = eqb_no (subst T (sym t) tt)

is-other : (x y : ℕ) → x ≢ y → other x y ≡ true
is-other x y ne = rw (ne_eqb x y ne) refl

pub lanes_differ : (a b : List ℕ) (n : ℕ) → length a ≡ 8 → length b ≡ 8 → n ≡ mask_l (zip2 other a b) % 2 ^ 64 → IsTrue (not (nat_eq n 0)) ↔ ((i : ℕ) × (i < 8) × (get_or a i 0 ≢ get_or b i 0))
lanes_differ a b n la lb is = (forth, back)
  where
    ms : List Bool
    ms = zip2 other a b

    long : length (zip2 other a b) ≡ 8
    long = length-zip2 other a b (la ∙ sym lb) ∙ la

    mask : n ≡ mask_l (zip2 other a b)
    mask = is ∙ mask_l-mod (zip2 other a b) 64 (omega (arith, long))

    lane : (i : ℕ) → i < 8 → get_or (zip2 other a b) i false ≡ other (get_or a i 0) (get_or b i 0)
    lane i l = get_or-zip2 other a b i 0 0 false (omega (arith, la)) (omega (arith, lb))

    forth : IsTrue (not (nat_eq n 0)) → (i : ℕ) × (i < 8) × (get_or a i 0 ≢ get_or b i 0)
    forth t = let r = some_lane (zip2 other a b) (λ e. both_ways (not (nat_eq n 0)) (ap (λ m. not (nat_eq m 0)) (mask ∙ e)) t) in let l : r.0 < 8 = omega (arith, r.1, long) in (r.0, l, other-is _ _ (sym (lane r.0 l) ∙ r.2))

    back : ((i : ℕ) × (i < 8) × (get_or a i 0 ≢ get_or b i 0)) → IsTrue (not (nat_eq n 0))
    back r = let l : 0 < n = omega (arith, mask, lane_counts (zip2 other a b) r.0 (lane r.0 r.1 ∙ is-other _ _ r.2)) in is-other n 0 (λ e. (let z : n ≡ 0 = e in omega arith))

-- ---- a list that is mixed in two parts

pub mixed_more : (mix : Mix) (old mid new : List ℕ) (into : ℕ) (others : List ℕ) (from n m : ℕ) (p q : Bool) → Mixed mix old mid into others from n p → Mixed mix mid new (into + n) others (from + n) m q → Mixed mix old new into others from (n + m) (p || q)
mixed_more mix old mid new into others from n m p q a b = record {
  mixed = at;
  rest = λ j e. b.rest j (behind j e) ∙ a.rest j (beside j e);
  long = b.long ∙ a.long;
  yes = λ t. some (cases_Bool p) t;
  no = λ f. none f;
}
  where
    place : (k i : ℕ) → n ≤ i → k + n + (i - n) ≡ k + i
    place k i l = omega arith

    first : (i : ℕ) → i < n → get_or new (into + i) 0 ≡ get_or mid (into + i) 0
    first i l = b.rest (into + i) (inl (omega arith))

    second : (i : ℕ) → n ≤ i → get_or mid (into + i) 0 ≡ get_or old (into + i) 0
    second i l = a.rest (into + i) (inr (omega arith))

    at : (i : ℕ) → i < n + m → get_or new (into + i) 0 ≡ mixed_word mix (get_or old (into + i) 0) (get_or others (from + i) 0)
    at i l = elim (cases_lt i n) [
      | inl h ↦ first i h ∙ a.mixed i h
      | inr h ↦ ap (λ k. get_or new k 0) (sym (place into i h)) ∙ b.mixed (i - n) (omega arith) ∙ ap₂ (λ j k. mixed_word mix (get_or mid j 0) (get_or others k 0)) (place into i h) (place from i h) ∙ ap (λ w. mixed_word mix w (get_or others (from + i) 0)) (second i h)
    ]

    behind : (j : ℕ) → (j < into) ⊎ (into + (n + m) ≤ j) → (j < into + n) ⊎ (into + n + m ≤ j)
    behind j (inl l) = inl (omega arith)
    behind j (inr l) = inr (omega arith)

    beside : (j : ℕ) → (j < into) ⊎ (into + (n + m) ≤ j) → (j < into) ⊎ (into + n ≤ j)
    beside j (inl l) = inl l
    beside j (inr l) = inr (omega arith)

    some : (p ≡ true) ⊎ (p ≡ false) → (p || q) ≡ true → (i : ℕ) × (i < n + m) × (get_or new (into + i) 0 ≢ get_or old (into + i) 0)
    some (inl t) e = let r = a.yes t in (r.0, omega (arith, r.1), λ z. r.2 (sym (first r.0 r.1) ∙ z))
    some (inr f) e =
        let r = b.yes (ap (λ x. x || q) (sym f) ∙ e) in
        let f : into + (n + r.0) ≡ into + n + r.0 = omega arith in
        (n + r.0, omega (arith, r.1), λ z. r.2 (ap (λ k. get_or new k 0) (sym f) ∙ z ∙ sym (second (n + r.0) (omega arith)) ∙ ap (λ k. get_or mid k 0) f))

    none : (p || q) ≡ false → (i : ℕ) → i < n + m → get_or new (into + i) 0 ≡ get_or old (into + i) 0
    none e i l = elim (cases_Bool p) [
      | inl t ↦ absurd (both_ways (p || q) e (ap (λ x. x || q) t))
      | inr f ↦ elim (cases_lt i n) [
        | inl h ↦ first i h ∙ a.no f i h
        | inr h ↦ ap (λ k. get_or new k 0) (sym (place into i h)) ∙ b.no (ap (λ x. x || q) (sym f) ∙ e) (i - n) (omega arith) ∙ ap (λ k. get_or mid k 0) (place into i h) ∙ second i h
      ]
    ]

-- words of the front of a list, mixed with those behind
pub mixed_front : (mix : Mix) (a a2 b : List ℕ) (into from count : ℕ) (changed : Bool) → length a ≡ from → into + count ≤ from → Mixed mix a a2 into b 0 count changed → Mixed mix (a ++ b) (a2 ++ b) into (a ++ b) from count changed
mixed_front mix a a2 b into from count changed la l m = record {
  mixed = λ i h. new (into + i) (omega arith) ∙ m.mixed i h ∙ ap₂ (mixed_word mix) (sym (old (into + i) (omega arith))) (sym (behind i));
  rest = λ j e. elim (cases_lt j from) [
    | inl h ↦ new j h ∙ m.rest j e ∙ sym (old j h)
    | inr h ↦ get_or-append_right a2 b from j 0 long h ∙ sym (get_or-append_right a b from j 0 la h)
  ];
  long = whole;
  yes = λ t. (let r = m.yes t in (r.0, r.1, λ z. r.2 (sym (new (into + r.0) (omega (arith, r.1))) ∙ z ∙ old (into + r.0) (omega (arith, r.1)))));
  no = λ f i h. new (into + i) (omega arith) ∙ m.no f i h ∙ sym (old (into + i) (omega arith));
}
  where
    long : length a2 ≡ from
    long = m.long ∙ la

    whole : length (a2 ++ b) ≡ length (a ++ b)
    whole = length-append a2 b ∙ ap (λ n. n + length b) m.long ∙ sym (length-append a b)

    new : (j : ℕ) → j < from → get_or (a2 ++ b) j 0 ≡ get_or a2 j 0
    new j h = get_or_append_left a2 b 0 j (omega (arith, long))

    old : (j : ℕ) → j < from → get_or (a ++ b) j 0 ≡ get_or a j 0
    old j h = get_or_append_left a b 0 j (omega (arith, la))

    behind : (i : ℕ) → get_or (a ++ b) (from + i) 0 ≡ get_or b (0 + i) 0
    behind i = get_or-append_right a b from (from + i) 0 la (omega arith) ∙ ap (λ k. get_or b k 0) (let z : from + i - from ≡ 0 + i = omega arith in z)

-- words of the back of a list, mixed with those before
pub mixed_back : (mix : Mix) (a b b2 : List ℕ) (into from count : ℕ) (changed : Bool) → length a ≡ into → from + count ≤ into → Mixed mix b b2 0 a from count changed → Mixed mix (a ++ b) (a ++ b2) into (a ++ b) from count changed
mixed_back mix a b b2 into from count changed la l m = record {
  mixed = λ i h. behind b2 i ∙ m.mixed i h ∙ ap₂ (mixed_word mix) (sym (behind b i)) (sym (get_or_append_left a b 0 (from + i) (omega (arith, la))));
  rest = λ j e. elim (cases_lt j into) [
    | inl h ↦ get_or_append_left a b2 0 j (omega (arith, la)) ∙ sym (get_or_append_left a b 0 j (omega (arith, la)))
    | inr h ↦ get_or-append_right a b2 into j 0 la h ∙ m.rest (j - into) (past j h e) ∙ sym (get_or-append_right a b into j 0 la h)
  ];
  long = whole;
  yes = λ t. (let r = m.yes t in (r.0, r.1, λ z. r.2 (sym (behind b2 r.0) ∙ z ∙ behind b r.0)));
  no = λ f i h. behind b2 i ∙ m.no f i h ∙ sym (behind b i);
}
  where
    whole : length (a ++ b2) ≡ length (a ++ b)
    whole = length-append a b2 ∙ ap (λ n. length a + n) m.long ∙ sym (length-append a b)

    past : (j : ℕ) → into ≤ j → (j < into) ⊎ (into + count ≤ j) → (j - into < 0) ⊎ (0 + count ≤ j - into)
    past j h (inl e) = absurd (omega arith)
    past j h (inr e) = inr (omega arith)

    behind : (c : List ℕ) (i : ℕ) → get_or (a ++ c) (into + i) 0 ≡ get_or c (0 + i) 0
    behind c i = get_or-append_right a c into (into + i) 0 la (omega arith) ∙ ap (λ k. get_or c k 0) (let z : into + i - into ≡ 0 + i = omega arith in z)

-- ---- words that have a common bit, in two parts

abbrev pub Meet : List ℕ → ℕ → ℕ → ℕ → Type 0
Meet words a b n = (i : ℕ) × (i < n) × (bit_and (get_or words (a + i) 0) (get_or words (b + i) 0) ≢ 0)

pub meet_first : (words : List ℕ) (a b n m : ℕ) → n ≤ m → Meet words a b n → Meet words a b m
meet_first words a b n m l r = (r.0, omega (arith, r.1), r.2)

pub meet_later : (words : List ℕ) (a b n m k : ℕ) → n + m ≤ k → Meet words (a + n) (b + n) m → Meet words a b k
meet_later words a b n m k l r =
    let e : a + n + r.0 ≡ a + (n + r.0) = omega arith in
    let f : b + n + r.0 ≡ b + (n + r.0) = omega arith in
    (n + r.0, omega (arith, r.1), λ z. r.2 (ap₂ (λ i j. bit_and (get_or words i 0) (get_or words j 0)) e f ∙ z))

pub meet_split : (words : List ℕ) (a b n m k : ℕ) → k ≤ n + m → Meet words a b k → Meet words a b n ⊎ Meet words (a + n) (b + n) m
meet_split words a b n m k l r = elim (cases_lt r.0 n) [
  | inl h ↦ inl (r.0, h, r.2)
  | inr h ↦ (let e : a + n + (r.0 - n) ≡ a + r.0 = omega arith in let f : b + n + (r.0 - n) ≡ b + r.0 = omega arith in inr (r.0 - n, omega (arith, r.1), λ z. r.2 (ap₂ (λ i j. bit_and (get_or words i 0) (get_or words j 0)) (sym e) (sym f) ∙ z)))
]

pub no_meet : (words : List ℕ) (a b n : ℕ) → (Meet words a b n → ⊥) → (i : ℕ) → i < n → bit_and (get_or words (a + i) 0) (get_or words (b + i) 0) ≡ 0
no_meet words a b n h i l = elim (cases_eq (bit_and (get_or words (a + i) 0) (get_or words (b + i) 0)) 0) [ inl e ↦ e | inr ne ↦ absurd (h (i, l, ne)) ]

-- ---- a block that is stored

pub mixed_chunk : (mix : Mix) (old : List ℕ) (into : ℕ) (others : List ℕ) (from : ℕ) (block : List ℕ) (changed : Bool) → into + 8 ≤ length old → length block ≡ 8 → ((i : ℕ) → i < 8 → get_or block i 0 ≡ mixed_word mix (get_or (chunk into 8 old) i 0) (get_or (chunk from 8 others) i 0)) → IsTrue changed ↔ ((i : ℕ) × (i < 8) × (get_or block i 0 ≢ get_or (chunk into 8 old) i 0)) → Mixed mix old (put_chunk into old block) into others from 8 changed
mixed_chunk mix old into others from block changed l long each is = record {
  mixed = λ i h. stored i h ∙ each i h ∙ ap₂ (mixed_word mix) (get_or-chunk into 8 old i 0 h) (get_or-chunk from 8 others i 0 h);
  rest = rest;
  long = length-put_chunk into old block;
  yes = λ t. (let r = is.0 t in (r.0, r.1, λ z. r.2 (sym (stored r.0 r.1) ∙ z ∙ sym (get_or-chunk into 8 old r.0 0 r.1))));
  no = λ f i h. elim (cases_eq (get_or block i 0) (get_or (chunk into 8 old) i 0)) [
    | inl e ↦ stored i h ∙ e ∙ get_or-chunk into 8 old i 0 h
    | inr ne ↦ absurd (both_ways changed f (is.1 (i, h, ne)))
  ];
}
  where
    stored : (i : ℕ) → i < 8 → get_or (put_chunk into old block) (into + i) 0 ≡ get_or block i 0
    stored i h = get_or-put_chunk_at into old block i 0 (omega (arith, long)) (omega (arith, long))

    rest : (j : ℕ) → (j < into) ⊎ (into + 8 ≤ j) → get_or (put_chunk into old block) j 0 ≡ get_or old j 0
    rest j (inl h) = get_or-put_chunk_below into old block j 0 h
    rest j (inr h) = get_or-put_chunk_above into old block j 0 (omega (arith, long))
