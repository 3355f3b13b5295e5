-- Rows of bits as they are kept in words.
use Rattle.std.proofs.Common.{◌≡◌, ◌≢◌, ◌⊎◌, inl, inr, refl, sym, ap, ap₂, ◌∙◌, subst, ℕ, zero, suc, ◌+◌, ◌-◌, ◌*◌, ◌/◌, ◌%◌, ◌^◌, ◌<◌, ◌≤◌, min, max, Bool, true, false, ◌&&◌, ◌||◌, nat_eq, List, length, get_or, set, replicate, IsTrue, ◌↔◌, lit<, arith}
use Rattle.std.specs.Prelude.{bit_and}
use Rattle.std.specs.Int.{bit_at, bit_not, w64, trailing_zeros}
use Rattle.std.proofs.lemmas.Bool.{cases_eq, cases_lt, cases_Bool, cases_order, both_ways, and_parts, and_from}
use Rattle.std.proofs.lemmas.Nat.{or_lt, and_le_l, mul-add-lt, row_fits, same_from_place}
use Rattle.std.proofs.lemmas.List.{get_or_read, get_or_past, get_or-replicate, length-replicate, length-set, get_or-set_same, get_or-set_other}
use lib.Lanes.{zip2}
use Rattle.std.proofs.lemmas.Nat.Bits.{bit_at-trailing_zeros, bit_at-zero, bit_at_and, bit_at_or, bit_at_not, bit_at-lt, same_from_bits_below}
use Rattle.bit_rows.specs.declared.kernel.Mix.{Mix}
use Rattle.bit_rows.specs.declared.kernel.Mix.TheVariants.{Or, Copy, Minus}
use Rattle.bit_rows.specs.Rows.{row_at, flag, and_not, mixed_bit}
use Rattle.bit_rows.specs.Words.{word_bit, kept_flag, line_of, table, mixed_word, IsKept, Mixed, AllFit}
use Rattle.bit_rows.proofs.Tables.{length-line, length-table, line-set, line-same, line-zip, table-row, table-flag, table-same, table-set, table-blank, flag-past}

-- ---- one word

two : (n : ℕ) → n < 2 → (n ≡ 0) ⊎ (n ≡ 1)
two zero l = inl refl
two (suc zero) l = inr refl
two (suc (suc n)) l = absurd (omega arith)

bit_cases : (w k : ℕ) → (bit_at w k ≡ 0) ⊎ (bit_at w k ≡ 1)
bit_cases w k = two (bit_at w k) (bit_at-lt w k)

or_bits : (a b : ℕ) → (a ≡ 0) ⊎ (a ≡ 1) → (b ≡ 0) ⊎ (b ≡ 1) → nat_eq (max a b) 1 ≡ (nat_eq a 1 || nat_eq b 1)
or_bits a b (inl e) (inl f) = rw (e, f) refl
or_bits a b (inl e) (inr f) = rw (e, f) refl
or_bits a b (inr e) (inl f) = rw (e, f) refl
or_bits a b (inr e) (inr f) = rw (e, f) refl

minus_bits : (a b : ℕ) → (a ≡ 0) ⊎ (a ≡ 1) → (b ≡ 0) ⊎ (b ≡ 1) → nat_eq (min a (1 - b)) 1 ≡ and_not (nat_eq a 1) (nat_eq b 1)
minus_bits a b (inl e) (inl f) = rw (e, f) refl
minus_bits a b (inl e) (inr f) = rw (e, f) refl
minus_bits a b (inr e) (inl f) = rw (e, f) refl
minus_bits a b (inr e) (inr f) = rw (e, f) refl

and_bits : (a b : ℕ) → (a ≡ 0) ⊎ (a ≡ 1) → (b ≡ 0) ⊎ (b ≡ 1) → nat_eq (min a b) 1 ≡ (nat_eq a 1 && nat_eq b 1)
and_bits a b (inl e) (inl f) = rw (e, f) refl
and_bits a b (inl e) (inr f) = rw (e, f) refl
and_bits a b (inr e) (inl f) = rw (e, f) refl
and_bits a b (inr e) (inr f) = rw (e, f) refl

pub word_bit-mixed : (mix : Mix) (a b k : ℕ) → b < 2 ^ 64 → k < 64 → word_bit (mixed_word mix a b) k ≡ mixed_bit mix (word_bit a k) (word_bit b k)
word_bit-mixed Or a b k fits l = ap (λ n. nat_eq n 1) (bit_at_or a b k) ∙ or_bits (bit_at a k) (bit_at b k) (bit_cases a k) (bit_cases b k)
word_bit-mixed Copy a b k fits l = refl
word_bit-mixed Minus a b k fits l = ap (λ n. nat_eq n 1) (bit_at_and a (bit_not w64 b) k ∙ ap (λ n. min (bit_at a k) n) (bit_at_not w64 b k fits l)) ∙ minus_bits (bit_at a k) (bit_at b k) (bit_cases a k) (bit_cases b k)

pub word_bit-and : (a b k : ℕ) → word_bit (bit_and a b) k ≡ (word_bit a k && word_bit b k)
word_bit-and a b k = ap (λ n. nat_eq n 1) (bit_at_and a b k) ∙ and_bits (bit_at a k) (bit_at b k) (bit_cases a k) (bit_cases b k)

pub word_bit-zero : (k : ℕ) → word_bit 0 k ≡ false
word_bit-zero k = ap (λ n. nat_eq n 1) (bit_at-zero k)

bit_from : (a b k : ℕ) → word_bit a k ≡ word_bit b k → bit_at a k ≡ bit_at b k
bit_from a b k e = go (bit_cases a k) (bit_cases b k)
  where
    go : (bit_at a k ≡ 0) ⊎ (bit_at a k ≡ 1) → (bit_at b k ≡ 0) ⊎ (bit_at b k ≡ 1) → bit_at a k ≡ bit_at b k
    go (inl x) (inl y) = x ∙ sym y
    go (inr x) (inr y) = x ∙ sym y
    go (inl x) (inr y) = let z : false ≡ true = sym (ap (λ n. nat_eq n 1) x) ∙ e ∙ ap (λ n. nat_eq n 1) y in cc
    go (inr x) (inl y) = let z : true ≡ false = sym (ap (λ n. nat_eq n 1) x) ∙ e ∙ ap (λ n. nat_eq n 1) y in cc

-- words with the same bits are equal
pub same_word : (a b : ℕ) → a < 2 ^ 64 → b < 2 ^ 64 → ((k : ℕ) → k < 64 → word_bit a k ≡ word_bit b k) → a ≡ b
same_word a b l m h = same_from_bits_below 64 a b l m (λ k n. bit_from a b k (h k n))

-- ---- places of words

pub width_covers : (bits width : ℕ) → width ≡ (bits + 63) / 64 → bits ≤ 64 * width
width_covers bits width e = omega arith

pub word_in : (width k : ℕ) → k < 64 * width → k / 64 < width
word_in width k l = omega arith

pub place_in : (rows width r j : ℕ) → r < rows → j < width → r * width + j < rows * width
place_in rows width r j l m = let h : r * width + j < width * rows = mul-add-lt r width j rows l m in grind arith

pub row_in : (rows width r : ℕ) → r < rows → r * width + width ≤ rows * width
row_in rows width r l = row_fits r width rows width l (omega arith)

-- a word of another row lies before or behind a row
pub row_apart : (width q r j : ℕ) → q ≢ r → j < width → (q * width + j < r * width) ⊎ (r * width + width ≤ q * width + j)
row_apart width q r j ne l = elim (cases_order q r) [
  | inl e ↦ absurd (ne e)
  | inr h ↦ elim h [
    | inl m ↦ inl (omega (arith, row_fits q width r width m (omega arith)))
    | inr m ↦ inr (omega (arith, row_fits r width q width m (omega arith)))
  ]
]

pub seen_row : (rows bits : ℕ) (f : ℕ → ℕ → Bool) (now : List (List Bool)) (r : ℕ) → table rows bits f ≡ now → r < length now → r < rows
seen_row rows bits f now r e l = let z : length (table rows bits f) ≡ length now = ap length e in omega (arith, length-table rows bits f)

pub seen_bits : (rows bits : ℕ) (f : ℕ → ℕ → Bool) (now : List (List Bool)) (r : ℕ) → table rows bits f ≡ now → r < rows → length (row_at now r) ≡ bits
seen_bits rows bits f now r e l = ap (λ t. length (row_at t r)) (sym e) ∙ ap length (table-row rows bits f r l) ∙ length-line bits (f r)

-- ---- a bit that is written
module _ (rows bits width : ℕ) (words : List ℕ) (kept : IsKept rows bits width words) (r bit w : ℕ) (on : Bool) (row : r < rows) (l : bit < bits) (same : word_bit w (bit % 64) ≡ on) (others : (k : ℕ) → k < 64 → k ≢ bit % 64 → word_bit w k ≡ word_bit (get_or words (r * width + bit / 64) 0) k) (fits : w < 2 ^ 64) where
  abbrev written : List ℕ
  written = set words (r * width + bit / 64) w

  bit_low : bit < 64 * width
  bit_low = omega (arith, width_covers bits width kept.wide)

  place_low : r * width + bit / 64 < length words
  place_low = omega (arith, place_in rows width r (bit / 64) row (word_in width bit bit_low), kept.long)

  pub written_here : kept_flag written width r bit ≡ on
  written_here = ap (λ v. word_bit v (bit % 64)) (get_or-set_same words (r * width + bit / 64) w 0 place_low) ∙ same

  pub written_other : (q k : ℕ) → k < 64 * width → (q ≡ r → k ≡ bit → ⊥) → kept_flag written width q k ≡ kept_flag words width q k
  written_other q k m ne = elim (cases_eq (q * width + k / 64) (r * width + bit / 64)) [
    | inl e ↦ (let p = same_from_place q (k / 64) r (bit / 64) width (word_in width k m) (word_in width bit bit_low) e in
        let differ : k % 64 ≢ bit % 64 = (λ f. ne p.0 (let g : k / 64 ≡ bit / 64 = p.1 in omega arith)) in
        ap (λ n. word_bit (get_or written n 0) (k % 64)) e ∙ ap (λ v. word_bit v (k % 64)) (get_or-set_same words (r * width + bit / 64) w 0 place_low) ∙ others (k % 64) (omega arith) differ ∙ ap (λ n. word_bit (get_or words n 0) (k % 64)) (sym e))
    | inr e ↦ ap (λ v. word_bit v (k % 64)) (get_or-set_other words (r * width + bit / 64) (q * width + k / 64) w 0 e)
  ]

  pub written_kept : IsKept rows bits width written
  written_kept = record {
    wide = kept.wide;
    small = kept.small;
    long = length-set words (r * width + bit / 64) w ∙ kept.long;
    fit = λ i. elim (cases_eq i (r * width + bit / 64)) [
      | inl e ↦ rw (e, get_or-set_same words (r * width + bit / 64) w 0 place_low) fits
      | inr e ↦ rw (get_or-set_other words (r * width + bit / 64) i w 0 e) (kept.fit i)
    ];
    blank = λ q k h i j. written_other q k j (λ e f. (let z : bit < k = omega (arith, l, i) in omega arith)) ∙ kept.blank q k h i j;
  }

  pub written_is : table rows bits (kept_flag written width) ≡ set (table rows bits (kept_flag words width)) r (set (row_at (table rows bits (kept_flag words width)) r) bit on)
  written_is = table-set rows bits (kept_flag words width) (kept_flag written width) r (set (row_at (table rows bits (kept_flag words width)) r) bit on) row line (λ q k h ne m. written_other q k (omega (arith, m, width_covers bits width kept.wide)) (λ e f. ne e))
    where
      line : line_of bits (kept_flag written width r) ≡ set (row_at (table rows bits (kept_flag words width)) r) bit on
      line = line-set bits (kept_flag words width r) (kept_flag written width r) bit on l written_here (λ k m ne. written_other r k (omega (arith, m, width_covers bits width kept.wide)) (λ e f. ne f)) ∙ ap (λ x. set x bit on) (sym (table-row rows bits (kept_flag words width) r row))

-- what a write leaves
pub record WrittenAt (rows bits width : ℕ) (words : List ℕ) (now : List (List Bool)) (r bit : ℕ) (on : Bool) : Type 0 where
  pub kept : IsKept rows bits width words
  pub is : table rows bits (kept_flag words width) ≡ set now r (set (row_at now r) bit on)

pub written_at : (rows bits width : ℕ) (words : List ℕ) (now : List (List Bool)) (kept : IsKept rows bits width words) → table rows bits (kept_flag words width) ≡ now → (r bit : ℕ) → r < length now → bit < length (row_at now r) → (place : ℕ) → place ≡ r * width + bit / 64 → (old : ℕ) → old ≡ get_or words place old → (w : ℕ) (on : Bool) → word_bit w (bit % 64) ≡ on → ((k : ℕ) → k < 64 → k ≢ bit % 64 → word_bit w k ≡ word_bit old k) → w < 2 ^ 64 → WrittenAt rows bits width (set words place w) now r bit on
written_at rows bits width words now kept seen r bit l m place is old read w on here others fits =
    let row = seen_row rows bits (kept_flag words width) now r seen l in
    let low : bit < bits = omega (arith, seen_bits rows bits (kept_flag words width) now r seen row, m) in
    let within : place < length words = omega (arith, is, place_in rows width r (bit / 64) row (word_in width bit (omega (arith, low, width_covers bits width kept.wide))), kept.long) in
    let word : old ≡ get_or words (r * width + bit / 64) 0 = get_or_read words place old within read 0 ∙ ap (λ n. get_or words n 0) is in
    let all : (k : ℕ) → k < 64 → k ≢ bit % 64 → word_bit w k ≡ word_bit (get_or words (r * width + bit / 64) 0) k = (λ k n ne. others k n ne ∙ ap (λ v. word_bit v k) word) in
    rw is record {
      kept = written_kept rows bits width words kept r bit w on row low here all fits;
      is = written_is rows bits width words kept r bit w on row low here all fits ∙ ap (λ t. set t r (set (row_at t r) bit on)) seen;
    }

-- ---- a row that is mixed with one of another list
module _ (rows rows2 bits width : ℕ) (words new words2 : List ℕ) (kept : IsKept rows bits width words) (kept2 : IsKept rows2 bits width words2) (mix : Mix) (into from : ℕ) (changed : Bool) (row : into < rows) (row2 : from < rows2) (m : Mixed mix words new (into * width) words2 (from * width) width changed) where
  mixed_here : (k : ℕ) → k < 64 * width → kept_flag new width into k ≡ mixed_bit mix (kept_flag words width into k) (kept_flag words2 width from k)
  mixed_here k l = ap (λ v. word_bit v (k % 64)) (m.mixed (k / 64) (word_in width k l)) ∙ word_bit-mixed mix (get_or words (into * width + k / 64) 0) (get_or words2 (from * width + k / 64) 0) (k % 64) (kept2.fit (from * width + k / 64)) (omega arith)

  mixed_other : (q k : ℕ) → k < 64 * width → q ≢ into → kept_flag new width q k ≡ kept_flag words width q k
  mixed_other q k l ne = ap (λ v. word_bit v (k % 64)) (m.rest (q * width + k / 64) (row_apart width q into (k / 64) ne (word_in width k l)))

  word_fits : (mix : Mix) (a b : ℕ) → a < 2 ^ 64 → b < 2 ^ 64 → mixed_word mix a b < 2 ^ 64
  word_fits Or a b l n = or_lt 64 a b l n
  word_fits Copy a b l n = n
  word_fits Minus a b l n = omega (arith, and_le_l a (bit_not w64 b), l)

  in_row : (j : ℕ) → into * width ≤ j → j < into * width + width → get_or new j 0 < 2 ^ 64
  in_row j l n =
      let e : into * width + (j - into * width) ≡ j = omega arith in
      let f : get_or new j 0 ≡ mixed_word mix (get_or words j 0) (get_or words2 (from * width + (j - into * width)) 0) = ap (λ i. get_or new i 0) (sym e) ∙ m.mixed (j - into * width) (omega arith) ∙ ap (λ i. mixed_word mix (get_or words i 0) (get_or words2 (from * width + (j - into * width)) 0)) e in
      rw f (word_fits mix (get_or words j 0) (get_or words2 (from * width + (j - into * width)) 0) (kept.fit j) (kept2.fit (from * width + (j - into * width))))

  mixed_fit : AllFit new
  mixed_fit j = elim (cases_lt j (into * width)) [
    | inl l ↦ rw (m.rest j (inl l)) (kept.fit j)
    | inr l ↦ elim (cases_lt j (into * width + width)) [
      | inl n ↦ in_row j l n
      | inr n ↦ rw (m.rest j (inr n)) (kept.fit j)
    ]
  ]

  mixed_blank : (mix : Mix) → mixed_bit mix false false ≡ false
  mixed_blank Or = refl
  mixed_blank Copy = refl
  mixed_blank Minus = refl

  low : (k : ℕ) → k < bits → k < 64 * width
  low k l = omega (arith, width_covers bits width kept.wide)

  pub mixed_kept : IsKept rows bits width new
  mixed_kept = record {
    wide = kept.wide;
    small = kept.small;
    long = m.long ∙ kept.long;
    fit = mixed_fit;
    blank = λ q k h i j. elim (cases_eq q into) [
      | inl e ↦ rw e (mixed_here k j ∙ ap₂ (mixed_bit mix) (kept.blank into k row i j) (kept2.blank from k row2 i j) ∙ mixed_blank mix)
      | inr e ↦ mixed_other q k j e ∙ kept.blank q k h i j
    ];
  }

  abbrev before : List (List Bool)
  before = table rows bits (kept_flag words width)

  abbrev after : List (List Bool)
  after = table rows bits (kept_flag new width)

  pub mixed_is : after ≡ set before into (zip2 (mixed_bit mix) (row_at before into) (row_at (table rows2 bits (kept_flag words2 width)) from))
  mixed_is = table-set rows bits (kept_flag words width) (kept_flag new width) into (zip2 (mixed_bit mix) (row_at before into) (row_at (table rows2 bits (kept_flag words2 width)) from)) row line (λ q k h ne l. mixed_other q k (low k l) ne)
    where
      line : line_of bits (kept_flag new width into) ≡ zip2 (mixed_bit mix) (row_at before into) (row_at (table rows2 bits (kept_flag words2 width)) from)
      line = line-same bits (kept_flag new width into) (λ k. mixed_bit mix (kept_flag words width into k) (kept_flag words2 width from k)) (λ k l. mixed_here k (low k l)) ∙ line-zip bits (mixed_bit mix) (kept_flag words width into) (kept_flag words2 width from) ∙ ap₂ (zip2 (mixed_bit mix)) (sym (table-row rows bits (kept_flag words width) into row)) (sym (table-row rows2 bits (kept_flag words2 width) from row2))

  unchanged : changed ≡ false → after ≡ before
  unchanged e = table-same rows bits (kept_flag new width) (kept_flag words width) (λ q k h l. elim (cases_eq q into) [
    | inl s ↦ rw s (ap (λ v. word_bit v (k % 64)) (m.no e (k / 64) (word_in width k (low k l))))
    | inr s ↦ mixed_other q k (low k l) s
  ])

  -- rows that are seen equal have equal words
  unseen : after ≡ before → (i : ℕ) → i < width → get_or new (into * width + i) 0 ≡ get_or words (into * width + i) 0
  unseen e i l = same_word (get_or new (into * width + i) 0) (get_or words (into * width + i) 0) (mixed_fit (into * width + i)) (kept.fit (into * width + i)) (λ b n. bit b n (i * 64 + b) (omega arith) (omega arith) (omega arith))
    where
      at : (k : ℕ) → k < 64 * width → kept_flag new width into k ≡ kept_flag words width into k
      at k n = elim (cases_lt k bits) [
        | inl h ↦ sym (table-flag rows bits (kept_flag new width) into k row h) ∙ ap (λ t. flag t into k) e ∙ table-flag rows bits (kept_flag words width) into k row h
        | inr h ↦ mixed_kept.blank into k row h n ∙ sym (kept.blank into k row h n)
      ]

      bit : (b : ℕ) → b < 64 → (k : ℕ) → k < 64 * width → k / 64 ≡ i → k % 64 ≡ b → word_bit (get_or new (into * width + i) 0) b ≡ word_bit (get_or words (into * width + i) 0) b
      bit b n k h f g = ap₂ (λ j c. word_bit (get_or new (into * width + j) 0) c) (sym f) (sym g) ∙ at k h ∙ ap₂ (λ j c. word_bit (get_or words (into * width + j) 0) c) f g

  pub mixed_changed : IsTrue changed ↔ (after ≢ before)
  mixed_changed = (λ t e. (let p = m.yes t in p.2 (unseen e p.0 p.1)), λ h. elim (cases_Bool changed) [ inl t ↦ t | inr f ↦ absurd (h (unchanged f)) ])

-- ---- rows that have a common bit

-- a word that isn't 0 has a bit
pub some_bit : (w : ℕ) → w < 2 ^ 64 → w ≢ 0 → (k : ℕ) × (k < 64) × (word_bit w k ≡ true)
some_bit w l ne = let p = bit_at-trailing_zeros w64 w (omega arith) l in (trailing_zeros w64 w, p.0, ap (λ n. nat_eq n 1) p.1)

module _ (rows bits width : ℕ) (words : List ℕ) (kept : IsKept rows bits width words) (a b : ℕ) (row : a < rows) (row2 : b < rows) (meets : Bool) (is : IsTrue meets ↔ ((i : ℕ) × (i < width) × (bit_and (get_or words (a * width + i) 0) (get_or words (b * width + i) 0) ≢ 0))) where
  abbrev seen : List (List Bool)
  seen = table rows bits (kept_flag words width)

  -- a common bit of two words at a place
  common : (i : ℕ) → i < width → bit_and (get_or words (a * width + i) 0) (get_or words (b * width + i) 0) ≢ 0 → (k : ℕ) × IsTrue (flag seen a k) × IsTrue (flag seen b k)
  common i l ne =
      let p = some_bit (bit_and (get_or words (a * width + i) 0) (get_or words (b * width + i) 0)) (omega (arith, and_le_l (get_or words (a * width + i) 0) (get_or words (b * width + i) 0), kept.fit (a * width + i))) ne in
      let q = and_parts (word_bit (get_or words (a * width + i) 0) p.0) (word_bit (get_or words (b * width + i) 0) p.0) (sym (word_bit-and (get_or words (a * width + i) 0) (get_or words (b * width + i) 0) p.0) ∙ p.2) in
      found (i * 64 + p.0) (omega (arith, p.1)) (at a (i * 64 + p.0) i p.0 (omega (arith, p.1)) (omega (arith, p.1)) q.0) (at b (i * 64 + p.0) i p.0 (omega (arith, p.1)) (omega (arith, p.1)) q.1)
    where
      at : (r k i j : ℕ) → k / 64 ≡ i → k % 64 ≡ j → word_bit (get_or words (r * width + i) 0) j ≡ true → kept_flag words width r k ≡ true
      at r k i j e f h = ap₂ (λ i j. word_bit (get_or words (r * width + i) 0) j) e f ∙ h

      found : (k : ℕ) → k < 64 * width → kept_flag words width a k ≡ true → kept_flag words width b k ≡ true → (k : ℕ) × IsTrue (flag seen a k) × IsTrue (flag seen b k)
      found k m h g = elim (cases_lt k bits) [
        | inl low ↦ (k, table-flag rows bits (kept_flag words width) a k row low ∙ h, table-flag rows bits (kept_flag words width) b k row2 low ∙ g)
        | inr high ↦ absurd (both_ways (kept_flag words width a k) (kept.blank a k row high m) h)
      ]

  -- a bit that is seen in both rows is in both words
  in_words : (k : ℕ) → IsTrue (flag seen a k) → IsTrue (flag seen b k) → (i : ℕ) × (i < width) × (bit_and (get_or words (a * width + i) 0) (get_or words (b * width + i) 0) ≢ 0)
  in_words k h g = elim (cases_lt k bits) [
    | inl low ↦ (k / 64, word_in width k (omega (arith, low, width_covers bits width kept.wide)), λ e. (let z : word_bit (bit_and (get_or words (a * width + k / 64) 0) (get_or words (b * width + k / 64) 0)) (k % 64) ≡ true = word_bit-and (get_or words (a * width + k / 64) 0) (get_or words (b * width + k / 64) 0) (k % 64) ∙ and_from (kept_flag words width a k) (kept_flag words width b k) (sym (table-flag rows bits (kept_flag words width) a k row low) ∙ h) (sym (table-flag rows bits (kept_flag words width) b k row2 low) ∙ g) in both_ways (word_bit 0 (k % 64)) (word_bit-zero (k % 64)) (ap (λ w. word_bit w (k % 64)) (sym e) ∙ z)))
    | inr high ↦ absurd (both_ways (flag seen a k) (flag-past rows bits (kept_flag words width) a k row high) h)
  ]

  pub meets_is : IsTrue meets ↔ ((k : ℕ) × IsTrue (flag seen a k) × IsTrue (flag seen b k))
  meets_is = (λ t. (let p = is.0 t in common p.0 p.1 p.2), λ q. is.1 (in_words q.0 q.1 q.2))

-- ---- what the calls need

-- two rows lie one behind the other
pub rows_apart : (width a b p q : ℕ) → a ≢ b → p ≡ a * width + 0 → q ≡ b * width + 0 → (p + width ≤ q) ⊎ (q + width ≤ p)
rows_apart width a b p q ne e f = elim (cases_order a b) [
  | inl s ↦ absurd (ne s)
  | inr h ↦ elim h [
    | inl m ↦ inl (omega (arith, row_fits a width b width m (omega arith)))
    | inr m ↦ inr (omega (arith, row_fits b width a width m (omega arith)))
  ]
]

pub row_within : (rows width r p n : ℕ) → r < rows → p ≡ r * width + 0 → n ≡ rows * width → p + width ≤ n
row_within rows width r p n l e f = omega (arith, row_in rows width r l)

pub record MixedRows (rows bits width : ℕ) (new : List ℕ) (now : List (List Bool)) (mix : Mix) (into : ℕ) (other : List Bool) (changed : Bool) : Type 0 where
  pub kept : IsKept rows bits width new
  pub is : table rows bits (kept_flag new width) ≡ set now into (zip2 (mixed_bit mix) (row_at now into) other)
  pub changed_is : IsTrue changed ↔ (table rows bits (kept_flag new width) ≢ now)

pub mixed_at : (rows bits width : ℕ) (words : List ℕ) (now : List (List Bool)) (kept : IsKept rows bits width words) (seen : table rows bits (kept_flag words width) ≡ now) (rows2 : ℕ) (words2 : List ℕ) (now2 : List (List Bool)) (kept2 : IsKept rows2 bits width words2) (seen2 : table rows2 bits (kept_flag words2 width) ≡ now2) (mix : Mix) (into from : ℕ) → into < length now → from < length now2 → (p q : ℕ) → p ≡ into * width + 0 → q ≡ from * width + 0 → (new : List ℕ) (changed : Bool) → Mixed mix words new p words2 q width changed → MixedRows rows bits width new now mix into (row_at now2 from) changed
mixed_at rows bits width words now kept seen rows2 words2 now2 kept2 seen2 mix into from l l2 p q e f new changed m =
    let row = seen_row rows bits (kept_flag words width) now into seen l in
    let row2 = seen_row rows2 bits (kept_flag words2 width) now2 from seen2 l2 in
    let m2 : Mixed mix words new (into * width) words2 (from * width) width changed = subst (λ q. Mixed mix words new (into * width) words2 q width changed) (let z : q ≡ from * width = omega arith in z) (subst (λ p. Mixed mix words new p words2 q width changed) (let z : p ≡ into * width = omega arith in z) m) in
    record {
      kept = mixed_kept rows rows2 bits width words new words2 kept kept2 mix into from changed row row2 m2;
      is = mixed_is rows rows2 bits width words new words2 kept kept2 mix into from changed row row2 m2 ∙ ap₂ (λ t u. set t into (zip2 (mixed_bit mix) (row_at t into) (row_at u from))) seen seen2;
      changed_is = subst (λ t. IsTrue changed ↔ (table rows bits (kept_flag new width) ≢ t)) seen (mixed_changed rows rows2 bits width words new words2 kept kept2 mix into from changed row row2 m2);
    }

-- rows of as many bits have as many words
pub same_bits : (rows bits width : ℕ) (words : List ℕ) (now : List (List Bool)) (kept : IsKept rows bits width words) → table rows bits (kept_flag words width) ≡ now → (rows2 bits2 width2 : ℕ) (words2 : List ℕ) (now2 : List (List Bool)) (kept2 : IsKept rows2 bits2 width2 words2) → table rows2 bits2 (kept_flag words2 width2) ≡ now2 → (into from : ℕ) → into < length now → from < length now2 → length (row_at now into) ≡ length (row_at now2 from) → (bits2 ≡ bits) × (width2 ≡ width)
same_bits rows bits width words now kept seen rows2 bits2 width2 words2 now2 kept2 seen2 into from l l2 same =
    let row = seen_row rows bits (kept_flag words width) now into seen l in
    let row2 = seen_row rows2 bits2 (kept_flag words2 width2) now2 from seen2 l2 in
    let e : bits2 ≡ bits = sym (seen_bits rows2 bits2 (kept_flag words2 width2) now2 from seen2 row2) ∙ sym same ∙ seen_bits rows bits (kept_flag words width) now into seen row in
    (e, kept2.wide ∙ ap (λ n. (n + 63) / 64) e ∙ sym kept.wide)

pub mixed_other_at : (rows bits width : ℕ) (words : List ℕ) (now : List (List Bool)) (kept : IsKept rows bits width words) (seen : table rows bits (kept_flag words width) ≡ now) (rows2 bits2 width2 : ℕ) (words2 : List ℕ) (now2 : List (List Bool)) (kept2 : IsKept rows2 bits2 width2 words2) (seen2 : table rows2 bits2 (kept_flag words2 width2) ≡ now2) (mix : Mix) (into from : ℕ) → into < length now → from < length now2 → bits2 ≡ bits → width2 ≡ width → (p q : ℕ) → p ≡ into * width + 0 → q ≡ from * width2 + 0 → (new : List ℕ) (changed : Bool) → Mixed mix words new p words2 q width changed → MixedRows rows bits width new now mix into (row_at now2 from) changed
mixed_other_at rows bits width words now kept seen rows2 bits2 width2 words2 now2 kept2 seen2 mix into from l l2 same wide p q e f new changed m =
    let kept3 : IsKept rows2 bits width words2 = subst (λ n. IsKept rows2 n width words2) same (subst (λ n. IsKept rows2 bits2 n words2) wide kept2) in
    let seen3 : table rows2 bits (kept_flag words2 width) ≡ now2 = ap₂ (λ n w. table rows2 n (kept_flag words2 w)) (sym same) (sym wide) ∙ seen2 in
    mixed_at rows bits width words now kept seen rows2 words2 now2 kept3 seen3 mix into from l l2 p q e (f ∙ ap (λ n. from * n + 0) wide) new changed m

zeros_are : (n i : ℕ) → get_or {A = ℕ} (replicate n 0) i 0 ≡ 0
zeros_are n i = elim (cases_lt i n) [
  | inl l ↦ get_or-replicate {A = ℕ} n i 0 0 l
  | inr l ↦ get_or_past {X = ℕ} (replicate n 0) i 0 (omega (arith, length-replicate {A = ℕ} n 0))
]

pub blank_flag : (words : List ℕ) (n width r k : ℕ) → words ≡ replicate n 0 → kept_flag words width r k ≡ false
blank_flag words n width r k e = ap (λ ws. word_bit (get_or ws (r * width + k / 64) 0) (k % 64)) e ∙ ap (λ w. word_bit w (k % 64)) (zeros_are n (r * width + k / 64)) ∙ word_bit-zero (k % 64)

pub blank_is : (rows bits width n : ℕ) (words : List ℕ) → words ≡ replicate n 0 → table rows bits (kept_flag words width) ≡ replicate rows (replicate bits false)
blank_is rows bits width n words e = table-blank rows bits (kept_flag words width) (λ r k l m. blank_flag words n width r k e)

pub blank_kept : (rows bits width n : ℕ) (words : List ℕ) → bits < 2 ^ 32 → width ≡ (bits + 63) / 64 → n ≡ rows * width + 0 → words ≡ replicate n 0 → IsKept rows bits width words
blank_kept rows bits width n words small wide e f = record {
  wide = wide;
  small = omega arith;
  fit = λ i. rw (ap (λ ws. get_or ws i 0) f ∙ zeros_are n i) (lit< tt);
  long = ap length f ∙ length-replicate {A = ℕ} n 0 ∙ (let z : n ≡ rows * width = omega arith in z);
  blank = λ r k h i j. blank_flag words n width r k f;
}
