-- Rows of bits that a function names.
use Rattle.std.proofs.Common.{◌≡◌, ◌≢◌, ◌⊎◌, inl, inr, refl, sym, ap, ◌∙◌, ℕ, ◌<◌, ◌≤◌, Bool, true, false, ◌||◌, List, [], ◌∷◌, length, get_or, set, replicate, arith}
use Rattle.std.specs.List.{range_with_len}
use Rattle.std.proofs.lemmas.Bool.{cases_eq}
use Rattle.std.proofs.lemmas.List.{length-set, length-replicate, get_or-replicate, get_or-set_same, get_or-set_other, ext_get_or, get_or_past}
use Rattle.std.proofs.lemmas.List.FromFn.{length-map-range_with_len, get_or-map-range_with_len}
use Rattle.std.proofs.lemmas.Simd.{zip2-map}
use lib.Lanes.{zip2}
use Rattle.bit_rows.specs.Rows.{row_at, flag, mixed_bit}
use Rattle.bit_rows.specs.declared.kernel.Mix.TheVariants.{Or}
use Rattle.bit_rows.specs.Words.{line_of, table}

pub length-line : (bits : ℕ) (f : ℕ → Bool) → length (line_of bits f) ≡ bits
length-line bits f = length-map-range_with_len f 0 bits

pub line-at : (bits : ℕ) (f : ℕ → Bool) (k : ℕ) → k < bits → get_or (line_of bits f) k false ≡ f k
line-at bits f k l = get_or-map-range_with_len f 0 bits k k false l (omega arith)

pub line-same : (bits : ℕ) (f g : ℕ → Bool) → ((k : ℕ) → k < bits → f k ≡ g k) → line_of bits f ≡ line_of bits g
line-same bits f g h = ext_get_or false (line_of bits f) (line_of bits g) (length-line bits f ∙ sym (length-line bits g)) (λ k l. (let l' : k < bits = omega (arith, length-line bits f) in line-at bits f k l' ∙ h k l' ∙ sym (line-at bits g k l')))

pub length-table : (rows bits : ℕ) (f : ℕ → ℕ → Bool) → length (table rows bits f) ≡ rows
length-table rows bits f = length-map-range_with_len (λ r. line_of bits (f r)) 0 rows

pub table-row : (rows bits : ℕ) (f : ℕ → ℕ → Bool) (r : ℕ) → r < rows → row_at (table rows bits f) r ≡ line_of bits (f r)
table-row rows bits f r l = get_or-map-range_with_len (λ r. line_of bits (f r)) 0 rows r r [] l (omega arith)

pub table-flag : (rows bits : ℕ) (f : ℕ → ℕ → Bool) (r k : ℕ) → r < rows → k < bits → flag (table rows bits f) r k ≡ f r k
table-flag rows bits f r k l m = ap (λ row. get_or row k false) (table-row rows bits f r l) ∙ line-at bits (f r) k m

pub table-same : (rows bits : ℕ) (f g : ℕ → ℕ → Bool) → ((r k : ℕ) → r < rows → k < bits → f r k ≡ g r k) → table rows bits f ≡ table rows bits g
table-same rows bits f g h = ext_get_or [] (table rows bits f) (table rows bits g) (length-table rows bits f ∙ sym (length-table rows bits g)) (λ r l. (let l' : r < rows = omega (arith, length-table rows bits f) in table-row rows bits f r l' ∙ line-same bits (f r) (g r) (λ k m. h r k l' m) ∙ sym (table-row rows bits g r l')))

-- one row is another
pub table-set : (rows bits : ℕ) (f g : ℕ → ℕ → Bool) (r : ℕ) (row : List Bool) → r < rows → line_of bits (g r) ≡ row → ((q k : ℕ) → q < rows → q ≢ r → k < bits → g q k ≡ f q k) → table rows bits g ≡ set (table rows bits f) r row
table-set rows bits f g r row l e h =
    let long : length (table rows bits g) ≡ length (set (table rows bits f) r row) = length-table rows bits g ∙ sym (length-set (table rows bits f) r row ∙ length-table rows bits f) in
    ext_get_or [] (table rows bits g) (set (table rows bits f) r row) long (λ q m. (let m' : q < rows = omega (arith, length-table rows bits g) in at q m' (cases_eq q r)))
  where
    in_f : r < length (table rows bits f)
    in_f = omega (arith, length-table rows bits f)

    at : (q : ℕ) → q < rows → (q ≡ r) ⊎ (q ≡ r → ⊥) → get_or (table rows bits g) q [] ≡ get_or (set (table rows bits f) r row) q []
    at q m (inl s) = ap (λ q. get_or (table rows bits g) q []) s ∙ table-row rows bits g r l ∙ e ∙ sym (get_or-set_same (table rows bits f) r row [] in_f) ∙ ap (λ q. get_or (set (table rows bits f) r row) q []) (sym s)
    at q m (inr s) = table-row rows bits g q m ∙ line-same bits (g q) (f q) (λ k n. h q k m s n) ∙ sym (table-row rows bits f q m) ∙ sym (get_or-set_other (table rows bits f) r q row [] s)

-- a bit of a line is another
pub line-set : (bits : ℕ) (f g : ℕ → Bool) (k : ℕ) (b : Bool) → k < bits → g k ≡ b → ((i : ℕ) → i < bits → i ≢ k → g i ≡ f i) → line_of bits g ≡ set (line_of bits f) k b
line-set bits f g k b l e h =
    let long : length (line_of bits g) ≡ length (set (line_of bits f) k b) = length-line bits g ∙ sym (length-set (line_of bits f) k b ∙ length-line bits f) in
    ext_get_or false (line_of bits g) (set (line_of bits f) k b) long (λ i m. (let m' : i < bits = omega (arith, length-line bits g) in at i m' (cases_eq i k)))
  where
    in_f : k < length (line_of bits f)
    in_f = omega (arith, length-line bits f)

    at : (i : ℕ) → i < bits → (i ≡ k) ⊎ (i ≡ k → ⊥) → get_or (line_of bits g) i false ≡ get_or (set (line_of bits f) k b) i false
    at i m (inl s) = ap (λ i. get_or (line_of bits g) i false) s ∙ line-at bits g k l ∙ e ∙ sym (get_or-set_same (line_of bits f) k b false in_f) ∙ ap (λ i. get_or (set (line_of bits f) k b) i false) (sym s)
    at i m (inr s) = line-at bits g i m ∙ h i m s ∙ sym (line-at bits f i m) ∙ sym (get_or-set_other (line_of bits f) k i b false s)

pub line-zip : (bits : ℕ) (op : Bool → Bool → Bool) (f g : ℕ → Bool) → line_of bits (λ k. op (f k) (g k)) ≡ zip2 op (line_of bits f) (line_of bits g)
line-zip bits op f g = sym (zip2-map op f g (range_with_len 0 bits))

pub line-blank : (bits : ℕ) (f : ℕ → Bool) → ((k : ℕ) → k < bits → f k ≡ false) → line_of bits f ≡ replicate bits false
line-blank bits f h = ext_get_or false (line_of bits f) (replicate bits false) (length-line bits f ∙ sym (length-replicate bits false)) (λ k l. (let l' : k < bits = omega (arith, length-line bits f) in line-at bits f k l' ∙ h k l' ∙ sym (get_or-replicate bits k false false l')))

pub table-blank : (rows bits : ℕ) (f : ℕ → ℕ → Bool) → ((r k : ℕ) → r < rows → k < bits → f r k ≡ false) → table rows bits f ≡ replicate rows (replicate bits false)
table-blank rows bits f h = ext_get_or [] (table rows bits f) (replicate rows (replicate bits false)) (length-table rows bits f ∙ sym (length-replicate rows (replicate bits false))) (λ r l. (let l' : r < rows = omega (arith, length-table rows bits f) in table-row rows bits f r l' ∙ line-blank bits (f r) (λ k m. h r k l' m) ∙ sym (get_or-replicate rows r (replicate bits false) [] l')))

-- past the end of a row nothing is set
pub flag-past : (rows bits : ℕ) (f : ℕ → ℕ → Bool) (r k : ℕ) → r < rows → bits ≤ k → flag (table rows bits f) r k ≡ false
flag-past rows bits f r k l m = ap (λ row. get_or row k false) (table-row rows bits f r l) ∙ get_or_past (line_of bits (f r)) k false (omega (arith, length-line bits (f r)))

pub zip-or-self : (row : List Bool) → zip2 (λ a b. a || b) row row ≡ row
zip-or-self [] = refl
zip-or-self (true ∷ row) = ap (λ bs. true ∷ bs) (zip-or-self row)
zip-or-self (false ∷ row) = ap (λ bs. false ∷ bs) (zip-or-self row)

pub zip-second : (row row2 : List Bool) → length row ≡ length row2 → zip2 (λ a b. b) row row2 ≡ row2
zip-second [] [] e = refl
zip-second (a ∷ row) (b ∷ row2) e = ap (λ bs. b ∷ bs) (zip-second row row2 (grind arith))
zip-second [] (b ∷ row2) e = absurd (grind arith)
zip-second (a ∷ row) [] e = absurd (grind arith)

pub mixed-or : (row row2 : List Bool) → zip2 (mixed_bit Or) row row2 ≡ zip2 (λ a b. a || b) row row2
mixed-or row row2 = refl
