-- One row whose bits are written one after another.
use Rattle.std.proofs.Common.{◌≡◌, ◌⊎◌, inl, inr, refl, sym, ap, ◌∙◌, ℕ, zero, suc, ◌+◌, ◌<◌, ◌≤◌, Bool, true, false, not, ◌&&◌, List, [], ◌∷◌, length, get_or, set, replicate, arith}
use Rattle.std.proofs.lemmas.Bool.{cases_eq}
use Rattle.std.proofs.lemmas.List.{length-set, length-replicate, get_or-replicate, get_or-set_same, get_or-set_other, ext_get_or}
use Rattle.std.proofs.lemmas.Simd.{length-zip2, get_or-zip2}
use lib.Lanes.{zip2}
use Rattle.bit_rows.specs.Rows.{row_at, flag, and_not, HasSize}
use Rattle.liveness.specs.Rows.{IsRows}
use Rattle.liveness.specs.Lattice.{one_row, single, row_long}

-- the first bits are those that a function names
pub record FillsTo (n at : ℕ) (f : ℕ → Bool) (rows : List (List Bool)) : Type 0 where
  pub size : HasSize rows 1 n
  pub each : (k : ℕ) → k < at → flag rows 0 k ≡ f k

pub fill_none : (n : ℕ) (f : ℕ → Bool) (rows : List (List Bool)) → rows ≡ replicate 1 (replicate n false) → FillsTo n 0 f rows
fill_none n f rows e = rw e (record { size = single n (replicate n false) (length-replicate n false); each = λ k l. absurd (omega arith) })

pub fill_more : (n at : ℕ) (f : ℕ → Bool) (rows rows2 : List (List Bool)) (v : Bool) → at < n → FillsTo n at f rows → rows2 ≡ set rows 0 (set (row_at rows 0) at v) → v ≡ f at → FillsTo n (at + 1) f rows2
fill_more n at f rows rows2 v l w e is = rw (e ∙ one) (record { size = single n (set (row_at rows 0) at v) (length-set (row_at rows 0) at v ∙ long); each = λ k m. go k m (cases_eq k at) })
  where
    one : set rows 0 (set (row_at rows 0) at v) ≡ set (row_at rows 0) at v ∷ []
    one = ap (λ t. set t 0 (set (row_at rows 0) at v)) (one_row n rows w.size)

    long : length (row_at rows 0) ≡ n
    long = row_long n rows w.size

    go : (k : ℕ) → k < at + 1 → (k ≡ at) ⊎ (k ≡ at → ⊥) → get_or (set (row_at rows 0) at v) k false ≡ f k
    go k m (inl s) = ap (λ k. get_or (set (row_at rows 0) at v) k false) s ∙ get_or-set_same (row_at rows 0) at v false (omega (arith, long)) ∙ is ∙ ap f (sym s)
    go k m (inr ne) = get_or-set_other (row_at rows 0) at k v false ne ∙ w.each k (omega arith)

pub fill_done : (n at : ℕ) (f : ℕ → Bool) (rows : List (List Bool)) (xs : List Bool) → FillsTo n at f rows → n ≤ at → length xs ≡ n → ((k : ℕ) → k < n → get_or xs k false ≡ f k) → rows ≡ xs ∷ []
fill_done n at f rows xs w l e h =
    one_row n rows w.size ∙ ap (λ row. row ∷ []) (ext_get_or false (row_at rows 0) xs (row_long n rows w.size ∙ sym e) (λ k m. (let low : k < n = (let q = row_long n rows w.size in omega arith) in w.each k (omega arith) ∙ sym (h k low))))

-- ---- rows in which each bit is the other one

abbrev pub other_row : ℕ → List Bool → List Bool
other_row n row = zip2 and_not (replicate n true) row

pub other_long : (n : ℕ) (row : List Bool) → length row ≡ n → length (other_row n row) ≡ n
other_long n row e = length-zip2 and_not (replicate n true) row (length-replicate n true ∙ sym e) ∙ length-replicate n true

pub other_bit : (n : ℕ) (row : List Bool) (k : ℕ) → length row ≡ n → k < n → get_or (other_row n row) k false ≡ not (get_or row k false)
other_bit n row k e l =
    get_or-zip2 and_not (replicate n true) row k false false false (let q = length-replicate n true in omega arith) (omega arith)
    ∙ ap (λ b. and_not b (get_or row k false)) (get_or-replicate n k true false l)

module _ (n count : ℕ) (rows made : List (List Bool)) (size : HasSize rows count n) (w : IsRows count (λ r. other_row n (row_at rows r)) made) where
  pub others_size : HasSize made count n
  others_size = record { count_is = w.long; bits_is = λ r l. ap length (w.each r l) ∙ other_long n (row_at rows r) (size.bits_is r l) }

  pub others_flags : (i k : ℕ) → i < count → k < n → flag made i k ≡ not (flag rows i k)
  others_flags i k l m = ap (λ row. get_or row k false) (w.each i l) ∙ other_bit n (row_at rows i) k (size.bits_is i l) m
