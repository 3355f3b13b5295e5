-- Cells joined to others, one by one.
use Rattle.std.proofs.Common.{◌≡◌, ◌≢◌, refl, sym, ap, ◌∙◌, ℕ, zero, suc, ◌+◌, ◌<◌, ◌≤◌, Bool, true, false, not, ◌||◌, List, [], ◌∷◌, take, set, length, get_or, arith}
use Rattle.std.proofs.lemmas.List.{get_or-set_same}
use Rattle.const_flow.specs.declared.cell.Cell.{Cell}
use Rattle.const_flow.specs.Facts.{join}
use Rattle.const_flow.specs.Nodes.{join_cells}

pub joined_none : (ks : List Cell) → join_cells ks [] ≡ ks
joined_none [] = refl
joined_none (k ∷ ks) = refl

pub joined_long : (ks ls : List Cell) → length (join_cells ks ls) ≡ length ks
joined_long [] ls = refl
joined_long (k ∷ ks) [] = refl
joined_long (k ∷ ks) (l ∷ ls) = ap suc (joined_long ks ls)

-- what comes later is as it was
pub joined_later : (ks ls : List Cell) (i : ℕ) (d : Cell) → get_or (join_cells ks (take i ls)) i d ≡ get_or ks i d
joined_later ks ls zero d = ap (λ xs. get_or xs 0 d) (joined_none ks)
joined_later [] ls (suc i) d = refl
joined_later (k ∷ ks) [] (suc i) d = refl
joined_later (k ∷ ks) (l ∷ ls) (suc i) d = joined_later ks ls i d

joined_step : (ks ls : List Cell) (i : ℕ) (d : Cell) → i < length ls → length ls ≤ length ks → set (join_cells ks (take i ls)) i (join (get_or ks i d) (get_or ls i d)) ≡ join_cells ks (take (suc i) ls)
joined_step ks [] i d l m = absurd (omega arith)
joined_step [] (b ∷ ls) i d l m = absurd (omega arith)
joined_step (k ∷ ks) (b ∷ ls) zero d l m = ap (λ xs. join k b ∷ xs) (sym (joined_none ks))
joined_step (k ∷ ks) (b ∷ ls) (suc i) d l m = ap (λ xs. join k b ∷ xs) (joined_step ks ls i d (omega arith) (omega arith))

pub joined_more : (ks ls into : List Cell) (i : ℕ) (d v : Cell) → i < length ls → length ls ≡ length ks → into ≡ join_cells ks (take i ls) → v ≡ join (get_or into i d) (get_or ls i d) → set into i v ≡ join_cells ks (take (i + 1) ls)
joined_more ks ls into i d v l m e s =
    let was : get_or into i d ≡ get_or ks i d = ap (λ xs. get_or xs i d) e ∙ joined_later ks ls i d in
    ap (λ xs. set xs i v) e ∙ ap (set (join_cells ks (take i ls)) i) (s ∙ ap (λ k. join k (get_or ls i d)) was) ∙ joined_step ks ls i d l (omega arith) ∙ ap (λ n. join_cells ks (take n ls)) (let z : suc i ≡ i + 1 = omega arith in z)

set_same : (xs : List Cell) (i : ℕ) (d : Cell) → i < length xs → set xs i (get_or xs i d) ≡ xs
set_same [] i d l = absurd (omega arith)
set_same (x ∷ xs) zero d l = refl
set_same (x ∷ xs) (suc i) d l = ap (λ ys. x ∷ ys) (set_same xs i d (omega arith))

-- a cell that is as it was
pub still_same : (xs old : List Cell) (i : ℕ) (d v : Cell) → i < length xs → xs ≡ old → v ≡ get_or xs i d → set xs i v ≡ old
still_same xs old i d v l e s = ap (set xs i) s ∙ set_same xs i d l ∙ e

-- a cell that has changed
pub now_differs : (xs old : List Cell) (i : ℕ) (d v : Cell) → i < length xs → get_or xs i d ≡ get_or old i d → v ≢ get_or xs i d → set xs i v ≢ old
now_differs xs old i d v l was ne e = ne (sym (get_or-set_same xs i v d l) ∙ ap (λ ys. get_or ys i d) e ∙ sym was)

-- what has changed before stays so
pub still_differs : (xs old : List Cell) (i : ℕ) (d v : Cell) → i < length xs → get_or xs i d ≡ get_or old i d → xs ≢ old → set xs i v ≢ old
still_differs xs old i d v l was ne e =
    let is : v ≡ get_or xs i d = sym (get_or-set_same xs i v d l) ∙ ap (λ ys. get_or ys i d) e ∙ sym was in
    ne (sym (set_same xs i d l) ∙ ap (set xs i) (sym is) ∙ e)

-- the loop's marks
pub record IsJoining (old into : List Cell) (changed : Bool) : Type 0 where
  pub same : changed ≡ false → into ≡ old
  pub differs : changed ≡ true → into ≢ old

pub joining_more : (old into : List Cell) (changed same : Bool) (i : ℕ) (d v : Cell) → i < length into → get_or into i d ≡ get_or old i d → (same ≡ true → v ≡ get_or into i d) → (same ≡ false → v ≢ get_or into i d) → IsJoining old into changed → IsJoining old (set into i v) (changed || not same)
joining_more old into true same i d v l was same_then other_then w = record { same = λ e. absurd (grind arith); differs = λ e. still_differs into old i d v l was (w.differs refl) }
joining_more old into false true i d v l was same_then other_then w = record { same = λ e. still_same into old i d v l (w.same refl) (same_then refl); differs = λ e. absurd (grind arith) }
joining_more old into false false i d v l was same_then other_then w = record { same = λ e. absurd (grind arith); differs = λ e. now_differs into old i d v l was (other_then refl) }
