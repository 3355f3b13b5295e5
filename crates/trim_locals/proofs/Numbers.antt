-- The numbers that marked locals get, as a renumbering both ways.
use Rattle.std.proofs.Common.{◌≡◌, refl, sym, ap, ◌∙◌, subst, ℕ, zero, suc, ◌+◌, ◌<◌, ◌≤◌, Bool, true, false, cond, List, [], ◌∷◌, length, take, get_or, Option, Some, None, option_map, slice_get, arith}
use Rattle.std.proofs.lemmas.List.FromFn.{get_or-map-range_with_len}
use Rattle.std.proofs.lemmas.List.Sums.{sum_by-cons}
use Rattle.mir_syntax.specs.Tree.{Tree}
use Rattle.liveness.specs.Bits.{bit_within}
use Rattle.trim_locals.specs.Trimmed.{self, new_number, new_numbers, number_in, marked_items}

next_if : Bool → ℕ → ℕ
next_if true y = suc y
next_if false y = y

-- the new number of a marked local
pub ahead : List Bool → ℕ → Option ℕ
ahead [] x = None
ahead (true ∷ ms) zero = Some 0
ahead (false ∷ ms) zero = None
ahead (m ∷ ms) (suc x) = option_map (next_if m) (ahead ms x)

-- the local that has a new number
pub behind : List Bool → ℕ → Option ℕ
behind [] y = None
behind (true ∷ ms) zero = Some 0
behind (true ∷ ms) (suc y) = option_map suc (behind ms y)
behind (false ∷ ms) y = option_map suc (behind ms y)

mapped : (h : ℕ → ℕ) (o : Option ℕ) (y : ℕ) → option_map h o ≡ Some y → (z : ℕ) × (o ≡ Some z) × (h z ≡ y)
mapped h None y e = absurd (grind arith)
mapped h (Some z) y e = (z, refl, grind arith)

pub ahead_behind : (ms : List Bool) (x y : ℕ) → ahead ms x ≡ Some y → behind ms y ≡ Some x
unfolding ahead behind next_if
ahead_behind [] x y e = absurd (grind arith)
ahead_behind (true ∷ ms) zero y e = subst (λ y. behind (true ∷ ms) y ≡ Some 0) (let z : 0 ≡ y = grind arith in z) refl
ahead_behind (false ∷ ms) zero y e = absurd (grind arith)
ahead_behind (true ∷ ms) (suc x) y e =
    let (z, e1, e2) = mapped (next_if true) (ahead ms x) y e in
    subst (λ y. behind (true ∷ ms) y ≡ Some (suc x)) e2 (ap (option_map suc) (ahead_behind ms x z e1))
ahead_behind (false ∷ ms) (suc x) y e =
    let (z, e1, e2) = mapped (next_if false) (ahead ms x) y e in
    subst (λ y. behind (false ∷ ms) y ≡ Some (suc x)) e2 (ap (option_map suc) (ahead_behind ms x z e1))

pub behind_ahead : (ms : List Bool) (x y : ℕ) → behind ms y ≡ Some x → ahead ms x ≡ Some y
unfolding ahead behind next_if
behind_ahead [] x y e = absurd (grind arith)
behind_ahead (true ∷ ms) x zero e = subst (λ x. ahead (true ∷ ms) x ≡ Some 0) (let z : 0 ≡ x = grind arith in z) refl
behind_ahead (true ∷ ms) x (suc y) e =
    let (z, e1, e2) = mapped suc (behind ms y) x e in
    subst (λ x. ahead (true ∷ ms) x ≡ Some (suc y)) e2 (ap (option_map (next_if true)) (behind_ahead ms z y e1))
behind_ahead (false ∷ ms) x y e =
    let (z, e1, e2) = mapped suc (behind ms y) x e in
    subst (λ x. ahead (false ∷ ms) x ≡ Some y) e2 (ap (option_map (next_if false)) (behind_ahead ms z y e1))

pub ahead_marked : (ms : List Bool) (x y : ℕ) → ahead ms x ≡ Some y → get_or ms x false ≡ true
unfolding ahead next_if
ahead_marked [] x y e = absurd (grind arith)
ahead_marked (true ∷ ms) zero y e = refl
ahead_marked (false ∷ ms) zero y e = absurd (grind arith)
ahead_marked (m ∷ ms) (suc x) y e = let (z, e1, e2) = mapped (next_if m) (ahead ms x) y e in ahead_marked ms x z e1

counts : (m : Bool) (ms : List Bool) (x : ℕ) → new_number (m ∷ ms) (suc x) ≡ cond m 1 0 + new_number ms x
counts m ms x = sum_by-cons (λ b. cond (self b) 1 0) m (take x ms)

ahead_counts : (ms : List Bool) (x : ℕ) → get_or ms x false ≡ true → ahead ms x ≡ Some (new_number ms x)
unfolding ahead next_if
ahead_counts [] x e = absurd (grind arith)
ahead_counts (true ∷ ms) zero e = refl
ahead_counts (false ∷ ms) zero e = absurd (grind arith)
ahead_counts (true ∷ ms) (suc x) e = ap (option_map (next_if true)) (ahead_counts ms x e) ∙ ap Some (let h = counts true ms x in let z : suc (new_number ms x) ≡ new_number (true ∷ ms) (suc x) = omega (arith, h) in z)
ahead_counts (false ∷ ms) (suc x) e = ap (option_map (next_if false)) (ahead_counts ms x e) ∙ ap Some (let h = counts false ms x in let z : new_number ms x ≡ new_number (false ∷ ms) (suc x) = omega (arith, h) in z)

pub ahead_is : (ms : List Bool) (x : ℕ) → get_or ms x false ≡ true → ahead ms x ≡ Some (number_in (new_numbers ms) x)
ahead_is ms x e =
    let z : 0 + x ≡ x = omega arith in
    ahead_counts ms x e ∙ ap Some (sym (get_or-map-range_with_len (new_number ms) 0 (length ms) x x 0 (bit_within ms x e) z))

-- where all before it are marked, a local keeps its number
pub ahead_fixed : (ms : List Bool) (x : ℕ) → ((z : ℕ) → z ≤ x → get_or ms z false ≡ true) → ahead ms x ≡ Some x
unfolding ahead next_if
ahead_fixed [] x h = absurd (let k : false ≡ true = h x (omega arith) in grind arith)
ahead_fixed (true ∷ ms) zero h = refl
ahead_fixed (false ∷ ms) x h = absurd (let k : false ≡ true = h 0 (omega arith) in grind arith)
ahead_fixed (true ∷ ms) (suc x) h = ap (option_map (next_if true)) (ahead_fixed ms x (λ z l. h (suc z) (omega (arith, l))))

pub ahead_item : {A : Type 0} (ms : List Bool) (xs : List A) (x y : ℕ) → ahead ms x ≡ Some y → slice_get xs x ≡ slice_get (marked_items ms xs) y
unfolding ahead next_if
ahead_item [] xs x y e = absurd (grind arith)
ahead_item (m ∷ ms) [] x y e = refl
ahead_item (true ∷ ms) (a ∷ xs) zero y e = ap (slice_get (a ∷ marked_items ms xs)) (let z : 0 ≡ y = grind arith in z)
ahead_item (false ∷ ms) (a ∷ xs) zero y e = absurd (grind arith)
ahead_item (true ∷ ms) (a ∷ xs) (suc x) y e =
    let (z, e1, e2) = mapped (next_if true) (ahead ms x) y e in
    ahead_item ms xs x z e1 ∙ ap (slice_get (a ∷ marked_items ms xs)) e2
ahead_item (false ∷ ms) (a ∷ xs) (suc x) y e =
    let (z, e1, e2) = mapped (next_if false) (ahead ms x) y e in
    ahead_item ms xs x z e1 ∙ ap (slice_get (marked_items ms xs)) e2

-- where the first are marked, the first stay
pub front_items : (n : ℕ) (ms : List Bool) (ts : List Tree) → ((z : ℕ) → z < n → get_or ms z false ≡ true) → take n (marked_items ms ts) ≡ take n ts
front_items zero ms ts h = refl
front_items (suc n) [] ts h = absurd (let k : false ≡ true = h 0 (omega arith) in grind arith)
front_items (suc n) (false ∷ ms) ts h = absurd (let k : false ≡ true = h 0 (omega arith) in grind arith)
front_items (suc n) (true ∷ ms) [] h = refl
front_items (suc n) (true ∷ ms) (t ∷ ts) h = ap (λ us. t ∷ us) (front_items n ms ts (λ z l. h (suc z) (omega (arith, l))))
