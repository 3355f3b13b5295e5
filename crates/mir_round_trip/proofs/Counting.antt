-- Numbers below a limit, each of which stands once, are no more than the limit.
use Rattle.std.proofs.Common.{◌≡◌, ◌<◌, ◌≤◌, ◌+◌, ℕ, zero, suc, Bool, true, false, not, nat_eq, List, [], ◌∷◌, map, length, refl, ap, subst, arith}
use Rattle.std.proofs.lemmas.Bool.Decides.{nat_tests}
use Rattle.mir_text.specs.Grammar.{AllOf}
use Rattle.mir_text.specs.GrammarItems.{ArgRule}
use Rattle.mir_text.specs.PartLines.{Lined}
use Rattle.mir_text.specs.NameFaults.{on_line, unless, is_among, declared_once, in_order}
use Rattle.mir_text.proofs.Codes.{unless_met}
use Rattle.mir_rules.proofs.Lists.{append_empty-left, append_empty-right, map_empty-source, or_false-left, or_false-right, and_true-left, and_true-right}

abbrev Distinct : List ℕ → Type 0
Distinct [] = Unit {0}
Distinct (x ∷ xs) = (is_among xs x ≡ false) × Distinct xs

abbrev AllBelow : ℕ → List ℕ → Type 0
AllBelow m xs = AllOf (λ x. x < m) xs

-- ---- one number less

abbrev kept : Bool → ℕ → List ℕ → List ℕ
kept true x xs = xs
kept false x xs = x ∷ xs

abbrev without : ℕ → List ℕ → List ℕ
without m [] = []
without m (x ∷ xs) = kept (nat_eq x m) x (without m xs)

among-by : (m y x : ℕ) (xs : List ℕ) (b : Bool) → nat_eq x m ≡ b → nat_eq x y ≡ false → is_among (without m xs) y ≡ false → is_among (without m (x ∷ xs)) y ≡ false
among-by m y x xs true e h k = rw e k
among-by m y x xs false e h k = rw e (rw h k)

distinct-by : (m x : ℕ) (xs : List ℕ) (b : Bool) → nat_eq x m ≡ b → is_among (without m xs) x ≡ false → Distinct (without m xs) → Distinct (without m (x ∷ xs))
distinct-by m x xs true e h k = rw e k
distinct-by m x xs false e h k = rw e (h, k)

below-by : (m x : ℕ) (xs : List ℕ) (b : Bool) → nat_eq x m ≡ b → x < suc m → AllBelow m (without m xs) → AllBelow m (without m (x ∷ xs))
below-by m x xs true e h k = rw e k
below-by m x xs false e h k = let less : x < m = grind (arith, nat_tests) in rw e (less, k)

same-by : (m x : ℕ) (xs : List ℕ) → nat_eq x m ≡ false → length (without m xs) ≡ length xs → length (without m (x ∷ xs)) ≡ length (x ∷ xs)
same-by m x xs e k = rw e (ap suc k)

among-less : (m y : ℕ) (xs : List ℕ) → is_among xs y ≡ false → is_among (without m xs) y ≡ false
among-less m y [] h = refl
among-less m y (x ∷ xs) h = among-by m y x xs (nat_eq x m) refl (or_false-left (nat_eq x y) (is_among xs y) h) (among-less m y xs (or_false-right (nat_eq x y) (is_among xs y) h))

distinct-less : (m : ℕ) (xs : List ℕ) → Distinct xs → Distinct (without m xs)
distinct-less m [] h = tt
distinct-less m (x ∷ xs) h = distinct-by m x xs (nat_eq x m) refl (among-less m x xs h.0) (distinct-less m xs h.1)

below-less : (m : ℕ) (xs : List ℕ) → AllBelow (suc m) xs → AllBelow m (without m xs)
below-less m [] h = tt
below-less m (x ∷ xs) h = below-by m x xs (nat_eq x m) refl h.0 (below-less m xs h.1)

length-same : (m : ℕ) (xs : List ℕ) → is_among xs m ≡ false → length (without m xs) ≡ length xs
length-same m [] h = refl
length-same m (x ∷ xs) h = same-by m x xs (or_false-left (nat_eq x m) (is_among xs m) h) (length-same m xs (or_false-right (nat_eq x m) (is_among xs m) h))

less-by : (m x : ℕ) (xs : List ℕ) (b : Bool) → nat_eq x m ≡ b → is_among xs x ≡ false → length xs ≤ suc (length (without m xs)) → length (x ∷ xs) ≤ suc (length (without m (x ∷ xs)))
less-by m x xs true e h k =
    let same : x ≡ m = grind (arith, nat_tests) in
    let all = length-same m xs (subst (λ n. is_among xs n ≡ false) same h) in
    rw e (let l : length (x ∷ xs) ≤ suc (length (without m xs)) = omega (arith, all) in l)
less-by m x xs false e h k = rw e (let l : length (x ∷ xs) ≤ suc (length (x ∷ without m xs)) = omega arith in l)

length-less : (m : ℕ) (xs : List ℕ) → Distinct xs → length xs ≤ suc (length (without m xs))
length-less m [] h = omega arith
length-less m (x ∷ xs) h = less-by m x xs (nat_eq x m) refl h.0 (length-less m xs h.1)

at-most : (m : ℕ) (xs : List ℕ) → Distinct xs → AllBelow m xs → length xs ≤ m
at-most zero [] h k = omega arith
at-most zero (x ∷ xs) h k = let less = k.0 in absurd (omega arith)
at-most (suc m) xs h k =
    let less = length-less m xs h in
    let others = at-most m (without m xs) (distinct-less m xs h) (below-less m xs k) in
    omega (arith, less, others)

-- ---- declarations

not-true : (b : Bool) → not b ≡ true → b ≡ false
not-true true h = absurd cc
not-true false h = refl

-- each is new, where none is declared again
once-most : (m : ℕ) (before : List ℕ) (xs : List (Lined ArgRule)) → Distinct before → AllBelow m before → declared_once before xs ≡ [] → AllOf (λ a. a.0 < m) (map (λ a. a.1) xs) → length before + length xs ≤ m
once-most m before [] d b h all = let k = at-most m before d b in omega (arith, k)
once-most m before (x ∷ xs) d b h all =
    let codes = map_empty-source (λ code. let f : ℕ × ℕ = (x.0, code) in f) (unless (not (is_among before x.1.0)) 14) (append_empty-left (on_line x.0 (unless (not (is_among before x.1.0)) 14)) (declared_once (x.1.0 ∷ before) xs) h) in
    let new = not-true (is_among before x.1.0) (unless_met _ 14 codes) in
    let rest = once-most m (x.1.0 ∷ before) xs (new, d) (all.0, b) (append_empty-right (on_line x.0 (unless (not (is_among before x.1.0)) 14)) (declared_once (x.1.0 ∷ before) xs) h) all.1 in
    omega (arith, rest)

pub declared_most : (m : ℕ) (xs : List (Lined ArgRule)) → declared_once [] xs ≡ [] → AllOf (λ a. a.0 < m) (map (λ a. a.1) xs) → length xs ≤ m
declared_most m xs h all = let k = once-most m [] xs tt tt h all in omega (arith, k)

-- ---- labels

pub order_most : (m k : ℕ) (ls : List ℕ) → in_order k ls ≡ true → AllBelow m ls → k ≤ m → k + length ls ≤ m
order_most m k [] h all less = omega arith
order_most m k (l ∷ ls) h all less =
    let first = and_true-left (nat_eq l k) (in_order (suc k) ls) h in
    let here : l ≡ k = grind (arith, nat_tests) in
    let below = all.0 in
    let rest = order_most m (suc k) ls (and_true-right (nat_eq l k) (in_order (suc k) ls) h) all.1 (omega arith) in
    omega (arith, rest)
