-- Lists of numbers, each of which stands in them once.
use Rattle.std.proofs.Common.{◌≡◌, ◌≢◌, refl, sym, ap, subst, ℕ, zero, suc, ◌<◌, ◌≤◌, Bool, true, false, ◌==◌, List, [], ◌∷◌, ◌++◌, length, ◌⊎◌, inl, inr, arith}
use Rattle.std.specs.Prelude.{if◌then◌else◌}
use Rattle.std.proofs.lemmas.Bool.Decides.{nat_tests}
use Rattle.bit_rows.specs.Rows.{stands}

-- each number stands in the list once
abbrev pub IsOnce : List ℕ → Type 0
IsOnce [] = Unit {0}
IsOnce (x ∷ xs) = (stands x xs ≡ false) × IsOnce xs

pub bool_tells : (b : Bool) → (b ≡ true) ⊎ (b ≡ false)
bool_tells true = inl refl
bool_tells false = inr refl

pub both : (b : Bool) → b ≡ true → b ≡ false → ⊥
both true h k = absurd (cc)
both false h k = absurd (cc)

pub stands_cases : (x y : ℕ) (ys : List ℕ) → stands x (y ∷ ys) ≡ true → (x ≡ y) ⊎ (stands x ys ≡ true)
stands_cases x y ys h = grind (arith, nat_tests)

pub stands_first : (x : ℕ) (ys : List ℕ) → stands x (x ∷ ys) ≡ true
stands_first x ys = grind (arith, nat_tests)

pub stands_later : (x y : ℕ) (ys : List ℕ) → stands x ys ≡ true → stands x (y ∷ ys) ≡ true
stands_later x y ys h = grind (arith, nat_tests)

pub stands_append : (x : ℕ) (xs ys : List ℕ) → stands x (xs ++ ys) ≡ true → (stands x xs ≡ true) ⊎ (stands x ys ≡ true)
stands_append x [] ys h = inr h
stands_append x (z ∷ xs) ys h = let r = stands_append x xs ys in grind (arith, nat_tests)

pub stands_left : (x : ℕ) (xs ys : List ℕ) → stands x xs ≡ true → stands x (xs ++ ys) ≡ true
stands_left x [] ys h = absurd (cc)
stands_left x (z ∷ xs) ys h = let r = stands_left x xs ys in grind (arith, nat_tests)

pub stands_right : (x : ℕ) (xs ys : List ℕ) → stands x ys ≡ true → stands x (xs ++ ys) ≡ true
stands_right x [] ys h = h
stands_right x (z ∷ xs) ys h = let r = stands_right x xs ys h in grind (arith, nat_tests)

-- without the first x
without : ℕ → List ℕ → List ℕ
without x [] = []
without x (y ∷ ys) = if x == y then ys else y ∷ without x ys

without_less : (x : ℕ) (ys : List ℕ) → stands x ys ≡ true → length ys ≡ suc (length (without x ys))
unfolding without
without_less x [] h = absurd (cc)
without_less x (y ∷ ys) h = let r = without_less x ys in grind (arith, nat_tests)

without_else : (x z : ℕ) (ys : List ℕ) → z ≢ x → stands z ys ≡ true → stands z (without x ys) ≡ true
unfolding without
without_else x z [] ne h = absurd (cc)
without_else x z (y ∷ ys) ne h = let r = without_else x z ys ne in grind (arith, nat_tests)

-- as many at most as a list in which they all stand
pub once_within : (xs ys : List ℕ) → IsOnce xs → ((x : ℕ) → stands x xs ≡ true → stands x ys ≡ true) → length xs ≤ length ys
once_within [] ys o h = omega arith
once_within (x ∷ xs) ys o h =
    let here = h x (stands_first x xs) in
    let r : length xs ≤ length (without x ys) = once_within xs (without x ys) o.1 (λ z k. without_else x z ys (λ e. both (stands x xs) (subst (λ (n : ℕ). stands n xs ≡ true) e k) o.0) (h z (stands_later z x xs k))) in
    omega (arith, r, without_less x ys here)

-- fewer where one of that list is left out
pub once_fewer : (xs ys : List ℕ) (y : ℕ) → IsOnce xs → ((x : ℕ) → stands x xs ≡ true → stands x ys ≡ true) → stands y ys ≡ true → stands y xs ≡ false → length xs < length ys
once_fewer xs ys y o h there out =
    let r : length (y ∷ xs) ≤ length ys = once_within (y ∷ xs) ys (out, o) (λ x k. go x (stands_cases x y xs k)) in omega (arith, r)
  where
    go : (x : ℕ) → (x ≡ y) ⊎ (stands x xs ≡ true) → stands x ys ≡ true
    go x (inl e) = subst (λ (n : ℕ). stands n ys ≡ true) (sym e) there
    go x (inr k) = h x k

down_from : ℕ → List ℕ
down_from zero = []
down_from (suc n) = n ∷ down_from n

down_has : (n x : ℕ) → x < n → stands x (down_from n) ≡ true
unfolding down_from
down_has zero x h = absurd (omega arith)
down_has (suc n) x h = let r = λ (k : x < n). down_has n x k in grind (arith, nat_tests)

down_long : (n : ℕ) → length (down_from n) ≡ n
unfolding down_from
down_long zero = refl
down_long (suc n) = ap suc (down_long n)

-- at most n numbers are below n
pub once_below : (xs : List ℕ) (n : ℕ) → IsOnce xs → ((x : ℕ) → stands x xs ≡ true → x < n) → length xs ≤ n
once_below xs n o h = let r = once_within xs (down_from n) o (λ x k. down_has n x (h x k)) in omega (arith, r, down_long n)

pub once_snoc : (xs : List ℕ) (x : ℕ) → IsOnce xs → stands x xs ≡ false → IsOnce (xs ++ x ∷ [])
once_snoc [] x o h = (refl, tt)
once_snoc (y ∷ ys) x o h = (not_there (stands_append y ys (x ∷ [])) (bool_tells (stands y (ys ++ x ∷ []))), once_snoc ys x o.1 (grind (arith, nat_tests)))
  where
    not_there : (stands y (ys ++ x ∷ []) ≡ true → (stands y ys ≡ true) ⊎ (stands y (x ∷ []) ≡ true)) → (stands y (ys ++ x ∷ []) ≡ true) ⊎ (stands y (ys ++ x ∷ []) ≡ false) → stands y (ys ++ x ∷ []) ≡ false
    not_there f (inr k) = k
    not_there f (inl k) = let c = f k in let no = o.0 in absurd (grind (arith, nat_tests))
