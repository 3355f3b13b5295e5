-- When lists that are put together are empty, and what tests of a whole list say of its items.
use Rattle.std.proofs.Common.{◌≡◌, refl, sym, ◌∙◌, subst, ℕ, zero, suc, ◌+◌, Bool, true, false, ◌&&◌, ◌||◌, List, [], ◌∷◌, ◌++◌, map, Option, Some, None, is_none, slice_get, arith}
use Rattle.std.specs.List.{list_any, list_all}
use Rattle.std.specs.Bool.{then_some}
use Rattle.std.proofs.lemmas.List.Folds.{list_all-append}
use Rattle.mir_syntax.specs.Shapes.{◌>>=◌}
use Rattle.mir_rules.specs.Broken.{gather, if_broken}

-- ---- two lists

pub append_empty : {A : Type 0} (xs ys : List A) → xs ≡ [] → ys ≡ [] → xs ++ ys ≡ []
append_empty [] ys e f = f
append_empty (x ∷ xs) ys e f = absurd (grind arith)

pub append_empty-left : {A : Type 0} (xs ys : List A) → xs ++ ys ≡ [] → xs ≡ []
append_empty-left [] ys e = refl
append_empty-left (x ∷ xs) ys e = absurd (grind arith)

pub append_empty-right : {A : Type 0} (xs ys : List A) → xs ++ ys ≡ [] → ys ≡ []
append_empty-right [] ys e = e
append_empty-right (x ∷ xs) ys e = absurd (grind arith)

-- ---- map and gather

pub map_empty : {A B : Type 0} (f : A → B) (xs : List A) → xs ≡ [] → map f xs ≡ []
map_empty f [] e = refl
map_empty f (x ∷ xs) e = absurd (grind arith)

pub map_empty-source : {A B : Type 0} (f : A → B) (xs : List A) → map f xs ≡ [] → xs ≡ []
map_empty-source f [] e = refl
map_empty-source f (x ∷ xs) e = absurd (grind arith)

-- nothing is gathered where each item gives nothing
pub gather_empty : {A B : Type 0} (find : ℕ → A → List B) (n : ℕ) (xs : List A) → ((i : ℕ) (x : A) → slice_get xs i ≡ Some x → find (i + n) x ≡ []) → gather find n xs ≡ []
gather_empty find n [] h = refl
gather_empty find n (x ∷ xs) h =
    append_empty (find n x) (gather find (suc n) xs) (rw (let e : 0 + n ≡ n = omega arith in e) at (h 0 x refl))
    (gather_empty find (suc n) xs (λ i y e. rw (let k : suc i + n ≡ i + suc n = omega arith in k) at (h (suc i) y e)))

-- and where nothing is gathered, each item gives nothing
pub gather_empty-at : {A B : Type 0} (find : ℕ → A → List B) (n : ℕ) (xs : List A) (i : ℕ) (x : A) → gather find n xs ≡ [] → slice_get xs i ≡ Some x → find (i + n) x ≡ []
gather_empty-at find n [] i x h e = absurd (grind arith)
gather_empty-at find n (y ∷ xs) zero x h e =
    let same : y ≡ x = grind arith in
    rw (let k : 0 + n ≡ n = omega arith in k) (rw same at (append_empty-left (find n y) (gather find (suc n) xs) h))
gather_empty-at find n (y ∷ xs) (suc i) x h e =
    rw (let k : suc i + n ≡ i + suc n = omega arith in k) (gather_empty-at find (suc n) xs i x (append_empty-right (find n y) (gather find (suc n) xs) h) e)

-- ---- one rule

pub if_broken_empty : (b : Bool) (code : ℕ) → if_broken b code ≡ [] → b ≡ false
if_broken_empty true code e = absurd (grind arith)
if_broken_empty false code e = refl

pub if_broken_none : (b : Bool) (code : ℕ) → b ≡ false → if_broken b code ≡ []
if_broken_none true code e = absurd (grind arith)
if_broken_none false code e = refl

-- ---- tests

pub or_false-left : (a b : Bool) → (a || b) ≡ false → a ≡ false
or_false-left true b e = absurd (grind arith)
or_false-left false b e = refl

pub or_false-right : (a b : Bool) → (a || b) ≡ false → b ≡ false
or_false-right true b e = absurd (grind arith)
or_false-right false b e = e

pub and_true-left : (a b : Bool) → (a && b) ≡ true → a ≡ true
and_true-left true b e = refl
and_true-left false b e = absurd (grind arith)

pub and_true-right : (a b : Bool) → (a && b) ≡ true → b ≡ true
and_true-right true b e = e
and_true-right false b e = absurd (grind arith)

pub list_any_false-at : {A : Type 0} (p : A → Bool) (xs : List A) (i : ℕ) (x : A) → list_any p xs ≡ false → slice_get xs i ≡ Some x → p x ≡ false
list_any_false-at p [] i x h e = absurd (grind arith)
list_any_false-at p (y ∷ xs) zero x h e = rw (let same : x ≡ y = grind arith in same) (or_false-left (p y) (list_any p xs) h)
list_any_false-at p (y ∷ xs) (suc i) x h e = list_any_false-at p xs i x (or_false-right (p y) (list_any p xs) h) e

pub list_any_false : {A : Type 0} (p : A → Bool) (xs : List A) → ((i : ℕ) (x : A) → slice_get xs i ≡ Some x → p x ≡ false) → list_any p xs ≡ false
list_any_false p [] h = refl
list_any_false p (x ∷ xs) h = rw (h 0 x refl) (list_any_false p xs (λ i y e. h (suc i) y e))

pub list_any_false-left : {A : Type 0} (p : A → Bool) (xs ys : List A) → list_any p (xs ++ ys) ≡ false → list_any p xs ≡ false
list_any_false-left p [] ys h = refl
list_any_false-left p (x ∷ xs) ys h = rw (or_false-left (p x) (list_any p (xs ++ ys)) h) (list_any_false-left p xs ys (or_false-right (p x) (list_any p (xs ++ ys)) h))

pub list_any_false-right : {A : Type 0} (p : A → Bool) (xs ys : List A) → list_any p (xs ++ ys) ≡ false → list_any p ys ≡ false
list_any_false-right p [] ys h = h
list_any_false-right p (x ∷ xs) ys h = list_any_false-right p xs ys (or_false-right (p x) (list_any p (xs ++ ys)) h)

pub list_all_true-at : {A : Type 0} (p : A → Bool) (xs : List A) (i : ℕ) (x : A) → list_all p xs ≡ true → slice_get xs i ≡ Some x → p x ≡ true
list_all_true-at p [] i x h e = absurd (grind arith)
list_all_true-at p (y ∷ xs) zero x h e = rw (let same : x ≡ y = grind arith in same) (and_true-left (p y) (list_all p xs) h)
list_all_true-at p (y ∷ xs) (suc i) x h e = list_all_true-at p xs i x (and_true-right (p y) (list_all p xs) h) e

pub list_all_true : {A : Type 0} (p : A → Bool) (xs : List A) → ((i : ℕ) (x : A) → slice_get xs i ≡ Some x → p x ≡ true) → list_all p xs ≡ true
list_all_true p [] h = refl
list_all_true p (x ∷ xs) h = rw (h 0 x refl) (list_all_true p xs (λ i y e. h (suc i) y e))

pub list_all_true-left : {A : Type 0} (p : A → Bool) (xs ys : List A) → list_all p (xs ++ ys) ≡ true → list_all p xs ≡ true
list_all_true-left p xs ys h = and_true-left (list_all p xs) (list_all p ys) (sym (list_all-append p xs ys) ∙ h)

pub list_all_true-right : {A : Type 0} (p : A → Bool) (xs ys : List A) → list_all p (xs ++ ys) ≡ true → list_all p ys ≡ true
list_all_true-right p xs ys h = and_true-right (list_all p xs) (list_all p ys) (sym (list_all-append p xs ys) ∙ h)

-- ---- chains of options

-- what a test does not find missing is there
pub is_there : {A : Type 0} (o : Option A) → is_none o ≡ false → (x : A) × (o ≡ Some x)
is_there None e = absurd (grind arith)
is_there (Some x) e = (x, refl)

pub then_some_is : {A : Type 0} (b : Bool) (x y : A) → then_some b x ≡ Some y → (b ≡ true) × (x ≡ y)
then_some_is true x y e = (refl, grind arith)
then_some_is false x y e = absurd (grind arith)
