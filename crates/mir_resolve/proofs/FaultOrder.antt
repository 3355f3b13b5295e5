-- The first fault doesn't depend on the order in which faults are noted.
use Rattle.std.proofs.Common.{◌≡◌, ℕ, ◌<◌, ◌≤◌, ◌⊎◌, inl, inr, true, false, cond, ◌&&◌, ◌||◌, nat_lt, nat_eq, List, [], ◌∷◌, Option, Some, None, refl, sym, ap, ap₂, ◌∙◌, arith}
use Rattle.std.proofs.lemmas.Bool.{cases_lt}
use Rattle.std.proofs.lemmas.Bool.Decides.{nat_tests}
use Rattle.mir_text.specs.NameFaults.{Fault, comes_first, earlier, first_fault}
use Rattle.mir_resolve.specs.Faults.{noted}

-- ---- two faults

abbrev Before : Fault → Fault → Type 0
Before a b = (a.0 < b.0) ⊎ ((a.0 ≡ b.0) × (a.1 < b.1))

yes-lt : (m n : ℕ) → m < n → nat_lt m n ≡ true
yes-lt m n h = grind (arith, nat_tests)

no-lt : (m n : ℕ) → n ≤ m → nat_lt m n ≡ false
no-lt m n h = grind (arith, nat_tests)

yes-eq : (m n : ℕ) → m ≡ n → nat_eq m n ≡ true
yes-eq m n h = grind (arith, nat_tests)

no-eq : (m n : ℕ) → m < n → nat_eq n m ≡ false
no-eq m n h = grind (arith, nat_tests)

is-first : (a b : Fault) → Before a b → comes_first a b ≡ true
is-first a b (inl lt) = ap (λ t. t || (nat_eq a.0 b.0 && nat_lt a.1 b.1)) (yes-lt a.0 b.0 lt)
is-first a b (inr (e, lt)) = rw (no-lt a.0 b.0 (omega arith), yes-eq a.0 b.0 e, yes-lt a.1 b.1 lt) refl

not-first : (a b : Fault) → Before b a → comes_first a b ≡ false
not-first a b (inl lt) = rw (no-lt a.0 b.0 (omega arith), no-eq b.0 a.0 lt) refl
not-first a b (inr (e, lt)) = rw (no-lt a.0 b.0 (omega arith), yes-eq a.0 b.0 (sym e), no-lt a.1 b.1 (omega arith)) refl

not-same : (a b : Fault) → a.0 ≡ b.0 → a.1 ≡ b.1 → comes_first a b ≡ false
not-same a b e d = rw (no-lt a.0 b.0 (omega arith), yes-eq a.0 b.0 e, no-lt a.1 b.1 (omega arith)) refl

data Order (a b : Fault) : Type 0 where
  first : Before a b → Order a b
  same : a ≡ b → Order a b
  later : Before b a → Order a b

ordered : (a b : Fault) → Order a b
ordered a b =
    elim (cases_lt a.0 b.0) [
      | inl lt ↦ first (inl lt)
      | inr ge ↦ elim (cases_lt b.0 a.0) [
        | inl gt ↦ later (inl gt)
        | inr le ↦ let line : a.0 ≡ b.0 = omega arith in elim (cases_lt a.1 b.1) [
          | inl lt ↦ first (inr (line, lt))
          | inr ge ↦ elim (cases_lt b.1 a.1) [
            | inl gt ↦ let back : b.0 ≡ a.0 = omega arith in later (inr (back, gt))
            | inr le ↦ let code : a.1 ≡ b.1 = omega arith in same (ap₂ (λ m n. let f : Fault = (m, n) in f) line code)
          ]
        ]
      ]
    ]

before-then : (a b c : Fault) → Before a b → Before b c → Before a c
before-then a b c (inl x) (inl y) = inl (omega arith)
before-then a b c (inl x) (inr y) = inl (omega (arith, y.0))
before-then a b c (inr x) (inl y) = inl (omega (arith, x.0))
before-then a b c (inr x) (inr y) = inr (x.0 ∙ y.0, omega (arith, x.1, y.1))

-- ---- the least of two

abbrev least : Fault → Fault → Fault
least a b = earlier a (Some b)

stays : (a b : Fault) → Before a b → least a b ≡ a
stays a b h = ap (λ t. cond t b a) (not-first b a h)

yields : (a b : Fault) → Before b a → least a b ≡ b
yields a b h = ap (λ t. cond t b a) (is-first b a h)

itself : (a : Fault) → least a a ≡ a
itself a = ap (λ t. cond t a a) (not-same a a refl refl)

least-comm : (a b : Fault) → least a b ≡ least b a
least-comm a b = elim (ordered a b) [
  | first h ↦ stays a b h ∙ sym (yields b a h)
  | same e ↦ ap (least a) (sym e) ∙ ap (λ x. least x a) e
  | later h ↦ yields a b h ∙ sym (stays b a h)
]

least-assoc : (a b c : Fault) → least a (least b c) ≡ least (least a b) c
least-assoc a b c = elim (ordered a b) [
  | first h ↦ elim (ordered b c) [
    | first k ↦ ap (least a) (stays b c k) ∙ stays a b h ∙ sym (ap (λ x. least x c) (stays a b h) ∙ stays a c (before-then a b c h k))
    | same e ↦ ap (λ x. least a (least b x)) (sym e) ∙ ap (least a) (itself b) ∙ ap₂ least (sym (stays a b h)) e
    | later k ↦ ap (least a) (yields b c k) ∙ ap (λ x. least x c) (sym (stays a b h))
  ]
  | same e ↦ elim (ordered b c) [
    | first k ↦ ap (least a) (stays b c k) ∙ ap₂ least (sym (itself a)) refl ∙ ap (least (least a a)) (sym e) ∙ ap (λ x. least x a) (itself a) ∙ itself a ∙ sym (ap (λ x. least (least a x) c) (sym e) ∙ ap (λ x. least x c) (itself a) ∙ ap (λ x. least x c) e ∙ stays b c k ∙ sym e)
    | same d ↦ ap (λ x. least a (least b x)) (sym d) ∙ ap (least a) (itself b) ∙ ap (λ x. x) (sym (ap (least (least a b)) (sym d) ∙ ap (λ x. least x b) (ap (least a) (sym e) ∙ itself a)))
    | later k ↦ ap (least a) (yields b c k) ∙ ap (λ x. least x c) (sym (ap (least a) (sym e) ∙ itself a))
  ]
  | later h ↦ elim (ordered b c) [
    | first k ↦ ap (least a) (stays b c k) ∙ yields a b h ∙ sym (ap (λ x. least x c) (yields a b h) ∙ stays b c k)
    | same e ↦ ap (λ x. least a (least b x)) (sym e) ∙ ap (least a) (itself b) ∙ yields a b h ∙ sym (ap₂ least (yields a b h) (sym e) ∙ itself b)
    | later k ↦ ap (least a) (yields b c k) ∙ yields a c (before-then c b a k h) ∙ sym (ap (λ x. least x c) (yields a b h) ∙ yields b c k)
  ]
]

-- ---- many

abbrev joined : Option Fault → Option Fault → Option Fault
joined None p = p
joined (Some a) p = Some (earlier a p)

noted-some : (k : Fault) (fs : List Fault) → noted (Some k) fs ≡ Some (earlier k (first_fault fs))
unfolding noted
noted-some k [] = refl
noted-some k (f ∷ fs) =
    noted-some (least f k) fs
    ∙ elim (first_fault fs) as (λ p. Some (earlier (least f k) p) ≡ Some (least k (earlier f p))) [
      | None ↦ ap (λ x. Some x) (least-comm f k)
      | Some m ↦ ap (λ x. Some x) (ap (λ x. least x m) (least-comm f k) ∙ sym (least-assoc k f m))
    ]

-- what is kept after all faults is the first of them
pub noted_first : (fs : List Fault) → noted None fs ≡ first_fault fs
unfolding noted
noted_first [] = refl
noted_first (f ∷ fs) = noted-some f fs

noted-joined : (k : Option Fault) (fs : List Fault) → noted k fs ≡ joined k (first_fault fs)
noted-joined None fs = noted_first fs
noted-joined (Some k) fs = noted-some k fs

joined-swap : (k p q : Option Fault) → joined (joined k p) q ≡ joined (joined k q) p
joined-swap None None None = refl
joined-swap None None (Some b) = refl
joined-swap None (Some a) None = refl
joined-swap None (Some a) (Some b) = ap (λ x. Some x) (least-comm a b)
joined-swap (Some k) None q = refl
joined-swap (Some k) (Some a) None = refl
joined-swap (Some k) (Some a) (Some b) = ap (λ x. Some x) (sym (least-assoc k a b) ∙ ap (least k) (least-comm a b) ∙ least-assoc k b a)

-- two lists of faults may be noted in either order
pub noted_swap : (k : Option Fault) (xs ys : List Fault) → noted (noted k xs) ys ≡ noted (noted k ys) xs
noted_swap k xs ys =
    noted-joined (noted k xs) ys ∙ ap (λ o. joined o (first_fault ys)) (noted-joined k xs)
    ∙ joined-swap k (first_fault xs) (first_fault ys)
    ∙ sym (noted-joined (noted k ys) xs ∙ ap (λ o. joined o (first_fault xs)) (noted-joined k ys))
