-- The declarations of a canonical text: the arguments, then `_0`, then the other locals. Each local is declared once, with its type.
use Rattle.std.proofs.Common.{◌≡◌, ◌<◌, ◌≤◌, ◌+◌, ◌-◌, ℕ, zero, suc, true, false, ◌&&◌, ◌||◌, nat_eq, List, [], ◌∷◌, ◌++◌, length, get_or, take, drop, refl, ap, subst, ◌∙◌, arith, ◌⊎◌, inl, inr, Some, is_some, length-append, length-drop}
use Rattle.std.proofs.lemmas.Bool.Decides.{nat_tests}
use Rattle.std.proofs.lemmas.List.{append-nil, get_or-take, get_or-drop}
use Rattle.mir_syntax.specs.Tree.{Tree, empty}
use Rattle.mir_text.specs.Grammar.{AllOf}
use Rattle.mir_text.specs.NamedBodies.{Declared, declared_ty}
use Rattle.mir_text.specs.Naming.{or_unit, locals_from}
use Rattle.mir_text.specs.NameFaults.{is_among, below_declared, none_missing_in, none_missing}
use Rattle.mir_text.specs.PlaceText.{local_ty}
use Rattle.mir_round_trip.proofs.Spelling.{all-append}
use Rattle.mir_round_trip.proofs.PlacesBack.{Declares}
use Rattle.mir_round_trip.proofs.Rvalues.{two-same}

-- types with numbers from one on
abbrev pub numbered : ℕ → List Tree → Declared
numbered k [] = []
numbered k (t ∷ ts) = (k, t) ∷ numbered (suc k) ts

-- of so many arguments, behind the type of `_0`
abbrev pub declarations_of : Tree → List Tree → ℕ → Declared
declarations_of t ts a = numbered 1 (take a ts) ++ (0, t) ∷ numbered (suc a) (drop a ts)

-- ---- the type of a declared local

numbers-same : (a b : ℕ) → a ≡ b → nat_eq a b ≡ true
numbers-same a b h = grind (arith, nat_tests)

numbers-differ : (a b : ℕ) → (a < b) ⊎ (b < a) → nat_eq a b ≡ false
numbers-differ a b (inl h) = grind (arith, nat_tests)
numbers-differ a b (inr h) = grind (arith, nat_tests)

look : (k : ℕ) (us : List Tree) (more : Declared) (x i : ℕ) → x ≡ k + i → i < length us → declared_ty (numbered k us ++ more) x ≡ Some (get_or us i empty)
look k [] more x i e h = absurd (omega arith)
look k (u ∷ us) more x zero e h = rw (numbers-same k x (omega arith)) refl
look k (u ∷ us) more x (suc i) e h = rw (numbers-differ k x (inl (omega arith))) (look (suc k) us more x i (omega arith) (omega arith))

skip : (k : ℕ) (us : List Tree) (more : Declared) (x : ℕ) → (x < k) ⊎ (k + length us ≤ x) → declared_ty (numbered k us ++ more) x ≡ declared_ty more x
skip k [] more x h = refl
skip k (u ∷ us) more x (inl h) = rw (numbers-differ k x (inr h)) (skip (suc k) us more x (inl (omega arith)))
skip k (u ∷ us) more x (inr h) = rw (numbers-differ k x (inl (omega arith))) (skip (suc k) us more x (inr (omega arith)))

taken : {A : Type 0} (a : ℕ) (ts : List A) → a ≤ length ts → length (take a ts) ≡ a
taken zero ts h = refl
taken (suc a) [] h = absurd (omega arith)
taken (suc a) (t ∷ ts) h = ap suc (taken a ts (omega arith))

declares-arg : (t : Tree) (ts : List Tree) (a y : ℕ) → a ≤ length ts → y < a → declared_ty (declarations_of t ts a) (suc y) ≡ Some (get_or ts y empty)
declares-arg t ts a y h less =
    let n = taken a ts h in
    look 1 (take a ts) ((0, t) ∷ numbered (suc a) (drop a ts)) (suc y) y (omega arith) (omega (arith, n)) ∙ ap Some (get_or-take a ts y empty less)

declares-other : (t : Tree) (ts : List Tree) (a y : ℕ) → a ≤ length ts → a ≤ y → y < length ts → declared_ty (declarations_of t ts a) (suc y) ≡ Some (get_or ts y empty)
declares-other t ts a y h more less =
    let n = taken a ts h in
    let m = length-drop a ts in
    let i = y - a in
    let other : declared_ty ((0, t) ∷ numbered (suc a) (drop a ts)) (suc y) ≡ declared_ty (numbered (suc a) (drop a ts)) (suc y) = rw (numbers-differ 0 (suc y) (inl (omega arith))) refl in
    let last : declared_ty (numbered (suc a) (drop a ts)) (suc y) ≡ Some (get_or (drop a ts) i empty) =
    subst (λ l. declared_ty l (suc y) ≡ Some (get_or (drop a ts) i empty)) (append-nil (numbered (suc a) (drop a ts))) (look (suc a) (drop a ts) [] (suc y) i (omega arith) (omega (arith, m))) in
    let place : a + i ≡ y = omega arith in
    skip 1 (take a ts) ((0, t) ∷ numbered (suc a) (drop a ts)) (suc y) (inr (omega (arith, n))) ∙ other ∙ last
    ∙ ap Some (get_or-drop a ts i empty ∙ ap (λ z. get_or ts z empty) place)

declares-at : (t : Tree) (ts : List Tree) (a y : ℕ) → a ≤ length ts → y < length ts → (y < a) ⊎ (a ≤ y) → declared_ty (declarations_of t ts a) (suc y) ≡ Some (get_or ts y empty)
declares-at t ts a y h less (inl k) = declares-arg t ts a y h k
declares-at t ts a y h less (inr k) = declares-other t ts a y h k less

split-step : (y a : ℕ) → (y < a) ⊎ (a ≤ y) → (suc y < suc a) ⊎ (suc a ≤ suc y)
split-step y a (inl h) = inl (omega arith)
split-step y a (inr h) = inr (omega arith)

split-at : (y a : ℕ) → (y < a) ⊎ (a ≤ y)
split-at y zero = inr (omega arith)
split-at zero (suc a) = inl (omega arith)
split-at (suc y) (suc a) = split-step y a (split-at y a)

pub declares : (t : Tree) (ts : List Tree) (a : ℕ) → a ≤ length ts → Declares (declarations_of t ts a) (t ∷ ts)
unfolding local_ty
declares t ts a h zero less = skip 1 (take a ts) ((0, t) ∷ numbered (suc a) (drop a ts)) 0 (inl (omega arith))
declares t ts a h (suc y) less = declares-at t ts a y h (omega arith) (split-at y a)

-- ---- how many there are

numbered-length : (k : ℕ) (us : List Tree) → length (numbered k us) ≡ length us
numbered-length k [] = refl
numbered-length k (u ∷ us) = ap suc (numbered-length (suc k) us)

pub declared-length : (t : Tree) (ts : List Tree) (a : ℕ) → a ≤ length ts → length (declarations_of t ts a) ≡ length (t ∷ ts)
declared-length t ts a h =
    let n = taken a ts h in
    let m = length-drop a ts in
    let p = numbered-length 1 (take a ts) in
    let q = numbered-length (suc a) (drop a ts) in
    let all = length-append (numbered 1 (take a ts)) ((0, t) ∷ numbered (suc a) (drop a ts)) in
    omega (arith, n, m, p, q, all)

next : (k i : ℕ) → k + suc i ≡ suc k + i
next k i = omega arith

zero-front : (i : ℕ) → i ≡ 0 + i
zero-front i = omega arith

-- the types from a number on
types-from : (L : Declared) (k : ℕ) (us : List Tree) → ((i : ℕ) → i < length us → declared_ty L (k + i) ≡ Some (get_or us i empty)) → locals_from L k (length us) ≡ us
types-from L k [] h = refl
types-from L k (u ∷ us) h =
    let here : k + 0 ≡ k = omega arith in
    let first : declared_ty L k ≡ Some u = subst (λ n. declared_ty L n ≡ Some u) here (h 0 (omega arith)) in
    let later : (i : ℕ) → i < length us → declared_ty L (suc k + i) ≡ Some (get_or us i empty) =
    λ i less. subst (λ n. declared_ty L n ≡ Some (get_or us i empty)) (next k i) (h (suc i) (omega arith)) in
    two-same (λ o l. or_unit o ∷ l) first (types-from L (suc k) us later)

pub locals-back : (t : Tree) (ts : List Tree) (a : ℕ) → a ≤ length ts → locals_from (declarations_of t ts a) 0 (length (declarations_of t ts a)) ≡ t ∷ ts
unfolding local_ty
locals-back t ts a h =
    let all : (i : ℕ) → i < length (t ∷ ts) → declared_ty (declarations_of t ts a) (0 + i) ≡ Some (get_or (t ∷ ts) i empty) =
    λ i less. subst (λ n. declared_ty (declarations_of t ts a) n ≡ Some (get_or (t ∷ ts) i empty)) (zero-front i) (declares t ts a h i less) in
    ap (locals_from (declarations_of t ts a) 0) (declared-length t ts a h) ∙ types-from (declarations_of t ts a) 0 (t ∷ ts) all

pub args-count : (t : Tree) (ts : List Tree) (a : ℕ) → a ≤ length ts → length (numbered 1 (take a ts)) ≡ a
args-count t ts a h = numbered-length 1 (take a ts) ∙ taken a ts h

-- ---- none is missing

numbered-below : (k n : ℕ) (us : List Tree) → k + length us ≤ n → AllOf (λ d. d.0 < n) (numbered k us)
numbered-below k n [] h = tt
numbered-below k n (u ∷ us) h = (omega arith, numbered-below (suc k) n us (omega arith))

all-below : (t : Tree) (ts : List Tree) (a : ℕ) → a ≤ length ts → AllOf (λ d. d.0 < length (t ∷ ts)) (declarations_of t ts a)
all-below t ts a h =
    let n = taken a ts h in
    let m = length-drop a ts in
    all-append (λ d. d.0 < length (t ∷ ts)) (numbered 1 (take a ts)) ((0, t) ∷ numbered (suc a) (drop a ts)) (numbered-below 1 (length (t ∷ ts)) (take a ts) (omega (arith, n)))
    (omega arith, numbered-below (suc a) (length (t ∷ ts)) (drop a ts) (omega (arith, m)))

below : (L : Declared) (locals : List Tree) → Declares L locals → (x : ℕ) → x < length locals → below_declared L x ≡ true
below L locals h zero less = refl
below L locals h (suc x) less = ap is_some (h x (omega arith))

none-missing-in : (L : Declared) (locals : List Tree) → Declares L locals → (ds : Declared) → AllOf (λ d. d.0 < length locals) ds → none_missing_in L ds ≡ true
none-missing-in L locals h [] all = refl
none-missing-in L locals h (d ∷ ds) all = two-same (λ a b. a && b) (below L locals h d.0 all.0) (none-missing-in L locals h ds all.1)

pub none-missing : (t : Tree) (ts : List Tree) (a : ℕ) → a ≤ length ts → none_missing (declarations_of t ts a) ≡ true
none-missing t ts a h =
    let is = declares t ts a h in
    two-same (λ a b. a && b) (ap is_some (is 0 (omega arith))) (none-missing-in (declarations_of t ts a) (t ∷ ts) is (declarations_of t ts a) (all-below t ts a h))

-- ---- each once

-- the numbers of declarations are new, those of some being known
abbrev pub Fresh : List ℕ → Declared → Type 0
Fresh before [] = Unit {0}
Fresh before (d ∷ ds) = (is_among before d.0 ≡ false) × Fresh (d.0 ∷ before) ds

-- no number from one on is known
abbrev Open : List ℕ → ℕ → Type 0
Open before k = (x : ℕ) → k ≤ x → is_among before x ≡ false

open-next : (before : List ℕ) (k n : ℕ) → Open before k → k < n → Open (k ∷ before) n
open-next before k n h less x more = two-same (λ a b. a || b) (numbers-differ k x (inl (omega arith))) (h x (omega arith))

fresh-rest : (before : List ℕ) (k : ℕ) (us : List Tree) → Open before k → Fresh before (numbered k us)
fresh-rest before k [] h = tt
fresh-rest before k (u ∷ us) h = (h k (omega arith), fresh-rest (k ∷ before) (suc k) us (open-next before k (suc k) h (omega arith)))

fresh-front : (before : List ℕ) (k n : ℕ) (us : List Tree) (more : Declared) → k + length us ≡ n → Open before k → is_among before 0 ≡ false → 0 < k
    → ((b : List ℕ) → Open b n → is_among b 0 ≡ false → Fresh b more) → Fresh before (numbered k us ++ more)
fresh-front before k n [] more e h none some next = let same : k ≡ n = omega arith in next before (subst (Open before) same h) none
fresh-front before k n (u ∷ us) more e h none some next = (
  h k (omega arith),
  fresh-front (k ∷ before) (suc k) n us more (omega arith) (open-next before k (suc k) h (omega arith))
      (two-same (λ a b. a || b) (numbers-differ k 0 (inr some)) none) (omega arith) next,
)

pub fresh : (t : Tree) (ts : List Tree) (a : ℕ) → a ≤ length ts → Fresh [] (declarations_of t ts a)
fresh t ts a h =
    let n = taken a ts h in
    fresh-front [] 1 (suc a) (take a ts) ((0, t) ∷ numbered (suc a) (drop a ts)) (omega (arith, n)) (λ x more. refl) refl (omega arith)
    (λ b is none. (none, fresh-rest (0 ∷ b) (suc a) (drop a ts) (λ x more. two-same (λ a b. a || b) (numbers-differ 0 x (inl (omega arith))) (is x more))))
