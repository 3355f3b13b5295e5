-- Where tracked places lie against a place.
use Rattle.std.proofs.Common.{◌≡◌, ◌⊎◌, inl, inr, refl, sym, ap, ap₂, ◌∙◌, ℕ, ◌+◌, ◌≤◌, ◌<◌, Bool, true, false, nat_eq, nat_lt, if◌then◌else◌, List, [], ◌∷◌, ◌++◌, length, drop, Option, Some, None, is_some, IsTrue, arith}
use Rattle.std.proofs.lemmas.Bool.{cases_eq, cases_Bool}
use Rattle.std.proofs.lemmas.List.{append-nil, length-append}
use Rattle.mir_syntax.specs.declared.body.Proj.{Proj}
use Rattle.mir_syntax.specs.declared.body.Proj.TheVariants.{Field, Downcast, Deref}
use Rattle.mir_syntax.specs.declared.body.Place.{Place}
use Rattle.mir_syntax.specs.Parts.{is_direct}
use Rattle.place_map.specs.declared.side.Side.{Side}
use Rattle.place_map.specs.declared.side.Side.TheVariants.{Before, Within, After}
use Rattle.place_map.specs.Order.{by_numbers, path_side, place_side}
use Rattle.place_map.specs.Tracked.{same_proj, rest_of, way, beyond}

abbrev pub is_within : Side → Bool
is_within Within = true
is_within _ = false

abbrev pub level : Side → ℕ
level Before = 0
level Within = 1
level After = 2

level_few : (s : Side) → level s ≤ 2
level_few Before = omega arith
level_few Within = omega arith
level_few After = omega arith

-- ---- numbers

pub either : (i j : ℕ) → (i < j) ⊎ ((i ≡ j) ⊎ (j < i))
either i j = elim (cases_eq i j) [ inl e ↦ inr (inl e) | inr ne ↦ elim (cases_Bool (nat_lt i j)) [ inl h ↦ inl (grind arith) | inr h ↦ inr (inr (grind arith)) ] ]

pub before_is : (i j : ℕ) (rest : Side) → i < j → by_numbers i j rest ≡ Before
before_is i j rest l = let e : nat_lt i j ≡ true = grind arith in rw e refl

pub same_is : (i j : ℕ) (rest : Side) → i ≡ j → by_numbers i j rest ≡ rest
same_is i j rest l = let e : nat_lt i j ≡ false = grind arith in let d : nat_lt j i ≡ false = grind arith in rw e (rw d refl)

after_is : (i j : ℕ) (rest : Side) → j < i → by_numbers i j rest ≡ After
after_is i j rest l = let e : nat_lt i j ≡ false = grind arith in let d : nat_lt j i ≡ true = grind arith in rw e (rw d refl)

numbers_rise : (i j k : ℕ) (a b c : Side) → by_numbers i j a ≡ Before → (a ≡ Before → level b ≤ level c) → level (by_numbers i k b) ≤ level (by_numbers j k c)
numbers_rise i j k a b c h ih = elim (either i k) [
  | inl l ↦ rw (before_is i k b l) (omega arith)
  | inr r ↦ elim (either i j) [
    | inl l ↦ rw (after_is j k c (elim r [ inl e ↦ omega arith | inr g ↦ omega arith ])) (level_few (by_numbers i k b))
    | inr s ↦ elim s [
      | inl e ↦ elim r [
        | inl f ↦ rw (same_is i k b f) (rw (same_is j k c (sym e ∙ f)) (ih (sym (same_is i j a e) ∙ h)))
        | inr g ↦ rw (after_is j k c (omega arith)) (level_few (by_numbers i k b))
      ]
      | inr g ↦ absurd (let z : After ≡ Before = sym (after_is i j a g) ∙ h in cc)
    ]
  ]
]

numbers_way : {A : Type 0} (i j : ℕ) (rest : Side) (o : Option A) → is_some o ≡ is_within rest → is_some (if nat_eq j i then o else None) ≡ is_within (by_numbers i j rest)
numbers_way i j rest o h = elim (either i j) [
  | inl l ↦ (let e : nat_eq j i ≡ false = grind arith in rw e (rw (before_is i j rest l) refl))
  | inr r ↦ elim r [
    | inl q ↦ (let e : nat_eq j i ≡ true = grind arith in rw e (rw (same_is i j rest q) h))
    | inr g ↦ (let e : nat_eq j i ≡ false = grind arith in rw e (rw (after_is i j rest g) refl))
  ]
]

-- ---- paths and places

path_rises : (qs rs ps : List Proj) → IsTrue (is_direct rs) → path_side qs rs ≡ Before → level (path_side qs ps) ≤ level (path_side rs ps)
path_rises qs rs [] d h = omega arith
path_rises [] rs (p ∷ ps) d h = omega arith
path_rises (q ∷ qs) [] (p ∷ ps) d h = absurd cc
path_rises (Field i ∷ qs) (Field j ∷ rs) (Field k ∷ ps) d h = numbers_rise i j k (path_side qs rs) (path_side qs ps) (path_side rs ps) h (λ e. path_rises qs rs ps d e)
path_rises (Field i ∷ qs) (Field j ∷ rs) (Downcast k ∷ ps) d h = omega arith
path_rises (Field i ∷ qs) (Field j ∷ rs) (Deref ∷ ps) d h = omega arith
path_rises (Downcast i ∷ qs) (Field j ∷ rs) (p ∷ ps) d h = omega arith
path_rises (Deref ∷ qs) (Field j ∷ rs) (p ∷ ps) d h = omega arith
path_rises (q ∷ qs) (Downcast j ∷ rs) (p ∷ ps) d h = absurd cc
path_rises (q ∷ qs) (Deref ∷ rs) (p ∷ ps) d h = absurd cc

pub side_rises : (q r p : Place) → IsTrue (is_direct r.proj) → place_side q r ≡ Before → level (place_side q p) ≤ level (place_side r p)
unfolding place_side
side_rises q r p d h = numbers_rise q.local r.local p.local (path_side q.proj r.proj) (path_side q.proj p.proj) (path_side r.proj p.proj) h (λ e. path_rises q.proj r.proj p.proj d e)

path_way : (qs ps : List Proj) → IsTrue (is_direct qs) → is_some (rest_of ps qs) ≡ is_within (path_side qs ps)
path_way qs [] d = refl
path_way [] (p ∷ ps) d = refl
path_way (Field i ∷ qs) (Field j ∷ ps) d = numbers_way i j (path_side qs ps) (rest_of ps qs) (path_way qs ps d)
path_way (Field i ∷ qs) (Downcast j ∷ ps) d = refl
path_way (Field i ∷ qs) (Deref ∷ ps) d = refl
path_way (Downcast i ∷ qs) (p ∷ ps) d = absurd cc
path_way (Deref ∷ qs) (p ∷ ps) d = absurd cc

-- a tracked place is at or under a place exactly where it is on neither side of it
pub side_way : (q p : Place) → IsTrue (is_direct q.proj) → is_some (way p q) ≡ is_within (place_side q p)
unfolding way place_side
side_way q p d = numbers_way q.local p.local (path_side q.proj p.proj) (rest_of p.proj q.proj) (path_way q.proj p.proj d)

-- ---- what is left of a path

same_proj_is : (q p : Proj) → same_proj q p ≡ true → q ≡ p
same_proj_is (Field i) (Field j) e = let same : i ≡ j = grind arith in ap Field same
same_proj_is (Downcast i) (Downcast j) e = let same : i ≡ j = grind arith in ap Downcast same
same_proj_is Deref Deref e = refl
same_proj_is (Field i) (Downcast j) e = absurd cc
same_proj_is (Field i) Deref e = absurd cc
same_proj_is (Downcast i) (Field j) e = absurd cc
same_proj_is (Downcast i) Deref e = absurd cc
same_proj_is Deref (Field j) e = absurd cc
same_proj_is Deref (Downcast j) e = absurd cc

same_proj_self : (p : Proj) → same_proj p p ≡ true
same_proj_self (Field i) = grind arith
same_proj_self (Downcast i) = grind arith
same_proj_self Deref = refl

rest_self : (ps : List Proj) → rest_of ps ps ≡ Some []
rest_self [] = refl
rest_self (p ∷ ps) = rw (same_proj_self p) (rest_self ps)

pub rest_is : (qs ps r : List Proj) → rest_of qs ps ≡ Some r → ps ≡ qs ++ r
rest_is [] ps r e = cc
rest_is (q ∷ qs) [] r e = absurd cc
rest_is (q ∷ qs) (p ∷ ps) r e = elim (cases_Bool (same_proj q p)) [
  | inl h ↦ (let go : rest_of qs ps ≡ Some r = sym (ap (λ b. if b then rest_of qs ps else None) h) ∙ e in ap₂ (λ z zs. z ∷ zs) (sym (same_proj_is q p h)) (rest_is qs ps r go))
  | inr h ↦ absurd (let z : None ≡ Some r = sym (ap (λ b. if b then rest_of qs ps else None) h) ∙ e in cc)
]

pub way_self : (p : Place) → way p p ≡ Some []
unfolding way
way_self p = let e : nat_eq p.local p.local ≡ true = grind arith in rw e (rest_self p.proj)

-- a place with a way from another is that one with the way behind it
pub way_is : (q p : Place) (r : List Proj) → way q p ≡ Some r → p ≡ record { local = q.local; proj = q.proj ++ r }
unfolding way
way_is q p r e = elim (cases_Bool (nat_eq q.local p.local)) [
  | inl h ↦ (let go : rest_of q.proj p.proj ≡ Some r = sym (ap (λ b. if b then rest_of q.proj p.proj else None) h) ∙ e in let same : p.local ≡ q.local = grind arith in ap₂ (λ x ps. record { local = x; proj = ps }) same (rest_is q.proj p.proj r go))
  | inr h ↦ absurd (let z : None ≡ Some r = sym (ap (λ b. if b then rest_of q.proj p.proj else None) h) ∙ e in cc)
]

-- ---- a way behind a path

abbrev pub then_side : Side → Side → Side
then_side Within s = s
then_side Before s = Before
then_side After s = After

numbers_then : (i j : ℕ) (s t : Side) → then_side (by_numbers i j s) t ≡ by_numbers i j (then_side s t)
numbers_then i j s t = elim (either i j) [
  | inl l ↦ rw (before_is i j s l) (rw (before_is i j (then_side s t) l) refl)
  | inr r ↦ elim r [
    | inl e ↦ rw (same_is i j s e) (rw (same_is i j (then_side s t) e) refl)
    | inr g ↦ rw (after_is i j s g) (rw (after_is i j (then_side s t) g) refl)
  ]
]

pub path_then : (qs ps r : List Proj) → path_side qs (ps ++ r) ≡ then_side (path_side qs ps) (path_side (drop (length ps) qs) r)
path_then qs [] r = refl
path_then [] (p ∷ ps) r = refl
path_then (Field i ∷ qs) (Field j ∷ ps) r = ap (by_numbers i j) (path_then qs ps r) ∙ sym (numbers_then i j (path_side qs ps) (path_side (drop (length ps) qs) r))
path_then (Field i ∷ qs) (Downcast j ∷ ps) r = refl
path_then (Field i ∷ qs) (Deref ∷ ps) r = refl
path_then (Downcast i ∷ qs) (p ∷ ps) r = refl
path_then (Deref ∷ qs) (p ∷ ps) r = refl

pub within_long : (qs ps : List Proj) → path_side qs ps ≡ Within → length ps ≤ length qs
within_long qs [] e = omega arith
within_long [] (p ∷ ps) e = absurd cc
within_long (Field i ∷ qs) (Field j ∷ ps) e = elim (either i j) [
  | inl l ↦ absurd (let z : Before ≡ Within = sym (before_is i j (path_side qs ps) l) ∙ e in cc)
  | inr r ↦ elim r [
    | inl q ↦ (let up = within_long qs ps (sym (same_is i j (path_side qs ps) q) ∙ e) in omega arith)
    | inr g ↦ absurd (let z : After ≡ Within = sym (after_is i j (path_side qs ps) g) ∙ e in cc)
  ]
]
within_long (Field i ∷ qs) (Downcast j ∷ ps) e = absurd cc
within_long (Field i ∷ qs) (Deref ∷ ps) e = absurd cc
within_long (Downcast i ∷ qs) (p ∷ ps) e = absurd cc
within_long (Deref ∷ qs) (p ∷ ps) e = absurd cc

-- against a place with a way behind it
pub side_before : (q p : Place) (r : List Proj) → q.local < p.local → Before ≡ place_side q (beyond p r)
unfolding place_side beyond
side_before q p r l = sym (before_is q.local p.local (path_side q.proj (p.proj ++ r)) l)

pub side_after : (q p : Place) (r : List Proj) → p.local < q.local → After ≡ place_side q (beyond p r)
unfolding place_side beyond
side_after q p r l = sym (after_is q.local p.local (path_side q.proj (p.proj ++ r)) l)

pub side_then : (q p : Place) (r : List Proj) → q.local ≡ p.local → then_side (path_side q.proj p.proj) (path_side (drop (length p.proj) q.proj) r) ≡ place_side q (beyond p r)
unfolding place_side beyond
side_then q p r e = sym (same_is q.local p.local (path_side q.proj (p.proj ++ r)) e ∙ path_then q.proj p.proj r)

pub beyond_nothing : (p : Place) → beyond p [] ≡ p
unfolding beyond
beyond_nothing p = ap (λ ps. record { local = p.local; proj = ps }) (append-nil p.proj)

pub beyond_long : (p : Place) (r : List Proj) → length (beyond p r).proj ≡ length p.proj + length r
unfolding beyond
beyond_long p r = length-append p.proj r
