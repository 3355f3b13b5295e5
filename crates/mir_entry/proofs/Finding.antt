-- Loops over the rest of a list, and functions by their paths.
use Rattle.std.proofs.Common.{◌≡◌, ◌∙◌, refl, sym, ap, ℕ, zero, suc, ◌+◌, ◌-◌, ◌<◌, ◌≤◌, ◌^◌, nat_eq, Bool, true, false, List, [], ◌∷◌, drop, length, slice_get, Option, Some, IsTrue, ◌↔◌, add-one, arith}
use Rattle.std.proofs.lemmas.Option.{slice_get_within}
use Rattle.std.proofs.lemmas.Bool.Decides.{nat_tests}
use Rattle.mir_syntax.specs.declared.body.Function.{Function}

-- none of the first so many functions has the path
abbrev pub None_before : List Function → List ℕ → ℕ → Type 0
None_before fs path n = (k : ℕ) (g : Function) → k < n → slice_get fs k ≡ Some g → g.path ≡ path → ⊥

at_drop : {X : Type 0} (xs : List X) (n : ℕ) (x : X) (rest : List X) → drop n xs ≡ x ∷ rest → slice_get xs n ≡ Some x
at_drop [] zero x rest h = absurd cc
at_drop [] (suc n) x rest h = absurd cc
at_drop (y ∷ ys) zero x rest h = let same : y ≡ x = cc in ap Some same
at_drop (y ∷ ys) (suc n) x rest h = at_drop ys n x rest h

behind_drop : {X : Type 0} (xs : List X) (n : ℕ) (x : X) (rest : List X) → drop n xs ≡ x ∷ rest → rest ≡ drop (suc n) xs
behind_drop [] zero x rest h = absurd cc
behind_drop [] (suc n) x rest h = absurd cc
behind_drop (y ∷ ys) zero x rest h = let same : ys ≡ rest = cc in sym same
behind_drop (y ∷ ys) (suc n) x rest h = behind_drop ys n x rest h

none_behind : (fs : List Function) (n : ℕ) → drop n fs ≡ [] → length fs ≤ n
none_behind [] n h = omega arith
none_behind (y ∷ ys) zero h = absurd cc
none_behind (y ∷ ys) (suc n) h = let rest = none_behind ys n h in omega (arith, rest)

-- ---- what the loop finds

pub found_there : {X : Type 0} (fs left rest : List X) (n : ℕ) (x : X) → left ≡ drop n fs → left ≡ x ∷ rest → slice_get fs n ≡ Some x
found_there fs left rest n x h e = at_drop fs n x rest (sym h ∙ e)

pub on_behind : {X : Type 0} (fs left rest : List X) (n : ℕ) (x : X) → left ≡ drop n fs → left ≡ x ∷ rest → rest ≡ drop (n + 1) fs
on_behind fs left rest n x h e = behind_drop fs n x rest (sym h ∙ e) ∙ ap (λ m. drop m fs) (sym (add-one n))

-- one more is not the one
pub none_on : (fs left rest : List Function) (path : List ℕ) (n : ℕ) (x : Function) (b : Bool) → left ≡ drop n fs → left ≡ x ∷ rest → (IsTrue b ↔ (x.path ≡ path)) → b ≡ false → None_before fs path n → None_before fs path (n + 1)
none_on fs left rest path n x b h e decides off before k g small there q = by_place (nat_eq k n) refl
  where
    by_place : (c : Bool) → nat_eq k n ≡ c → ⊥
    by_place true t =
        let same : k ≡ n = grind (arith, nat_tests) in
        let both : ◌≡◌ {A = Option Function} (Some x) (Some g) = sym (found_there fs left rest n x h e) ∙ ap (slice_get fs) (sym same) ∙ there in
        let own : x ≡ g = cc in
        let holds : b ≡ true = decides.1 (ap (λ y. y.path) own ∙ q) in
        let wrong : true ≡ false = sym holds ∙ off in
        cc
    by_place false t =
        let other : (k ≡ n → ⊥) = grind (arith, nat_tests) in
        let less : k < n = grind (arith, nat_tests) in
        before k g less there q

pub none_at_all : (fs left : List Function) (path : List ℕ) (n : ℕ) → left ≡ drop n fs → left ≡ [] → None_before fs path n → (k : ℕ) (g : Function) → k < 2 ^ 32 → slice_get fs k ≡ Some g → g.path ≡ path → ⊥
none_at_all fs left path n h e before k g small there q =
    let whole = none_behind fs n (sym h ∙ e) in
    let within = slice_get_within fs k g there in
    before k g (omega (arith, whole, within)) there q

pub none_numbered : (fs left rest : List Function) (path : List ℕ) (n : ℕ) (x : Function) (b : Bool) → left ≡ drop n fs → left ≡ x ∷ rest → (IsTrue b ↔ (x.path ≡ path)) → b ≡ false → n ≡ 2 ^ 32 - 1 → None_before fs path n
    → (k : ℕ) (g : Function) → k < 2 ^ 32 → slice_get fs k ≡ Some g → g.path ≡ path → ⊥
none_numbered fs left rest path n x b h e decides off last before k g small there q = none_on fs left rest path n x b h e decides off before k g (omega (arith, last, small)) there q
