-- The functions of a made crate, one by one.
use Rattle.std.proofs.Common.{◌≡◌, ◌<◌, ◌/◌, ℕ, zero, suc, Some, length, refl, arith}
use Rattle.std.proofs.lemmas.Nat.{mod_below}
use Rattle.std.specs.Prelude.{slice_get}
use Rattle.mir_syntax.specs.Crate.{TypedFunction}
use Rattle.mir_rules.specs.Typing.{arithmetic, kind_of}
use Rattle.crate_gen.specs.Draws.{next, drawn}
use Rattle.crate_gen.specs.Made.{op_of, choice, after_choice, made_function, made_functions}

pub made_long : (n i more x : ℕ) → length (made_functions n i more x) ≡ more
made_long n i zero x = refl
made_long n i (suc more) x = let rest = made_long n (suc i) more (after_choice x) in omega arith

-- each of them is made of a choice
pub made_at : (n i more x k : ℕ) (g : TypedFunction) → slice_get (made_functions n i more x) k ≡ Some g → (j y : ℕ) × (g ≡ made_function j (choice n y))
made_at n i zero x k g e = absurd (grind (arith))
made_at n i (suc more) x zero g e = (i, x, (grind (arith)))
made_at n i (suc more) x (suc k) g e = made_at n (suc i) more (after_choice x) k g e

pub made_there : (n i more x k : ℕ) → k < more → (j y : ℕ) × (slice_get (made_functions n i more x) k ≡ Some (made_function j (choice n y)))
made_there n i zero x k low = absurd (omega arith)
made_there n i (suc more) x zero low = (i, x, refl)
made_there n i (suc more) x (suc k) low = made_there n (suc i) more (after_choice x) k (omega arith)

op_is_arithmetic : (d : ℕ) → kind_of (op_of d) ≡ arithmetic
op_is_arithmetic zero = refl
op_is_arithmetic (suc zero) = refl
op_is_arithmetic (suc (suc d)) = refl

drawn_below : (below x : ℕ) → 0 < below → drawn below x < below
drawn_below below x some = mod_below (next x / 65536) below some

-- ---- what a choice is

pub choice_arithmetic : (n y : ℕ) → kind_of (choice n y).op ≡ arithmetic
choice_arithmetic n y = op_is_arithmetic (drawn 3 (next y))

pub choice_value : (n y : ℕ) → (choice n y).value < 100
choice_value n y = drawn_below 100 y (omega arith)

pub choice_bound : (n y : ℕ) → (choice n y).bound < 100
choice_bound n y = drawn_below 100 (next (next y)) (omega arith)

pub choice_below : (n y : ℕ) → 0 < n → (choice n y).below < n
choice_below n y some = drawn_below n (next (next (next y))) some

pub choice_otherwise : (n y : ℕ) → 0 < n → (choice n y).otherwise < n
choice_otherwise n y some = drawn_below n (next (next (next (next y)))) some
