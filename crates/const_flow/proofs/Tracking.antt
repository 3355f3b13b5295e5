-- The tracked places, by one row of the borrowed locals.
use Rattle.std.proofs.Common.{◌≡◌, refl, ap, ap₂, ◌∙◌, ℕ, suc, ◌+◌, ◌<◌, Bool, false, if◌then◌else◌, List, [], ◌∷◌, ◌++◌, map, take, length, arith}
use Rattle.std.specs.List.{range_with_len}
use Rattle.std.proofs.lemmas.List.FromFn.{get_or-map-range_with_len}
use Rattle.mir_syntax.specs.Tree.{Tree}
use Rattle.mir_syntax.specs.Crate.{TypedBody}
use Rattle.mir_syntax.specs.Shapes.{Shape}
use Rattle.bit_rows.specs.Rows.{flag}
use Rattle.escape_info.specs.Borrowed.{borrowed}
use Rattle.place_map.specs.Tracked.{place_at, scalars, untaken_scalars, most_tracked}
use Rattle.place_map.specs.Tracked as places
use Rattle.const_flow.specs.ConstAt.{tracked}

untaken_same : (D : List Shape) (f g : ℕ → Bool) (x : ℕ) (ts : List Tree) → ((y : ℕ) → y < x + length ts → f y ≡ g y) → untaken_scalars D f x ts ≡ untaken_scalars D g x ts
untaken_same D f g x [] k = refl
untaken_same D f g x (t ∷ ts) k = ap₂ (λ c rest. (if c then [] else map (place_at x) (scalars D t)) ++ rest) (k x (omega arith)) (untaken_same D f g (suc x) ts (λ y l. k y (omega arith)))

pub tracked_by : (D : List Shape) (b : TypedBody) (taken : List (List Bool)) (n : ℕ) → n ≡ length b.locals → taken ≡ map (borrowed D b) (range_with_len 0 n) ∷ [] → places.tracked D (flag taken 0) b ≡ tracked D b
unfolding places.tracked
tracked_by D b taken n count is = ap (take (most_tracked (length b.blocks))) (untaken_same D (flag taken 0) (borrowed D b) 0 b.locals (λ y l. ap (λ t. flag t 0 y) is ∙ get_or-map-range_with_len (borrowed D b) 0 n y y false (omega (arith, count)) (omega arith)))
