-- The lines of a made crate are one for each part.
use Rattle.std.proofs.Common.{◌≡◌, ◌+◌, ℕ, zero, suc, true, refl}
use Rattle.mir_rules.specs.Faults.{same_lengths, function_fits, lines_fit}
use Rattle.crate_gen.specs.Made.{after_choice, made_functions, made_crate, functions_lines, made_lines}

functions_fit : (n i more x line : ℕ) → same_lengths function_fits (functions_lines line more) (made_functions n i more x) ≡ true
functions_fit n i zero x line = refl
functions_fit n i (suc more) x line = functions_fit n (suc i) more (after_choice x) (line + 26)

pub lines_are_fit : (start n : ℕ) → lines_fit (made_lines n) (made_crate start n) ≡ true
unfolding lines_fit
lines_are_fit start n = functions_fit n 0 n start 1
