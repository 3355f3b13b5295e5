-- What no codes say.
use Rattle.std.proofs.Common.{◌≡◌, ℕ, Bool, true, false, List, [], ◌∷◌, refl, arith}
use Rattle.mir_text.specs.GrammarPlaces as p
use Rattle.mir_text.specs.GrammarPlaces.{OperandRule}
use Rattle.mir_text.specs.NameFaults.{on_line, unless}
use Rattle.mir_text.specs.Nesting.{OperandGood, FirstGood}

pub unless_met : (b : Bool) (code : ℕ) → unless b code ≡ [] → b ≡ true
unless_met true code h = refl
unless_met false code h = absurd cc

pub no_codes : (n : ℕ) (codes : List ℕ) → on_line n codes ≡ [] → codes ≡ []
no_codes n [] h = refl
no_codes n (code ∷ codes) h = absurd cc

-- an operand that begins a right-hand side may be nested as any other
pub first_good : (x : OperandRule) → FirstGood x → OperandGood x
first_good (p.copy q) h = h
first_good (p.move q) h = h
first_good (p.bare q) h = let k = h.0 in (omega (arith, k), h.1)
first_good (p.const v) h = h
