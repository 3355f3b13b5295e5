-- What is answered of what passes limits.
use Rattle.std.specs.Prelude.{◌≡◌, ℕ, ◌+◌, List, Option, Some, None, slice_get, length}
use Rattle.mir_syntax.specs.declared.lines.Lines.{Lines}
use Rattle.mir_text.specs.NameFaults.{earlier}
use Rattle.mir_rules.specs.Broken.{Spot}
use Rattle.mir_rules.specs.Faults.{line_at}
use Rattle.mir_limits.specs.declared.passed.Passed.{Passed}
use Rattle.mir_limits.specs.declared.statements.Reached.{Reached}
use Rattle.mir_limits.specs.declared.statements.Reached.TheVariants.{Line, Beyond}

-- the number of the limit, and the line
abbrev pub answer_of : Passed → ℕ × ℕ
answer_of x = (x.code, x.line)

abbrev pub at_code : ℕ → ℕ → ℕ × ℕ
at_code code line = (code, line)

-- the one that is answered of two
abbrev pub either : Option (ℕ × ℕ) → Option (ℕ × ℕ) → Option (ℕ × ℕ)
either None b = b
either (Some a) b = Some (earlier a b)

-- the spot of a number in a list, told by its line; or by how much the number lies behind the list
abbrev pub Reaches : Lines → List Spot → ℕ → Reached → Type 0
Reaches lines spots n (Line line) = (spot : Spot) × (slice_get spots n ≡ Some spot) × (line_at lines spot ≡ line)
Reaches lines spots n (Beyond left) = n ≡ length spots + left
