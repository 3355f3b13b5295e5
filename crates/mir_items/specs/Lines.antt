-- The lines of parts, and the part in which a fault is.
use Rattle.std.specs.Prelude.{ℕ, ◌-◌, List, length, get_or, drop, Ok, Err, Option, Some, None}
use Rattle.mir_text.specs.declared.symbol.Symbol.{Symbol}
use Rattle.mir_parse.specs.declared.fault.SyntaxFault.{SyntaxFault}
use Rattle.mir_parse.specs.Parser.{Found}

-- the line of the first symbol; the lines and the symbols end together
abbrev pub line_of : List ℕ → List Symbol → ℕ
line_of lines ts = get_or lines (length lines - length ts) 0

-- the lines of the symbols
abbrev pub lines_at : List ℕ → List Symbol → List ℕ
lines_at lines ts = drop (length lines - length ts) lines

abbrev pub part_or : ℕ → Option ℕ → Option ℕ
part_or n (Some part) = Some part
part_or n None = Some n

-- a fault in a part that begins with the first symbol, if it is in none inside
unfoldable pub fault_within : List Symbol → SyntaxFault → SyntaxFault
fault_within ts fault = record { code = fault.code; left = fault.left; part = part_or (length ts) fault.part }

abbrev pub in_part : {A : Type 0} → List Symbol → Found A → Found A
in_part ts (Ok found) = Ok found
in_part ts (Err fault) = Err (fault_within ts fault)
