-- The line that a fault is refused with.
use Rattle.std.specs.Prelude.{ℕ, ◌-◌, ◌==◌, List, length, get_or, Option, Some, None, if◌then◌else◌}
use Rattle.mir_parse.specs.declared.fault.SyntaxFault.{SyntaxFault}

-- the line of the symbol from which on so many are left
abbrev pub line_with : List ℕ → ℕ → ℕ
line_with lines left = get_or lines (length lines - left) 0

abbrev pub part_line : List ℕ → Option ℕ → ℕ
part_line lines (Some left) = line_with lines left
part_line lines None = 0

-- where no reading goes on with a symbol, that of the symbol; where the symbols end, the last one of the text; else that of the innermost part
unfoldable pub fault_line : List ℕ → ℕ → SyntaxFault → ℕ
fault_line lines end_line fault = if fault.code == 4 then line_with lines fault.left else (if fault.code == 5 then end_line else part_line lines fault.part)
