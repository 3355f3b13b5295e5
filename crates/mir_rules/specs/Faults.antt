-- The fault that is answered for a crate that breaks a rule or passes a limit: of all that is found, the least by lines or codes.
use Rattle.std.specs.Prelude.{ℕ, Bool, true, false, ◌&&◌, nat_eq, List, [], ◌∷◌, ◌++◌, map, length, Option, Some, None, slice_get}
use Rattle.mir_syntax.specs.declared.lines.BlockLines.{BlockLines}
use Rattle.mir_syntax.specs.declared.lines.FnLines.{FnLines}
use Rattle.mir_syntax.specs.declared.lines.Lines.{Lines}
use Rattle.mir_syntax.specs.Crate.{TypedBlock, TypedFunction, Crate}
use Rattle.mir_syntax.specs.Shapes.{◌>>=◌}
use Rattle.mir_text.specs.NameFaults.{first_fault}
use Rattle.mir_rules.specs.Broken.{Spot, definition, outside, header, local, statement, terminator, broken}
use Rattle.mir_rules.specs.Limits.{passed}

-- ---- lines

abbrev pub or_zero : Option ℕ → ℕ
or_zero None = 0
or_zero (Some n) = n

abbrev pub block_lines : Lines → ℕ → ℕ → Option BlockLines
block_lines lines f block = slice_get lines.functions f >>= λ g. slice_get g.blocks block

abbrev pub line_found : Lines → Spot → Option ℕ
line_found lines (definition d) = slice_get lines.defs d
line_found lines (outside o) = slice_get lines.outsides o
line_found lines (header f) = slice_get lines.functions f >>= λ g. Some g.head
line_found lines (local f x) = slice_get lines.functions f >>= λ g. slice_get g.locals x
line_found lines (statement f block i) = block_lines lines f block >>= λ k. slice_get k.stmts i
line_found lines (terminator f block) = block_lines lines f block >>= λ k. Some k.term

-- the line of a spot, in lines of the crate's shape
unfoldable pub line_at : Lines → Spot → ℕ
line_at lines spot = or_zero (line_found lines spot)

-- ---- lines of a crate's shape: one for each item

abbrev pub same_lengths : {A B : Type 0} → (A → B → Bool) → List A → List B → Bool
same_lengths alike [] [] = true
same_lengths alike (a ∷ others) (b ∷ bs) = alike a b && same_lengths alike others bs
same_lengths alike _ _ = false

abbrev pub block_fits : BlockLines → TypedBlock → Bool
block_fits lines block = nat_eq (length lines.stmts) (length block.stmts)

abbrev pub function_fits : FnLines → TypedFunction → Bool
function_fits lines f = nat_eq (length lines.locals) (length f.body.locals) && same_lengths block_fits lines.blocks f.body.blocks

unfoldable pub lines_fit : Lines → Crate → Bool
lines_fit lines C = nat_eq (length lines.defs) (length C.defs) && (nat_eq (length lines.outsides) (length C.outsides) && same_lengths function_fits lines.functions C.functions)

-- ---- the fault that is answered

-- by line, and on one line by code
abbrev pub by_line : Lines → Spot × ℕ → ℕ × ℕ
by_line lines found = (line_at lines found.0, found.1)

-- by code, and of one code by line
abbrev pub by_code : Lines → Spot × ℕ → ℕ × ℕ
by_code lines found = (found.1, line_at lines found.0)

-- V07: the type that is written in a projection isn't the field's
abbrev pub wrong_field_fault : Option ℕ → List (ℕ × ℕ)
wrong_field_fault None = []
wrong_field_fault (Some line) = (line, 7) ∷ []

-- the line and the code of the rule that is answered: on the first line the one of least number
unfoldable pub first_rule : Lines → Crate → Option (ℕ × ℕ)
first_rule lines C = first_fault (wrong_field_fault lines.wrong_field ++ map (by_line lines) (broken C))

-- the code and the line of the limit that is answered: of the least number the one on the first line
unfoldable pub first_limit : Lines → Crate → Option (ℕ × ℕ)
first_limit lines C = first_fault (map (by_code lines) (passed C))
