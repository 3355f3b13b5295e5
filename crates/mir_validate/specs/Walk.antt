-- The walk over a body with its lines, in the shape of the code. No public promise rests on these.
use Rattle.std.specs.Prelude.{ℕ, Bool, false, nat_lt, nat_le, ◌==◌, ◌&&◌, ◌||◌, List, [], ◌∷◌, ◌++◌, map, Option, Some, None, option_map}
use Rattle.mir_syntax.specs.declared.lines.BlockLines.{BlockLines}
use Rattle.mir_syntax.specs.declared.body.Stmt.{Stmt}
use Rattle.mir_syntax.specs.declared.body.Block.{Block}
use Rattle.mir_syntax.specs.Tree.{Tree}
use Rattle.mir_syntax.specs.Crate.{Crate, stmt_of}
use Rattle.mir_syntax.specs.Shapes.{Shape}
use Rattle.mir_rules.specs.Broken.{statement_broken, terminator_broken}
use Rattle.mir_validate.specs.declared.fault.Broken.{Broken}

-- the line and the code
abbrev pub place_of : Broken → ℕ × ℕ
place_of b = (b.line, b.code)

abbrev pub at_line : ℕ → ℕ → ℕ × ℕ
at_line line code = (line, code)

abbrev pub on_line : ℕ → Option ℕ → Option (ℕ × ℕ)
on_line line code = option_map (at_line line) code

-- a fault is answered before a first rule on a line
abbrev pub is_found_by : Option (ℕ × ℕ) → ℕ → Bool
is_found_by None line = false
is_found_by (Some f) line = nat_lt f.0 line || (f.0 == line && nat_le f.1 1)

-- what statements break, each on its line
abbrev pub statements_broken : List Shape → ℕ → List Tree → List Tree → List ℕ → List Stmt → List (ℕ × ℕ)
statements_broken D args locals trees (line ∷ lines) (s ∷ stmts) = map (at_line line) (statement_broken D args locals (stmt_of trees s)) ++ statements_broken D args locals trees lines stmts
statements_broken D args locals trees _ _ = []

abbrev pub block_broken : Crate → List Shape → ℕ → List Tree → List Tree → BlockLines → Block → List (ℕ × ℕ)
block_broken C D args locals trees lines block = statements_broken D args locals trees lines.stmts block.stmts ++ map (at_line lines.term) (terminator_broken C D locals block.term)

abbrev pub blocks_broken : Crate → List Shape → ℕ → List Tree → List Tree → List BlockLines → List Block → List (ℕ × ℕ)
blocks_broken C D args locals trees (k ∷ lines) (block ∷ blocks) = block_broken C D args locals trees k block ++ blocks_broken C D args locals trees lines blocks
blocks_broken C D args locals trees _ _ = []
