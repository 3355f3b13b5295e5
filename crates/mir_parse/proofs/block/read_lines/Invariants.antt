use Rattle.std.proofs.Common.{◌≡◌, ◌≤◌, ℕ, suc, length}
use Rattle.mir_parse.specs.Lines.{lines_from, lines_at}
use Rattle.mir_parse.proofs.block.read_lines.Given as goal

abbrev pub invariant-turns : goal.invariant-turns
invariant-turns l =
    (turns : ℕ) × (length l.rest ≤ turns) × (length l.rest ≤ length l.symbols) × (lines_at l.lines l.whole l.symbols ≡ lines_from l.lines l.whole (suc turns) l.stmts l.rest)

abbrev pub decreases-turns : goal.decreases-turns
decreases-turns l = length l.rest
