use Rattle.std.proofs.Common.{◌≡◌, ◌≤◌, ℕ, suc, length}
use Rattle.mir_parse.specs.Paths.{path_at, path_from}
use Rattle.mir_parse.proofs.path.read_path_more.Given as goal

abbrev pub invariant-turns : goal.invariant-turns
invariant-turns l =
    (turns : ℕ) × (length l.rest ≤ turns) × (length l.rest ≤ length l.symbols) × (path_at l.fn.names l.symbols ≡ path_from (suc turns) l.names l.rest)

abbrev pub decreases-turns : goal.decreases-turns
decreases-turns l = length l.rest
