use Rattle.std.proofs.Common.{◌≡◌, ◌≤◌, ℕ, suc, length}
use Rattle.mir_items.specs.Each.{each_from}
use Rattle.mir_items.specs.Files.{more_symbols, item, file}
use Rattle.mir_items.proofs.file.read_file.Given as goal

abbrev pub invariant-turns : goal.invariant-turns
invariant-turns l =
    (turns : ℕ) × (length l.rest ≤ turns)
    × (file l.lines l.symbols ≡ each_from more_symbols (item l.lines) (suc turns) l.items l.rest)

abbrev pub decreases-turns : goal.decreases-turns
decreases-turns l = length l.rest
