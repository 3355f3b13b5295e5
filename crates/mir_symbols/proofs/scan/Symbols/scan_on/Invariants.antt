use Rattle.std.proofs.Common.{◌≤◌, ◌+◌, length}
use Rattle.mir_symbols.specs.declared.scan.Symbols.{Symbols}
use Rattle.mir_symbols.specs.Scan.{EndsWith, InStep}
use Rattle.mir_symbols.proofs.scan.Symbols.scan_on.Given as goal

-- each piece has a byte at least, and adds one line and one byte string at most
abbrev pub invariant-turns : goal.invariant-turns
invariant-turns l =
    ((whole : Symbols) → EndsWith l.fn.self l.fn.bytes whole → EndsWith l.self l.rest whole) × (InStep l.fn.self → InStep l.self) × (length l.rest ≤ length l.fn.bytes)
    × (length l.self.strings + length l.rest ≤ length l.fn.self.strings + length l.fn.bytes) × (l.self.end_line + length l.rest ≤ l.fn.self.end_line + length l.fn.bytes)

abbrev pub decreases-turns : goal.decreases-turns
decreases-turns l = length l.rest
