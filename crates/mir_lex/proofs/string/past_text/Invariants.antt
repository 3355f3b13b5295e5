use Rattle.std.proofs.Common.{◌≡◌, ◌≤◌, length, false}
use Rattle.mir_lex.specs.Tokens.{text_past}
use Rattle.mir_lex.proofs.string.past_text.Given as goal

abbrev pub invariant-bytes : goal.invariant-bytes
invariant-bytes l = (text_past false l.bytes ≡ text_past l.taken l.rest) × (length l.rest ≤ length l.bytes)

abbrev pub decreases-bytes : goal.decreases-bytes
decreases-bytes l = length l.rest
