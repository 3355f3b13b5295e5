use Rattle.std.proofs.Common.{◌≡◌, ◌≤◌, ℕ, suc, length}
use Rattle.mir_items.specs.Each.{each_from}
use Rattle.mir_items.specs.Functions.{begins_block, block_here, blocks}
use Rattle.mir_items.proofs.block.read_blocks.Given as goal

abbrev pub invariant-turns : goal.invariant-turns
invariant-turns l =
    (turns : ℕ) × (length l.rest ≤ turns) × (length l.rest ≤ length l.symbols)
    × (blocks l.lines l.symbols ≡ each_from begins_block (block_here l.lines) (suc turns) l.blocks l.rest)

abbrev pub decreases-turns : goal.decreases-turns
decreases-turns l = length l.rest
