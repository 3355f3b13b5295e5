use Rattle.std.proofs.Common.{sym, ◌∙◌, arith}
use Rattle.mir_items.specs.Functions.{begins_block, block_here}
use Rattle.mir_items.proofs.EachRead.{one-turn}
use Rattle.mir_items.proofs.block.read_blocks.Goals as goal

pub turns-preserved : goal.turns-preserved
turns-preserved c =
    let inv = c.turns.invariant in
    let turn = one-turn begins_block (block_here c.args.lines.now) inv.0 _ c.push.new.self c.turns.rest.now c.in_ok-block.past.now c.in_ok-block.block _
    (sym c.begins_block.ensures ∙ c.turns-test.true) c.in_ok-block.ensures.read c.in_ok-push.ensures.ok c.in_ok-block.ensures.shorter inv.1 inv.3 in
    (turn.0, turn.1, omega (arith, c.in_ok-block.ensures.shorter, inv.2), turn.2)
