use Rattle.std.proofs.Common.{◌≡◌, drop}
use Rattle.mirpipe_cli.specs.Found.{drop_from}
use Rattle.mirpipe_cli.proofs.drops.drop_block.Given as goal

abbrev pub invariant-loop-block : goal.invariant-loop-block
invariant-loop-block l = (l.number ≡ l.block-index) × (drop_from 0 l.blocks ≡ drop_from l.block-index (drop l.block-index l.blocks))
