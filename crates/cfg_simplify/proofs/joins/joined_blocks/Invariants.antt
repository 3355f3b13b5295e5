use Rattle.std.proofs.Common.{◌≡◌, map}
use Rattle.cfg_simplify.specs.Simple.{numbers, joined}
use Rattle.mir_cfg.specs.Paths.{block_term}
use Rattle.cfg_simplify.proofs.joins.joined_blocks.Given as goal

abbrev pub invariant-loop-block : goal.invariant-loop-block
invariant-loop-block l = l.joins ≡ map (joined (map block_term l.blocks)) (numbers l.block)
