use Rattle.std.proofs.Common.{◌≡◌, map}
use Rattle.mir_cfg.specs.Paths.{terms_of, is_reached}
use Rattle.cfg_simplify.specs.Simple.{numbers}
use Rattle.cfg_simplify.proofs.reach.reached_blocks.Given as goal

abbrev pub invariant-loop-block : goal.invariant-loop-block
invariant-loop-block l = l.marks.items ≡ map (is_reached (terms_of l.body)) (numbers l.block)
