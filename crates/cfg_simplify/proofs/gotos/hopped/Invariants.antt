use Rattle.std.proofs.Common.{◌≡◌, ◌++◌, map, take, drop}
use Rattle.cfg_simplify.specs.Code.{at, bare_hopped_block}
use Rattle.cfg_simplify.proofs.gotos.hopped.Given as goal

abbrev pub invariant-loop-block : goal.invariant-loop-block
invariant-loop-block l = l.block-items ≡ map (bare_hopped_block (at l.landings)) (take l.block-index l.fn.blocks) ++ drop l.block-index l.fn.blocks
