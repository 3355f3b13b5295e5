use Rattle.std.proofs.Common.{◌*◌}
use Rattle.bit_rows.specs.Words.{Mixed}
use Rattle.bit_rows.proofs.kernel.mix_blocks.Given as goal

abbrev pub invariant-loop-block : goal.invariant-loop-block
invariant-loop-block l = Mixed l.mix l.fn.words l.words l.into l.others l.from (l.block * 8) l.changed
