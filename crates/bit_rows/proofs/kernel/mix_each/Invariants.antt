use Rattle.bit_rows.specs.Words.{Mixed}
use Rattle.bit_rows.proofs.kernel.mix_each.Given as goal

abbrev pub invariant-loop-i : goal.invariant-loop-i
invariant-loop-i l = Mixed l.mix l.fn.words l.words l.into l.others l.from l.i l.changed
