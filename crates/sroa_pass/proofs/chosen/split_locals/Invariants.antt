use Rattle.bit_rows.specs.Rows.{row_at}
use Rattle.sroa_pass.proofs.equal.Chosen.{Going}
use Rattle.sroa_pass.proofs.chosen.split_locals.Given as goal

abbrev pub invariant-loop-local : goal.invariant-loop-local
invariant-loop-local l = Going l.program l.args (row_at l.held 0) l.fn.locals l.locals l.table l.local
