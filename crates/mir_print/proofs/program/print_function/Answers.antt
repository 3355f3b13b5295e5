use Rattle.std.proofs.Common.{sym, ◌∙◌}
use Rattle.mir_print.specs.Seen.{crate_in}
use Rattle.mir_print.proofs.Printing.{prints_front}
use Rattle.mir_print.proofs.program.print_function.Goals as goal

pub returns-else-is_going : goal.returns-else-is_going
unfolding crate_in
returns-else-is_going g c =
    prints_front c.new-output.ensures c.put_alone.ensures.goes (sym c.is_going.ensures ∙ c.if-is_going.false)
