use Rattle.mir_print.specs.Seen.{crate_in}
use Rattle.mir_print.proofs.program.put_all_functions.Goals as goal

pub returns : goal.returns
unfolding crate_in
returns g c =
    rw (c.has_others.ensures, c.as_slice.ensures) at c.put_functions.ensures
