use Rattle.mir_print.specs.Seen.{crate_in}
use Rattle.mir_print.proofs.program.put_all_outsides.Goals as goal

pub returns : goal.returns
unfolding crate_in
returns g c =
    rw c.as_slice.ensures at c.put_outsides.ensures
