use Rattle.mir_resolve.proofs.FirstPlaces.{no_texts}
use Rattle.mir_resolve.proofs.index.PathIndex.new.Goals as goal

pub invariant_of-result : goal.invariant_of-result
invariant_of-result c = rw (c.new.ensures, c.new-2.ensures, c.new-3.ensures) no_texts
