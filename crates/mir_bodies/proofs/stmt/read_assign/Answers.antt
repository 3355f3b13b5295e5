use Rattle.mir_bodies.proofs.Reading.{went_then}
use Rattle.mir_bodies.proofs.stmt.read_assign.Goals as goal

pub returns-clause-went : goal.returns-clause-went
returns-clause-went g c = went_then c.in_ok-place.ensures.went c.in_ok-value.ensures.went
