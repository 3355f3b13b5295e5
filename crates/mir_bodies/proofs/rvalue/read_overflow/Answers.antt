use Rattle.mir_bodies.proofs.Reading.{went_then}
use Rattle.mir_bodies.proofs.rvalue.read_overflow.Goals as goal

pub returns-clause-went : goal.returns-clause-went
returns-clause-went g c = went_then c.in_ok-a.ensures.went c.in_ok-b.ensures.went
