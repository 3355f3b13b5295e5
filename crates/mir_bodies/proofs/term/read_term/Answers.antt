use Rattle.mir_resolve.proofs.PartNotes.{nothing_went}
use Rattle.mir_bodies.proofs.Reading.{went_then}
use Rattle.mir_bodies.proofs.term.read_term.Goals as goal

pub returns-in-Return-clause-went : goal.returns-in-Return-clause-went
returns-in-Return-clause-went g c = rw c.in-Return.is (nothing_went c.args.draft.now c.args.line)

pub returns-in-Unreachable-clause-went : goal.returns-in-Unreachable-clause-went
returns-in-Unreachable-clause-went g c = rw c.in-Unreachable.is (nothing_went c.args.draft.now c.args.line)

pub returns-in_ok-place-in-Drop-clause-went : goal.returns-in_ok-place-in-Drop-clause-went
returns-in_ok-place-in-Drop-clause-went g c = rw c.in-Drop.is (went_then c.in_ok-place-in-Drop.ensures.went c.note_target-in-Drop.ensures.went)
