use Rattle.std.proofs.Common.{ap, ◌∙◌}
use Rattle.mir_text.specs.NameFaults.{on_line, unless}
use Rattle.mir_resolve.specs.Faults.{noted}
use Rattle.mir_resolve.proofs.Growing.{grown_same}
use Rattle.mir_bodies.proofs.term.note_target.Goals as goal

pub returns-clause-went : goal.returns-clause-went
returns-clause-went g c = record {
  grown = grown_same c.args.draft.now.program;
  notes = c.note_unless.ensures
      ∙ ap (λ b. noted c.args.draft.now.notes (on_line c.args.line (unless b 15))) (c.contains-there.ensures g.sense.labels c.requires.labels);
}
