use Rattle.std.proofs.Common.{refl, ap, ◌∙◌}
use Rattle.mir_text.specs.NameFaults.{on_line, unless, variant_fits}
use Rattle.mir_tree.specs.Bodies.{build_rule}
use Rattle.mir_resolve.specs.Faults.{noted}
use Rattle.mir_bodies.specs.Builds.{variant_of_pair}
use Rattle.mir_bodies.proofs.Reading.{coded_then}
use Rattle.mir_bodies.proofs.rvalue.read_build.Goals as goal

pub returns-clause-went : goal.returns-clause-went
returns-clause-went g c =
    coded_then c.args.line c.args.draft.now _ c.read_parts.new.draft _ _ refl
    (c.note_unless.ensures
    ∙ ap (λ b. noted c.args.draft.now.notes (on_line c.args.line (unless b 13)))
    (c.fits-fits.ensures ∙ ap (λ x. variant_fits g.sense.names (build_rule c.args.parts.now) (variant_of_pair g.sense.names x)) c.in_ok-built.ensures))
    c.in_ok-parts.ensures.went
