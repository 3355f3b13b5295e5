use Rattle.std.proofs.Common.{◌≡◌, is_some, ap, ◌∙◌}
use Rattle.mir_text.specs.NamedBodies.{called_by, or_first_function}
use Rattle.mir_text.specs.NameFaults.{on_line, unless}
use Rattle.mir_tree.specs.Types.{path_rule}
use Rattle.mir_resolve.specs.Faults.{noted}
use Rattle.mir_resolve.proofs.Growing.{grown_same}
use Rattle.mir_bodies.proofs.Calling.{first_or, called_same}
use Rattle.mir_bodies.proofs.term.read_callee.Goals as goal

pub returns-clause-callee : goal.returns-clause-callee
returns-clause-callee g c =
    let scope = c.args.scope.now in
    let told : c.in_ok-callee.callee ≡ called_by g.sense.names (path_rule c.args.path.now) =
    c.in_ok-callee.ensures
    ∙ called_same g.sense.names scope.strings.now scope.functions.now scope.outsides.now (path_rule c.args.path.now) c.requires.strings c.requires.functions c.requires.outsides in
    c.unwrap_or.ensures ∙ first_or c.in_ok-callee.callee ∙ ap or_first_function told

pub returns-clause-went : goal.returns-clause-went
returns-clause-went g c =
    let scope = c.args.scope.now in
    let told : c.in_ok-callee.callee ≡ called_by g.sense.names (path_rule c.args.path.now) =
    c.in_ok-callee.ensures
    ∙ called_same g.sense.names scope.strings.now scope.functions.now scope.outsides.now (path_rule c.args.path.now) c.requires.strings c.requires.functions c.requires.outsides in
    record {
      grown = grown_same c.args.draft.now.program;
      notes = c.note_unless.ensures
          ∙ ap (λ b. noted c.args.draft.now.notes (on_line c.args.line (unless b 11))) (c.is_some.ensures ∙ ap (λ o. is_some o) told);
    }
