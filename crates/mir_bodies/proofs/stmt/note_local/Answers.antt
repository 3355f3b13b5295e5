use Rattle.std.proofs.Common.{◌≡◌, is_some, ap, sym, ◌∙◌}
use Rattle.std.specs.Option.{option_map}
use Rattle.mir_syntax.specs.Tree.{at_id, trees_of}
use Rattle.mir_text.specs.NamedBodies.{declared_ty}
use Rattle.mir_text.specs.NameFaults.{on_line, unless}
use Rattle.mir_resolve.specs.Faults.{noted}
use Rattle.mir_resolve.proofs.Growing.{grown_same}
use Rattle.mir_bodies.proofs.TellsOn.{first_declared, is_some-map}
use Rattle.mir_bodies.proofs.stmt.note_local.Goals as goal

pub returns-clause-went : goal.returns-clause-went
returns-clause-went g c =
    let trees = trees_of c.args.draft.now.program.types in
    let x = c.args.local in
    let stands : option_map (at_id trees) c.get-ty.result ≡ declared_ty g.sense.locals x =
    ap (option_map (at_id trees)) c.get-ty.ensures ∙ first_declared trees c.args.scope.now.locals.now x ∙ ap (λ ds. declared_ty ds x) (sym c.requires.locals) in
    record {
      grown = grown_same c.args.draft.now.program;
      notes = c.note_unless.ensures
          ∙ ap (λ b. noted c.args.draft.now.notes (on_line c.args.line (unless b 14)))
          (c.is_some.ensures ∙ sym (is_some-map (at_id trees) c.get-ty.result) ∙ ap (λ o. is_some o) stands);
    }
