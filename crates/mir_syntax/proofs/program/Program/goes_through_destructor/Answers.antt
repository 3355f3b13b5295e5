use Rattle.std.proofs.Common.{sym, ap, ◌∙◌}
use Rattle.std.specs.Option.{option_map}
use Rattle.std.proofs.lemmas.Option.{slice_get-map}
use Rattle.mir_syntax.specs.Tree.{at_id, trees_of}
use Rattle.mir_syntax.specs.Crate.{crate_of}
use Rattle.mir_syntax.specs.Shapes.{shapes_of, path_through}
use Rattle.mir_syntax.proofs.Places.{through_none}
use Rattle.mir_syntax.proofs.InTable.{local-in-table}
use Rattle.mir_syntax.proofs.program.Program.goes_through_destructor.Goals as goal

pub returns-in_default : goal.returns-in_default
returns-in_default c =
    let p = c.args.self.now in
    let D = shapes_of (crate_of p) in
    let f = at_id (trees_of p.types) in
    let place = c.args.place.now in
    sym (ap (λ o. path_through D o place.proj) (slice_get-map f c.args.body.now.locals place.local ∙ ap (option_map f) (sym c.in_default.ensures)) ∙ through_none D place.proj)

pub loop-projs-init : goal.loop-projs-init
loop-projs-init c =
    let p = c.args.self.now in
    let f = at_id (trees_of p.types) in
    let place = c.args.place.now in
    rw c.as_slice-projs.ensures (
      ap (λ o. path_through (shapes_of (crate_of p)) o place.proj) (slice_get-map f c.args.body.now.locals place.local ∙ ap (option_map f) (sym c.in-Some.ensures)),
      local-in-table p.types c.args.body.now place.local c.in-Some.local.now c.requires.body_ids (sym c.in-Some.ensures),
    )
