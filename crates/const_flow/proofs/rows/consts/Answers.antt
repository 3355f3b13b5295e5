use Rattle.std.proofs.Common.{sym, ◌∙◌, length}
use Rattle.std.proofs.lemmas.List.{length-map}
use Rattle.mir_syntax.specs.Tree.{at_id, trees_of}
use Rattle.mir_syntax.specs.Crate.{crate_of, body_of}
use Rattle.mir_syntax.specs.Shapes.{shapes_of}
use Rattle.const_flow.proofs.Tracking.{tracked_by}
use Rattle.const_flow.proofs.rows.consts.Goals as goal

pub solved-requires-clause-places : goal.solved-requires-clause-places
solved-requires-clause-places c =
    let p = c.args.program.now in
    let body = c.args.body.now in
    c.in_ok-paths.ensures ∙ tracked_by (shapes_of (crate_of p)) (body_of (trees_of p.types) body) c.in_ok-taken.taken (length body.locals) (sym (length-map body.locals (at_id (trees_of p.types)))) c.in_ok-taken.ensures
