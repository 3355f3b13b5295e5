use Rattle.std.proofs.Common.{◌≡◌, ◌<◌, sym, ap, ◌∙◌, subst, length, slice_get, Some}
use Rattle.std.specs.Prelude.{IfOk}
use Rattle.mir_syntax.specs.declared.body.Body.{Body}
use Rattle.mir_syntax.specs.declared.program.Program.{Program}
use Rattle.mir_syntax.specs.Tree.{trees_of}
use Rattle.mir_syntax.specs.Crate.{crate_of, body_of, function_of}
use Rattle.mir_syntax.specs.Shapes.{shapes_of}
use Rattle.mir_syntax.proofs.Lists.{map_there}
use Rattle.pass_order.specs.Stages.{at_stage}
use Rattle.pass_order.specs.Fits.{FitsAt}
use Rattle.pass_order.proofs.Staged.{function_there, function_fits, dumped_head, dumped_at}
use Rattle.pass_order.proofs.stages.dumped.Goals as goal

pub body_at-requires-clause-fits : goal.body_at-requires-clause-fits
body_at-requires-clause-fits c =
    let p = c.program-program.result.now in
    let same = c.program-program.ensures.same in
    let inside = subst (λ (q : Program). c.args.id.0 < length q.functions) (sym same) c.requires.there in
    let trees = trees_of p.types in
    let i = c.args.id.0 in
    let g = c.index-as_slice-id.result in
    let there = function_there p.functions c.as_slice.result.now i g c.as_slice.ensures inside c.index-as_slice-id.is in
    let fits = function_fits (crate_of p) c.program-program.ensures.checked.valid c.program-program.ensures.checked.within i (function_of trees g) (map_there (function_of trees) p.functions i g there) in
    (i, function_of trees g, subst (λ (b : Body). FitsAt (crate_of p) i (function_of trees g) (body_of trees b)) (sym c.in_ok-built.ensures) fits)

pub returns-clause-head : goal.returns-clause-head
returns-clause-head c = λ g2 e.
    let p = c.program-program.result.now in
    let same = c.program-program.ensures.same in
    let inside = subst (λ (q : Program). c.args.id.0 < length q.functions) (sym same) c.requires.there in
    let g = c.index-as_slice-id.result in
    let there = function_there p.functions c.as_slice.result.now c.args.id.0 g c.as_slice.ensures inside c.index-as_slice-id.is in
    dumped_head c.with_body.result g g2 c.in_ok-body.body (sym there ∙ ap (λ (q : Program). slice_get q.functions c.args.id.0) same ∙ e) c.with_body.ensures

pub returns-clause-at : goal.returns-clause-at
returns-clause-at c = λ g2 e.
    let p = c.program-program.result.now in
    let same = c.program-program.ensures.same in
    let inside = subst (λ (q : Program). c.args.id.0 < length q.functions) (sym same) c.requires.there in
    let g = c.index-as_slice-id.result in
    let there = function_there p.functions c.as_slice.result.now c.args.id.0 g c.as_slice.ensures inside c.index-as_slice-id.is in
    let e2 = ap (λ (q : Program). slice_get q.functions c.args.id.0) same ∙ e in
    let at = dumped_at (trees_of p.types) c.args.stage (shapes_of (crate_of p)) c.with_body.result g g2 c.in_ok-built.built c.in_ok-body.body (sym there ∙ e2) c.in_ok-built.ensures c.in_ok-body.ensures.at c.with_body.ensures in
    subst (λ (q : Program). IfOk c.with_body.result (λ found. at_stage c.args.stage (shapes_of (crate_of q)) (body_of (trees_of q.types) g2.body) ≡ Some (body_of (trees_of q.types) found.body))) same at
