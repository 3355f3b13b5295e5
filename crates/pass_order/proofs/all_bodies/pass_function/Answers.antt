use Rattle.std.proofs.Common.{refl, ap, ◌∙◌}
use Rattle.mir_syntax.specs.declared.body.Body.{Body}
use Rattle.mir_syntax.specs.Tree.{trees_of}
use Rattle.mir_syntax.specs.Crate.{crate_of, body_of}
use Rattle.mir_syntax.specs.Shapes.{shapes_of}
use Rattle.pass_order.specs.Passes.{after_passes}
use Rattle.pass_order.proofs.all_bodies.pass_function.Goals as goal

pub returns : goal.returns
returns c =
    let p = c.args.program.now in
    let trees = trees_of p.types in
    let passed = c.in_ok-function.ensures.passed ∙ ap (λ (b : Body). after_passes (shapes_of (crate_of p)) (body_of trees b)) c.replace-body.ensures.value in
    record { head = refl; ids = c.in_ok-function.ensures.in_table; passed = passed }
