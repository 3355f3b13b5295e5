use Rattle.std.proofs.Common.{arith}
use Rattle.mir_syntax.specs.Tree.{trees_of}
use Rattle.mir_syntax.specs.Crate.{crate_of, body_of}
use Rattle.mir_syntax.specs.Shapes.{shapes_of}
use Rattle.pass_order.proofs.Running.{fits_more, goes_on}
use Rattle.pass_order.proofs.passes.after_all.Goals as goal

pub loop-pass-preserved : goal.loop-pass-preserved
loop-pass-preserved c =
    let p = c.args.program.now in
    let trees = trees_of p.types in
    record {
      ids = c.in_ok-left.ensures.in_table;
      fits = fits_more (crate_of p) _ (body_of trees c.loop-pass.left) (body_of trees c.in_ok-left.left) c.in_ok-left.ensures.passed c.loop-pass.invariant.fits;
      passed = goes_on (shapes_of (crate_of p)) c.args.passes.now c.loop-pass.pass-index _ (body_of trees c.loop-pass.left) (body_of trees c.in_ok-left.left) (body_of trees c.args.body) (omega arith) c.in_ok-left.ensures.passed c.loop-pass.invariant.passed;
    }
