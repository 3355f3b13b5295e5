use Rattle.std.proofs.Common.{◌≡◌, ℕ, map, drop}
use Rattle.mir_syntax.specs.Tree.{trees_of}
use Rattle.mir_syntax.specs.Crate.{TypedFunction, crate_of, body_of}
use Rattle.mir_syntax.specs.Shapes.{shapes_of}
use Rattle.mir_syntax.specs.Ids.{BodyInTable}
use Rattle.pass_order.specs.Passes.{after}
use Rattle.pass_order.specs.Steps.{pass_of}
use Rattle.pass_order.specs.Fits.{FitsAt}
use Rattle.pass_order.proofs.passes.after_all.Given as goal

abbrev pub invariant-loop-pass : goal.invariant-loop-pass
invariant-loop-pass l = record {
  ids : BodyInTable l.program.types l.left;
  fits : (f : ℕ) × (g : TypedFunction) × FitsAt (crate_of l.program) f g (body_of (trees_of l.program.types) l.left);
  passed : after (map pass_of (drop l.pass-index l.passes)) (shapes_of (crate_of l.program)) (body_of (trees_of l.program.types) l.left) ≡ after (map pass_of l.passes) (shapes_of (crate_of l.program)) (body_of (trees_of l.program.types) l.fn.body);
}
