use Rattle.std.proofs.Common.{map, arith, ◌+◌}
use Rattle.mir_print.specs.Seen.{crate_in}
use Rattle.mir_syntax.specs.Tree.{at_id, trees_of}
use Rattle.mir_text.specs.Text.{more_args}
use Rattle.mir_print.proofs.Texts.{remains_next, remains_none, first_arg, no_args}
use Rattle.mir_print.proofs.function.put_more_args.Goals as goal

pub loop-index-preserved : goal.loop-index-preserved
loop-index-preserved g c =
    remains_next ((λ xs. more_args (crate_in c.args.program.now) (c.loop-index.index + 2) (map (at_id (trees_of c.args.program.now.types)) xs))) ((λ xs. more_args (crate_in c.args.program.now) ((c.loop-index.index + 1) + 2) (map (at_id (trees_of c.args.program.now.types)) xs))) c.args.types.now c.loop-index.index _
    (omega (arith, c.loop-index-test.true, c.loop-index.auto.index-end)) (first_arg (crate_in c.args.program.now) (c.loop-index.index + 2) (c.loop-index.index + 1 + 2) _ _ (omega arith)) c.loop-index.invariant c.put_next_arg.ensures

pub returns : goal.returns
returns g c =
    remains_none ((λ xs. more_args (crate_in c.args.program.now) (c.loop-index.index + 2) (map (at_id (trees_of c.args.program.now.types)) xs))) c.args.types.now c.loop-index.index (omega (arith, c.loop-index-test.false, c.loop-index.auto.index-end)) (no_args (crate_in c.args.program.now) (c.loop-index.index + 2)) c.loop-index.invariant
