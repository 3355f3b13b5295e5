use Rattle.std.proofs.Common.{map, arith}
use Rattle.mir_print.specs.Seen.{crate_in}
use Rattle.mir_syntax.specs.Tree.{at_id, trees_of}
use Rattle.mir_print.proofs.Texts.{named_more, named_done}
use Rattle.mir_print.proofs.build.put_more_named.Goals as goal

pub loop-index-preserved : goal.loop-index-preserved
loop-index-preserved g c =
    named_more (crate_in c.args.program.now) (map (at_id (trees_of c.args.program.now.types)) c.args.locals.now) (trees_of c.args.program.now.types) c.args.fields.now c.args.operands.now c.loop-index.index c.index-fields-index.result c.index-operands-index.result
    (omega (arith, c.loop-index-test.true, c.min-count.ensures)) (omega (arith, c.loop-index-test.true, c.min-count.ensures)) c.index-fields-index.is c.index-operands-index.is c.loop-index.invariant c.put_next_named.ensures

pub returns : goal.returns
returns g c =
    named_done (crate_in c.args.program.now) (map (at_id (trees_of c.args.program.now.types)) c.args.locals.now) (trees_of c.args.program.now.types) c.loop-index.index c.args.fields.now c.args.operands.now
    (omega (arith, c.loop-index-test.false, c.min-count.ensures)) c.loop-index.invariant
