use Rattle.std.proofs.Common.{arith}
use Rattle.std.specs.Vec.Iter.{into_iter_items}
use Rattle.mir_syntax.proofs.Flat.{gathers_more, gathered_few}
use Rattle.mir_syntax.proofs.flat_body.FlatBody.of.Goals as goal

pub loop-block-preserved : goal.loop-block-preserved
loop-block-preserved c =
    gathers_more c.args.body.blocks c.loop-block.ends c.push.new.self c.loop-block.terms c.push-in-loop-block.new.self c.loop-block.stmts c.append.new.self
    (into_iter_items c.loop-block.block-iterator) (into_iter_items c.next.new.self) c.in-Some.block c.len-in-loop-block.result
    c.loop-block.invariant c.in-Some.ensures.steps.0 c.in_ok-append.ensures.ok c.len-in-loop-block.ensures c.in_ok-push.ensures.ok c.in_ok-push-2.ensures.ok

pub invariant_of-result : goal.invariant_of-result
invariant_of-result c = record {
  covers = c.loop-block.invariant.covers;
  as_many = c.loop-block.invariant.as_many;
  few = omega (arith, c.requires.few, gathered_few c.args.body.blocks c.loop-block.ends c.loop-block.terms c.loop-block.stmts (into_iter_items c.loop-block.block-iterator) c.loop-block.invariant);
}
