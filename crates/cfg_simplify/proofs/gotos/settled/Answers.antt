use Rattle.std.proofs.Common.{map}
use Rattle.cfg_simplify.specs.Simple.{settle}
use Rattle.cfg_simplify.specs.Code.{at, bare_goto}
use Rattle.cfg_simplify.proofs.equal.Lists.{map_step}
use Rattle.cfg_simplify.proofs.gotos.settled.Goals as goal

pub loop-block-preserved : goal.loop-block-preserved
loop-block-preserved c =
    map_step (λ b. settle (map bare_goto c.args.blocks.now) b (at c.args.ends.now b)) c.loop-block.block c.loop-block.list c.push.new.self c.settle.result c.loop-block.invariant
    c.settle.ensures c.in_ok-push.ensures.ok
