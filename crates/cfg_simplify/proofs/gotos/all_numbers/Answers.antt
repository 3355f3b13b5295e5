use Rattle.cfg_simplify.proofs.equal.Lists.{numbers_step}
use Rattle.cfg_simplify.proofs.gotos.all_numbers.Goals as goal

pub loop-number-preserved : goal.loop-number-preserved
loop-number-preserved c = numbers_step c.loop-number.number c.loop-number.list c.push.new.self c.loop-number.invariant c.in_ok-push.ensures.ok
