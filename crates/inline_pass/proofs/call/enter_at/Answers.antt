use Rattle.std.proofs.lemmas.Result.{on_ok_weaker}
use Rattle.inline_pass.specs.Code.{bare_entered}
use Rattle.inline_pass.proofs.equal.Places.{set_is}
use Rattle.inline_pass.proofs.call.enter_at.Goals as goal

pub returns-clause-blocks : goal.returns-clause-blocks
returns-clause-blocks c =
    on_ok_weaker c.enter.result
    (λ h. set_is (bare_entered c.args.behind.locals c.args.behind.blocks c.args.local c.args.call) c.args.blocks.now c.args.block c.index-blocks-block.result c.enter.new.block c.requires.block h)
    c.enter.ensures.block
