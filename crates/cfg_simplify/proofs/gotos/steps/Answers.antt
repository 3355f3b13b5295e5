use Rattle.std.proofs.Common.{map, ap, ◌∙◌}
use Rattle.std.specs.Option.{unwrap_or}
use Rattle.cfg_simplify.specs.Simple.{onward, goto_link}
use Rattle.cfg_simplify.specs.Code.{bare_goto}
use Rattle.cfg_simplify.proofs.equal.Lists.{map_step}
use Rattle.cfg_simplify.proofs.gotos.steps.Goals as goal

pub loop-at-preserved : goal.loop-at-preserved
loop-at-preserved c =
    let link = goto_link (map bare_goto c.args.blocks.now) in
    map_step (onward link) c.loop-at.at c.loop-at.steps c.push.new.self c.unwrap_or.result c.loop-at.invariant
    (c.unwrap_or.ensures ∙ ap (λ o. unwrap_or o c.loop-at.at) c.empty_goto.ensures)
    c.in_ok-push.ensures.ok
