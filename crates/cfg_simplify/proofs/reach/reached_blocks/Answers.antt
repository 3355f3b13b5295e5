use Rattle.std.proofs.Common.{◌≡◌, ◌<◌, length, ◌∙◌, arith}
use Rattle.std.proofs.lemmas.List.{length-map}
use Rattle.mir_cfg.specs.Paths.{terms_of, is_reached}
use Rattle.mir_cfg.proofs.Reaching.{reached_flag}
use Rattle.cfg_simplify.proofs.equal.Lists.{map_step}
use Rattle.cfg_simplify.proofs.reach.reached_blocks.Goals as goal

pub loop-block-preserved : goal.loop-block-preserved
loop-block-preserved c =
    let terms = terms_of c.args.body.now in
    let long : length terms ≡ length c.args.body.now.blocks = length-map c.args.body.now.blocks _ in
    let some : 0 < length terms = omega (arith, long, c.requires.some_block) in
    map_step (is_reached terms) c.loop-block.block c.loop-block.marks.items c.push.new.self.items c.get.result c.loop-block.invariant
    (c.get.ensures ∙ reached_flag terms c.requires.closed some _ c.loop-block.block (c.in_ok-row.ensures.reached c.loop-block.block))
    c.in_ok-push.ensures.items
