use Rattle.std.proofs.Common.{◌≡◌, ◌<◌, [], ap, ◌∙◌, sym, length, get_or, arith}
use Rattle.std.proofs.lemmas.List.{get_or-map, length-map}
use Rattle.bit_rows.specs.Rows.{row_at, marked}
use Rattle.mir_syntax.specs.Tree.{at_id}
use Rattle.mir_syntax.specs.Crate.{body_of, block_of}
use Rattle.mir_syntax.specs.declared.body.Block.{Block}
use Rattle.liveness.specs.Rows.{blank, block_fills, kill_row, block_at, no_block}
use Rattle.liveness.proofs.Filling.{filled_more, filled_all}
use Rattle.liveness.proofs.effects.kills.Goals as goal

pub fill_block-requires : goal.fill_block-requires
fill_block-requires c = (let long = (c.loop-at.invariant []).long in let same = ap length c.as_slice-blocks.ensures in omega arith)

pub loop-at-preserved : goal.loop-at-preserved
loop-at-preserved c = λ trees.
    let body = c.args.body.now in
    let b = body_of trees body in
    let at = c.loop-at.at in
    let now = c.loop-at.rows in
    let item = c.index-blocks-at.result in
    let same = ap length c.as_slice-blocks.ensures in
    let low : at < length body.blocks = omega arith in
    let here : item ≡ get_or body.blocks at item = c.index-blocks-at.is ∙ ap (λ xs. get_or xs at item) c.as_slice-blocks.ensures in
    let typed : block_at b.blocks at ≡ block_of trees (get_or body.blocks at item) = get_or-map (block_of trees) body.blocks at item no_block low in
    let w = c.loop-at.invariant trees in
    filled_more (length body.blocks) at (λ i. kill_row b.locals (block_at b.blocks i)) (blank (length body.locals)) now c.fill_block.new.rows (marked (row_at now at) (block_fills (block_of trees item))) low w (c.fill_block.ensures trees)
    (ap (λ row. marked row (block_fills (block_of trees item))) (w.rest at (omega arith) low ∙ ap blank (sym (length-map body.locals (at_id trees))))
    ∙ ap (λ (k : Block). kill_row b.locals (block_of trees k)) here ∙ ap (kill_row b.locals) (sym typed))

pub returns : goal.returns
returns c = λ trees.
    let body = c.args.body.now in
    let b = body_of trees body in
    let same = ap length c.as_slice-blocks.ensures in
    filled_all (length body.blocks) c.loop-at.at (λ i. kill_row b.locals (block_at b.blocks i)) (blank (length body.locals)) c.loop-at.rows (omega arith) (c.loop-at.invariant trees)
