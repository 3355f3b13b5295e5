use Rattle.std.proofs.Common.{◌≡◌, ◌<◌, false, ap, ◌∙◌, sym, [], length, get_or, arith}
use Rattle.std.proofs.lemmas.List.{get_or-map, length-replicate}
use Rattle.bit_rows.specs.Rows.{row_at}
use Rattle.mir_syntax.specs.Crate.{body_of, block_of}
use Rattle.mir_syntax.specs.declared.body.Block.{Block}
use Rattle.liveness.specs.Rows.{blank, block_at, no_block}
use Rattle.liveness.proofs.Filling.{filled_more, filled_all}
use Rattle.move_paths.specs.Rows.{passed_block, each_unit, end_row}
use Rattle.move_paths.proofs.passing.Passing.ends.Goals as goal

pub pass_block-requires-clause-within : goal.pass_block-requires-clause-within
pass_block-requires-clause-within c = (let long = (c.loop-at.invariant []).long in let same = ap length c.as_slice-blocks.ensures in omega arith)

pub pass_block-requires-clause-bits : goal.pass_block-requires-clause-bits
pass_block-requires-clause-bits c =
    let same = ap length c.as_slice-blocks.ensures in
    let low : c.loop-at.at < length c.args.body.now.blocks = omega arith in
    ap length ((c.loop-at.invariant []).rest c.loop-at.at (omega arith) low) ∙ length-replicate (length c.args.self.now.units.now.places) false

pub loop-at-preserved : goal.loop-at-preserved
loop-at-preserved c = λ trees.
    let s = c.args.self.now in
    let us = s.units.now.places in
    let body = c.args.body.now in
    let b = body_of trees body in
    let at = c.loop-at.at in
    let now = c.loop-at.rows in
    let item = c.index-blocks-at.result in
    let same = ap length c.as_slice-blocks.ensures in
    let low : at < length body.blocks = omega arith in
    let here : item ≡ get_or body.blocks at item = c.index-blocks-at.is ∙ ap (λ xs. get_or xs at item) c.as_slice-blocks.ensures in
    let typed : block_at b.blocks at ≡ block_of trees (get_or body.blocks at item) = get_or-map (block_of trees) body.blocks at item no_block low in
    let w = c.loop-at.invariant trees in
    filled_more (length body.blocks) at (λ i. end_row s.status us (block_at b.blocks i)) (blank (length us)) now c.pass_block.new.rows (each_unit (passed_block s.status (block_of trees item)) us (row_at now at)) low w (c.pass_block.ensures trees)
    (ap (each_unit (passed_block s.status (block_of trees item)) us) (w.rest at (omega arith) low)
    ∙ ap (λ (k : Block). end_row s.status us (block_of trees k)) here ∙ ap (end_row s.status us) (sym typed))

pub returns : goal.returns
returns c = λ trees.
    let s = c.args.self.now in
    let us = s.units.now.places in
    let body = c.args.body.now in
    let b = body_of trees body in
    let same = ap length c.as_slice-blocks.ensures in
    filled_all (length body.blocks) c.loop-at.at (λ i. end_row s.status us (block_at b.blocks i)) (blank (length us)) c.loop-at.rows (omega arith) (c.loop-at.invariant trees)
