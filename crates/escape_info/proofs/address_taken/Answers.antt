use Rattle.std.proofs.Common.{◌≡◌, ◌++◌, ◌∷◌, [], false, ap, ◌∙◌, sym, map, length, get_or, replicate, arith}
use Rattle.std.specs.List.{flat_map}
use Rattle.std.proofs.lemmas.List.{take_all}
use Rattle.bit_rows.specs.Rows.{marked}
use Rattle.mir_syntax.specs.declared.body.Block.{Block}
use Rattle.mir_syntax.specs.Tree.{trees_of}
use Rattle.mir_syntax.specs.Crate.{crate_of, body_of, block_of}
use Rattle.mir_syntax.specs.Shapes.{shapes_of}
use Rattle.escape_info.specs.Borrowed.{bare_lent, dropped, lent_in}
use Rattle.escape_info.proofs.Lent.{all_lent, block_more, marks_are}
use Rattle.escape_info.proofs.address_taken.Goals as goal

pub loop-block-preserved : goal.loop-block-preserved
loop-block-preserved c =
    let p = c.args.program.now in
    let trees = trees_of p.types in
    let D = shapes_of (crate_of p) in
    let body = c.args.body.now in
    let locals = (body_of trees body).locals in
    let item = c.block-item.result in
    let e = c.as_slice-block-items.ensures in
    let i = c.loop-block.block-index in
    let here : item ≡ get_or body.blocks i item = c.block-item.is ∙ ap (λ xs. get_or xs i item) e in
    let long : length c.as_slice-block-items.result.now ≡ length body.blocks = ap length e in
    block_more (lent_in D locals) (block_of trees) body.blocks i item (length body.locals) c.loop-block.row c.mark_lent.new.rows c.mark_dropped.new.rows (flat_map bare_lent c.as_slice.result.now) (dropped D locals item.term) (omega arith) c.loop-block.invariant c.mark_lent.ensures c.mark_dropped.ensures
    (ap (λ (b : Block). lent_in D locals (block_of trees b)) (sym here) ∙ ap (λ zs. zs ++ dropped D locals item.term) (all_lent trees item.stmts ∙ ap (flat_map bare_lent) (sym c.as_slice.ensures)))

pub returns : goal.returns
returns c =
    let p = c.args.program.now in
    let trees = trees_of p.types in
    let D = shapes_of (crate_of p) in
    let body = c.args.body.now in
    let locals = (body_of trees body).locals in
    let long : length c.as_slice-block-items.result.now ≡ length body.blocks = ap length c.as_slice-block-items.ensures in
    marks_are (length body.locals) (flat_map (lent_in D locals) (map (block_of trees) body.blocks)) c.loop-block.row
    (c.loop-block.invariant ∙ ap (λ bs. marked (replicate (length body.locals) false) (flat_map (lent_in D locals) (map (block_of trees) bs)) ∷ []) (take_all c.loop-block.block-index body.blocks (omega arith)))
