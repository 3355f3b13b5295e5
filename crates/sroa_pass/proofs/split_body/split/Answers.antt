use Rattle.std.proofs.Common.{◌∙◌, refl, ap, List, map, set, length}
use Rattle.std.specs.List.{flat_map}
use Rattle.std.proofs.lemmas.List.{length-map}
use Rattle.bit_rows.specs.Rows.{row_at, marked}
use Rattle.mir_syntax.specs.declared.body.Block.{Block}
use Rattle.mir_syntax.specs.Tree.{at_id, trees_of}
use Rattle.mir_syntax.specs.Crate.{crate_of, body_of}
use Rattle.mir_syntax.specs.Shapes.{shapes_of}
use Rattle.sroa_pass.specs.Code.{held_block, put_block, MayBe}
use Rattle.sroa_pass.proofs.equal.Held.{may_be}
use Rattle.sroa_pass.proofs.equal.Whole.{split_is, split_ids}
use Rattle.sroa_pass.proofs.split_body.split.Goals as goal

pub returns-clause-split : goal.returns-clause-split
returns-clause-split c =
    let p = c.args.program.now in
    let trees = trees_of p.types in
    let D = shapes_of (crate_of p) in
    let body = c.args.body in
    let b = body_of trees body in
    let held = c.in_ok-held.held in
    let rows = c.hold_blocks.new.rows in
    let marks = c.hold_blocks.ensures ∙ ap (λ (bs : List Block). set held 0 (marked (row_at held 0) (flat_map held_block bs))) c.as_slice.ensures in
    let may : MayBe D b body.args (row_at rows 0) = may_be D trees b body.blocks held rows (length body.locals) refl (length-map body.locals (at_id trees)) c.in_ok-held.ensures marks in
    split_is p body (row_at rows 0) c.split_locals.new.locals c.in_ok-table.table c.in_ok-table.ensures may c.requires.typed c.in_ok-blocks.blocks
    (c.in_ok-blocks.ensures ∙ ap (λ t. map (put_block t) body.blocks) c.as_slice-2.ensures)

pub returns-clause-in_table : goal.returns-clause-in_table
returns-clause-in_table c =
    split_ids c.args.program.now c.args.body (row_at c.hold_blocks.new.rows 0) c.split_locals.new.locals c.in_ok-table.table c.in_ok-blocks.blocks c.in_ok-table.ensures
    (c.in_ok-blocks.ensures ∙ ap (λ t. map (put_block t) c.args.body.blocks) c.as_slice-2.ensures) c.requires.ids c.requires.body_ids
