use Rattle.std.proofs.Common.{◌<◌, ◌+◌, ◌++◌, [], ◌∷◌, List, false, replicate, ap, ◌∙◌, set, length, arith}
use Rattle.std.specs.List.{flat_map, range_with_len}
use Rattle.bit_rows.specs.Rows.{row_at, marked}
use Rattle.bit_rows.proofs.Marks.{marks_then}
use Rattle.mir_syntax.specs.declared.body.Block.{Block}
use Rattle.trim_locals.specs.Code.{bare_block_uses}
use Rattle.trim_locals.proofs.marks.used_row.Goals as goal

pub returns : goal.returns
returns c =
    let body = c.args.body.now in
    let row = c.in_ok-row.row in
    let now = c.mark_header.new.rows in
    let first = range_with_len 0 (body.args + 1) in
    let uses = flat_map bare_block_uses body.blocks in
    let one : 0 < length row = (let e = ap length c.in_ok-row.ensures in omega arith) in
    marks_then row now c.mark_blocks.new.rows 0 first uses one c.mark_header.ensures
    (c.mark_blocks.ensures ∙ ap (λ (ks : List Block). set now 0 (marked (row_at now 0) (flat_map bare_block_uses ks))) c.as_slice.ensures)
    ∙ ap (λ t. set t 0 (marked (row_at t 0) (first ++ uses))) c.in_ok-row.ensures
    ∙ ap (λ n. marked (replicate n false) (first ++ uses) ∷ []) c.len.ensures
