use Rattle.std.proofs.Common.{◌≡◌, [], ◌∷◌, sym, ap, ◌∙◌, set, arith}
use Rattle.std.specs.List.{range_with_len}
use Rattle.bit_rows.specs.Rows.{row_at, marked}
use Rattle.bit_rows.proofs.Marks.{marks_then}
use Rattle.mir_syntax.proofs.Lists.{range_more}
use Rattle.trim_locals.proofs.marks.mark_header.Goals as goal

pub loop-local-preserved : goal.loop-local-preserved
loop-local-preserved c =
    let rows = c.args.rows.now in
    let i = c.loop-local.local in
    marks_then rows c.loop-local.rows c.write.new.self 0 (range_with_len 0 i) (i ∷ []) c.requires c.loop-local.invariant c.write.ensures
    ∙ ap (λ xs. set rows 0 (marked (row_at rows 0) xs)) (sym (range_more i))

pub returns : goal.returns
returns c =
    let rows = c.args.rows.now in
    let n = c.args.args in
    let all : c.loop-local.local ≡ n = omega arith in
    marks_then rows c.loop-local.rows c.write-2.new.self 0 (range_with_len 0 n) (n ∷ []) c.requires (c.loop-local.invariant ∙ ap (λ k. set rows 0 (marked (row_at rows 0) (range_with_len 0 k))) all) c.write-2.ensures
    ∙ ap (λ xs. set rows 0 (marked (row_at rows 0) xs)) (sym (range_more n))
