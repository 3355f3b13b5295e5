use Rattle.std.proofs.Common.{◌≡◌, List, [], ap, ◌∙◌, subst, arith}
use Rattle.std.proofs.lemmas.List.{get_or-set_same}
use Rattle.mir_syntax.specs.declared.body.Stmt.{Stmt}
use Rattle.bit_rows.specs.Rows.{row_at}
use Rattle.dest_prop.specs.Code.{Grows, stmts_hurt, term_hurts_by}
use Rattle.dest_prop.proofs.equal.Grown.{grows_then}
use Rattle.dest_prop.proofs.conflicts.note_block.Goals as goal

pub note_term-requires-clause-size : goal.note_term-requires-clause-size
note_term-requires-clause-size c = (c.note_stmts.ensures.hurts []).size

pub returns-clause-hurts : goal.returns-clause-hurts
returns-clause-hurts c = λ trees.
    let n = c.args.locals in
    let end = row_at c.args.rows.now.ends c.args.at in
    let row : row_at c.copy_other.new.self 0 ≡ end = ap (λ t. row_at t 0) c.copy_other.ensures.row ∙ get_or-set_same c.args.live.now 0 end [] (let z = c.requires.live_size.count_is in omega arith) in
    grows_then n (stmts_hurt trees end c.args.block.now.stmts) (term_hurts_by c.args.rows.now.starts c.args.block.now.term) c.args.hurts.now c.note_stmts.new.hurts c.note_term.new.hurts
    (subst (λ r. Grows n (stmts_hurt trees r c.args.block.now.stmts) c.args.hurts.now c.note_stmts.new.hurts) row
    (subst (λ (ss : List Stmt). Grows n (stmts_hurt trees (row_at c.copy_other.new.self 0) ss) c.args.hurts.now c.note_stmts.new.hurts) c.as_slice.ensures (c.note_stmts.ensures.hurts trees)))
    c.note_term.ensures
