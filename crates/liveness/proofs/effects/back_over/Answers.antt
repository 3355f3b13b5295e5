use Rattle.std.proofs.Common.{◌≡◌, ◌+◌, ◌-◌, [], ℕ, drop, map, set, length, sym, ap, ◌∙◌, arith}
use Rattle.std.proofs.lemmas.List.{length-set}
use Rattle.mir_syntax.specs.Crate.{stmt_of}
use Rattle.mir_syntax.specs.declared.body.Stmt.{Stmt}
use Rattle.bit_rows.specs.Rows.{row_at}
use Rattle.liveness.specs.Rows.{before_stmt, before_all}
use Rattle.liveness.proofs.Carried.{back_more}
use Rattle.liveness.proofs.effects.back_over.Goals as goal

pub back-requires : goal.back-requires
back-requires c =
    let low = c.requires in
    let rows = c.args.rows.now in
    let row = c.args.row in
    let long : length c.loop-at.rows ≡ length rows = ap length (c.loop-at.invariant []) ∙ length-set rows row (before_all (map (stmt_of []) (drop c.loop-at.at c.args.stmts.now)) (row_at rows row)) in
    omega arith

pub loop-at-preserved : goal.loop-at-preserved
loop-at-preserved c = λ trees.
    let stmts = c.args.stmts.now in
    let rows = c.args.rows.now in
    let row = c.args.row in
    let at = c.loop-at.at in
    let now = c.loop-at.rows in
    let item = c.index-stmts-at.result in
    let one : (at - 1) + 1 ≡ at = omega arith in
    back_more (stmt_of trees) stmts (at - 1) item rows now c.back.new.rows row (omega arith) c.requires
    (c.loop-at.invariant trees ∙ ap (λ (n : ℕ). set rows row (before_all (map (stmt_of trees) (drop n stmts)) (row_at rows row))) (sym one))
    (c.back.ensures trees ∙ ap (λ (s : Stmt). set now row (before_stmt (stmt_of trees s) (row_at now row))) c.index-stmts-at.is)

pub returns : goal.returns
returns c = λ trees.
    let none : c.loop-at.at ≡ 0 = omega arith in
    c.loop-at.invariant trees ∙ ap (λ (n : ℕ). set c.args.rows.now c.args.row (before_all (map (stmt_of trees) (drop n c.args.stmts.now)) (row_at c.args.rows.now c.args.row))) none
