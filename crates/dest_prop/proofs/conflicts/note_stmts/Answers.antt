use Rattle.std.proofs.Common.{◌≡◌, ◌+◌, ◌-◌, ◌<◌, ℕ, suc, [], drop, map, set, length, sym, ap, ◌∙◌, subst, arith}
use Rattle.std.proofs.lemmas.List.{get_or-set_same}
use Rattle.mir_syntax.specs.Crate.{stmt_of}
use Rattle.mir_syntax.specs.declared.body.Stmt.{Stmt}
use Rattle.bit_rows.specs.Rows.{row_at, HasSize}
use Rattle.liveness.specs.Rows.{before_stmt, before_all}
use Rattle.liveness.proofs.Carried.{back_more}
use Rattle.dest_prop.specs.Merged.{any_from}
use Rattle.dest_prop.specs.Code.{Grows, stmt_hurts_by, hurts_among}
use Rattle.dest_prop.proofs.equal.Grown.{grows_as, grows_item, size_set, back_long}
use Rattle.dest_prop.proofs.conflicts.note_stmts.Goals as goal

pub note_stmt-requires-clause-size : goal.note_stmt-requires-clause-size
note_stmt-requires-clause-size c = (c.loop-at.invariant.1 []).size

pub loop-at-preserved : goal.loop-at-preserved
loop-at-preserved c =
    let stmts = c.args.stmts.now in
    let n = c.args.locals in
    let live = c.args.live.now in
    let end = row_at live 0 in
    let at = c.loop-at.at in
    let now = c.loop-at.live in
    let item = c.index-stmts-at.result in
    let one : (at - 1) + 1 ≡ at = omega arith in
    let next : ℕ = at - 1 in
    let low : next < length stmts = omega arith in
    let some : 0 < length live = (let z = c.requires.live_size.count_is in omega arith) in (
      (λ trees. back_more (stmt_of trees) stmts next c.index-stmts-at-in-loop-at.result live now c.back.new.rows 0 low some
          (c.loop-at.invariant.0 trees ∙ ap (λ (n : ℕ). set live 0 (before_all (map (stmt_of trees) (drop n stmts)) (row_at live 0))) (sym one))
          (c.back.ensures trees ∙ ap (λ (s : Stmt). set now 0 (before_stmt (stmt_of trees s) (row_at now 0))) c.index-stmts-at-in-loop-at.is)),
      (λ trees.
          let row : row_at now 0 ≡ before_all (map (stmt_of trees) (drop (suc next) stmts)) end =
          ap (λ t. row_at t 0) (c.loop-at.invariant.0 trees) ∙ get_or-set_same live 0 (before_all (map (stmt_of trees) (drop at stmts)) end) [] some ∙ ap (λ (m : ℕ). before_all (map (stmt_of trees) (drop m stmts)) end) (let z : at ≡ suc next = omega arith in z) in
          grows_item n (hurts_among trees end stmts) stmts c.args.hurts.now c.loop-at.hurts c.note_stmt.new.hurts next item low
          (subst (λ (m : ℕ). Grows n (λ x y. any_from (hurts_among trees end stmts x y) m (drop m stmts)) c.args.hurts.now c.loop-at.hurts) (let z : at ≡ suc next = omega arith in z) (c.loop-at.invariant.1 trees))
          (grows_as n (stmt_hurts_by (row_at now 0) item) _ c.loop-at.hurts c.note_stmt.new.hurts (λ x y l m. ap (λ r. stmt_hurts_by r item x y) row ∙ ap (λ (s : Stmt). stmt_hurts_by (before_all (map (stmt_of trees) (drop (suc next) stmts)) end) s x y) c.index-stmts-at.is) c.note_stmt.ensures)),
      subst (λ t. HasSize t 1 n) (sym (c.back.ensures [])) (size_set now 1 n 0 (before_stmt (stmt_of [] c.index-stmts-at-in-loop-at.result) (row_at now 0)) c.loop-at.invariant.2 (back_long (stmt_of [] c.index-stmts-at-in-loop-at.result) (row_at now 0) ∙ c.loop-at.invariant.2.bits_is 0 (omega arith))),
    )

pub returns-clause-hurts : goal.returns-clause-hurts
returns-clause-hurts c = λ trees.
    let none : c.loop-at.at ≡ 0 = omega arith in
    subst (λ (m : ℕ). Grows c.args.locals (λ x y. any_from (hurts_among trees (row_at c.args.live.now 0) c.args.stmts.now x y) m (drop m c.args.stmts.now)) c.args.hurts.now c.loop-at.hurts) none (c.loop-at.invariant.1 trees)
