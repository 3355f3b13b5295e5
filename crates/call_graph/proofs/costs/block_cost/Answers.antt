use Rattle.std.proofs.Common.{◌≡◌, ◌-◌, ◌^◌, min, ap, refl, ◌∙◌, map, arith}
use Rattle.std.specs.Prelude.{sum_by}
use Rattle.std.proofs.lemmas.List.{take_all}
use Rattle.mir_syntax.specs.declared.body.Stmt.{Stmt}
use Rattle.mir_syntax.specs.Crate.{TypedStmt, assign, storage_live, storage_dead, set_discriminant, stmt_of}
use Rattle.call_graph.specs.Cost as of
use Rattle.call_graph.proofs.Sums.{sum_more}
use Rattle.call_graph.proofs.costs.block_cost.Goals as goal

small : (s : TypedStmt) → of.stmt_cost s ≡ min (of.stmt_cost s) (2 ^ 64 - 1)
small (assign p r) = refl
small (storage_live x) = refl
small (storage_dead x) = refl
small (set_discriminant p k) = refl

pub loop-stmt-preserved : goal.loop-stmt-preserved
loop-stmt-preserved c =
    λ trees.
    let i = c.loop-stmt.stmt-index in
    let item = c.stmt-item.result in
    c.saturating_add-total.ensures
    ∙ sum_more of.stmt_cost (stmt_of trees) c.args.stmts.now i item (2 ^ 64 - 1) c.loop-stmt.total c.stmt_cost.result (let e = c.loop-stmt-test.true in omega (arith, e)) (c.loop-stmt.invariant trees)
    (c.stmt_cost.ensures trees ∙ small (stmt_of trees item) ∙ ap (λ (s : Stmt). min (of.stmt_cost (stmt_of trees s)) (2 ^ 64 - 1)) c.stmt-item.is)

pub returns : goal.returns
returns c = λ trees.
    let whole : c.loop-stmt.total ≡ min (sum_by of.stmt_cost (map (stmt_of trees) c.args.stmts.now)) (2 ^ 64 - 1) = c.loop-stmt.invariant trees ∙ ap (λ xs. min (sum_by of.stmt_cost (map (stmt_of trees) xs)) (2 ^ 64 - 1)) (take_all c.loop-stmt.stmt-index c.args.stmts.now (let e = c.loop-stmt-test.false in omega (arith, e))) in
    omega (arith, whole, c.saturating_add.ensures, c.term_cost.ensures)
