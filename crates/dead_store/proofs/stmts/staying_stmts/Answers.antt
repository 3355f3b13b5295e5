use Rattle.std.proofs.Common.{◌≡◌, ◌<◌, [], ◌∷◌, List, map, drop, set, length, reverse, sym, ap, ◌∙◌, subst, arith}
use Rattle.std.specs.List.{All}
use Rattle.mir_syntax.specs.Crate.{stmt_of}
use Rattle.mir_syntax.specs.declared.body.Stmt.{Stmt}
use Rattle.mir_syntax.proofs.Taken.{taken_next, taken_more, taken_all}
use Rattle.bit_rows.specs.Rows.{row_at}
use Rattle.liveness.specs.Rows.{before_all}
use Rattle.dead_store.specs.Rounds.{set_locals, goes, staying}
use Rattle.dead_store.proofs.equal.Staying.{taken_sets, row_before, row_more, row_long, rows_long, kept_more}
use Rattle.dead_store.proofs.stmts.staying_stmts.Goals as goal

pub goes-gone-requires-clause-live_row : goal.goes-gone-requires-clause-live_row
goes-gone-requires-clause-live_row c =
    let live = c.args.live.now in
    let long = rows_long live c.loop-stmt.live c.args.row (before_all (map (stmt_of []) (drop (length c.loop-stmt.left) c.args.stmts)) (row_at live c.args.row)) (c.loop-stmt.invariant.1 []) in
    let low = c.requires.live_row in omega arith

pub goes-gone-requires-clause-lent_bit : goal.goes-gone-requires-clause-lent_bit
goes-gone-requires-clause-lent_bit c = taken_sets c.args.stmts c.loop-stmt.left c.pop.new.self c.in-Some.stmt c.loop-stmt.invariant.0 c.in-Some.ensures (length (row_at c.args.lent.now 0)) c.requires.lent_bits

pub goes-gone-requires-clause-live_bit : goal.goes-gone-requires-clause-live_bit
goes-gone-requires-clause-live_bit c =
    let live = c.args.live.now in
    let row = c.args.row in
    let long = row_long live c.loop-stmt.live row (drop (length c.loop-stmt.left) c.args.stmts) [] c.requires.live_row (c.loop-stmt.invariant.1 []) in
    subst (λ n. All (λ x. x < n) (set_locals c.in-Some.stmt)) (sym long) (taken_sets c.args.stmts c.loop-stmt.left c.pop.new.self c.in-Some.stmt c.loop-stmt.invariant.0 c.in-Some.ensures (length (row_at live row)) c.requires.live_bits)

pub back-requires : goal.back-requires
back-requires c =
    let live = c.args.live.now in
    let long = rows_long live c.loop-stmt.live c.args.row (before_all (map (stmt_of []) (drop (length c.loop-stmt.left) c.args.stmts)) (row_at live c.args.row)) (c.loop-stmt.invariant.1 []) in
    let low = c.requires.live_row in omega arith

pub loop-stmt-preserved : goal.loop-stmt-preserved
loop-stmt-preserved c =
    let all = c.args.stmts in
    let left = c.loop-stmt.left in
    let next = c.pop.new.self in
    let s = c.in-Some.stmt in
    let taken = c.loop-stmt.invariant.0 in
    let done = drop (length left) all in
    let on : drop (length next) all ≡ s ∷ done = taken_next all left next s taken c.in-Some.ensures in
    let live = c.args.live.now in
    let row = c.args.row in
    let lent = row_at c.args.lent.now 0 in (
      taken_more all left next s taken c.in-Some.ensures,
      (λ trees. row_more live c.loop-stmt.live c.back.new.rows row s done trees c.requires.live_row (c.loop-stmt.invariant.1 trees) (c.back.ensures trees)
          ∙ ap (λ (ss : List Stmt). set live row (before_all (map (stmt_of trees) ss) (row_at live row))) (sym on)),
      (λ trees. kept_more lent (row_at live row) c.loop-stmt.kept.items c.keep.new.kept.items s done c.goes-gone.result trees (c.loop-stmt.invariant.2 trees)
          (c.goes-gone.ensures ∙ ap (λ r. goes lent r s) (row_before live c.loop-stmt.live row done trees c.requires.live_row (c.loop-stmt.invariant.1 trees)))
          c.in_ok-keep.ensures
          ∙ ap (λ (ss : List Stmt). reverse (staying trees lent (row_at live row) ss)) (sym on)),
    )

pub returns-clause-live : goal.returns-clause-live
returns-clause-live c = λ trees.
    let live = c.args.live.now in
    let row = c.args.row in
    c.loop-stmt.invariant.1 trees ∙ ap (λ (ss : List Stmt). set live row (before_all (map (stmt_of trees) ss) (row_at live row))) (taken_all c.args.stmts c.loop-stmt.left c.in_default.ensures.0)
