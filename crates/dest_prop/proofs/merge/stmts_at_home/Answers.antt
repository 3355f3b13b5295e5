use Rattle.std.proofs.Common.{◌≡◌, ◌∷◌, List, drop, reverse, length, sym, ap, ◌∙◌}
use Rattle.mir_syntax.specs.declared.body.Stmt.{Stmt}
use Rattle.mir_syntax.proofs.Taken.{taken_next, taken_more}
use Rattle.bit_rows.specs.Rows.{row_at}
use Rattle.dest_prop.specs.Code.{home_in, shared_in, bare_stmts_home}
use Rattle.dest_prop.proofs.equal.Written.{kept_more}
use Rattle.dest_prop.proofs.merge.stmts_at_home.Goals as goal

pub loop-stmt-preserved : goal.loop-stmt-preserved
loop-stmt-preserved c =
    let all = c.args.stmts in
    let left = c.loop-stmt.left in
    let next = c.pop.new.self in
    let s = c.in-Some.stmt in
    let taken = c.loop-stmt.invariant.0 in
    let done = drop (length left) all in
    let on : drop (length next) all ≡ s ∷ done = taken_next all left next s taken c.in-Some.ensures in
    let shared = shared_in (row_at c.args.shared.now 0) in
    let home = home_in c.args.homes.now in (
      taken_more all left next s taken c.in-Some.ensures,
      kept_more shared home c.loop-stmt.kept.items c.keep.new.kept.items s done c.loop-stmt.invariant.1 c.in_ok-keep.ensures
          ∙ ap (λ (ss : List Stmt). reverse (bare_stmts_home shared home ss)) (sym on),
    )
