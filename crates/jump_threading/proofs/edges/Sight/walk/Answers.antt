use Rattle.std.proofs.Common.{◌≡◌, ◌+◌, ◌∷◌, List, sym, ap, ◌∙◌, map, drop, option_map, arith}
use Rattle.std.proofs.lemmas.List.{drop_more}
use Rattle.mir_syntax.specs.declared.body.Stmt.{Stmt}
use Rattle.mir_syntax.specs.Crate.{stmt_of}
use Rattle.const_flow.specs.Facts.{after_all}
use Rattle.jump_threading.specs.Code.{text_in, trees_in}
use Rattle.jump_threading.proofs.equal.Edges.{walk_more}
use Rattle.jump_threading.proofs.edges.Sight.walk.Goals as goal

pub loop-stmt-preserved : goal.loop-stmt-preserved
loop-stmt-preserved c =
    let h = text_in c.args.self in
    let typed = stmt_of (trees_in c.args.self) in
    let stmts = c.args.stmts.now in
    let i = c.loop-stmt.stmt-index in
    let d = c.stmt-item.result in
    let step = ap (option_map (after_all h (map typed (drop (i + 1) stmts)))) c.in_ok-pass.ensures.ok in
    let rest : drop i stmts ≡ d ∷ drop (i + 1) stmts = drop_more stmts i d (omega arith) ∙ ap (λ (s : Stmt). s ∷ drop (i + 1) stmts) (sym c.stmt-item.is) in
    step ∙ walk_more h (typed d) (map typed (drop (i + 1) stmts)) c.loop-stmt.facts ∙ ap (λ (ss : List Stmt). option_map (after_all h (map typed ss)) c.loop-stmt.facts) (sym rest) ∙ c.loop-stmt.invariant
