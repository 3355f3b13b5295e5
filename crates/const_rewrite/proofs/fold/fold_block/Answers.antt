use Rattle.std.proofs.Common.{◌∙◌, ap, ap₂, List, map, get_or, None}
use Rattle.std.specs.List.{list_all}
use Rattle.mir_syntax.specs.declared.body.Stmt.{Stmt}
use Rattle.mir_syntax.specs.declared.body.Term.{Term}
use Rattle.mir_syntax.specs.Crate.{stmt_of}
use Rattle.mir_syntax.specs.Ids.{stmt_below}
use Rattle.const_flow.specs.ConstAt.{Reached}
use Rattle.const_rewrite.specs.Folded.{folded_stmts, folded_term}
use Rattle.const_rewrite.specs.Points.{here, trees_in, where_reached}
use Rattle.const_rewrite.proofs.equal.Stmts.{passed}
use Rattle.const_rewrite.proofs.equal.Whole.{block_is}
use Rattle.const_rewrite.proofs.fold.fold_block.Goals as goal

pub returns-clause-block : goal.returns-clause-block
returns-clause-block c =
    let trees = trees_in c.args.text in
    let h = here c.args.text in
    block_is trees h (get_or c.args.rows.now c.args.at None) c.args.block.now (record { stmts = c.in_ok-left.left; term = c.folded_term.result })
    (c.in_ok-left.ensures.stmts ∙ ap₂ (λ (x : Reached) (ss : List Stmt). where_reached (folded_stmts h) x (map (stmt_of trees) ss)) c.in_ok-facts.ensures c.replace-stmts.ensures.value)
    (c.folded_term.ensures ∙ ap₂ (λ (x : Reached) (t : Term). where_reached (folded_term h) x t) (c.in_ok-left.ensures.facts ∙ ap₂ (λ (x : Reached) (ss : List Stmt). passed h (map (stmt_of trees) ss) x) c.in_ok-facts.ensures c.replace-stmts.ensures.value) c.replace-term.ensures.value)

pub returns-clause-ids : goal.returns-clause-ids
returns-clause-ids c = λ n below. c.in_ok-left.ensures.ids n (ap (list_all (stmt_below n)) c.replace-stmts.ensures.value ∙ below)
