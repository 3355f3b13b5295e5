use Rattle.std.proofs.Common.{sym, ap₂, ◌∙◌, List, [], ◌∷◌, ◌++◌}
use Rattle.std.proofs.lemmas.List.{take_more}
use Rattle.mir_syntax.specs.declared.body.Block.{Block}
use Rattle.mir_syntax.specs.declared.body.Stmt.{Stmt}
use Rattle.mir_syntax.specs.declared.body.Term.{Term}
use Rattle.mir_syntax.proofs.Flat.{block_there}
use Rattle.mir_syntax.proofs.flat_body.FlatBody.to_body.Goals as goal

pub loop-block-preserved : goal.loop-block-preserved
loop-block-preserved c =
    let blocks = c.args.self.now.blocks in
    let i = c.loop-block.block in
    let k : Block = record { stmts = c.stmts.result.now; term = c.term.result.now } in
    let there = block_there blocks i c.stmts.result.now c.term.result.now c.stmts.ensures c.term.ensures in
    c.in_ok-push.ensures.ok
    ∙ ap₂ (λ (ks : List Block) (b : Block). ks ++ b ∷ []) c.loop-block.invariant
    (ap₂ (λ (ss : List Stmt) (t : Term). record { stmts = ss; term = t }) c.in_ok-copy_all.ensures c.in_ok-copied.ensures ∙ there.1)
    ∙ sym (take_more blocks i k there.0)
