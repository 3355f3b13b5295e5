use Rattle.std.proofs.Common.{◌+◌, ◌∙◌, ◌∷◌, [], ◌++◌, ap}
use Rattle.sroa_pass.specs.Code.{storage}
use Rattle.sroa_pass.proofs.equal.Loops.{more_of_range}
use Rattle.sroa_pass.proofs.by_fields.put_storage.Goals as goal

pub loop-index-preserved : goal.loop-index-preserved
loop-index-preserved c =
    let now = c.loop-index.stmts in
    more_of_range (λ i. storage c.args.live (c.in-Some.parts.first + i)) c.args.stmts.now now c.push-in-loop-index.new.self c.loop-index.index c.loop-index.invariant (c.in_ok-push.ensures.ok ∙ ap (λ s. now ++ s ∷ []) c.storage-in-loop-index.ensures)
