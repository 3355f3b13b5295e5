use Rattle.std.proofs.Common.{◌∙◌, ◌∷◌, [], ◌++◌, ap}
use Rattle.sroa_pass.specs.Code.{copy_field}
use Rattle.sroa_pass.proofs.equal.Loops.{more_of_range}
use Rattle.sroa_pass.proofs.by_fields.copy_fields.Goals as goal

pub loop-index-preserved : goal.loop-index-preserved
loop-index-preserved c =
    let now = c.loop-index.stmts in
    more_of_range (copy_field c.args.to.now c.args.from.now) c.args.stmts.now now c.push.new.self c.loop-index.index c.loop-index.invariant (c.in_ok-push.ensures.ok ∙ ap (λ s. now ++ s ∷ []) c.in_ok-copy_field.ensures)
