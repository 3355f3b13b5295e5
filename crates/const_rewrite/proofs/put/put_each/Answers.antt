use Rattle.std.proofs.Common.{◌≡◌, ◌∙◌, ap, [], ◌∷◌, ◌++◌, get_or, arith}
use Rattle.std.proofs.lemmas.Grind.{common_steps}
use Rattle.const_rewrite.specs.Folded.{or_constant}
use Rattle.const_rewrite.proofs.equal.Found.{putting_none, putting_more, all_put}
use Rattle.const_rewrite.proofs.put.put_each.Goals as goal

pub loop-at-init : goal.loop-at-init
loop-at-init c =
    let same : c.deref_mut-operand-items.result.now ≡ c.args.operands = grind (arith, common_steps) in
    ([], putting_none c.args.constants.now c.args.operands c.deref_mut-operand-items.result.now same)

pub loop-at-preserved : goal.loop-at-preserved
loop-at-preserved c =
    let (front, p) = c.loop-at.invariant in
    let items = c.loop-at.operand-items in
    let at = c.loop-at.at in
    let put = c.put_in_place.ensures ∙ ap (λ k. or_constant k (get_or items at c.operand-item.result)) c.nth.ensures in
    (front ++ c.put_in_place.new.operand ∷ [], putting_more c.args.constants.now c.args.operands items front at c.operand-item.result c.put_in_place.new.operand (omega arith) p put)

pub returns : goal.returns
returns c =
    let same : c.from_vec.result ≡ c.loop-at.operand-items = grind (arith, common_steps) in
    let (front, p) = c.loop-at.invariant in
    same ∙ all_put c.args.constants.now c.args.operands c.loop-at.operand-items front c.loop-at.at (omega arith) p
