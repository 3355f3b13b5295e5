use Rattle.std.proofs.Common.{◌≡◌, ◌∷◌, ◌∙◌, map, ap, sym}
use Rattle.mir_text.specs.NameFaults.{in_order}
use Rattle.mir_resolve.proofs.Making.{later_of, first_left}
use Rattle.mir_file.specs.Declarations.{label_in}
use Rattle.mir_file.proofs.HeadSteps.{size_step, order_step, order_broken, broken_all, order_ended}
use Rattle.mir_file.proofs.head.are_in_order.Goals as goal

pub labels-preserved : goal.labels-preserved
labels-preserved c =
    let left = c.labels.left.now in
    let item = c.block-item.result in
    let later = later_of left in
    let first : left ≡ item ∷ later = first_left left item c.in-len1-up.len_at_least c.block-item.is in
    record {
      ordered = order_step c.labels.number item.label (map label_in later) _ c.if-block-number.false (ap (λ l. in_order c.labels.number (map label_in l)) (sym first) ∙ c.labels.invariant.ordered);
      size = size_step c.labels.number left item later _ first c.labels.invariant.size;
    }

pub returns-then-block-number : goal.returns-then-block-number
returns-then-block-number c =
    let left = c.labels.left.now in
    let item = c.block-item.result in
    let later = later_of left in
    let first : left ≡ item ∷ later = first_left left item c.in-len1-up.len_at_least c.block-item.is in
    broken_all (map label_in c.args.blocks.now) (order_broken c.labels.number item.label (map label_in later) _ c.if-block-number.true (ap (λ l. in_order c.labels.number (map label_in l)) (sym first) ∙ c.labels.invariant.ordered))

pub returns : goal.returns
returns c = order_ended c.labels.number c.labels.left.now c.args.blocks.now c.in_default.len_below c.labels.invariant.size c.labels.invariant.ordered
