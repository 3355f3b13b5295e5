use Rattle.std.proofs.Common.{◌≡◌, ◌∷◌, ◌∙◌, nat_eq, ◌||◌, map, ap, sym}
use Rattle.std.specs.HashSet.{contains}
use Rattle.mir_text.specs.NameFaults.{is_among}
use Rattle.mir_resolve.proofs.Making.{later_of, first_left}
use Rattle.mir_bodies.specs.Labels.{label_of}
use Rattle.mir_bodies.proofs.LabelSteps.{label_added, labels_ended}
use Rattle.mir_bodies.proofs.scope.Labels.new.Goals as goal

pub labels-preserved : goal.labels-preserved
labels-preserved c =
    let left = c.labels.left.now in
    let item = c.block-item.result in
    let first : left ≡ item ∷ later_of left = first_left left item c.in-len1-up.len_at_least c.block-item.is in
    let set = c.labels.numbers in
    λ b. label_added (contains nat_eq set b) _ item (later_of left) b _
    (ap (λ l. contains nat_eq set b || is_among (map label_of l) b) (sym first) ∙ c.labels.invariant b)
    (c.in_ok-insert.ensures.updates.0 b)

pub returns : goal.returns
returns c = record { among = λ b. labels_ended _ c.labels.left.now b _ c.in_default.len_below (c.labels.invariant b) }
