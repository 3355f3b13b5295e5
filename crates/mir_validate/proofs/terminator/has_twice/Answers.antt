use Rattle.std.proofs.Common.{not, sym, map, ap, ◌∙◌, ◌≡◌}
use Rattle.std.proofs.lemmas.List.Sorted.{IsNonDecreasingBy-from_sort}
use Rattle.mir_rules.specs.BodyRules.{arm_value, has_twice}
use Rattle.mir_validate.specs.Terms.{ascends}
use Rattle.mir_validate.proofs.TermCodes.{ascends_once}
use Rattle.mir_validate.proofs.Twice.{sorted_twice, twice_in_any_order}
use Rattle.mir_validate.proofs.terminator.has_twice.Goals as goal

pub returns-then-is_ascending : goal.returns-then-is_ascending
returns-then-is_ascending c =
    let same : c.as_slice.result.now ≡ map arm_value c.args.arms.now = c.as_slice.ensures.value ∙ c.in_ok-values.ensures in
    sym (ascends_once (map arm_value c.args.arms.now) (ap ascends (sym same) ∙ (sym c.is_ascending.ensures ∙ c.if-is_ascending.true)))

pub returns : goal.returns
returns c =
    let sorted = c.sort.new.self.items in
    ap not (c.is_ascending-2.ensures ∙ ap ascends c.as_slice-2.ensures.value)
    ∙ (sorted_twice sorted (IsNonDecreasingBy-from_sort (λ x. x) sorted c.in_ok-sort.ensures.sorted)
    ∙ (twice_in_any_order c.in_ok-values.values.items sorted c.sort.ensures.permutation ∙ ap has_twice c.in_ok-values.ensures))
