use Rattle.std.proofs.Common.{sym, ap, ap₂, ◌∙◌}
use Rattle.jump_threading.specs.Code.{arm_told, taken_at}
use Rattle.jump_threading.proofs.equal.Edges.{arm_is, none_taken_at}
use Rattle.jump_threading.proofs.edges.taken.Goals as goal

pub returns-in-Switch : goal.returns-in-Switch
returns-in-Switch c =
    let o = c.in-Switch.operand in
    let arms = c.in-Switch.arms in
    let other = c.in-Switch.other in
    c.known_arm.ensures ∙ ap₂ (λ k a. arm_told k a other) c.operand.ensures c.as_slice.ensures ∙ arm_is c.args.facts.now o arms other ∙ ap (taken_at c.args.facts.now) (sym c.in-Switch.is)

pub returns-in_default : goal.returns-in_default
returns-in_default c = none_taken_at c.args.facts.now c.args.term.now c.in_default.not-Switch
