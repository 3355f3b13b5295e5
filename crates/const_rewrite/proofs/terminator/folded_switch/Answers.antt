use Rattle.std.proofs.Common.{◌∙◌, sym, ap, List}
use Rattle.mir_syntax.specs.declared.body.Arm.{Arm}
use Rattle.mir_syntax.specs.declared.body.Term.TheVariants.{Goto}
use Rattle.mir_semantics.specs.Step.{take_arm}
use Rattle.const_rewrite.specs.Points.{number_told}
use Rattle.const_rewrite.proofs.equal.Terms.{switch_goes, switch_stays}
use Rattle.const_rewrite.proofs.terminator.folded_switch.Goals as goal

pub returns-in-Some : goal.returns-in-Some
returns-in-Some c = λ h.
    ap Goto (c.taken_arm.ensures ∙ ap (λ (arms : List Arm). take_arm c.in-Some.number arms c.args.other) c.as_slice.ensures)
    ∙ switch_goes h c.args.facts.now c.args.operand c.args.arms c.args.other c.in-Some.number (sym c.in-Some.is ∙ c.number_told.ensures ∙ ap number_told c.operand.ensures)

pub returns-in-None : goal.returns-in-None
returns-in-None c = λ h. switch_stays h c.args.facts.now c.args.operand c.args.arms c.args.other (sym c.in-None.is ∙ c.number_told.ensures ∙ ap number_told c.operand.ensures)
