use Rattle.std.proofs.Common.{◌∙◌, sym, ap, List}
use Rattle.mir_syntax.specs.declared.body.Operand.{Operand}
use Rattle.mir_syntax.specs.declared.body.Term.TheVariants.{Call}
use Rattle.const_rewrite.specs.Folded.{folded_term}
use Rattle.const_rewrite.specs.Points.{here, where_reached}
use Rattle.const_rewrite.proofs.equal.Terms.{call_is, goto_is, return_is, unreachable_is, drop_is}
use Rattle.const_rewrite.proofs.terminator.folded_term.Goals as goal

pub returns-in-Switch : goal.returns-in-Switch
returns-in-Switch c = let h = here c.args.text in c.folded_switch.ensures h ∙ ap (where_reached (folded_term h) c.args.facts.now) (sym c.in-Switch.is)

pub returns-in-Assert : goal.returns-in-Assert
returns-in-Assert c = c.folded_assert.ensures ∙ ap (where_reached (folded_term (here c.args.text)) c.args.facts.now) (sym c.in-Assert.is)

pub returns-in-Call : goal.returns-in-Call
returns-in-Call c =
    let h = here c.args.text in
    ap (λ (os : List Operand). Call c.in-Call.place c.in-Call.callee os c.in-Call.next) c.folded_operands.ensures
    ∙ call_is h c.args.facts.now c.in-Call.place c.in-Call.callee c.in-Call.args c.in-Call.next ∙ ap (where_reached (folded_term h) c.args.facts.now) (sym c.in-Call.is)

pub returns-in-Goto : goal.returns-in-Goto
returns-in-Goto c = let h = here c.args.text in goto_is h c.args.facts.now c.in-Goto.next ∙ ap (where_reached (folded_term h) c.args.facts.now) (sym c.in-Goto.is)

pub returns-in-Return : goal.returns-in-Return
returns-in-Return c = let h = here c.args.text in return_is h c.args.facts.now ∙ ap (where_reached (folded_term h) c.args.facts.now) (sym c.in-Return.is)

pub returns-in-Unreachable : goal.returns-in-Unreachable
returns-in-Unreachable c = let h = here c.args.text in unreachable_is h c.args.facts.now ∙ ap (where_reached (folded_term h) c.args.facts.now) (sym c.in-Unreachable.is)

pub returns-in-Drop : goal.returns-in-Drop
returns-in-Drop c = let h = here c.args.text in drop_is h c.args.facts.now c.in-Drop.place c.in-Drop.next ∙ ap (where_reached (folded_term h) c.args.facts.now) (sym c.in-Drop.is)
