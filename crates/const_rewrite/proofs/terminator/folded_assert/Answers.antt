use Rattle.std.proofs.Common.{◌∙◌, sym, ap₂, List}
use Rattle.mir_syntax.specs.declared.body.Operand.{Operand}
use Rattle.mir_syntax.specs.declared.body.Term.TheVariants.{Assert}
use Rattle.const_rewrite.specs.Points.{here}
use Rattle.const_rewrite.proofs.equal.Terms.{assert_goes, assert_stays}
use Rattle.const_rewrite.proofs.terminator.folded_assert.Goals as goal

pub returns-then-holds : goal.returns-then-holds
returns-then-holds c = assert_goes (here c.args.text) c.args.facts.now c.args.condition c.args.expected c.args.message c.args.values c.args.next (sym c.holds.ensures ∙ c.if-holds.true)

pub returns : goal.returns
returns c =
    ap₂ (λ (o : Operand) (os : List Operand). Assert o c.args.expected c.args.message os c.args.next) c.folded_operand-condition.ensures c.folded_operands-values.ensures
    ∙ assert_stays (here c.args.text) c.args.facts.now c.args.condition c.args.expected c.args.message c.args.values c.args.next (sym c.holds.ensures ∙ c.if-holds.false)
