use Rattle.std.proofs.Common.{◌∙◌, ap}
use Rattle.const_rewrite.specs.Folded.{or_constant}
use Rattle.const_rewrite.specs.Points.{here}
use Rattle.const_rewrite.proofs.equal.Found.{operand_is}
use Rattle.const_rewrite.proofs.terminator.folded_operand.Goals as goal

pub returns : goal.returns
returns c = c.or_constant.ensures ∙ ap (λ k. or_constant k c.args.operand) c.constant.ensures ∙ operand_is (here c.args.text) c.args.facts.now c.args.operand
