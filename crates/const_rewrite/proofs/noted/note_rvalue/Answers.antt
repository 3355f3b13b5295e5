use Rattle.std.proofs.Common.{◌∙◌, sym}
use Rattle.const_rewrite.specs.Points.{here, trees_in}
use Rattle.const_rewrite.proofs.equal.Found.{operands_noted, number_noted, pair_noted}
use Rattle.const_rewrite.proofs.noted.note_rvalue.Goals as goal

pub returns-in_ok-note_operands-in-Operands : goal.returns-in_ok-note_operands-in-Operands
returns-in_ok-note_operands-in-Operands c = operands_noted (trees_in c.args.text) (here c.args.text) c.args.facts.now c.args.rvalue.now c.note_operands.new.constants (sym c.in-Operands.is ∙ c.value.ensures) c.in_ok-note_operands-in-Operands.ensures

pub returns-in-Number : goal.returns-in-Number
returns-in-Number c = number_noted (trees_in c.args.text) (here c.args.text) c.args.facts.now c.args.rvalue.now c.args.constants.now c.in-Number.number (sym c.in-Number.is ∙ c.value.ensures)

pub returns-in-Pair : goal.returns-in-Pair
returns-in-Pair c = pair_noted (trees_in c.args.text) (here c.args.text) c.args.facts.now c.args.rvalue.now c.args.constants.now c.in-Pair.bits c.in-Pair.over (sym c.in-Pair.is ∙ c.value.ensures)
