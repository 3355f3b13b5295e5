use Rattle.mir_text.specs.GrammarPlaces.{value_put}
use Rattle.mir_text.specs.Nesting.{ValueFits}
use Rattle.mir_tree.specs.Bodies.{value_rule}
use Rattle.mir_parse.specs.Promises.{Any}
use Rattle.mir_parse.specs.Operands.{value}
use Rattle.mir_parse.proofs.OperandsRead.{value_text, value-back, value-complete, value-sound}
use Rattle.mir_parse.proofs.Laws.{derives, refuses}
use Rattle.mir_parse.proofs.operand.parse_value.Goals as goal

pub returns-clause-derives : goal.returns-clause-derives
returns-clause-derives c =
    derives value_put value_text value_rule ValueFits value-back value value-sound (λ f. (f.0, f.1.now)) c.args.symbols.now c.read_value.result c.read_value.ensures.read

pub returns-clause-refuses : goal.returns-clause-refuses
returns-clause-refuses c =
    refuses value_put value_text ValueFits Any value (λ x rest good follows. value-complete x rest good) (λ f. (f.0, f.1.now)) c.args.symbols.now c.read_value.result c.read_value.ensures.read
