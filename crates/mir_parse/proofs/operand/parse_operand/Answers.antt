use Rattle.mir_text.specs.GrammarPlaces.{operand_put}
use Rattle.mir_text.specs.Nesting.{OperandGood}
use Rattle.mir_tree.specs.Bodies.{operand_rule}
use Rattle.mir_parse.specs.Promises.{Any}
use Rattle.mir_parse.specs.Operands.{operand}
use Rattle.mir_parse.proofs.OperandsRead.{operand_text, operand-back, operand-complete, operand-sound}
use Rattle.mir_parse.proofs.Laws.{derives, refuses}
use Rattle.mir_parse.proofs.operand.parse_operand.Goals as goal

pub returns-clause-derives : goal.returns-clause-derives
returns-clause-derives c =
    derives operand_put operand_text operand_rule OperandGood operand-back operand operand-sound (λ f. (f.0, f.1.now)) c.args.symbols.now c.read_operand.result c.read_operand.ensures.read

pub returns-clause-refuses : goal.returns-clause-refuses
returns-clause-refuses c =
    refuses operand_put operand_text OperandGood Any operand (λ x rest good follows. operand-complete x rest good) (λ f. (f.0, f.1.now)) c.args.symbols.now c.read_operand.result c.read_operand.ensures.read
