use Rattle.mir_text.specs.GrammarStatements.{rvalue_put}
use Rattle.mir_text.specs.Nesting.{RvalueGood}
use Rattle.mir_tree.specs.Bodies.{rvalue_rule}
use Rattle.mir_parse.specs.Promises.{Semicolon}
use Rattle.mir_parse.specs.Rvalues.{rvalue}
use Rattle.mir_parse.proofs.RvaluesRead.{rvalue_text, rvalue-back, rvalue-ends, rvalue-sound}
use Rattle.mir_parse.proofs.Laws.{derives, refuses}
use Rattle.mir_parse.proofs.rvalue.parse_rvalue.Goals as goal

pub returns-clause-derives : goal.returns-clause-derives
returns-clause-derives c =
    derives rvalue_put rvalue_text rvalue_rule RvalueGood rvalue-back rvalue rvalue-sound (λ f. (f.0, f.1.now)) c.args.symbols.now c.read_rvalue.result c.read_rvalue.ensures.read

pub returns-clause-refuses : goal.returns-clause-refuses
returns-clause-refuses c =
    refuses rvalue_put rvalue_text RvalueGood Semicolon rvalue rvalue-ends (λ f. (f.0, f.1.now)) c.args.symbols.now c.read_rvalue.result c.read_rvalue.ensures.read
