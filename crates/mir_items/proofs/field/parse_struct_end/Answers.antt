-- The two laws of the parser.
use Rattle.mir_text.specs.GrammarItems.{struct_put}
use Rattle.mir_text.specs.Nesting.{FieldsGood}
use Rattle.mir_tree.specs.Rules.{fields_rule}
use Rattle.mir_items.specs.Fields.{struct_end}
use Rattle.mir_items.proofs.FieldsRead.{fields_text, fields_rule-back, struct-complete, struct-sound}
use Rattle.mir_parse.specs.Promises.{Any}
use Rattle.mir_parse.proofs.Laws.{derives, refuses}
use Rattle.mir_items.proofs.field.parse_struct_end.Goals as goal

pub returns-clause-derives : goal.returns-clause-derives
returns-clause-derives c =
    derives struct_put fields_text fields_rule FieldsGood fields_rule-back struct_end struct-sound (λ f. (f.0, f.1.now)) c.args.symbols.now c.read_struct_end.result c.read_struct_end.ensures.read

pub returns-clause-refuses : goal.returns-clause-refuses
returns-clause-refuses c =
    refuses struct_put fields_text FieldsGood Any struct_end (λ r rest good follows. struct-complete r rest good) (λ f. (f.0, f.1.now)) c.args.symbols.now c.read_struct_end.result c.read_struct_end.ensures.read
