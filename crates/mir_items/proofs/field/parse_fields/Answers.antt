-- The two laws of the parser.
use Rattle.mir_text.specs.Grammar.{AllItems}
use Rattle.mir_text.specs.Nesting.{FieldGood}
use Rattle.mir_tree.specs.Lists.{items_rule}
use Rattle.mir_tree.specs.Rules.{field_rule}
use Rattle.mir_items.specs.Fields.{fields}
use Rattle.mir_items.proofs.FieldsRead.{FieldsPut, field_text, fields_list-back, fields-complete, fields-sound}
use Rattle.mir_parse.specs.Promises.{Any}
use Rattle.mir_parse.proofs.Laws.{derives, refuses, items_text}
use Rattle.mir_items.proofs.field.parse_fields.Goals as goal

pub returns-clause-derives : goal.returns-clause-derives
returns-clause-derives c =
    derives FieldsPut (items_text field_text) (items_rule field_rule) (AllItems FieldGood) fields_list-back fields fields-sound (λ f. (f.0, f.1.now)) c.args.symbols.now c.read_fields.result c.read_fields.ensures.read

pub returns-clause-refuses : goal.returns-clause-refuses
returns-clause-refuses c =
    refuses FieldsPut (items_text field_text) (AllItems FieldGood) Any fields (λ r rest good follows. fields-complete r rest good) (λ f. (f.0, f.1.now)) c.args.symbols.now c.read_fields.result c.read_fields.ensures.read
