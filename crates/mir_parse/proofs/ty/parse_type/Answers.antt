use Rattle.mir_text.specs.GrammarTypes.{type_put}
use Rattle.mir_tree.specs.Types.{type_rule, type_text}
use Rattle.mir_parse.specs.Promises.{NoColons}
use Rattle.mir_parse.specs.Types.{type_text_at}
use Rattle.mir_parse.proofs.Laws.{derives, refuses}
use Rattle.mir_parse.proofs.TypesRead.{Nests, type-complete, type-sound, type_rule-back}
use Rattle.mir_parse.proofs.ty.parse_type.Goals as goal

pub returns-clause-derives : goal.returns-clause-derives
returns-clause-derives c =
    let d = c.args.depth in
    derives type_put type_text type_rule (Nests d) type_rule-back (type_text_at d) (type-sound d) (λ f. (f.0, f.1.now)) c.args.symbols.now c.read_type.result c.read_type.ensures.read

pub returns-clause-refuses : goal.returns-clause-refuses
returns-clause-refuses c =
    let d = c.args.depth in
    refuses type_put type_text (Nests d) NoColons (type_text_at d) (λ t rest good e. type-complete t d rest good e) (λ f. (f.0, f.1.now)) c.args.symbols.now c.read_type.result c.read_type.ensures.read
