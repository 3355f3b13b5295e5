use Rattle.mir_text.specs.GrammarTypes.{types_put}
use Rattle.mir_tree.specs.Types.{types_rule}
use Rattle.mir_parse.specs.Promises.{Any}
use Rattle.mir_parse.specs.Types.{types_at}
use Rattle.mir_parse.proofs.Laws.{derives, refuses}
use Rattle.mir_parse.proofs.TypesRead.{TypesNest, types_text, types-complete, types-sound, types_rule-back}
use Rattle.mir_parse.proofs.ty.parse_types.Goals as goal

pub returns-clause-derives : goal.returns-clause-derives
returns-clause-derives c =
    let d = c.args.depth in
    derives types_put types_text types_rule (TypesNest d) types_rule-back (types_at d) (types-sound d) (λ f. (f.0, f.1.now)) c.args.symbols.now c.read_types.result c.read_types.ensures.read

pub returns-clause-refuses : goal.returns-clause-refuses
returns-clause-refuses c =
    let d = c.args.depth in
    refuses types_put types_text (TypesNest d) Any (types_at d) (λ ts rest good follows. types-complete ts d rest good) (λ f. (f.0, f.1.now)) c.args.symbols.now c.read_types.result c.read_types.ensures.read
