use Rattle.std.proofs.lemmas.Result.{IfOk-weaker}
use Rattle.mir_syntax.specs.Tree.{trees_of}
use Rattle.mir_syntax.specs.Shapes.{fields_tree}
use Rattle.mir_meaning.specs.Views.{fields_of}
use Rattle.mir_meaning.proofs.Blanks.{blank_whole}
use Rattle.mir_meaning.proofs.blank.variant_blank.Goals as goal

pub returns : goal.returns
returns c = IfOk-weaker c.fields_blank.result _ _ (λ vs h. blank_whole c.args.program.now (fields_tree (trees_of c.args.program.now.types) c.args.fields.now) _ (fields_of vs) c.len.ensures h) c.fields_blank.ensures
