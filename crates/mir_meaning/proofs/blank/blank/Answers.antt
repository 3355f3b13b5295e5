use Rattle.std.proofs.lemmas.Result.{IfOk-weaker}
use Rattle.mir_meaning.specs.Programs.{type_in}
use Rattle.mir_meaning.specs.Views.{value_of}
use Rattle.mir_meaning.proofs.Blanks.{blank_whole}
use Rattle.mir_meaning.proofs.blank.blank.Goals as goal

pub returns : goal.returns
returns c = IfOk-weaker c.blank_within.result _ _ (λ v h. blank_whole c.args.program.now (type_in c.args.program.now c.args.id) _ (value_of v) c.len.ensures h) c.blank_within.ensures
