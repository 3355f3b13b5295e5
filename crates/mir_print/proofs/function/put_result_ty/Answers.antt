use Rattle.std.proofs.Common.{sym}
use Rattle.mir_syntax.specs.Tree.{trees_of}
use Rattle.mir_text.specs.TypeText.{type_text}
use Rattle.mir_print.proofs.Texts.{local_some, local_none}
use Rattle.mir_print.proofs.function.put_result_ty.Goals as goal

pub returns-in-Some : goal.returns-in-Some
returns-in-Some g c =
    rw (← local_some (trees_of c.args.program.now.types) c.args.body.now.locals 0 c.in-Some.ty.now (sym c.in-Some.ensures)) c.put_type.ensures

pub returns-in-None : goal.returns-in-None
unfolding type_text
returns-in-None g c =
    rw (← local_none (trees_of c.args.program.now.types) c.args.body.now.locals 0 (sym c.in-None.ensures)) c.put.ensures
