use Rattle.mir_syntax.specs.Tree.{at_id, trees_of}
use Rattle.mir_print.proofs.Texts.{part_of}
use Rattle.mir_print.proofs.function.put_args_of.Goals as goal

pub returns : goal.returns
returns g c =
    let h = rw (c.first_ids.ensures, c.later_ids-later.ensures, c.as_slice.ensures) at c.put_args.ensures in rw (part_of (at_id (trees_of c.args.program.now.types)) c.args.body.now.args c.args.body.now.locals) h
