use Rattle.mir_syntax.specs.declared.body.Proj.TheVariants as proj
use Rattle.std.proofs.Common.{sym}
use Rattle.mir_print.specs.Seen.{crate_in}
use Rattle.mir_syntax.specs.Tree.{at_id, trees_of}
use Rattle.mir_print.proofs.Texts.{after_some, after_none, other_deref}
use Rattle.mir_print.proofs.fields.after_deref.Goals as goal

pub returns-in_default : goal.returns-in_default
returns-in_default c =
    other_deref (crate_in c.args.program.now) (trees_of c.args.program.now.types) c.args.part c.in_default.not-Ty

pub returns-in-Some : goal.returns-in-Some
unfolding crate_in
returns-in-Some c =
    rw c.in-Ty.is (after_some (crate_in c.args.program.now) (at_id (trees_of c.args.program.now.types) c.in-Ty.id) _ proj.Deref (sym c.in-Some.ensures.ty))

pub returns-in-None : goal.returns-in-None
unfolding crate_in
returns-in-None c =
    rw c.in-Ty.is (after_none (crate_in c.args.program.now) (at_id (trees_of c.args.program.now.types) c.in-Ty.id) proj.Deref (sym c.in-None.ensures.ty))
