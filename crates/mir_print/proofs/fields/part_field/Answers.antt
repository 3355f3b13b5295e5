use Rattle.mir_print.specs.Seen.{crate_in}
use Rattle.mir_syntax.specs.Tree.{trees_of}
use Rattle.mir_print.proofs.Texts.{part_field_fields}
use Rattle.mir_syntax.specs.Shapes.{shapes_of}
use Rattle.mir_print.proofs.fields.part_field.Goals as goal

pub returns-in-Fields : goal.returns-in-Fields
returns-in-Fields c =
    rw (c.field_at.ensures, c.in-Fields.is) (part_field_fields (shapes_of (crate_in c.args.program.now)) (trees_of c.args.program.now.types) c.in-Fields.fields.now c.args.index)

pub returns-in-Ty : goal.returns-in-Ty
unfolding crate_in
returns-in-Ty c = rw c.in-Ty.is c.field_ty.ensures.ty
