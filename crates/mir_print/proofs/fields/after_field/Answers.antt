use Rattle.mir_syntax.specs.declared.body.Proj.TheVariants as proj
use Rattle.std.proofs.Common.{sym}
use Rattle.mir_print.specs.Seen.{crate_in}
use Rattle.mir_syntax.specs.Tree.{trees_of}
use Rattle.mir_print.specs.Parts.{part_tree}
use Rattle.mir_print.proofs.Texts.{after_some, after_none}
use Rattle.mir_print.proofs.fields.after_field.Goals as goal

pub returns-in-Some : goal.returns-in-Some
returns-in-Some c =
    after_some (crate_in c.args.program.now) (part_tree (trees_of c.args.program.now.types) c.args.part) _ (proj.Field c.args.index) (sym c.in-Some.ensures)

pub returns-in-None : goal.returns-in-None
returns-in-None c =
    after_none (crate_in c.args.program.now) (part_tree (trees_of c.args.program.now.types) c.args.part) (proj.Field c.args.index) (sym c.in-None.ensures)
