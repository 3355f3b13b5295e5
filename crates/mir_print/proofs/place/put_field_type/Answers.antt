use Rattle.mir_syntax.specs.declared.body.Proj.TheVariants as proj
use Rattle.std.proofs.Common.{sym}
use Rattle.mir_print.specs.Seen.{crate_in}
use Rattle.mir_syntax.specs.Tree.{at_id, trees_of}
use Rattle.mir_text.specs.TypeText.{type_text}
use Rattle.mir_print.specs.Parts.{part_tree}
use Rattle.mir_print.proofs.Texts.{after_some, after_none}
use Rattle.mir_print.proofs.place.put_field_type.Goals as goal

pub returns-in-Some : goal.returns-in-Some
returns-in-Some g c =
    rw (← after_some (crate_in c.args.program.now) (part_tree (trees_of c.args.program.now.types) c.args.part) (at_id (trees_of c.args.program.now.types) c.in-Some.id) (proj.Field c.args.index) (sym c.in-Some.ensures)) c.put_type.ensures

pub returns-in-None : goal.returns-in-None
unfolding type_text
returns-in-None g c =
    rw (← after_none (crate_in c.args.program.now) (part_tree (trees_of c.args.program.now.types) c.args.part) (proj.Field c.args.index) (sym c.in-None.ensures)) c.put.ensures
