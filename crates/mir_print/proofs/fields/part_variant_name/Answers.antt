use Rattle.std.proofs.Common.{sym}
use Rattle.mir_print.specs.Seen.{crate_in}
use Rattle.mir_syntax.specs.Tree.{trees_of}
use Rattle.mir_print.proofs.Texts.{other_name}
use Rattle.mir_print.proofs.fields.part_variant_name.Goals as goal

pub returns-in_default : goal.returns-in_default
returns-in_default c =
    sym (other_name (crate_in c.args.program.now) (trees_of c.args.program.now.types) c.args.part c.args.variant c.in_default.not-Ty)
