use Rattle.std.proofs.Common.{sym}
use Rattle.mir_syntax.specs.Tree.{trees_of}
use Rattle.mir_rules.specs.Same.{same_tree}
use Rattle.mir_validate.proofs.Seeing.{not_named}
use Rattle.mir_validate.proofs.inside.Inside.is_named.Goals as goal

pub returns-in-Named : goal.returns-in-Named
unfolding same_tree
returns-in-Named c = rw (c.ty.ensures.stands, c.in-Named.is)

pub returns-in_default : goal.returns-in_default
returns-in_default c =
    rw c.ty.ensures.stands (sym (not_named (trees_of c.args.self.now.program.now.types) c.args.def c.ty.result.now c.in_default.not-Named))
