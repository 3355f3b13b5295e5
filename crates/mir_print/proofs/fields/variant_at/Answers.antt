use Rattle.std.proofs.Common.{ap, sym, ◌∙◌}
use Rattle.mir_print.specs.Seen.{crate_in}
use Rattle.mir_syntax.specs.Tree.{at_id, trees_of, node}
use Rattle.mir_print.proofs.Texts.{name_no_def, name_other, name_scalar, name_read}
use Rattle.mir_print.proofs.fields.variant_at.Goals as goal

pub returns-in_err-def : goal.returns-in_err-def
returns-in_err-def c =
    rw c.from_residual.ensures (name_scalar (crate_in c.args.program.now) (at_id (trees_of c.args.program.now.types) c.args.id) c.args.variant c.in_err-def.ensures.stands)

pub returns-in_default : goal.returns-in_default
returns-in_default c =
    rw c.in_ok-def.ensures.stands (name_other (crate_in c.args.program.now) (trees_of c.args.program.now.types) c.in_ok-def.field-0.now c.args.variant c.in_default.not-Named)

pub returns-in_err-get : goal.returns-in_err-get
returns-in_err-get c =
    rw (c.from_residual-in_err-get.ensures, (c.in_ok-def.ensures.stands ∙ ap (node (trees_of c.args.program.now.types)) c.in-Named.is)) (name_no_def c.args.program.now c.in-Named.def c.args.variant (sym c.in_err-get.ensures))

pub returns : goal.returns
returns c =
    rw (c.in_ok-def.ensures.stands ∙ ap (node (trees_of c.args.program.now.types)) c.in-Named.is) (name_read c.args.program.now c.in-Named.def c.args.variant c.in_ok-get.field-0.now c.get-2.result (sym c.in_ok-get.ensures) c.get-2.ensures)
