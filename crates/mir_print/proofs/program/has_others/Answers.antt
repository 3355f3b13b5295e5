use Rattle.std.proofs.Common.{refl, sym, ◌∙◌}
use Rattle.mir_print.proofs.Texts.{no_defs_stand, defs_stand}
use Rattle.mir_print.proofs.program.has_others.Goals as goal

pub returns-then-is_empty : goal.returns-then-is_empty
returns-then-is_empty c =
    rw c.is_empty-then-is_empty.ensures (no_defs_stand c.args.program.now _ (sym c.is_empty.ensures ∙ c.if-is_empty.true) refl)

pub returns-else-is_empty : goal.returns-else-is_empty
returns-else-is_empty c =
    defs_stand c.args.program.now (sym c.is_empty.ensures ∙ c.if-is_empty.false)
