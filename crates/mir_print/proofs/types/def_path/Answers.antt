use Rattle.std.proofs.Common.{sym, ap, ◌∙◌}
use Rattle.mir_print.proofs.Texts.{def_some}
use Rattle.mir_print.proofs.types.def_path.Goals as goal

pub returns-in-Some : goal.returns-in-Some
returns-in-Some c = c.as_slice.ensures ∙ sym (ap (λ d. d.path) (def_some c.args.program.now c.args.def c.in-Some.found.now (sym c.in-Some.ensures)))
