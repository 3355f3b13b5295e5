use Rattle.std.proofs.Common.{not, nat_eq, ap, ◌∙◌}
use Rattle.mir_validate.proofs.TermCodes.{fits_scalar}
use Rattle.mir_validate.proofs.terminator.is_too_wide.Goals as goal

pub returns : goal.returns
returns c = ap not (ap (λ n. nat_eq n c.args.value) c.wrap.ensures ∙ fits_scalar c.args.scalar c.args.value)
