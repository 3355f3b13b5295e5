use Rattle.std.proofs.Common.{ap₂}
use Rattle.mir_num.specs.Numbers.{over}
use Rattle.mir_num.proofs.Wrapped.{none_where_not_fits}
use Rattle.mir_num.proofs.operators.over_scalar.Goals as goal

pub returns : goal.returns
unfolding over
returns c = ap₂ (λ x y. (x, y)) c.wrapping.ensures (none_where_not_fits _ _ c.checked.result c.is_none.result c.checked.ensures c.is_none.ensures)
