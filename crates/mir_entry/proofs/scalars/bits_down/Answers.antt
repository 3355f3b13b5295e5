use Rattle.std.proofs.Common.{◌≡◌, ◌+◌, ◌-◌, ◌<◌, Some, ap, ◌∙◌, arith}
use Rattle.mir_num.specs.Widths.{patterns, negatives}
use Rattle.mir_entry.proofs.Exact.{down_fits, down_over}
use Rattle.mir_entry.proofs.scalars.bits_down.Goals as goal

pub returns-then-size-lowest : goal.returns-then-size-lowest
returns-then-size-lowest c =
    let same : c.greatest.result + 1 + (c.lowest-lowest.result - c.args.size) ≡ patterns c.args.ty - c.args.size = omega (arith, c.greatest.ensures, c.lowest-lowest.ensures, c.if-size-lowest.true) in
    let below : negatives c.args.ty < patterns c.args.ty = omega (arith, c.greatest.ensures) in
    ap Some same ∙ down_fits c.args.ty c.args.size c.requires (omega (arith, c.lowest-lowest.ensures, c.if-size-lowest.true)) below

pub returns-else-size-lowest : goal.returns-else-size-lowest
returns-else-size-lowest c = down_over c.args.ty c.args.size (omega (arith, c.lowest-lowest.ensures, c.if-size-lowest.false))
