use Rattle.std.proofs.Common.{◌≡◌, ◌∙◌, ap, sym, arith, false, Some}
use Rattle.std.specs.Int.{w128}
use Rattle.std.specs.Prelude.{◌≤ℤ◌, ◌<ℤ◌, neg_ℤ, pos, ◌-◌}
use Rattle.std.proofs.lemmas.Int.{ints, to_z-of_z}
use Rattle.mir_num.specs.Widths.{patterns, negatives}
use Rattle.mir_num.specs.Numbers.{bits_of, fits}
use Rattle.mir_num.proofs.values.fitted.Goals as goal
use Rattle.mir_num.proofs.values.fitted.Goals.{else-greatest-value-via-then-greatest-value+else-value-greatest, else-greatest-value-via-else-greatest-value}
use Rattle.mir_num.proofs.Patterns.{half, exactly_fits, exactly_not, fits_between, fits_not_low, fits_not_high}

pub returns-then-value-greatest : goal.returns-then-value-greatest
returns-then-value-greatest c =
    let (d, p, b) = half c.args.ty c.requires in
    let low : neg_ℤ (pos (negatives c.args.ty)) ≤ℤ c.args.value = omega (arith, ints, d, p, b, c.mask.ensures, c.if-greatest-value.true, c.ranges.value) in
    let high : c.args.value <ℤ pos (patterns c.args.ty - negatives c.args.ty) = omega (arith, ints, d, p, b, c.mask.ensures, c.if-value-greatest.true, c.ranges.value) in
    ap Some (c.pattern.ensures ∙ ap (bits_of c.args.ty) (to_z-of_z w128 c.args.value c.ranges.value)) ∙ sym (exactly_fits c.args.ty c.args.value (fits_between c.args.ty c.args.value low high))

pub returns-else-greatest-value : goal.returns-else-greatest-value
returns-else-greatest-value c =
    let (d, p, b) = half c.args.ty c.requires in
    let no : fits c.args.ty c.args.value ≡ false =
    elim c.else-greatest-value.branch [ else-greatest-value-via-then-greatest-value+else-value-greatest w ↦ fits_not_high c.args.ty c.args.value (omega (arith, ints, d, p, b, c.mask.ensures, w.if-value-greatest.false, c.ranges.value)) | else-greatest-value-via-else-greatest-value w ↦ fits_not_low c.args.ty c.args.value (omega (arith, ints, d, p, b, c.mask.ensures, w.if-greatest-value.false, c.ranges.value)) ] in
    sym (exactly_not c.args.ty c.args.value no)
