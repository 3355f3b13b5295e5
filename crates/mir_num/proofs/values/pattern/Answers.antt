use Rattle.std.proofs.Common.{◌∙◌, ap}
use Rattle.std.specs.Int.{w128, cast_unsigned}
use Rattle.std.proofs.lemmas.Int.{to_z-of_z}
use Rattle.mir_num.specs.Numbers as num
use Rattle.mir_num.proofs.values.pattern.Goals as goal
use Rattle.mir_num.proofs.Patterns.{bits_of_cast}

pub returns : goal.returns
returns c =
    c.wrap.ensures ∙ ap (num.wrap c.args.ty) (c.cast_unsigned.ensures ∙ ap (cast_unsigned w128) (to_z-of_z w128 c.args.value c.ranges.value))
    ∙ bits_of_cast c.args.ty c.args.value c.ranges.value
