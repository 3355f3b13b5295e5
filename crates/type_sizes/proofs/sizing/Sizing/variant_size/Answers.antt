use Rattle.std.proofs.Common.{length}
use Rattle.mir_syntax.specs.Ids.{field_below}
use Rattle.mir_syntax.proofs.Growth.{all-weaker, field-more}
use Rattle.type_sizes.proofs.sizing.Sizing.variant_size.Goals as goal

pub any_needs-requires : goal.any_needs-requires
any_needs-requires c =
    let n = length c.args.known.now in
    let m = length c.args.self.now.program.now.types in
    record { below = all-weaker (field_below n) (field_below m) (field-more n m c.requires.within) c.args.fields.now c.requires.below }
