use Rattle.std.proofs.Common.{ap, w64, ◌%◌, ◌^◌}
use Rattle.std.proofs.lemmas.Simd.{tops_compared}
use lib.Lanes.{mask_l}
use Rattle.bit_rows.proofs.Blocks.{other, lanes_differ}
use Rattle.bit_rows.proofs.lanes.differ.Goals as goal

pub returns : goal.returns
returns c = lanes_differ c.args.a c.args.b _ c.requires.a_lanes c.requires.b_lanes (ap (λ ms. mask_l ms % 2 ^ 64) (tops_compared w64 other c.args.a c.args.b))
