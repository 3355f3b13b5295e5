use Rattle.std.proofs.Common.{◌+◌, ◌/◌}
use Rattle.bit_rows.proofs.Kept.{blank_is}
use Rattle.bit_rows.proofs.rows.BitRows.new.Goals as goal

pub returns : goal.returns
returns c = blank_is c.args.rows c.args.bits ((c.args.bits + 63) / 64) c.place.result c.in_ok-words.words.items c.in_ok-words.ensures
