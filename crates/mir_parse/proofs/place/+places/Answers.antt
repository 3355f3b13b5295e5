use Rattle.std.proofs.Common.{arith}
use Rattle.mir_parse.specs.Places.{place_at-outer, base_at-outer}
use Rattle.mir_parse.proofs.place.+places.Goals as goal

pub read_place-returns-clause-read : goal.read_place-returns-clause-read
read_place-returns-clause-read t c = rw (place_at-outer c.args.depth c.args.symbols.now (omega arith)) c.read_outer_place.ensures.read

pub read_base-returns-clause-read : goal.read_base-returns-clause-read
read_base-returns-clause-read t c = rw (base_at-outer c.args.depth c.args.symbols.now (omega arith)) c.read_outer_base.ensures.read
