use Rattle.std.proofs.Common.{◌≡◌, take}
use Rattle.mir_syntax.proofs.flat_body.FlatBody.to_body.Given as goal

abbrev pub invariant-loop-block : goal.invariant-loop-block
invariant-loop-block l = l.blocks ≡ take l.block l.self.blocks
