use Rattle.std.proofs.Common.{take}
use Rattle.const_flow.specs.Nodes.{at_starts}
use Rattle.const_flow.proofs.Gathering.{IsGathered}
use Rattle.const_flow.proofs.rows.gathered.Given as goal

abbrev pub invariant-loop-block : goal.invariant-loop-block
invariant-loop-block l = IsGathered l.fn.paths l.cells l.rows (take l.block (at_starts l.facts))
