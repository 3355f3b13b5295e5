use Rattle.std.proofs.Common.{take}
use Rattle.flow_engine.specs.Solving.{IsLeaving}
use Rattle.flow_engine.proofs.solver.leaving.Given as goal

abbrev pub invariant-loop-i : goal.invariant-loop-i
invariant-loop-i l = IsLeaving (take l.i l.edges) l.blocks l.lists.items
