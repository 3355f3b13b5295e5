use Rattle.std.proofs.Common.{◌≡◌, map, take}
use Rattle.jump_threading.specs.Code.{bare_copy}
use Rattle.jump_threading.proofs.thread.copies.Given as goal

abbrev pub invariant-loop-edge : goal.invariant-loop-edge
invariant-loop-edge l = l.copies ≡ map (bare_copy l.blocks) (take l.edge-index l.edges)
