use Rattle.std.proofs.Common.{◌≡◌, take}
use Rattle.jump_threading.specs.Code.{bare_redirected}
use Rattle.jump_threading.proofs.thread.redirect.Given as goal

abbrev pub invariant-loop-at : goal.invariant-loop-at
invariant-loop-at l = l.blocks ≡ bare_redirected l.fn.blocks l.first (take l.at l.edges)
