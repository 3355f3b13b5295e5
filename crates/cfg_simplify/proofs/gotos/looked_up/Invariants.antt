use Rattle.std.proofs.Common.{◌≡◌, map, take}
use Rattle.cfg_simplify.specs.Code.{at}
use Rattle.cfg_simplify.proofs.gotos.looked_up.Given as goal

abbrev pub invariant-loop-place : goal.invariant-loop-place
invariant-loop-place l = l.found ≡ map (at l.list) (take l.place-index l.places)
