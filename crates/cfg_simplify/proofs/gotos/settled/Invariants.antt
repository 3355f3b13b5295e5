use Rattle.std.proofs.Common.{◌≡◌, map}
use Rattle.cfg_simplify.specs.Simple.{numbers, settle}
use Rattle.cfg_simplify.specs.Code.{at, bare_goto}
use Rattle.cfg_simplify.proofs.gotos.settled.Given as goal

abbrev pub invariant-loop-block : goal.invariant-loop-block
invariant-loop-block l = l.list ≡ map (λ b. settle (map bare_goto l.blocks) b (at l.ends b)) (numbers l.block)
