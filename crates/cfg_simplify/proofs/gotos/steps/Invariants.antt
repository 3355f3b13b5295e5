use Rattle.std.proofs.Common.{◌≡◌, map}
use Rattle.cfg_simplify.specs.Simple.{numbers, onward, goto_link}
use Rattle.cfg_simplify.specs.Code.{bare_goto}
use Rattle.cfg_simplify.proofs.gotos.steps.Given as goal

abbrev pub invariant-loop-at : goal.invariant-loop-at
invariant-loop-at l = l.steps ≡ map (onward (goto_link (map bare_goto l.blocks))) (numbers l.at)
