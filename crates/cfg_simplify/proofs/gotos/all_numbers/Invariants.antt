use Rattle.std.proofs.Common.{◌≡◌}
use Rattle.cfg_simplify.specs.Simple.{numbers}
use Rattle.cfg_simplify.proofs.gotos.all_numbers.Given as goal

abbrev pub invariant-loop-number : goal.invariant-loop-number
invariant-loop-number l = l.list ≡ numbers l.number
