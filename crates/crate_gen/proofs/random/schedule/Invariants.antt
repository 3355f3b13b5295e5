use Rattle.std.proofs.Common.{◌≡◌, ◌++◌, ◌-◌}
use Rattle.crate_gen.specs.Draws.{draws}
use Rattle.crate_gen.proofs.random.schedule.Given as goal

abbrev pub invariant-loop : goal.invariant-loop
invariant-loop l = l.turns ++ draws l.workers (4096 - l.counter) l.random.state ≡ draws l.workers 4096 l.start
