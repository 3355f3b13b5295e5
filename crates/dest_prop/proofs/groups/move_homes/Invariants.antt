use Rattle.std.proofs.Common.{◌≡◌, ◌++◌, map, take, drop}
use Rattle.dest_prop.specs.Code.{moved_home}
use Rattle.dest_prop.proofs.groups.move_homes.Given as goal

abbrev pub invariant-loop-home : goal.invariant-loop-home
invariant-loop-home l = l.home-items ≡ map (moved_home l.gone l.keep) (take l.home-index l.fn.homes.items) ++ drop l.home-index l.fn.homes.items
