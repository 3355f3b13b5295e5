use Rattle.std.proofs.Common.{nat_lt, ◌&&◌}
use Rattle.dest_prop.specs.Code.{Grows, argument_hurts}
use Rattle.dest_prop.proofs.conflicts.note_arguments.Given as goal

abbrev pub invariant-loop-local : goal.invariant-loop-local
invariant-loop-local l = Grows l.locals (λ x y. nat_lt x l.local && argument_hurts l.starts l.args x y) l.fn.hurts l.hurts
