use Rattle.std.proofs.Common.{take, length, map}
use Rattle.mir_syntax.specs.Drops.{fn_number}
use Rattle.candidates.specs.Walk.{Brings, never_in}
use Rattle.candidates.proofs.walk.Walk.bring.Given as goal

abbrev pub invariant-loop-c : goal.invariant-loop-c
invariant-loop-c l = Brings (never_in l.functions) (length l.functions) l.initial.self l.self (map fn_number (take l.c-index l.calls))
