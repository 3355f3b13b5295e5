use Rattle.std.proofs.Common.{◌≡◌, map}
use Rattle.cfg_simplify.specs.Simple.{numbers as all_numbers, new_number}
use Rattle.cfg_simplify.specs.Code.{flag_at}
use Rattle.cfg_simplify.proofs.regroup.new_numbers.Given as goal

abbrev pub invariant-loop-mark : goal.invariant-loop-mark
invariant-loop-mark l = (l.next ≡ new_number (flag_at l.marks) l.mark-index) × (l.numbers ≡ map (new_number (flag_at l.marks)) (all_numbers l.mark-index))
