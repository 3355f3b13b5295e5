use Rattle.std.proofs.Common.{◌≡◌, drop, length}
use Rattle.mir_entry.proofs.Finding.{None_before}
use Rattle.mir_entry.proofs.entries.function_at.Given as goal

abbrev pub invariant-functions : goal.invariant-functions
invariant-functions l = record {
  behind : l.left ≡ drop l.place l.program.functions;
  none : None_before l.program.functions l.path l.place;
}

abbrev pub decreases-functions : goal.decreases-functions
decreases-functions l = length l.left
