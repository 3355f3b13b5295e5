use Rattle.std.proofs.Common.{◌≡◌, ◌++◌, take}
use Rattle.std.specs.List.{flat_map}
use Rattle.bit_rows.specs.Rows.{row_at}
use Rattle.dest_prop.specs.Code.{fitting}
use Rattle.dest_prop.proofs.candidates.add_candidates.Given as goal

abbrev pub invariant-loop-stmt : goal.invariant-loop-stmt
invariant-loop-stmt l = l.found ≡ l.fn.found ++ flat_map (fitting l.locals (row_at l.lent 0)) (take l.stmt-index l.stmts)
