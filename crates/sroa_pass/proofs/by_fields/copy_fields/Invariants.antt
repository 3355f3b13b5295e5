use Rattle.std.proofs.Common.{◌≡◌, ◌++◌, map}
use Rattle.std.specs.List.{range_with_len}
use Rattle.sroa_pass.specs.Code.{copy_field}
use Rattle.sroa_pass.proofs.by_fields.copy_fields.Given as goal

abbrev pub invariant-loop-index : goal.invariant-loop-index
invariant-loop-index l = l.stmts ≡ l.fn.stmts ++ map (copy_field l.to l.from) (range_with_len 0 l.index)
