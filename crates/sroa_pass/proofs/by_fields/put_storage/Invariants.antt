use Rattle.std.proofs.Common.{◌≡◌, ◌+◌, ◌++◌, map}
use Rattle.std.specs.List.{range_with_len}
use Rattle.sroa_pass.specs.Code.{storage}
use Rattle.sroa_pass.proofs.by_fields.put_storage.Given as goal

abbrev pub invariant-loop-index : goal.invariant-loop-index
invariant-loop-index l = l.stmts ≡ l.fn.stmts ++ map (λ i. storage l.live (l.parts.first + i)) (range_with_len 0 l.index)
