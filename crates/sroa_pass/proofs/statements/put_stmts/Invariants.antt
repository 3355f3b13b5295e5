use Rattle.std.proofs.Common.{◌≡◌, ◌++◌}
use Rattle.std.specs.List.{flat_map}
use Rattle.std.specs.Vec.Iter.{into_iter_items}
use Rattle.sroa_pass.specs.Code.{put_stmt}
use Rattle.sroa_pass.proofs.statements.put_stmts.Given as goal

abbrev pub invariant-loop-stmt : goal.invariant-loop-stmt
invariant-loop-stmt l = l.left ++ flat_map (put_stmt l.table) (into_iter_items l.stmt-iterator) ≡ flat_map (put_stmt l.table) l.fn.stmts
