use Rattle.std.proofs.Common.{◌≡◌, ℕ, ◌&&◌, not, take}
use Rattle.std.specs.List.{list_any}
use Rattle.cfg_simplify.specs.Simple.{is_at}
use Rattle.cfg_simplify.specs.Code.{flag_at}
use Rattle.cfg_simplify.proofs.regroup.unmark_joined.Given as goal

abbrev pub invariant-loop-join : goal.invariant-loop-join
invariant-loop-join l = (b : ℕ) → flag_at l.marks b ≡ (flag_at l.fn.marks b && not (list_any (is_at b) (take l.join-index l.joins)))
