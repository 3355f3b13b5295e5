use Rattle.std.proofs.Common.{◌≡◌, false, take}
use Rattle.std.specs.List.{list_any}
use Rattle.call_graph.specs.Search.{is_with}
use Rattle.call_graph.proofs.cycles.turns_at.Given as goal

abbrev pub invariant-loop-source : goal.invariant-loop-source
invariant-loop-source l = list_any (is_with l.components l.block) (take l.source-index l.sources) ≡ false
