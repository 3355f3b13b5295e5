use Rattle.std.proofs.Common.{◌≡◌, true, map, take}
use Rattle.std.specs.List.{list_all}
use Rattle.mir_cfg.specs.Paths.{block_term}
use Rattle.call_graph.specs.Qualif.{is_plain}
use Rattle.call_graph.proofs.cycles.all_plain.Given as goal

abbrev pub invariant-loop-block : goal.invariant-loop-block
invariant-loop-block l = list_all is_plain (map block_term (take l.block-index l.blocks)) ≡ true
