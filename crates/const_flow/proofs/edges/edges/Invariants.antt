use Rattle.std.proofs.Common.{map}
use Rattle.mir_cfg.specs.Paths.{block_term}
use Rattle.const_flow.specs.Nodes.{HasEdges}
use Rattle.const_flow.proofs.edges.edges.Given as goal

abbrev pub invariant-loop-at : goal.invariant-loop-at
invariant-loop-at l = HasEdges (map block_term l.blocks) l.at l.edges
