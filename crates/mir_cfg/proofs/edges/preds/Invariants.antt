use Rattle.std.proofs.Common.{◌≡◌, ℕ, ◌<◌, [], length, get_or}
use Rattle.std.specs.List.{flat_map, range_with_len}
use Rattle.mir_cfg.specs.Paths.{edges_between, block_term}
use Rattle.std.proofs.Common.{map}
use Rattle.mir_cfg.proofs.edges.preds.Given as goal

abbrev pub invariant-loop-block : goal.invariant-loop-block
invariant-loop-block l =
    (length l.lists.items ≡ length l.blocks)
    × ((b : ℕ) → b < length l.blocks → get_or l.lists.items b [] ≡ flat_map (edges_between (map block_term l.blocks) b) (range_with_len 0 l.block))
