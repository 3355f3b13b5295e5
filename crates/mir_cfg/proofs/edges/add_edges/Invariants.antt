use Rattle.std.proofs.Common.{◌≡◌, ℕ, ◌<◌, ◌==◌, [], ◌++◌, map, take, length, get_or}
use Rattle.std.specs.List.{filter}
use Rattle.mir_cfg.proofs.edges.add_edges.Given as goal

abbrev pub invariant-loop-block : goal.invariant-loop-block
invariant-loop-block l =
    (length l.lists.items ≡ length l.fn.lists.items)
    × ((b : ℕ) → b < length l.fn.lists.items → get_or l.lists.items b [] ≡ get_or l.fn.lists.items b [] ++ map (λ _. l.from) (filter (λ c. c == b) (take l.block-index l.to)))
