use Rattle.std.proofs.Common.{◌≡◌, ℕ, ◌<◌, ◌==◌, length, get_or, false}
use Rattle.std.specs.List.{list_any, flat_map}
use Rattle.cfg_simplify.specs.Simple.{onward, walk, line}
use Rattle.mir_cfg.specs.Paths.{block_term}
use Rattle.cfg_simplify.specs.Code.{link_at, hollow, stmts_in}
use Rattle.cfg_simplify.proofs.regroup.take_line.Given as goal

abbrev pub invariant-loop : goal.invariant-loop
invariant-loop l = record {
  last : l.last ≡ walk (onward (link_at l.joins)) l.counter l.first;
  within : l.last < length l.fn.blocks;
  stmts : l.line.stmts ≡ flat_map (stmts_in l.fn.blocks) (line (link_at l.joins) l.counter l.first);
  term : l.line.term ≡ block_term (get_or l.fn.blocks l.last hollow);
  others : (b : ℕ) → list_any (λ a. b == a) (line (link_at l.joins) l.counter l.first) ≡ false → get_or l.blocks b hollow ≡ get_or l.fn.blocks b hollow;
}
