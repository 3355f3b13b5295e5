-- What the parts of the code are said by: blocks as they stand in a body, with ids.
use Rattle.std.specs.Prelude.{ℕ, ◌+◌, min, Bool, false, ◌==◌, ◌&&◌, not, cond, List, [], ◌∷◌, map, length, get_or, set, Option, None, Some, ◌<◌, ◌≡◌}
use Rattle.std.specs.List.{filter, flat_map, list_any}
use Rattle.mir_syntax.specs.declared.body.Stmt.{Stmt}
use Rattle.mir_syntax.specs.declared.body.Term.TheVariants.{Unreachable}
use Rattle.mir_syntax.specs.declared.body.Block.{Block}
use Rattle.mir_cfg.specs.Paths.{block_term}
use Rattle.cfg_simplify.specs.Edges.{goto_block, retarget}
use Rattle.cfg_simplify.specs.Simple.{numbers, onward, walk, is_nil, landing, joined, stays, line, new_number}

-- where a block leads that has no statements and ends in a goto
abbrev pub bare_goto : Block → Option ℕ
bare_goto b = cond (is_nil b.stmts) (goto_block b.term) None

-- the number at a place of a list, 0 past its end
abbrev pub at : List ℕ → ℕ → ℕ
at xs b = get_or xs b 0

abbrev pub link_at : List (Option ℕ) → ℕ → Option ℕ
link_at links b = get_or links b None

abbrev pub flag_at : List Bool → ℕ → Bool
flag_at flags b = get_or flags b false

abbrev pub hollow : Block
hollow = record { stmts = []; term = Unreachable }

abbrev pub stmts_in : List Block → ℕ → List Stmt
stmts_in blocks b = (get_or blocks b hollow).stmts

abbrev pub bare_hopped_block : (ℕ → ℕ) → Block → Block
bare_hopped_block f b = record { stmts = b.stmts; term = retarget f b.term }

abbrev pub bare_hopped : List Block → List Block
bare_hopped blocks = map (bare_hopped_block (landing (map bare_goto blocks))) blocks

-- ---- counts of edges: none, one, or 2 for more

abbrev pub one_more : List ℕ → ℕ → List ℕ
one_more counts b = set counts b (min 2 (at counts b + 1))

abbrev pub counted : List ℕ → List ℕ → List ℕ
counted counts [] = counts
counted counts (b ∷ bs) = counted (one_more counts b) bs

-- the block that a goto may be joined with, by the counts
abbrev pub joins_by : List ℕ → ℕ → ℕ → Bool
joins_by counts a b = not (b == 0) && (not (b == a) && (at counts b == 1))

-- ---- the blocks that stay

abbrev pub bare_whole : List Block → ℕ → Block
bare_whole blocks a =
    let terms = map block_term blocks in
    record {
      stmts = flat_map (stmts_in blocks) (line (joined terms) (length blocks) a);
      term = retarget (new_number (stays terms)) (get_or terms (walk (onward (joined terms)) (length blocks) a) Unreachable);
    }

abbrev pub bare_regrouped : List Block → List Block
bare_regrouped blocks = map (bare_whole blocks) (filter (stays (map block_term blocks)) (numbers (length blocks)))

-- the marks after the block that a link leads to has lost its own
abbrev pub unmarked : List Bool → Option ℕ → List Bool
unmarked marks None = marks
unmarked marks (Some b) = set marks b false

-- no step along the links comes to a block that is on the line already
abbrev pub IsFresh : (ℕ → Option ℕ) → ℕ → ℕ → Type 0
IsFresh link n first = (i b : ℕ) → i < n → link (walk (onward link) i first) ≡ Some b → list_any (λ a. b == a) (line link i first) ≡ false
