-- The cleaning of a body's control flow, in four steps: empty gotos are skipped, blocks that no path leads to go, a block is joined to the
-- one block that goes to it, and the rest is renumbered.
use Rattle.std.specs.Prelude.{ℕ, zero, suc, Bool, true, false, ◌==◌, ◌&&◌, not, cond, List, [], ◌∷◌, ◌++◌, map, length, get_or, Option, Some, None, is_some}
use Rattle.std.specs.List.{filter, list_any, count_by, flat_map, range_with_len}
use Rattle.std.specs.Option.{option_to_list, unwrap_or}
use Rattle.mir_syntax.specs.declared.body.Term.{Term}
use Rattle.mir_syntax.specs.declared.body.Term.TheVariants.{Unreachable}
use Rattle.mir_syntax.specs.Crate.{TypedStmt, TypedBlock, TypedBody}
use Rattle.mir_cfg.specs.Paths.{exits, is_reached}
use Rattle.cfg_simplify.specs.Edges.{retarget, goto_block}

-- the numbers below a bound, in order
abbrev pub numbers : ℕ → List ℕ
numbers n = range_with_len 0 n

-- one step along links from block to block; a block without a link stays
abbrev pub onward : (ℕ → Option ℕ) → ℕ → ℕ
onward link b = unwrap_or (link b) b

-- so many steps
abbrev pub walk : (ℕ → ℕ) → ℕ → ℕ → ℕ
walk step zero b = b
walk step (suc n) b = step (walk step n b)

-- ---- empty gotos

abbrev pub is_nil : {A : Type 0} → List A → Bool
is_nil [] = true
is_nil (x ∷ xs) = false

-- where a block leads that has no statements and ends in a goto
abbrev pub empty_goto : TypedBlock → Option ℕ
empty_goto b = cond (is_nil b.stmts) (goto_block b.term) None

-- the link of an empty goto; bb0 is none
abbrev pub goto_link : List (Option ℕ) → ℕ → Option ℕ
goto_link gotos zero = None
goto_link gotos (suc b) = get_or gotos (suc b) None

-- where an edge to a block leads whose chain of gotos has come to an end; to the block itself where the chain goes on there
abbrev pub settle : List (Option ℕ) → ℕ → ℕ → ℕ
settle gotos b end = cond (is_some (goto_link gotos end)) b end

-- where an edge to a block leads once empty gotos are skipped: to the end of the chain of gotos, but to the block itself where the chain
-- comes into a cycle, so that as many steps as there are blocks don't end it
abbrev pub landing : List (Option ℕ) → ℕ → ℕ
landing gotos b = settle gotos b (walk (onward (goto_link gotos)) (length gotos) b)

-- each edge skips the empty gotos
abbrev pub hopped_block : List (Option ℕ) → TypedBlock → TypedBlock
hopped_block gotos b = record { stmts = b.stmts; term = retarget (landing gotos) b.term }

abbrev pub hopped : List TypedBlock → List TypedBlock
hopped blocks = map (hopped_block (map empty_goto blocks)) blocks

-- ---- blocks that are joined; from here on all is said of the terminators after the first step, and a block counts where it is reached

-- where the edges of the reached blocks lead, one for each edge
abbrev pub ends : List Term → List ℕ
ends terms = flat_map (exits terms) (filter (is_reached terms) (numbers (length terms)))

-- how many edges lead to a block
abbrev pub incoming : List Term → ℕ → ℕ
incoming terms b = count_by (λ e. e == b) (ends terms)

-- a block may be joined to another block where one edge leads to it; bb0 stays
abbrev pub joins_to : List Term → ℕ → ℕ → Bool
joins_to terms a b = not (b == 0) && (not (b == a) && (incoming terms b == 1))

abbrev pub only_if : (ℕ → Bool) → Option ℕ → Option ℕ
only_if test None = None
only_if test (Some b) = cond (test b) (Some b) None

-- the block that is joined to a reached block: that one to which its goto is the only edge
abbrev pub joined : List Term → ℕ → Option ℕ
joined terms a = cond (is_reached terms a) (only_if (joins_to terms a) (goto_block (get_or terms a Unreachable))) None

abbrev pub is_at : ℕ → Option ℕ → Bool
is_at b None = false
is_at b (Some c) = c == b

abbrev pub is_joined : List Term → ℕ → Bool
is_joined terms b = list_any (λ a. is_at b (joined terms a)) (numbers (length terms))

-- a block stays where it is reached and isn't joined to another
abbrev pub stays : List Term → ℕ → Bool
stays terms b = is_reached terms b && not (is_joined terms b)

-- a block and those that are joined to it, one after another, in so many steps
abbrev pub line : (ℕ → Option ℕ) → ℕ → ℕ → List ℕ
line link zero a = a ∷ []
line link (suc n) a = line link n a ++ option_to_list (link (walk (onward link) n a))

-- ---- the blocks that stay

-- the new number of a block: how many before it stay
abbrev pub new_number : (ℕ → Bool) → ℕ → ℕ
new_number keep b = count_by keep (numbers b)

abbrev pub term_of : TypedBlock → Term
term_of b = b.term

abbrev pub no_block : TypedBlock
no_block = record { stmts = []; term = Unreachable }

abbrev pub stmts_at : List TypedBlock → ℕ → List TypedStmt
stmts_at blocks b = (get_or blocks b no_block).stmts

-- a block that stays: the statements of its line, and the terminator of the last block of it
abbrev pub whole_block : List TypedBlock → ℕ → TypedBlock
whole_block blocks a =
    let terms = map term_of blocks in
    record {
      stmts = flat_map (stmts_at blocks) (line (joined terms) (length blocks) a);
      term = retarget (new_number (stays terms)) (get_or terms (walk (onward (joined terms)) (length blocks) a) Unreachable);
    }

-- the blocks that are reached, each with those that are joined to it, renumbered
abbrev pub regrouped : List TypedBlock → List TypedBlock
regrouped blocks = map (whole_block blocks) (filter (stays (map term_of blocks)) (numbers (length blocks)))

abbrev pub simple_blocks : List TypedBlock → List TypedBlock
simple_blocks blocks = regrouped (hopped blocks)

-- a body after the cleaning of its control flow
abbrev pub simple : TypedBody → TypedBody
simple body = record { args = body.args; locals = body.locals; blocks = simple_blocks body.blocks }
