-- What the code makes of a body, over blocks as the program holds them: the edges that it threads, and the blocks that it makes for them.
use Rattle.std.specs.Prelude.{◌≡◌, ℕ, suc, Bool, true, false, ◌&&◌, nat_le, List, [], ◌∷◌, Option, Some, None, length, slice_get, set}
use Rattle.mir_syntax.specs.declared.body.Arm.{Arm}
use Rattle.mir_syntax.specs.declared.body.Block.{Block}
use Rattle.mir_syntax.specs.declared.body.Stmt.{Stmt}
use Rattle.mir_syntax.specs.declared.body.Term.{Term}
use Rattle.mir_syntax.specs.declared.body.Term.TheVariants.{Goto, Switch}
use Rattle.mir_syntax.specs.Tree.{Tree, trees_of}
use Rattle.mir_syntax.specs.Crate.{TypedBlock, block_of}
use Rattle.mir_syntax.specs.Shapes.{◌>>=◌}
use Rattle.mir_semantics.specs.Step.{Here, take_arm}
use Rattle.const_flow.specs.declared.cell.Known.{Known}
use Rattle.const_flow.specs.declared.cell.Known.TheVariants as known
use Rattle.const_flow.specs.Facts.{after_all}
use Rattle.const_flow.specs.ConstAt.{Reached}
use Rattle.const_flow.specs.Sights.{text_of}
use Rattle.jump_threading.specs.declared.edges.Sight.{Sight}
use Rattle.jump_threading.specs.declared.thread.Edge.{Edge}
use Rattle.jump_threading.specs.Threaded.{Thread, most_copied, taken, jump}

-- ---- what is seen of a body

abbrev pub text_in : Sight → Here
text_in s = text_of s.program.now s.body.now

-- what the ids of the program stand for
abbrev pub trees_in : Sight → List Tree
trees_in s = trees_of s.program.now.types

-- a block as the definition reads it
abbrev pub block_in : Sight → Block → TypedBlock
block_in s k = block_of (trees_in s) k

-- the target that a switch takes on what is told of its operand
abbrev pub arm_told : Known → List Arm → ℕ → Option ℕ
arm_told (known.Num n) arms other = Some (take_arm n arms other)
arm_told k arms other = None

-- the target that a terminator takes: none where its block is unreached
abbrev pub taken_at : Reached → Term → Option ℕ
taken_at x t = x >>= λ fs. taken fs t

-- the target that is taken at the end of the second of two blocks, which are walked from the start of the first
abbrev pub jump_at : Here → Reached → TypedBlock → TypedBlock → Option ℕ
jump_at h x first second = x >>= λ fs. jump h (after_all h first.stmts fs) second

abbrev pub is_switch : Term → Bool
is_switch (Switch o arms other) = true
is_switch t = false

abbrev pub is_short_switch : Block → Bool
is_short_switch k = nat_le (length k.stmts) most_copied && is_switch k.term

-- the number of the block to which a goto leads, where it isn't the first one
abbrev pub next_number : Term → Option ℕ
next_number (Goto (suc b)) = Some (suc b)
next_number t = None

-- ---- edges and threads

-- an edge is that of a thread of a body with these blocks
abbrev pub IsOf : List TypedBlock → Edge → Thread → Type 0
IsOf ks e t = (e.from ≡ t.from) × (slice_get ks e.through ≡ Some t.through) × (e.to ≡ t.to)

-- there is an edge where there is a thread
abbrev pub IsEdgeOf : List TypedBlock → Option Edge → Option Thread → Type 0
IsEdgeOf ks None None = Unit {0}
IsEdgeOf ks (Some e) (Some t) = IsOf ks e t
IsEdgeOf ks _ _ = ⊥

-- edges stand for threads
abbrev pub StandFor : List TypedBlock → List Edge → List Thread → Type 0
StandFor ks [] [] = Unit {0}
StandFor ks (e ∷ es) (t ∷ ts) = IsOf ks e t × StandFor ks es ts
StandFor ks _ _ = ⊥

-- ---- the blocks that are made

abbrev pub stmts_of : Option Block → List Stmt
stmts_of None = []
stmts_of (Some k) = k.stmts

-- the copy for an edge
abbrev pub bare_copy : List Block → Edge → Block
bare_copy ks e = record { stmts = stmts_of (slice_get ks e.through); term = Goto e.to }

-- the blocks, of which one goes to another
abbrev pub bare_link : List Block → ℕ → ℕ → List Block
bare_link ks a n = set ks a (record { stmts = stmts_of (slice_get ks a); term = Goto n })

-- the blocks that these edges leave go to their copies, which stand from number n on
abbrev pub bare_redirected : List Block → ℕ → List Edge → List Block
bare_redirected ks n [] = ks
bare_redirected ks n (e ∷ es) = bare_redirected (bare_link ks e.from n) (suc n) es
