-- A body in which a jump to a block whose switch is known goes to a copy of that block, and the copy on to the switch's target, as rustc's
-- JumpThreading makes it.
use Rattle.std.specs.Prelude.{ℕ, suc, ◌-◌, nat_eq, nat_le, if◌then◌else◌, List, [], ◌∷◌, ◌++◌, map, take, length, Option, Some, None, slice_get}
use Rattle.mir_syntax.specs.declared.body.Arm.{Arm}
use Rattle.mir_syntax.specs.declared.body.Term.{Term}
use Rattle.mir_syntax.specs.declared.body.Term.TheVariants.{Goto, Switch}
use Rattle.mir_syntax.specs.Crate.{TypedBlock, TypedBody}
use Rattle.mir_syntax.specs.Shapes.{Shape, ◌>>=◌}
use Rattle.mir_rules.specs.Limits.{most_in_body}
use Rattle.mir_semantics.specs.Step.{Here, take_arm}
use Rattle.const_flow.specs.declared.cell.Cell.{Cell}
use Rattle.const_flow.specs.declared.cell.Cell.TheVariants.{Num}
use Rattle.const_flow.specs.Facts.{Facts, known, after_all}
use Rattle.const_flow.specs.ConstAt.{Reached, text, const_at}

-- ---- the switch at the end of a block

-- the target that a switch on this takes
abbrev pub arm_known : Cell → List Arm → ℕ → Option ℕ
arm_known (Num n) arms other = Some (take_arm n arms other)
arm_known _ arms other = None

-- the target that a terminator takes, where it is a switch on a known number
unfoldable pub taken : Facts → Term → Option ℕ
taken fs (Switch o arms other) = arm_known (known fs o) arms other
taken fs t = None

-- so many statements are copied
abbrev pub most_copied : ℕ
most_copied = 8

-- the target that is taken at the end of a short block, when its statements are walked from these facts
unfoldable pub jump : Here → Facts → TypedBlock → Option ℕ
jump h fs k = if nat_le (length k.stmts) most_copied then taken (after_all h k.stmts fs) k.term else None

-- ---- the edges that are threaded

-- the edge out of a block, the block that is copied for it, and where the copy goes on
pub record Thread : Type 0 where
  pub from : ℕ
  pub through : TypedBlock
  pub to : ℕ

-- the block to which a goto leads, where it isn't the first one
abbrev pub goes_through : List TypedBlock → Term → Option TypedBlock
goes_through ks (Goto (suc b)) = slice_get ks (suc b)
goes_through ks t = None

-- the thread of a block that is reached with these facts
unfoldable pub thread_of : Here → List TypedBlock → ℕ → TypedBlock → Reached → Option Thread
thread_of h ks a k x = x >>= λ fs. goes_through ks k.term >>= λ b. jump h (after_all h k.stmts fs) b >>= λ t. Some (record { from = a; through = b; to = t })

abbrev pub and_then : Option Thread → List Thread → List Thread
and_then None ts = ts
and_then (Some t) ts = t ∷ ts

-- those of all blocks, in order
abbrev pub threads_from : Here → List TypedBlock → ℕ → List TypedBlock → List Reached → List Thread
threads_from h all a (k ∷ ks) (x ∷ xs) = and_then (thread_of h all a k x) (threads_from h all (suc a) ks xs)
threads_from h all a _ _ = []

-- as many as the body has room for
unfoldable pub threads : List Shape → List Reached → TypedBody → List Thread
threads D xs b = take (most_in_body - length b.blocks) (threads_from (text D b) b.blocks 0 b.blocks xs)

-- ---- the body

-- the copy for a block's edge, where these are the threads whose copies stand from number n on
abbrev pub copy_for : ℕ → List Thread → ℕ → Option ℕ
copy_for n [] a = None
copy_for n (t ∷ ts) a = if nat_eq t.from a then Some n else copy_for (suc n) ts a

-- a block that goes to the copy for its edge
abbrev pub going_to : Option ℕ → TypedBlock → TypedBlock
going_to None k = k
going_to (Some c) k = record { stmts = k.stmts; term = Goto c }

abbrev pub redirected : ℕ → List Thread → ℕ → List TypedBlock → List TypedBlock
redirected n ts a [] = []
redirected n ts a (k ∷ ks) = going_to (copy_for n ts a) k ∷ redirected n ts (suc a) ks

-- the copy goes on at once
abbrev pub copied : Thread → TypedBlock
copied t = record { stmts = t.through.stmts; term = Goto t.to }

abbrev pub threaded_blocks : List Thread → List TypedBlock → List TypedBlock
threaded_blocks ts ks = redirected (length ks) ts 0 ks ++ map copied ts

-- by these facts
unfoldable pub threaded_by : List Shape → List Reached → TypedBody → TypedBody
threaded_by D xs b = record b { blocks = threaded_blocks (threads D xs b) b.blocks }

-- by what is known in the body
unfoldable pub threaded : List Shape → TypedBody → TypedBody
threaded D b = threaded_by D (const_at D b) b
