-- Which locals are live: some path reads them before it writes the whole of them.
use Rattle.std.specs.Prelude.{◌≡◌, ◌⊎◌, ℕ, zero, suc, if◌then◌else◌, List, [], ◌∷◌, ◌++◌, map, Option, Some, None, slice_get}
use Rattle.std.specs.List.{Contains, flat_map}
use Rattle.mir_syntax.specs.declared.body.Proj.{Proj}
use Rattle.mir_syntax.specs.declared.body.Place.{Place}
use Rattle.mir_syntax.specs.declared.body.Operand.{Operand}
use Rattle.mir_syntax.specs.declared.body.Term.{Term}
use Rattle.mir_syntax.specs.declared.body.Term.TheVariants as term
use Rattle.mir_syntax.specs.Tree.{Tree}
use Rattle.mir_syntax.specs.Crate.{TypedStmt, assign, storage_live, storage_dead, set_discriminant, TypedBlock, TypedBody}
use Rattle.mir_syntax.specs.Shapes.{Shape, goes_through_destructor}
use Rattle.mir_syntax.specs.Parts.{is_direct, operand_places, rvalue_places, targets}

abbrev pub place_local : Place → ℕ
place_local p = p.local

-- the locals that are read

abbrev pub operand_locals : Operand → List ℕ
operand_locals a = map place_local (operand_places a)

-- a place that is written is read where it has a dereference or a downcast
abbrev pub written_reads : Place → List ℕ
written_reads p = if is_direct p.proj then [] else p.local ∷ []

abbrev pub stmt_reads : TypedStmt → List ℕ
stmt_reads (assign p r) = map place_local (rvalue_places r) ++ written_reads p
stmt_reads (storage_live x) = []
stmt_reads (storage_dead x) = []
stmt_reads (set_discriminant p k) = p.local ∷ []

-- the place of a call's result is read where it goes through a field of a type with a destructor, too
abbrev pub result_reads : List Shape → List Tree → Place → List ℕ
result_reads D locals p = if goes_through_destructor D locals p then p.local ∷ [] else written_reads p

abbrev pub term_reads : List Shape → List Tree → Term → List ℕ
term_reads D locals (term.Goto next) = []
term_reads D locals (term.Switch a arms other) = operand_locals a
term_reads D locals term.Return = 0 ∷ []
term_reads D locals term.Unreachable = []
term_reads D locals (term.Drop p next) = p.local ∷ []
term_reads D locals (term.Call p callee args next) = flat_map operand_locals args ++ result_reads D locals p
term_reads D locals (term.Assert a expected text args next) = operand_locals a ++ flat_map operand_locals args

-- the locals of which the whole is written

-- a local, where a path doesn't lead into it
abbrev pub unless_inside : ℕ → List Proj → List ℕ
unless_inside x [] = x ∷ []
unless_inside x (p ∷ ps) = []

abbrev pub whole : Place → List ℕ
whole p = unless_inside p.local p.proj

abbrev pub stmt_fills : TypedStmt → List ℕ
stmt_fills (assign p r) = whole p
stmt_fills (storage_live x) = x ∷ []
stmt_fills (storage_dead x) = x ∷ []
stmt_fills (set_discriminant p k) = []

-- on the edge of its return a call writes its result
abbrev pub term_fills : Term → List ℕ
term_fills (term.Call p callee args next) = whole p
term_fills _ = []

-- what holds of the next points, at a point of a block: before a statement, or before the terminator
abbrev pub LiveIn : List Shape → List Tree → TypedBlock → (ℕ → Type 0) → Type 0 → ℕ → Option TypedStmt → Type 0
LiveIn D locals k at_block next x None = Contains (term_reads D locals k.term) x ⊎ ((u : ℕ) × Contains (targets k.term) u × (Contains (term_fills k.term) x → ⊥) × at_block u)
LiveIn D locals k at_block next x (Some s) = Contains (stmt_reads s) x ⊎ ((Contains (stmt_fills s) x → ⊥) × next)

-- a path of at most so many points reads x before it writes the whole of x
abbrev pub LiveBy : List Shape → TypedBody → ℕ → ℕ → ℕ → ℕ → Type 0
LiveBy D b zero i n x = ⊥
LiveBy D b (suc m) i n x = (k : TypedBlock) × (slice_get b.blocks i ≡ Some k) × LiveIn D b.locals k (λ u. LiveBy D b m u 0 x) (LiveBy D b m i (suc n) x) x (slice_get k.stmts n)

-- a local is live before the n-th statement of a block, or before its terminator where n is their number
abbrev pub Live : List Shape → TypedBody → ℕ → ℕ → ℕ → Type 0
Live D b i n x = (m : ℕ) × LiveBy D b m i n x
