-- Whom a body calls: the functions that its calls name, and the destructors that its drops may run.
use Rattle.std.specs.Prelude.{ℕ, zero, suc, List, [], ◌∷◌, ◌++◌, if◌then◌else◌, length, flat_map, Option, Some, None, option_to_list, slice_get}
use Rattle.bit_rows.specs.Rows.{stands}
use Rattle.mir_syntax.specs.declared.body.Callee.{Callee}
use Rattle.mir_syntax.specs.declared.body.Callee.TheVariants.{Local, Outside}
use Rattle.mir_syntax.specs.declared.body.Term.{Term}
use Rattle.mir_syntax.specs.declared.body.Term.TheVariants as term
use Rattle.mir_syntax.specs.Tree.{Tree, more, named}
use Rattle.mir_syntax.specs.Crate.{TypedBlock, TypedBody}
use Rattle.mir_syntax.specs.Shapes.{Shape, whole_place_ty}

-- ---- the destructors in a type: in the order of declaration, outer before inner; references are not followed

-- given those of each definition
abbrev pub destructors_by : (ℕ → List ℕ) → Tree → List ℕ
destructors_by of_def (more t ts) = destructors_by of_def t ++ destructors_by of_def ts
destructors_by of_def (named d) = of_def d
destructors_by of_def _ = []

-- its own, then those in the fields of its variants
abbrev pub destructors_of : (ℕ → List ℕ) → Option Shape → List ℕ
destructors_of of_def None = []
destructors_of of_def (Some s) = option_to_list s.destructor ++ flat_map (destructors_by of_def) s.variants

-- to a depth of definitions inside one another; their number is depth enough
abbrev pub destructors_def : List Shape → ℕ → ℕ → List ℕ
destructors_def D zero d = []
destructors_def D (suc n) d = destructors_of (destructors_def D n) (slice_get D d)

unfoldable pub destructors_in : List Shape → Tree → List ℕ
destructors_in D t = destructors_by (destructors_def D (length D)) t

-- ---- whom a body calls

abbrev pub dropped_in : List Shape → Option Tree → List ℕ
dropped_in D None = []
dropped_in D (Some t) = destructors_in D t

abbrev pub own_function : Callee → List ℕ
own_function (Local f) = f.0 ∷ []
own_function (Outside o) = []

-- the functions that a terminator calls or may run
abbrev pub called : List Shape → List Tree → Term → List ℕ
called D locals (term.Call p callee args next) = own_function callee
called D locals (term.Drop p next) = dropped_in D (whole_place_ty D locals p)
called D locals _ = []

abbrev pub called_in : List Shape → List Tree → TypedBlock → List ℕ
called_in D locals b = called D locals b.term

-- in the order of the blocks, as often as they come
abbrev pub all_called : List Shape → TypedBody → List ℕ
all_called D b = flat_map (called_in D b.locals) b.blocks

-- each once, in the order of their first occurrence, without those that were seen
abbrev pub once_after : List ℕ → List ℕ → List ℕ
once_after seen [] = []
once_after seen (x ∷ xs) = if stands x seen then once_after seen xs else x ∷ once_after (x ∷ seen) xs

-- the functions that a body calls or may run by a drop, each once
unfoldable pub callees : List Shape → TypedBody → List ℕ
callees D b = once_after [] (all_called D b)
