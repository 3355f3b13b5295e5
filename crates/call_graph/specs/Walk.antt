-- What holds while the destructors in a type are found. No promise of a public call rests on these.
use Rattle.std.specs.Prelude.{◌≡◌, ℕ, zero, suc, ◌+◌, ◌<◌, ◌≤◌, Bool, List, [], ◌∷◌, ◌++◌, map, flat_map, length, Option, Some, None, slice_get, IsTrue, sum_by, if◌then◌else◌}
use Rattle.bit_rows.specs.Rows.{row_at, flag, stands}
use Rattle.mir_syntax.specs.declared.types.TyId.{TyId}
use Rattle.mir_syntax.specs.declared.types.FnId.{FnId}
use Rattle.mir_syntax.specs.declared.types.Variant.{Variant}
use Rattle.mir_syntax.specs.Table.{all_below}
use Rattle.mir_syntax.specs.Drops.{fn_number}
use Rattle.mir_syntax.specs.Tree.{Tree, at_id, more, named}
use Rattle.mir_syntax.specs.Shapes.{Shape, field_id}
use Rattle.call_graph.specs.Callees.{destructors_by, destructors_def}
use Rattle.call_graph.specs.declared.parts.Part.{Part}

-- one row, in which the functions of the list are marked
pub record IsFound (list : List FnId) (marks : List (List Bool)) : Type 0 where
  pub one : length marks ≡ 1
  pub marked : (f : ℕ) → f < length (row_at marks 0) → flag marks 0 f ≡ stands f (map fn_number list)

-- a number at the end, unless it stands there
abbrev pub added : List ℕ → ℕ → List ℕ
added xs x = if stands x xs then xs else xs ++ x ∷ []

abbrev pub all_added : List ℕ → List ℕ → List ℕ
all_added xs [] = xs
all_added xs (y ∷ ys) = all_added (added xs y) ys

-- ---- parts of a type that are still to be gone over: the last is the next one

abbrev pub part_at : ℕ → TyId → Part
part_at depth id = record { ty = id; depth = depth }

-- the last one first
abbrev pub reversed : List Part → List Part
reversed [] = []
reversed (p ∷ ps) = reversed ps ++ p ∷ []

abbrev pub variant_types : Variant → List TyId
variant_types v = map field_id v.fields

-- the types of the fields of some variants
abbrev pub types_in : List Variant → List TyId
types_in variants = flat_map variant_types variants

-- the destructors in a part
abbrev pub destructors_at : List Shape → List Tree → Part → List ℕ
destructors_at D trees p = destructors_by (destructors_def D p.depth) (at_id trees p.ty)

-- how much there is to go over
abbrev pub size_by : (ℕ → ℕ) → Tree → ℕ
size_by of_def (more t ts) = size_by of_def t + size_by of_def ts
size_by of_def (named d) = of_def d
size_by of_def _ = 1

abbrev pub size_of : (ℕ → ℕ) → Option Shape → ℕ
size_of of_def None = 1
size_of of_def (Some s) = suc (sum_by (size_by of_def) s.variants)

abbrev pub size_def : List Shape → ℕ → ℕ → ℕ
size_def D zero d = 1
size_def D (suc n) d = size_of (size_def D n) (slice_get D d)

abbrev pub size_at : List Shape → List Tree → Part → ℕ
size_at D trees p = size_by (size_def D p.depth) (at_id trees p.ty)

-- a part was gone over: functions were found, and the parts inside it are to be gone over
pub record Entered (D : List Shape) (trees : List Tree) (part : Part) (found found2 : List ℕ) (stack stack2 : List Part) : Type 0 where
  pub own : List ℕ
  pub inner : List TyId
  pub depth : ℕ
  pub found_is : found2 ≡ all_added found own
  pub stack_is : stack2 ≡ stack ++ reversed (map (part_at depth) inner)
  pub destructors_are : destructors_at D trees part ≡ own ++ flat_map (destructors_at D trees) (map (part_at depth) inner)
  pub smaller : suc (sum_by (size_at D trees) (map (part_at depth) inner)) ≤ size_at D trees part
  pub deep : depth ≤ part.depth
  pub in_table : IsTrue (all_below (length trees) inner)

-- each part is in the table, and no deeper than there are definitions
pub record IsOpen (D : List Shape) (trees : List Tree) (part : Part) : Type 0 where
  pub in_table : part.ty.0 < length trees
  pub deep : part.depth ≤ length D

-- those of the last come first
abbrev pub pending : List Shape → List Tree → List Part → List ℕ
pending D trees [] = []
pending D trees (p ∷ ps) = pending D trees ps ++ destructors_at D trees p
