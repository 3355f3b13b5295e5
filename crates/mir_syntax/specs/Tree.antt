-- What the ids of a table stand for: types with no table.
use Rattle.std.specs.Prelude.{◌≡◌, ℕ, List, [], ◌∷◌, ◌++◌, get_or, slice_get, Some}
use Rattle.mir_syntax.specs.declared.types.TyId.{TyId}
use Rattle.mir_syntax.specs.declared.types.ScalarTy.{ScalarTy}
use Rattle.mir_syntax.specs.declared.types.ScalarTy.TheVariants as scalar_ty
use Rattle.mir_syntax.specs.declared.types.Ty.{Ty}
use Rattle.mir_syntax.specs.declared.types.Ty.TheVariants.{Scalar, Tuple, Ref, RefMut, Named}

-- a type written out: no ids are left in it
-- a tuple is `empty`, or its first type with `more`, the tuple of the others
pub data Tree : Type 0 where
  scalar : ScalarTy → Tree
  empty : Tree
  more : Tree → Tree → Tree
  ref : Tree → Tree
  ref_mut : Tree → Tree
  named : ℕ → Tree

abbrev pub tuple_of : List Tree → Tree
tuple_of [] = empty
tuple_of (t ∷ ts) = more t (tuple_of ts)

-- what an id stands for, given what those of the table do
abbrev pub at_id : List Tree → TyId → Tree
at_id trees id = get_or trees id.0 (scalar scalar_ty.Bool)

-- the tuple that a list of ids stands for
abbrev pub at_ids : List Tree → List TyId → Tree
at_ids trees [] = empty
at_ids trees (id ∷ ids) = more (at_id trees id) (at_ids trees ids)

-- what a type of the table stands for, given what the earlier ids do
abbrev pub node : List Tree → Ty → Tree
node trees (Scalar s) = scalar s
node trees (Tuple ids) = at_ids trees ids
node trees (Ref id) = ref (at_id trees id)
node trees (RefMut id) = ref_mut (at_id trees id)
node trees (Named d) = named d

-- what the ids of a table stand for, after those that are known
abbrev pub trees_from : List Tree → List Ty → List Tree
trees_from trees [] = trees
trees_from trees (ty ∷ tys) = trees_from (trees ++ node trees ty ∷ []) tys

-- what the ids of a table stand for, in order
abbrev pub trees_of : List Ty → List Tree
trees_of types = trees_from [] types

-- an id stands in the table for a type
abbrev pub Stands : List Ty → TyId → Tree → Type 0
Stands types id t = slice_get (trees_of types) id.0 ≡ Some t

-- a table goes on from another
abbrev pub Extends : List Ty → List Ty → Type 0
Extends old new = (more : List Ty) × (new ≡ old ++ more)
