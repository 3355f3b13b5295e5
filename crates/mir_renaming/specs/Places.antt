-- Places that are there in any value of their local's type.
use Rattle.std.specs.Prelude.{Bool, true, false, not, ◌&&◌, List, [], ◌∷◌, Option, Some, None, is_some}
use Rattle.mir_syntax.specs.declared.body.Proj.{Proj}
use Rattle.mir_syntax.specs.declared.body.Proj.TheVariants.{Field, Downcast, Deref}
use Rattle.mir_syntax.specs.Tree.{Tree}
use Rattle.mir_syntax.specs.Shapes.{Shape, proj_ty, destructor_of}

-- no dereference, no downcast, and no field of a type with a destructor
abbrev pub solid : List Shape → Option Tree → List Proj → Bool
solid D t [] = true
solid D None (p ∷ ps) = false
solid D (Some t) (Field i ∷ ps) = not (is_some (destructor_of D t)) && solid D (proj_ty D t (Field i)) ps
solid D (Some t) (Downcast k ∷ ps) = false
solid D (Some t) (Deref ∷ ps) = false

abbrev pub is_nil : List Proj → Bool
is_nil [] = true
is_nil (p ∷ ps) = false
