-- The types of places in which each downcast is followed by a field.
use Rattle.std.proofs.Common.{◌≡◌, true, false, List, [], ◌∷◌, Option, Some, None, refl}
use Rattle.mir_syntax.specs.declared.body.Proj.{Proj}
use Rattle.mir_syntax.specs.declared.body.Proj.TheVariants as proj
use Rattle.mir_syntax.specs.declared.body.Place.{Place}
use Rattle.mir_syntax.specs.Tree.{Tree}
use Rattle.mir_syntax.specs.Shapes.{Shape, place_ty, path_ty, whole_path_ty, whole_place_ty, ends_in_downcast, ◌>>=◌}
use Rattle.mir_syntax.specs.Parts.{path_formed, begins_with_field}
use Rattle.mir_rules.proofs.Lists.{and_true-right}

no_end : (ps : List Proj) → path_formed ps ≡ true → ends_in_downcast ps ≡ false
no_end [] h = refl
no_end (proj.Field i ∷ []) h = refl
no_end (proj.Deref ∷ []) h = refl
no_end (proj.Downcast k ∷ []) h = absurd cc
no_end (proj.Field i ∷ (q ∷ ps)) h = no_end (q ∷ ps) h
no_end (proj.Deref ∷ (q ∷ ps)) h = no_end (q ∷ ps) h
no_end (proj.Downcast k ∷ (q ∷ ps)) h = no_end (q ∷ ps) (and_true-right (begins_with_field (q ∷ ps)) (path_formed (q ∷ ps)) h)

whole_path : (D : List Shape) (t : Tree) (ps : List Proj) → path_formed ps ≡ true → whole_path_ty D t ps ≡ path_ty D t ps
unfolding whole_path_ty
whole_path D t ps h = rw (no_end ps h) refl

whole_local : (D : List Shape) (o : Option Tree) (ps : List Proj) → path_formed ps ≡ true → (o >>= λ t. whole_path_ty D t ps) ≡ (o >>= λ t. path_ty D t ps)
unfolding ◌>>=◌
whole_local D None ps h = refl
whole_local D (Some t) ps h = whole_path D t ps h

pub whole_place : (D : List Shape) (locals : List Tree) (p : Place) → path_formed p.proj ≡ true → whole_place_ty D locals p ≡ place_ty D locals p
unfolding place_ty
whole_place D locals p h = whole_local D _ p.proj h
