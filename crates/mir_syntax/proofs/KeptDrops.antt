-- What a program keeps of its drops, read at one type.
use Rattle.std.proofs.Common.{◌≡◌, ℕ, zero, suc, ◌<◌, Bool, false, List, [], ◌∷◌, map, length, get_or, slice_get, Option, Some, None, refl, sym, ap, ◌∙◌, arith, rules}
use Rattle.std.specs.Option.{option_map}
use Rattle.std.proofs.lemmas.List.{get_or-map}
use Rattle.std.proofs.lemmas.Option.{slice_get-map, slice_get_within}
use Rattle.mir_syntax.specs.declared.types.FnId.{FnId}
use Rattle.mir_syntax.specs.declared.types.TyId.{TyId}
use Rattle.mir_syntax.specs.declared.types.Ty.{Ty}
use Rattle.mir_syntax.specs.declared.types.Ty.TheVariants.{Scalar, Tuple, Ref, RefMut, Named}
use Rattle.mir_syntax.specs.declared.types.ScalarTy.{ScalarTy}
use Rattle.mir_syntax.specs.declared.types.ScalarTy.TheVariants as scalar_ty
use Rattle.mir_syntax.specs.Tree.{Tree, scalar, ref_mut, named, at_id, node, trees_of, Stands}
use Rattle.mir_syntax.specs.Table.{IsTable}
use Rattle.mir_syntax.specs.Shapes.{Shape, needs_drop, destructor_of, ◌>>=◌}
use Rattle.mir_syntax.specs.Drops.{fn_number, own_destructor}
use Rattle.mir_syntax.proofs.Trees.{length-trees_of, Stands-at}
use Rattle.mir_syntax.proofs.OneId.{ids_below-more, node-injective}

pub needs-length : (D : List Shape) (types : List Ty) (kept : List Bool) → kept ≡ map (needs_drop D) (trees_of types) → length kept ≡ length types
needs-length D types kept same = rw same (length-map-of (trees_of types) ∙ length-trees_of types)
  where
    length-map-of : (ts : List Tree) → length (map (needs_drop D) ts) ≡ length ts
    length-map-of [] = refl
    length-map-of (t ∷ ts) = ap suc (length-map-of ts)

pub needs-read : (D : List Shape) (types : List Ty) (kept : List Bool) (id : TyId) → kept ≡ map (needs_drop D) (trees_of types) → id.0 < length types → get_or kept id.0 false ≡ needs_drop D (at_id (trees_of types) id)
needs-read D types kept id same below =
    rw same (get_or-map (needs_drop D) (trees_of types) id.0 (scalar scalar_ty.Bool) false (omega (arith, length-trees_of types, below)))

pub destructor-read : (D : List Shape) (kept : List (Option FnId)) (t : Tree) (d : ℕ) (o : Option FnId) → map (option_map fn_number) kept ≡ map own_destructor D
    → t ≡ named d → slice_get kept d ≡ Some o → option_map fn_number o ≡ destructor_of D t
unfolding ◌>>=◌
destructor-read D kept t d o same is at = rw is (found (slice_get D d) both)
  where
    both : Some (option_map fn_number o) ≡ option_map own_destructor (slice_get D d)
    both = ap (option_map (option_map fn_number)) (sym at) ∙ sym (slice_get-map (option_map fn_number) kept d) ∙ ap (λ l. slice_get l d) same ∙ slice_get-map own_destructor D d

    found : (s : Option Shape) → Some (option_map fn_number o) ≡ option_map own_destructor s → option_map fn_number o ≡ (s >>= λ x. x.destructor)
    found None h = absurd cc
    found (Some s) h = cc

pub destructor-past : (D : List Shape) (kept : List (Option FnId)) (t : Tree) (d : ℕ) → map (option_map fn_number) kept ≡ map own_destructor D
    → t ≡ named d → slice_get kept d ≡ None → None ≡ destructor_of D t
unfolding ◌>>=◌
destructor-past D kept t d same is at = rw is (found (slice_get D d) both)
  where
    both : None ≡ option_map own_destructor (slice_get D d)
    both = ap (option_map (option_map fn_number)) (sym at) ∙ sym (slice_get-map (option_map fn_number) kept d) ∙ ap (λ l. slice_get l d) same ∙ slice_get-map own_destructor D d

    found : (s : Option Shape) → None ≡ option_map own_destructor s → None ≡ (s >>= λ x. x.destructor)
    found None h = refl
    found (Some s) h = absurd cc

-- a type that is no definition has no destructor
pub destructor-none : (D : List Shape) (trees : List Tree) (t : Tree) (ty : Ty) → ((d : ℕ) → ty ≡ Named d → ⊥) → t ≡ node trees ty → None ≡ destructor_of D t
destructor-none D trees t (Scalar s) other is = rw is refl
destructor-none D trees t (Tuple []) other is = rw is refl
destructor-none D trees t (Tuple (a ∷ rest)) other is = rw is refl
destructor-none D trees t (Ref a) other is = rw is refl
destructor-none D trees t (RefMut a) other is = rw is refl
destructor-none D trees t (Named d) other is = absurd (other d refl)

-- where `&mut` of a type is in the table, it is found there
past : (types : List Ty) (k : ℕ) → slice_get types k ≡ None → k < length types → ⊥
past [] k none below = absurd (omega (arith, below))
past (ty ∷ types) zero none below = absurd cc
past (ty ∷ types) (suc k) none below = past types k none (omega (arith, below))

pub ref_mut-there : (types : List Ty) (id there : TyId) → IsTable types → id.0 < length types → Stands types there (ref_mut (at_id (trees_of types) id))
    → slice_get types there.0 ≡ Some (RefMut id)
ref_mut-there types id there table below stands = found (slice_get types there.0) refl
  where
    here : there.0 < length types
    here = let in_trees = slice_get_within (trees_of types) there.0 (ref_mut (at_id (trees_of types) id)) stands in omega (arith, in_trees, length-trees_of types)

    found : (o : Option Ty) → slice_get types there.0 ≡ o → o ≡ Some (RefMut id)
    found None none = absurd (past types there.0 none here)
    found (Some ty) is =
        let one : Some (node (trees_of types) ty) ≡ Some (ref_mut (at_id (trees_of types) id)) = sym (Stands-at types there.0 ty table is) ∙ stands in
        let same : node (trees_of types) ty ≡ node (trees_of types) (RefMut id) = cc in
        ap Some (node-injective types ty (RefMut id) table (ids_below-more there.0 (length types) (omega (arith, here)) ty (table.made there.0 ty is)) (search rules) same)

pub scalar-there : (types : List Ty) (s : ScalarTy) (there : TyId) → IsTable types → Stands types there (scalar s) → slice_get types there.0 ≡ Some (Scalar s)
scalar-there types s there table stands = found (slice_get types there.0) refl
  where
    here : there.0 < length types
    here = let in_trees = slice_get_within (trees_of types) there.0 (scalar s) stands in omega (arith, in_trees, length-trees_of types)

    found : (o : Option Ty) → slice_get types there.0 ≡ o → o ≡ Some (Scalar s)
    found None none = absurd (past types there.0 none here)
    found (Some ty) is =
        let one : Some (node (trees_of types) ty) ≡ Some (scalar s) = sym (Stands-at types there.0 ty table is) ∙ stands in
        let same : node (trees_of types) ty ≡ node (trees_of types) (Scalar s) = cc in
        ap Some (node-injective types ty (Scalar s) table (ids_below-more there.0 (length types) (omega (arith, here)) ty (table.made there.0 ty is)) (search rules) same)
