-- Laws of what ids stand for.
use Rattle.std.proofs.Common.{IsTrue, ◌≡◌, ℕ, suc, zero, ◌+◌, ◌<◌, List, [], ◌∷◌, ◌++◌, length, take, slice_get, Some, refl, sym, ap, ap₂, ◌∙◌, arith, rules, append_assoc, append-nil, length-append}
use Rattle.std.proofs.lemmas.List.{get_or_append_left}
use Rattle.std.proofs.lemmas.Option.{get_or_from_slice_get}
use Rattle.mir_syntax.specs.declared.types.Ty.{Ty}
use Rattle.mir_syntax.specs.declared.types.TyId.{TyId}
use Rattle.mir_syntax.specs.Tree.{Tree, scalar, more, ref, ref_mut, at_id, at_ids, node, trees_from, trees_of, Stands, Extends}
use Rattle.mir_syntax.specs.declared.types.ScalarTy.TheVariants as scalar_ty
use Rattle.mir_syntax.specs.declared.types.Ty.TheVariants.{Scalar, Tuple, Ref, RefMut, Named}
use Rattle.mir_syntax.specs.Table.{IsTable, all_below, ids_below}

pub trees_from-append : (trees : List Tree) (a b : List Ty) → trees_from trees (a ++ b) ≡ trees_from (trees_from trees a) b
trees_from-append trees [] b = refl
trees_from-append trees (ty ∷ tys) b = trees_from-append (trees ++ node trees ty ∷ []) tys b

-- one more type stands at the end
pub trees_of-more : (types : List Ty) (ty : Ty) → trees_of (types ++ ty ∷ []) ≡ trees_of types ++ node (trees_of types) ty ∷ []
trees_of-more types ty = trees_from-append [] types (ty ∷ [])

pub length-trees_from : (trees : List Tree) (types : List Ty) → length (trees_from trees types) ≡ length trees + length types
length-trees_from trees [] = omega arith
length-trees_from trees (ty ∷ tys) = omega (arith, length-trees_from (trees ++ node trees ty ∷ []) tys, length-append trees (node trees ty ∷ []))

pub length-trees_of : (types : List Ty) → length (trees_of types) ≡ length types
length-trees_of types = omega (arith, length-trees_from [] types)

-- what stands in a list stands in one that goes on from it
pub slice_get-front : {X : Type 0} (xs ys : List X) (i : ℕ) (x : X) → slice_get xs i ≡ Some x → slice_get (xs ++ ys) i ≡ Some x
slice_get-front [] ys i x h = cc
slice_get-front (y ∷ xs) ys zero x h = h
slice_get-front (y ∷ xs) ys (suc i) x h = slice_get-front xs ys i x h

pub trees_from-front : (trees : List Tree) (types : List Ty) → (later : List Tree) × (trees_from trees types ≡ trees ++ later)
trees_from-front trees [] = ([], sym (append-nil trees))
trees_from-front trees (ty ∷ tys) =
    let rest = trees_from-front (trees ++ node trees ty ∷ []) tys in
    (node trees ty ∷ rest.0, rest.1 ∙ append_assoc trees (node trees ty ∷ []) rest.0)

-- earlier ids keep their types
pub Stands-extends : (old new : List Ty) (id : TyId) (t : Tree) → Extends old new → Stands old id t → Stands new id t
Stands-extends old new id t e h =
    let front = trees_from-front (trees_of old) e.0 in
    rw (e.1, trees_from-append [] old e.0, front.1) (slice_get-front (trees_of old) front.0 id.0 t h)

-- a list of trees serves as well as a longer one for ids that are in it
pub at_id-front : (trees later : List Tree) (id : TyId) → id.0 < length trees → at_id (trees ++ later) id ≡ at_id trees id
at_id-front trees later id h = get_or_append_left trees later (scalar scalar_ty.Bool) id.0 h

pub at_ids-front : (trees later : List Tree) (ids : List TyId) → IsTrue (all_below (length trees) ids) → at_ids (trees ++ later) ids ≡ at_ids trees ids
at_ids-front trees later [] h = refl
at_ids-front trees later (id ∷ ids) h =
    let both : (id.0 < length trees) × IsTrue (all_below (length trees) ids) = search rules in
    ap₂ more (at_id-front trees later id both.0) (at_ids-front trees later ids both.1)

pub node-front : (trees later : List Tree) (ty : Ty) → IsTrue (ids_below (length trees) ty) → node (trees ++ later) ty ≡ node trees ty
node-front trees later (Scalar s) h = refl
node-front trees later (Tuple ids) h = at_ids-front trees later ids h
node-front trees later (Ref id) h = ap ref (at_id-front trees later id (search rules))
node-front trees later (RefMut id) h = ap ref_mut (at_id-front trees later id (search rules))
node-front trees later (Named d) h = refl

-- a place in a list parts it
pub parted : {X : Type 0} (types : List X) (k : ℕ) (ty : X) → slice_get types k ≡ Some ty → (rest : List X) × (types ≡ take k types ++ ty ∷ rest) × (length (take k types) ≡ k)
parted [] k ty h = absurd cc
parted (x ∷ xs) zero ty h = let same : x ≡ ty = cc in (xs, ap (λ y. y ∷ xs) same, refl)
parted (x ∷ xs) (suc k) ty h = let p = parted xs k ty h in (p.0, ap (λ ys. x ∷ ys) p.1, omega (arith, p.2))

here : {X : Type 0} (front rest : List X) (x : X) (k : ℕ) → length front ≡ k → slice_get (front ++ x ∷ rest) k ≡ Some x
here [] rest x zero h = refl
here [] rest x (suc k) h = absurd (omega arith)
here (y ∷ front) rest x zero h = absurd (omega arith)
here (y ∷ front) rest x (suc k) h = here front rest x k (omega arith)

-- what an id stands for, by what stands there in the table
pub Stands-at : (types : List Ty) (k : ℕ) (ty : Ty) → IsTable types → slice_get types k ≡ Some ty → slice_get (trees_of types) k ≡ Some (node (trees_of types) ty)
Stands-at types k ty table h =
    let p = parted types k ty h in
    let front = trees_of (take k types) in
    let long : length front ≡ k = length-trees_of (take k types) ∙ p.2 in
    let past = trees_from-front (front ++ node front ty ∷ []) p.0 in
    let whole : trees_of types ≡ front ++ node front ty ∷ past.0 =
    ap trees_of p.1 ∙ trees_from-append [] (take k types) (ty ∷ p.0) ∙ past.1 ∙ append_assoc front (node front ty ∷ []) past.0 in
    let below : IsTrue (ids_below (length front) ty) = rw long (table.made k ty h) in
    let same : node (trees_of types) ty ≡ node front ty = rw whole (node-front front (node front ty ∷ past.0) ty below) in
    rw (same, whole) (here front past.0 (node front ty) k long)

pub at_id-node : (types : List Ty) (id : TyId) (ty : Ty) → IsTable types → slice_get types id.0 ≡ Some ty → at_id (trees_of types) id ≡ node (trees_of types) ty
at_id-node types id ty table h = get_or_from_slice_get (trees_of types) id.0 (node (trees_of types) ty) (scalar scalar_ty.Bool) (Stands-at types id.0 ty table h)
