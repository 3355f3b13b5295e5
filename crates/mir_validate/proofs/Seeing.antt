-- The types that are seen, and whether they are those of the table.
use Rattle.std.proofs.Common.{◌≡◌, ℕ, ◌<◌, Bool, true, false, ◌&&◌, nat_eq, List, [], ◌∷◌, length, None, refl, ap, eqb-true}
use Rattle.std.proofs.lemmas.Bool.{eqb-false}
use Rattle.mir_syntax.specs.declared.types.TyId.{TyId}
use Rattle.mir_syntax.specs.declared.types.ScalarTy.{ScalarTy}
use Rattle.mir_syntax.specs.declared.types.ScalarTy.TheVariants as scalar_ty
use Rattle.mir_syntax.specs.declared.types.Ty.{Ty}
use Rattle.mir_syntax.specs.declared.types.Ty.TheVariants.{Scalar, Tuple, Ref, RefMut, Named}
use Rattle.mir_syntax.specs.Tree.{Tree, scalar, more, ref, ref_mut, named, at_id, at_ids, node, trees_of}
use Rattle.mir_syntax.specs.Table.{IsTable}
use Rattle.mir_syntax.proofs.OneId.{one-id-each}
use Rattle.mir_rules.specs.Same.{same_tree}
use Rattle.mir_rules.specs.Typing.{scalar_of}
use Rattle.mir_validate.specs.Inside.{flagged}
use Rattle.mir_rules.proofs.Same.{same_tree_is, same_tree_refl}

-- ---- tests

pub not_true : (b : Bool) → (b ≡ true → ⊥) → b ≡ false
not_true true h = absurd (h refl)
not_true false h = refl

-- ---- types of the table, by what they aren't

pub other_scalar : (trees : List Tree) (ty : Ty) → ((s : ScalarTy) → ty ≡ Scalar s → ⊥) → scalar_of (node trees ty) ≡ None
other_scalar trees (Scalar s) h = absurd (h s refl)
other_scalar trees (Tuple []) h = refl
other_scalar trees (Tuple (a ∷ others)) h = refl
other_scalar trees (Ref a) h = refl
other_scalar trees (RefMut a) h = refl
other_scalar trees (Named d) h = refl

pub not_scalar : (trees : List Tree) (k : ScalarTy) (ty : Ty) → ((s : ScalarTy) → ty ≡ Scalar s → ⊥) → same_tree (scalar k) (node trees ty) ≡ false
unfolding same_tree
not_scalar trees k (Scalar s) h = absurd (h s refl)
not_scalar trees k (Tuple []) h = refl
not_scalar trees k (Tuple (a ∷ others)) h = refl
not_scalar trees k (Ref a) h = refl
not_scalar trees k (RefMut a) h = refl
not_scalar trees k (Named d) h = refl

pub not_tuple : (trees : List Tree) (t ts : Tree) (ty : Ty) → ((ids : List TyId) → ty ≡ Tuple ids → ⊥) → same_tree (more t ts) (node trees ty) ≡ false
unfolding same_tree
not_tuple trees t ts (Scalar s) h = refl
not_tuple trees t ts (Tuple ids) h = absurd (h ids refl)
not_tuple trees t ts (Ref a) h = refl
not_tuple trees t ts (RefMut a) h = refl
not_tuple trees t ts (Named d) h = refl

pub not_ref : (trees : List Tree) (t : Tree) (ty : Ty) → ((a : TyId) → ty ≡ Ref a → ⊥) → same_tree (ref t) (node trees ty) ≡ false
unfolding same_tree
not_ref trees t (Scalar s) h = refl
not_ref trees t (Tuple []) h = refl
not_ref trees t (Tuple (a ∷ others)) h = refl
not_ref trees t (Ref a) h = absurd (h a refl)
not_ref trees t (RefMut a) h = refl
not_ref trees t (Named d) h = refl

pub not_ref_mut : (trees : List Tree) (t : Tree) (ty : Ty) → ((a : TyId) → ty ≡ RefMut a → ⊥) → same_tree (ref_mut t) (node trees ty) ≡ false
unfolding same_tree
not_ref_mut trees t (Scalar s) h = refl
not_ref_mut trees t (Tuple []) h = refl
not_ref_mut trees t (Tuple (a ∷ others)) h = refl
not_ref_mut trees t (Ref a) h = refl
not_ref_mut trees t (RefMut a) h = absurd (h a refl)
not_ref_mut trees t (Named d) h = refl

pub not_named : (trees : List Tree) (k : ℕ) (ty : Ty) → ((d : ℕ) → ty ≡ Named d → ⊥) → same_tree (named k) (node trees ty) ≡ false
unfolding same_tree
not_named trees k (Scalar s) h = refl
not_named trees k (Tuple []) h = refl
not_named trees k (Tuple (a ∷ others)) h = refl
not_named trees k (Ref a) h = refl
not_named trees k (RefMut a) h = refl
not_named trees k (Named d) h = absurd (h d refl)

-- ---- ids

pub same_ids : (types : List Ty) (a b : TyId) → IsTable types → a.0 < length types → b.0 < length types → same_tree (at_id (trees_of types) a) (at_id (trees_of types) b) ≡ nat_eq a.0 b.0
same_ids types a b table ha hb = go (nat_eq a.0 b.0) refl
  where
    go : (e : Bool) → nat_eq a.0 b.0 ≡ e → same_tree (at_id (trees_of types) a) (at_id (trees_of types) b) ≡ nat_eq a.0 b.0
    go true h =
        let same : a.0 ≡ b.0 = eqb-true a.0 b.0 h in
        let is : a ≡ b = ap (λ n. let id : TyId = record { 0 = n } in id) same in
        rw (h, is) (same_tree_refl (at_id (trees_of types) b))
    go false h =
        rw h (not_true (same_tree (at_id (trees_of types) a) (at_id (trees_of types) b)) (λ e.
        let is : a ≡ b = one-id-each types a b table ha hb (same_tree_is _ _ e) in
        let same : a.0 ≡ b.0 = ap (λ id. id.0) is in
        eqb-false a.0 b.0 h same))

-- ---- a scalar with a flag

and_none : (a : Bool) → (a && false) ≡ false
and_none true = refl
and_none false = refl

and_all : (a : Bool) → (a && true) ≡ a
and_all true = refl
and_all false = refl

pub flag_is : (trees : List Tree) (k : ScalarTy) (v f : TyId) → same_tree (flagged k) (at_ids trees (v ∷ f ∷ [])) ≡ (same_tree (scalar k) (at_id trees v) && same_tree (scalar scalar_ty.Bool) (at_id trees f))
unfolding same_tree
flag_is trees k v f = ap (λ b. same_tree (scalar k) (at_id trees v) && b) (and_all (same_tree (scalar scalar_ty.Bool) (at_id trees f)))

pub not_flag : (trees : List Tree) (k : ScalarTy) (ids : List TyId) → ((a b : TyId) → ids ≡ a ∷ b ∷ [] → ⊥) → same_tree (flagged k) (at_ids trees ids) ≡ false
unfolding same_tree
not_flag trees k [] h = refl
not_flag trees k (a ∷ []) h = and_none (same_tree (scalar k) (at_id trees a))
not_flag trees k (a ∷ (b ∷ [])) h = absurd (h a b refl)
not_flag trees k (a ∷ (b ∷ (d ∷ ids))) h = rw (and_none (same_tree (scalar scalar_ty.Bool) (at_id trees b))) (and_none (same_tree (scalar k) (at_id trees a)))
