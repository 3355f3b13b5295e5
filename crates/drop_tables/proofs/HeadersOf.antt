-- Headers of outside functions and of destructors.
use Rattle.std.proofs.Common.{◌≡◌, ℕ, zero, suc, true, false, ◌||◌, nat_eq, List, [], ◌∷◌, map, length, slice_get, Some, None, refl, sym, arith, eqb-true}
use Rattle.std.proofs.lemmas.Bool.{false_from_ne_true}
use Rattle.mir_syntax.specs.declared.types.TyId.{TyId}
use Rattle.mir_syntax.specs.declared.types.ScalarTy.{ScalarTy}
use Rattle.mir_syntax.specs.declared.types.Ty.{Ty}
use Rattle.mir_syntax.specs.declared.types.Ty.TheVariants.{Scalar, Tuple, Ref, RefMut, Named}
use Rattle.mir_syntax.specs.Tree.{Tree, scalar, empty, more, ref, ref_mut, named, at_id, at_ids, node}
use Rattle.mir_rules.specs.Same.{same_tree}
use Rattle.mir_rules.specs.DefinitionRules.{is_scalar, is_scalar_or_unit, dropped_by_args, dropped_by_locals}
use Rattle.drop_tables.specs.Headers.{dropped_definition}

pub not_unit : (trees : List Tree) (ty : Ty) → ((ids : List TyId) → ty ≡ Tuple ids → ⊥) → same_tree empty (node trees ty) ≡ false
unfolding same_tree
not_unit trees (Scalar s) h = refl
not_unit trees (Tuple ids) h = absurd (h ids refl)
not_unit trees (Ref a) h = refl
not_unit trees (RefMut a) h = refl
not_unit trees (Named d) h = refl

pub unit_is : (trees : List Tree) (ids : List TyId) → same_tree empty (at_ids trees ids) ≡ nat_eq (length ids) 0
unfolding same_tree
unit_is trees [] = refl
unit_is trees (id ∷ ids) = sym (false_from_ne_true (nat_eq (length (id ∷ ids)) 0) (λ e. absurd (omega (arith, eqb-true (length (id ∷ ids)) 0 e))))

pub scalar_not : (trees : List Tree) (ty : Ty) → ((s : ScalarTy) → ty ≡ Scalar s → ⊥) → is_scalar (node trees ty) ≡ false
scalar_not trees (Scalar s) h = absurd (h s refl)
scalar_not trees (Tuple []) h = refl
scalar_not trees (Tuple (a ∷ others)) h = refl
scalar_not trees (Ref a) h = refl
scalar_not trees (RefMut a) h = refl
scalar_not trees (Named d) h = refl

pub scalar_or_unit : (t : Tree) → is_scalar_or_unit t ≡ (is_scalar t || same_tree empty t)
unfolding same_tree
scalar_or_unit (scalar s) = refl
scalar_or_unit empty = refl
scalar_or_unit (more t ts) = refl
scalar_or_unit (ref t) = refl
scalar_or_unit (ref_mut t) = refl
scalar_or_unit (named d) = refl

pub dropped_not : (trees : List Tree) (ty : Ty) → ((a : TyId) → ty ≡ RefMut a → ⊥) → dropped_definition (node trees ty) ≡ None
dropped_not trees (Scalar s) h = refl
dropped_not trees (Tuple []) h = refl
dropped_not trees (Tuple (a ∷ others)) h = refl
dropped_not trees (Ref a) h = refl
dropped_not trees (RefMut a) h = absurd (h a refl)
dropped_not trees (Named d) h = refl

pub dropped_other : (trees : List Tree) (ty : Ty) → ((d : ℕ) → ty ≡ Named d → ⊥) → dropped_definition (ref_mut (node trees ty)) ≡ None
dropped_other trees (Scalar s) h = refl
dropped_other trees (Tuple []) h = refl
dropped_other trees (Tuple (a ∷ others)) h = refl
dropped_other trees (Ref a) h = refl
dropped_other trees (RefMut a) h = refl
dropped_other trees (Named d) h = absurd (h d refl)

-- ---- a header, local by local

empty_is : (t : Tree) → same_tree empty t ≡ true → t ≡ empty
unfolding same_tree
empty_is (scalar s) h = absurd cc
empty_is empty h = refl
empty_is (more t ts) h = absurd cc
empty_is (ref t) h = absurd cc
empty_is (ref_mut t) h = absurd cc
empty_is (named d) h = absurd cc

after_unit : (u : Tree) (others : List Tree) → dropped_definition u ≡ dropped_by_locals (empty ∷ u ∷ others)
after_unit (scalar s) others = refl
after_unit empty others = refl
after_unit (more t ts) others = refl
after_unit (ref t) others = refl
after_unit (ref_mut (scalar s)) others = refl
after_unit (ref_mut empty) others = refl
after_unit (ref_mut (more t ts)) others = refl
after_unit (ref_mut (ref t)) others = refl
after_unit (ref_mut (ref_mut t)) others = refl
after_unit (ref_mut (named d)) others = refl
after_unit (named d) others = refl

after_other : (t : Tree) (others : List Tree) → same_tree empty t ≡ false → None ≡ dropped_by_locals (t ∷ others)
unfolding same_tree
after_other (scalar s) others h = refl
after_other empty others h = absurd cc
after_other (more t ts) others h = refl
after_other (ref t) others h = refl
after_other (ref_mut t) others h = refl
after_other (named d) others h = refl

module _ (trees : List Tree) where
  pub no_result : (ids : List TyId) → None ≡ slice_get ids 0 → None ≡ dropped_by_args 1 (map (at_id trees) ids)
  no_result [] h = refl
  no_result (a ∷ ids) h = absurd cc

  pub no_argument : (ids : List TyId) → None ≡ slice_get ids 1 → None ≡ dropped_by_args 1 (map (at_id trees) ids)
  no_argument [] h = refl
  no_argument (a ∷ []) h = alone (at_id trees a)
    where
      alone : (t : Tree) → None ≡ dropped_by_locals (t ∷ [])
      alone (scalar s) = refl
      alone empty = refl
      alone (more t ts) = refl
      alone (ref t) = refl
      alone (ref_mut t) = refl
      alone (named d) = refl
  no_argument (a ∷ (b ∷ ids)) h = absurd cc

  pub unit_header : (ids : List TyId) (r a : TyId) → Some r ≡ slice_get ids 0 → Some a ≡ slice_get ids 1 → same_tree empty (at_id trees r) ≡ true → dropped_definition (at_id trees a) ≡ dropped_by_args 1 (map (at_id trees) ids)
  unit_header [] r a e f h = absurd cc
  unit_header (x ∷ []) r a e f h = absurd cc
  unit_header (x ∷ (y ∷ ids)) r a e f h =
      let first : x ≡ r = cc in
      let second : y ≡ a = cc in
      rw (first, second, empty_is (at_id trees r) h) (after_unit (at_id trees a) (map (at_id trees) ids))

  pub other_header : (ids : List TyId) (r : TyId) → Some r ≡ slice_get ids 0 → same_tree empty (at_id trees r) ≡ false → None ≡ dropped_by_args 1 (map (at_id trees) ids)
  other_header [] r e h = refl
  other_header (x ∷ ids) r e h =
      let first : x ≡ r = cc in
      rw first (after_other (at_id trees r) (map (at_id trees) ids) h)

pub other_count : (n : ℕ) (locals : List Tree) → (n ≡ 1 → ⊥) → None ≡ dropped_by_args n locals
other_count zero locals h = refl
other_count (suc zero) locals h = absurd (h refl)
other_count (suc (suc n)) locals h = refl
