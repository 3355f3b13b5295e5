-- Types that are the same are equal, and those of one table have one id.
use Rattle.std.proofs.Common.{◌≡◌, ℕ, ◌<◌, nat_eq, Bool, true, false, ◌&&◌, not, List, [], ◌∷◌, length, get_or, refl, sym, ap, ap₂, ◌∙◌, arith, eqb-true, eq-eqb}
use Rattle.mir_syntax.specs.declared.types.IntTy.{IntTy}
use Rattle.mir_syntax.specs.declared.types.IntTy.TheVariants as i
use Rattle.mir_syntax.specs.declared.types.ScalarTy.{ScalarTy}
use Rattle.mir_syntax.specs.declared.types.ScalarTy.TheVariants as s
use Rattle.mir_syntax.specs.declared.types.TyId.{TyId}
use Rattle.mir_syntax.specs.declared.types.Ty.{Ty}
use Rattle.mir_syntax.specs.Tree.{Tree, scalar, empty, more, ref, ref_mut, named, at_id, trees_of}
use Rattle.mir_syntax.specs.Table.{IsTable}
use Rattle.mir_syntax.proofs.OneId.{one-id-each}
use Rattle.mir_syntax.proofs.Bools.{same_tests}
use Rattle.mir_text.specs.Names.{int_number, same_scalar, same_type}

abbrev all_ints : List IntTy
all_ints = i.I8 ∷ i.I16 ∷ i.I32 ∷ i.I64 ∷ i.I128 ∷ i.Isize ∷ i.U8 ∷ i.U16 ∷ i.U32 ∷ i.U64 ∷ i.U128 ∷ i.Usize ∷ []

abbrev int_at : ℕ → IntTy
int_at n = get_or all_ints n i.I8

int_at_number : (t : IntTy) → int_at (int_number t) ≡ t
int_at_number i.I8 = refl
int_at_number i.I16 = refl
int_at_number i.I32 = refl
int_at_number i.I64 = refl
int_at_number i.I128 = refl
int_at_number i.Isize = refl
int_at_number i.U8 = refl
int_at_number i.U16 = refl
int_at_number i.U32 = refl
int_at_number i.U64 = refl
int_at_number i.U128 = refl
int_at_number i.Usize = refl

same_number : (a b : IntTy) → int_number a ≡ int_number b → a ≡ b
same_number a b e = sym (int_at_number a) ∙ ap int_at e ∙ int_at_number b

same_scalar_is : (a b : ScalarTy) → same_scalar a b ≡ true → a ≡ b
same_scalar_is s.Bool s.Bool e = refl
same_scalar_is (s.Int a) (s.Int b) e = ap s.Int (same_number a b (eqb-true (int_number a) (int_number b) e))
same_scalar_is s.Bool (s.Int b) e = absurd cc
same_scalar_is (s.Int a) s.Bool e = absurd cc

same_scalar_refl : (a : ScalarTy) → same_scalar a a ≡ true
same_scalar_refl s.Bool = refl
same_scalar_refl (s.Int a) = eq-eqb (int_number a) (int_number a) refl

and_left : (a b : Bool) → a && b ≡ true → a ≡ true
and_left true b e = refl
and_left false b e = absurd cc

and_right : (a b : Bool) → a && b ≡ true → b ≡ true
and_right true b e = e
and_right false b e = absurd cc

same_type_is : (t u : Tree) → same_type t u ≡ true → t ≡ u
same_type_is (scalar a) (scalar b) e = ap scalar (same_scalar_is a b e)
same_type_is empty empty e = refl
same_type_is (more t ts) (more u us) e =
    ap₂ more (same_type_is t u (and_left (same_type t u) (same_type ts us) e)) (same_type_is ts us (and_right (same_type t u) (same_type ts us) e))
same_type_is (ref t) (ref u) e = ap ref (same_type_is t u e)
same_type_is (ref_mut t) (ref_mut u) e = ap ref_mut (same_type_is t u e)
same_type_is (named d) (named k) e = ap named (eqb-true d k e)
same_type_is t u e = absurd (grind arith)

same_type_refl : (t : Tree) → same_type t t ≡ true
same_type_refl (scalar a) = same_scalar_refl a
same_type_refl empty = refl
same_type_refl (more t ts) = rw (same_type_refl t) (same_type_refl ts)
same_type_refl (ref t) = same_type_refl t
same_type_refl (ref_mut t) = same_type_refl t
same_type_refl (named d) = eq-eqb d d refl

-- ids of a table differ where the types differ that they stand for
pub differ_ids : (types : List Ty) (a b : TyId) → IsTable types → a.0 < length types → b.0 < length types
    → not (nat_eq a.0 b.0) ≡ not (same_type (at_id (trees_of types) a) (at_id (trees_of types) b))
differ_ids types a b table ha hb =
    let t = at_id (trees_of types) a in
    let u = at_id (trees_of types) b in
    ap not
    (same_tests (nat_eq a.0 b.0) (same_type t u)
    (λ e. let one : ℕ → Tree = λ n. get_or (trees_of types) n (scalar s.Bool) in
    ap (same_type t) (sym (ap one (eqb-true a.0 b.0 e))) ∙ same_type_refl t)
    (λ e. eq-eqb a.0 b.0 (ap (λ id. id.0) (one-id-each types a b table ha hb (same_type_is t u e)))))
