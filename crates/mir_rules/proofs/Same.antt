-- The test of two types is their equality.
use Rattle.std.proofs.Common.{◌≡◌, refl, sym, ap, ap₂, ◌∙◌, ℕ, true, List, [], ◌∷◌, get_or, arith}
use Rattle.std.proofs.Common.{eqb-true, eq-eqb}
use Rattle.mir_syntax.specs.declared.types.IntTy.{IntTy}
use Rattle.mir_syntax.specs.declared.types.IntTy.TheVariants as int_ty
use Rattle.mir_syntax.specs.declared.types.ScalarTy.{ScalarTy}
use Rattle.mir_syntax.specs.declared.types.ScalarTy.TheVariants as scalar_ty
use Rattle.mir_syntax.specs.Tree.{Tree, scalar, empty, more, ref, ref_mut, named}
use Rattle.mir_rules.specs.Same.{place_of_int, same_scalar, same_tree}
use Rattle.mir_rules.proofs.Lists.{and_true-left, and_true-right}

abbrev all_ints : List IntTy
all_ints = int_ty.I8 ∷ int_ty.I16 ∷ int_ty.I32 ∷ int_ty.I64 ∷ int_ty.I128 ∷ int_ty.Isize ∷ int_ty.U8 ∷ int_ty.U16 ∷ int_ty.U32 ∷ int_ty.U64 ∷ int_ty.U128 ∷ int_ty.Usize ∷ []

abbrev int_at : ℕ → IntTy
int_at n = get_or all_ints n int_ty.I8

int_at_place : (t : IntTy) → int_at (place_of_int t) ≡ t
int_at_place int_ty.I8 = refl
int_at_place int_ty.I16 = refl
int_at_place int_ty.I32 = refl
int_at_place int_ty.I64 = refl
int_at_place int_ty.I128 = refl
int_at_place int_ty.Isize = refl
int_at_place int_ty.U8 = refl
int_at_place int_ty.U16 = refl
int_at_place int_ty.U32 = refl
int_at_place int_ty.U64 = refl
int_at_place int_ty.U128 = refl
int_at_place int_ty.Usize = refl

same_place : (a b : IntTy) → place_of_int a ≡ place_of_int b → a ≡ b
same_place a b e = sym (int_at_place a) ∙ ap int_at e ∙ int_at_place b

pub same_scalar_is : (a b : ScalarTy) → same_scalar a b ≡ true → a ≡ b
same_scalar_is scalar_ty.Bool scalar_ty.Bool e = refl
same_scalar_is (scalar_ty.Int a) (scalar_ty.Int b) e = ap scalar_ty.Int (same_place a b (eqb-true (place_of_int a) (place_of_int b) e))
same_scalar_is scalar_ty.Bool (scalar_ty.Int b) e = absurd (grind arith)
same_scalar_is (scalar_ty.Int a) scalar_ty.Bool e = absurd (grind arith)

pub same_scalar_refl : (a : ScalarTy) → same_scalar a a ≡ true
same_scalar_refl scalar_ty.Bool = refl
same_scalar_refl (scalar_ty.Int a) = eq-eqb (place_of_int a) (place_of_int a) refl

pub same_tree_is : (t u : Tree) → same_tree t u ≡ true → t ≡ u
unfolding same_tree
same_tree_is (scalar a) (scalar b) e = ap scalar (same_scalar_is a b e)
same_tree_is empty empty e = refl
same_tree_is (more t ts) (more u us) e =
    ap₂ more (same_tree_is t u (and_true-left (same_tree t u) (same_tree ts us) e)) (same_tree_is ts us (and_true-right (same_tree t u) (same_tree ts us) e))
same_tree_is (ref t) (ref u) e = ap ref (same_tree_is t u e)
same_tree_is (ref_mut t) (ref_mut u) e = ap ref_mut (same_tree_is t u e)
same_tree_is (named d) (named k) e = ap named (eqb-true d k e)
same_tree_is t u e = absurd (grind arith)

pub same_tree_refl : (t : Tree) → same_tree t t ≡ true
unfolding same_tree
same_tree_refl (scalar a) = same_scalar_refl a
same_tree_refl empty = refl
same_tree_refl (more t ts) = rw (same_tree_refl t) (same_tree_refl ts)
same_tree_refl (ref t) = same_tree_refl t
same_tree_refl (ref_mut t) = same_tree_refl t
same_tree_refl (named d) = eq-eqb d d refl
