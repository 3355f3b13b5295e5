-- Whether two types are one.
use Rattle.std.specs.Prelude.{ℕ, Bool, true, false, ◌&&◌, ◌==◌}
use Rattle.mir_syntax.specs.declared.types.IntTy.{IntTy}
use Rattle.mir_syntax.specs.declared.types.IntTy.TheVariants as int_ty
use Rattle.mir_syntax.specs.declared.types.ScalarTy.{ScalarTy}
use Rattle.mir_syntax.specs.declared.types.ScalarTy.TheVariants as scalar_ty
use Rattle.mir_syntax.specs.Tree.{Tree, scalar, empty, more, ref, ref_mut, named}

-- an integer type's place among them
abbrev pub place_of_int : IntTy → ℕ
place_of_int int_ty.I8 = 0
place_of_int int_ty.I16 = 1
place_of_int int_ty.I32 = 2
place_of_int int_ty.I64 = 3
place_of_int int_ty.I128 = 4
place_of_int int_ty.Isize = 5
place_of_int int_ty.U8 = 6
place_of_int int_ty.U16 = 7
place_of_int int_ty.U32 = 8
place_of_int int_ty.U64 = 9
place_of_int int_ty.U128 = 10
place_of_int int_ty.Usize = 11

abbrev pub same_scalar : ScalarTy → ScalarTy → Bool
same_scalar scalar_ty.Bool scalar_ty.Bool = true
same_scalar (scalar_ty.Int a) (scalar_ty.Int b) = place_of_int a == place_of_int b
same_scalar _ _ = false

unfoldable pub same_tree : Tree → Tree → Bool
same_tree (scalar a) (scalar b) = same_scalar a b
same_tree empty empty = true
same_tree (more t ts) (more u us) = same_tree t u && same_tree ts us
same_tree (ref t) (ref u) = same_tree t u
same_tree (ref_mut t) (ref_mut u) = same_tree t u
same_tree (named d) (named e) = d == e
same_tree _ _ = false
