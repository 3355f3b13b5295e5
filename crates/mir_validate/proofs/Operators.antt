-- What operators and casts make of types that are scalars.
use Rattle.std.proofs.Common.{◌≡◌, Some, None, refl}
use Rattle.std.specs.Bool.{then_some}
use Rattle.mir_syntax.specs.declared.types.ScalarTy.{ScalarTy}
use Rattle.mir_syntax.specs.declared.body.BinOp.{BinOp}
use Rattle.mir_syntax.specs.Tree.{Tree, scalar, empty, more, ref, ref_mut, named}
use Rattle.mir_syntax.specs.Shapes.{◌>>=◌}
use Rattle.mir_rules.specs.Typing.{scalar_of, is_int, takes, made_by, kind_of, binary_ty, cast_ty}
use Rattle.mir_rules.proofs.Terminators.{scalar_of_is}

pub binary_is : (op : BinOp) (t u : Tree) (a b : ScalarTy) → scalar_of t ≡ Some a → scalar_of u ≡ Some b → binary_ty op t u ≡ then_some (takes (kind_of op) a b) (made_by (kind_of op) a)
binary_is op t u a b e f = rw (scalar_of_is t a e, scalar_of_is u b f) refl

pub cast_is : (to t : Tree) (a s : ScalarTy) → scalar_of t ≡ Some a → scalar_of to ≡ Some s → cast_ty to t ≡ then_some (is_int s) to
unfolding ◌>>=◌
cast_is to t a s e f = rw (scalar_of_is t a e, f) refl

pub cast_unfit : (to t : Tree) → scalar_of to ≡ None → cast_ty to t ≡ None
unfolding ◌>>=◌
cast_unfit to (scalar a) f = rw f refl
cast_unfit to empty f = refl
cast_unfit to (more t ts) f = refl
cast_unfit to (ref t) f = refl
cast_unfit to (ref_mut t) f = refl
cast_unfit to (named d) f = refl

pub cast_none : (to t : Tree) → scalar_of t ≡ None → cast_ty to t ≡ None
cast_none to (scalar a) f = absurd cc
cast_none to empty f = refl
cast_none to (more t ts) f = refl
cast_none to (ref t) f = refl
cast_none to (ref_mut t) f = refl
cast_none to (named d) f = refl
