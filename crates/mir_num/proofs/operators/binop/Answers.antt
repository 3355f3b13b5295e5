use Rattle.std.proofs.Common.{◌∙◌, ap, ap₂, sym, ◌*◌, ◌^◌, nat_eq, Some}
use Rattle.std.specs.Prelude.{not}
use Rattle.std.specs.Int.{int_shr}
use Rattle.mir_num.specs.Numbers.{wrap, integer_of, bits_of, exact, flag, binop}
use Rattle.mir_num.proofs.Patterns.{wrap_of_rest}
use Rattle.mir_num.proofs.Wrapped.{le_not_lt}
use Rattle.mir_num.proofs.operators.binop.Goals as goal

pub returns-in-Add : goal.returns-in-Add
unfolding binop exact
returns-in-Add c = rw c.in-Add.is (ap Some c.wrapping.ensures)

pub returns-in-Sub : goal.returns-in-Sub
unfolding binop exact
returns-in-Sub c = rw c.in-Sub.is (ap Some c.wrapping-in-Sub.ensures)

pub returns-in-Mul : goal.returns-in-Mul
unfolding binop exact
returns-in-Mul c = rw c.in-Mul.is (ap Some c.wrapping-in-Mul.ensures)

pub returns-in-Div : goal.returns-in-Div
unfolding binop exact
returns-in-Div c = rw c.in-Div.is (c.quotient.ensures)

pub returns-in-Rem : goal.returns-in-Rem
unfolding binop exact
returns-in-Rem c = rw c.in-Rem.is (c.remainder.ensures)

pub returns-in-BitXor : goal.returns-in-BitXor
unfolding binop exact
returns-in-BitXor c = rw c.in-BitXor.is (ap Some c.wrap.ensures)

pub returns-in-BitAnd : goal.returns-in-BitAnd
unfolding binop exact
returns-in-BitAnd c = rw c.in-BitAnd.is (ap Some c.wrap-in-BitAnd.ensures)

pub returns-in-BitOr : goal.returns-in-BitOr
unfolding binop exact
returns-in-BitOr c = rw c.in-BitOr.is (ap Some c.wrap-in-BitOr.ensures)

pub returns-in-Shl : goal.returns-in-Shl
unfolding binop exact
returns-in-Shl c = rw c.in-Shl.is (ap Some (c.wrap-in-Shl.ensures ∙ wrap_of_rest c.args.ty (c.args.a * 2 ^ c.amount.result) ∙ ap (λ n. wrap c.args.ty (c.args.a * 2 ^ n)) c.amount.ensures))

pub returns-in-Shr : goal.returns-in-Shr
unfolding binop exact
returns-in-Shr c = rw c.in-Shr.is (ap Some (c.shifted_right.ensures ∙ ap (λ n. bits_of c.args.ty (int_shr (integer_of c.args.ty c.args.a) n)) c.amount-in-Shr.ensures))

pub returns-in-Eq : goal.returns-in-Eq
unfolding binop exact
returns-in-Eq c = rw c.in-Eq.is (ap Some (c.flag.ensures ∙ ap₂ (λ x y. flag (nat_eq x y)) c.wrap-in-Eq.ensures c.wrap-in-Eq-2.ensures))

pub returns-in-Ne : goal.returns-in-Ne
unfolding binop exact
returns-in-Ne c = rw c.in-Ne.is (ap Some (c.flag-in-Ne.ensures ∙ ap₂ (λ x y. flag (not (nat_eq x y))) c.wrap-in-Ne.ensures c.wrap-in-Ne-2.ensures))

pub returns-in-Lt : goal.returns-in-Lt
unfolding binop exact
returns-in-Lt c = rw c.in-Lt.is (ap Some (c.flag-in-Lt.ensures ∙ ap flag c.less.ensures))

pub returns-in-Le : goal.returns-in-Le
unfolding binop exact
returns-in-Le c = rw c.in-Le.is (ap Some (c.flag-in-Le.ensures ∙ ap (λ x. flag (not x)) c.less-in-Le.ensures ∙ ap flag (sym (le_not_lt (integer_of c.args.ty c.args.a) (integer_of c.args.ty c.args.b)))))

pub returns-in-Gt : goal.returns-in-Gt
unfolding binop exact
returns-in-Gt c = rw c.in-Gt.is (ap Some (c.flag-in-Gt.ensures ∙ ap flag c.less-in-Gt.ensures))

pub returns-in-Ge : goal.returns-in-Ge
unfolding binop exact
returns-in-Ge c = rw c.in-Ge.is (ap Some (c.flag-in-Ge.ensures ∙ ap (λ x. flag (not x)) c.less-in-Ge.ensures ∙ ap flag (sym (le_not_lt (integer_of c.args.ty c.args.b) (integer_of c.args.ty c.args.a)))))

pub returns-in-AddUnchecked : goal.returns-in-AddUnchecked
unfolding binop exact
returns-in-AddUnchecked c = rw c.in-AddUnchecked.is (c.checked.ensures)

pub returns-in-SubUnchecked : goal.returns-in-SubUnchecked
unfolding binop exact
returns-in-SubUnchecked c = rw c.in-SubUnchecked.is (c.checked-in-SubUnchecked.ensures)

pub returns-in-MulUnchecked : goal.returns-in-MulUnchecked
unfolding binop exact
returns-in-MulUnchecked c = rw c.in-MulUnchecked.is (c.checked-in-MulUnchecked.ensures)
