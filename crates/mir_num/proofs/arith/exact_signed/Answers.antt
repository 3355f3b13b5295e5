use Rattle.std.specs.Prelude.{◌+ℤ◌, ◌-ℤ◌, ◌*ℤ◌, FitsSigned, SomeIff}
use Rattle.std.specs.Int.{w128}
use Rattle.mir_num.specs.Numbers.{exact}
use Rattle.mir_num.proofs.Wrapped.{at_values}
use Rattle.mir_num.proofs.arith.exact_signed.Goals as goal

pub returns-in-Add : goal.returns-in-Add
unfolding exact
returns-in-Add c = rw c.in-Add.is (at_values (λ x y. SomeIff c.checked_add.result (FitsSigned w128 (x +ℤ y)) (x +ℤ y)) c.args.x c.args.y c.ranges.x c.ranges.y c.checked_add.ensures)

pub returns-in-Sub : goal.returns-in-Sub
unfolding exact
returns-in-Sub c = rw c.in-Sub.is (at_values (λ x y. SomeIff c.checked_sub.result (FitsSigned w128 (x -ℤ y)) (x -ℤ y)) c.args.x c.args.y c.ranges.x c.ranges.y c.checked_sub.ensures)

pub returns-in-Mul : goal.returns-in-Mul
unfolding exact
returns-in-Mul c = rw c.in-Mul.is (at_values (λ x y. SomeIff c.checked_mul.result (FitsSigned w128 (x *ℤ y)) (x *ℤ y)) c.args.x c.args.y c.ranges.x c.ranges.y c.checked_mul.ensures)
