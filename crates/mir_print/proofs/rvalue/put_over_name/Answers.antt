use Rattle.mir_text.specs.StatementText.{over_name}
use Rattle.mir_print.proofs.rvalue.put_over_name.Goals as goal

pub returns-in-Add : goal.returns-in-Add
unfolding over_name
returns-in-Add g c =
    rw c.in-Add.is c.put.ensures

pub returns-in-Sub : goal.returns-in-Sub
unfolding over_name
returns-in-Sub g c =
    rw c.in-Sub.is c.put-in-Sub.ensures

pub returns-in-Mul : goal.returns-in-Mul
unfolding over_name
returns-in-Mul g c =
    rw c.in-Mul.is c.put-in-Mul.ensures
