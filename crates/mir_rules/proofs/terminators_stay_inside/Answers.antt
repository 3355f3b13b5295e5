use Rattle.std.proofs.Common.{◌≢◌, arith}
use Rattle.mir_rules.proofs.Terminators.{not_to_start}
use Rattle.mir_rules.proofs.ValidCrates.{body_formed_at, term_at, target_there}
use Rattle.mir_rules.proofs.terminators_stay_inside.Goals as goal

pub returns : goal.returns
returns c C valid f j i n g k e e2 e3 =
    let away : n ≢ 0 = not_to_start k.term i n (term_at C valid f j g k e e2).targets e3 in
    (omega (arith, away), target_there C g.body (body_formed_at C valid f g e) j i n k e2 e3)
