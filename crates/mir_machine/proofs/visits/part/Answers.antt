use Rattle.std.proofs.Common.{subst, sym, IsTrue, rules}
use Rattle.mir_syntax.specs.Parts.{path_formed}
use Rattle.mir_machine.proofs.Visiting.{formed_field}
use Rattle.mir_machine.proofs.visits.part.Goals as goal

pub invariant_of-result : goal.invariant_of-result
invariant_of-result c = record { formed = subst (λ ps. IsTrue (path_formed ps)) (sym c.in_ok-path.ensures) (formed_field c.args.at.now.path c.args.variant c.args.field (search rules)) }
