use Rattle.std.proofs.Common.{sym, ap, ◌∙◌, subst, ℕ, length, map}
use Rattle.mir_syntax.specs.Drops.{fn_number}
use Rattle.candidates.specs.Walk.{IsFresh, Brings, never_in}
use Rattle.candidates.proofs.Asked.{brought_by}
use Rattle.candidates.proofs.Ended.{started}
use Rattle.candidates.proofs.asking.Asking.new.Goals as goal

pub returns-clause-asks : goal.returns-clause-asks
returns-clause-asks c P is of f lt e =
    let w = c.in_ok-walk.walk in
    let xs = map fn_number c.args.callees.now in
    let fresh : IsFresh P.functions w = subst (λ (n : ℕ). IsFresh n w) (ap length c.as_slice-functions.ensures ∙ sym of.functions) c.in_ok-walk.ensures in
    let b = brought_by c.args.program.now P of w c.bring.new.self xs (subst (λ fs. Brings (never_in fs) (length fs) w c.bring.new.self xs) c.as_slice-functions.ensures c.in_ok-bring.ensures) in
    started P is f lt w c.bring.new.self xs e fresh b c.new-2.result c.new-2.ensures
