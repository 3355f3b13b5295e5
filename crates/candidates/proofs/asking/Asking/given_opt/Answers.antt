use Rattle.std.proofs.Common.{subst, length, map}
use Rattle.mir_syntax.specs.Drops.{fn_number}
use Rattle.candidates.specs.Walk.{Brings, never_in}
use Rattle.candidates.specs.Comes.{never_of}
use Rattle.candidates.proofs.Asked.{brought_by, opt_comes, opt_came, after_opt}
use Rattle.candidates.proofs.asking.Asking.given_opt.Goals as goal

pub returns-clause-goes_on : goal.returns-clause-goes_on
returns-clause-goes_on c P is of i q p e =
    let a = c.args.self.now in
    let xs = map fn_number c.args.brings.now in
    let b : Brings (never_of P) P.functions a.walk c.bring.new.self xs = brought_by c.args.program.now P of a.walk c.bring.new.self xs (subst (λ fs. Brings (never_in fs) (length fs) a.walk c.bring.new.self xs) c.as_slice.ensures c.in_ok-bring.ensures) in
    after_opt P is c.args.f.0 a c.args.g q i p c.bring.new.self c.enter.new.self (opt_comes P is c.args.f.0 a c.args.g q i p c.bring.new.self xs b e)
    (c.enter.ensures.asks P is of (opt_came P is c.args.f.0 a c.args.g q i p c.bring.new.self c.push.new.self xs b e c.in_ok-push.ensures.ok))
