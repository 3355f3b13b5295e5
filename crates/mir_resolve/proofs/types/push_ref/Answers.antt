use Rattle.std.proofs.Common.{◌∙◌, ap, sym}
use Rattle.mir_syntax.specs.Tree.{trees_of}
use Rattle.mir_resolve.specs.Types.{ref_told, stack_in}
use Rattle.mir_resolve.proofs.TypeSteps.{ref-read, on_ok-then}
use Rattle.mir_resolve.proofs.types.push_ref.Goals as goal

pub returns-in-Some-clause-read : goal.returns-in-Some-clause-read
returns-in-Some-clause-read c =
    let trees = trees_of c.args.program.now.types in
    on_ok-then c.push.result _ _ _ c.push.ensures.read
    (rw c.ref_ty.ensures (ref-read trees c.args.mutable c.in-Some.read c.pop.new.self)
    ∙ ap (λ s. ref_told c.args.mutable (stack_in trees s)) (sym c.in-Some.ensures))
