use Rattle.std.proofs.Common.{◌∙◌, [], ap, sym}
use Rattle.mir_syntax.specs.Tree.{trees_of}
use Rattle.mir_resolve.specs.Types.{stack_in, top_told}
use Rattle.mir_resolve.proofs.TypeSteps.{piled-push}
use Rattle.mir_resolve.proofs.types.top.Goals as goal

pub returns-in-Some-clause-read : goal.returns-in-Some-clause-read
returns-in-Some-clause-read c =
    let trees = trees_of c.args.program.now.types in
    sym (ap (λ s. top_told (stack_in trees s)) c.in-Some.ensures ∙ ap top_told (piled-push trees c.pop.new.self c.in-Some.read []))
