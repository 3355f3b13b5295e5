use Rattle.std.proofs.lemmas.Result.{IfOk-weaker}
use Rattle.mir_syntax.specs.Tree.{trees_of}
use Rattle.mir_syntax.specs.Crate.{crate_of, body_of}
use Rattle.mir_syntax.specs.Shapes.{shapes_of}
use Rattle.dead_store.proofs.equal.Once.{pruned_is}
use Rattle.dead_store.proofs.rounds.pruned.Goals as goal

pub returns-clause-answer : goal.returns-clause-answer
returns-clause-answer c =
    let trees = trees_of c.args.program.now.types in
    let D = shapes_of (crate_of c.args.program.now) in
    IfOk-weaker c.pruned_once-3.result _ _ (λ left h. pruned_is D (body_of trees c.args.body) (body_of trees left) (body_of trees c.in_ok-once.once, (body_of trees c.in_ok-twice.twice, c.in_ok-once.ensures.pruned, c.in_ok-twice.ensures.pruned, h))) c.pruned_once-3.ensures.pruned
