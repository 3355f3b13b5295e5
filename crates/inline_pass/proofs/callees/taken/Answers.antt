use Rattle.std.proofs.Common.{refl, sym, ap, ◌∙◌, true, false, option_map, option_copied}
use Rattle.mir_syntax.specs.Tree.{trees_of}
use Rattle.mir_syntax.specs.Crate.{crate_of, body_of}
use Rattle.inline_pass.proofs.equal.Taking.{no_function, no_body, taken_if}
use Rattle.inline_pass.proofs.callees.taken.Goals as goal

pub returns-in_err-function-clause-taken : goal.returns-in_err-function-clause-taken
returns-in_err-function-clause-taken g c =
    let trees = trees_of c.args.program.now.types in
    ap (λ o. option_map (body_of trees) (option_copied o)) c.from_residual.ensures
    ∙ no_function trees c.args.program.now.functions (crate_of c.args.program.now) refl c.args.large (g.C.CalleeBodies.lent c.args.bodies.now) (g.C.CalleeBodies.qualifies c.args.bodies.now) c.args.g.0 c.in_err-function.ensures

pub returns-in_err-body-clause-taken : goal.returns-in_err-body-clause-taken
returns-in_err-body-clause-taken g c =
    let trees = trees_of c.args.program.now.types in
    ap (λ o. option_map (body_of trees) (option_copied o)) c.from_residual-in_err-body.ensures
    ∙ no_body trees c.args.program.now.functions (crate_of c.args.program.now) refl c.args.large (g.C.CalleeBodies.lent c.args.bodies.now) (g.C.CalleeBodies.qualifies c.args.bodies.now) c.args.g.0 c.in_ok-function.function.now c.in_ok-function.ensures c.in_err-body.ensures

pub returns-then-takes-clause-taken : goal.returns-then-takes-clause-taken
returns-then-takes-clause-taken g c =
    let trees = trees_of c.args.program.now.types in
    taken_if trees c.args.program.now.functions (crate_of c.args.program.now) refl c.args.large (g.C.CalleeBodies.lent c.args.bodies.now) (g.C.CalleeBodies.qualifies c.args.bodies.now) c.args.g.0 c.in_ok-function.function.now c.in_ok-function.ensures c.in_ok-body.body.now c.in_ok-body.ensures c.qualif.result true c.qualif.ensures (sym c.if-takes.true ∙ c.takes.ensures trees)

pub returns-else-takes-clause-taken : goal.returns-else-takes-clause-taken
returns-else-takes-clause-taken g c =
    let trees = trees_of c.args.program.now.types in
    taken_if trees c.args.program.now.functions (crate_of c.args.program.now) refl c.args.large (g.C.CalleeBodies.lent c.args.bodies.now) (g.C.CalleeBodies.qualifies c.args.bodies.now) c.args.g.0 c.in_ok-function.function.now c.in_ok-function.ensures c.in_ok-body.body.now c.in_ok-body.ensures c.qualif.result false c.qualif.ensures (sym c.if-takes.false ∙ c.takes.ensures trees)
