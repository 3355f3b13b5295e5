use Rattle.std.proofs.Common.{true, false, sym, ◌∙◌}
use Rattle.mir_syntax.specs.Crate.{crate_of}
use Rattle.mir_syntax.specs.Tree.{trees_of}
use Rattle.mir_validate.specs.Inside.{shapes, local_types}
use Rattle.mir_validate.proofs.TermCodes.{call_args, call_result}
use Rattle.mir_validate.proofs.inside.Inside.call_code.Goals as goal

pub returns-then-not-takes : goal.returns-then-not-takes
returns-then-not-takes c =
    let p = c.args.self.now.program.now in
    let trees = trees_of p.types in
    let locals = local_types p c.args.self.now.body.now in
    call_args (crate_of p) (shapes p) locals c.args.callee c.args.args.now c.args.place.now c.requires.callee c.requires.args_typed c.requires.typed (sym c.if-not-takes.true ∙ c.takes.ensures)

pub returns-then-not-returns_into : goal.returns-then-not-returns_into
returns-then-not-returns_into c =
    let p = c.args.self.now.program.now in
    let trees = trees_of p.types in
    let locals = local_types p c.args.self.now.body.now in
    call_result (crate_of p) (shapes p) locals c.args.callee c.args.args.now c.args.place.now c.requires.callee c.requires.args_typed c.requires.typed false (sym c.if-not-takes.false ∙ c.takes.ensures) (sym c.if-not-returns_into.true ∙ c.returns_into.ensures)

pub returns-else-not-returns_into : goal.returns-else-not-returns_into
returns-else-not-returns_into c =
    let p = c.args.self.now.program.now in
    let trees = trees_of p.types in
    let locals = local_types p c.args.self.now.body.now in
    call_result (crate_of p) (shapes p) locals c.args.callee c.args.args.now c.args.place.now c.requires.callee c.requires.args_typed c.requires.typed true (sym c.if-not-takes.false ∙ c.takes.ensures) (sym c.if-not-returns_into.false ∙ c.returns_into.ensures)
