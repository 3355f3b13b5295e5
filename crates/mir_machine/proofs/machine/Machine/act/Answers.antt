use Rattle.std.proofs.Common.{sym}
use Rattle.mir_syntax.specs.Tree.{trees_of}
use Rattle.mir_syntax.specs.Crate.{body_of, block_of}
use Rattle.mir_meaning.proofs.Binds.{gives_same}
use Rattle.mir_machine.specs.Seen.{code_in, state_in}
use Rattle.mir_machine.proofs.Entering.{body_nowhere, body_there}
use Rattle.mir_machine.proofs.Ending.{step_nowhere, step_lost, step_performs, block_nowhere, block_at}
use Rattle.mir_machine.proofs.Whole.{block_is_whole}
use Rattle.mir_machine.proofs.machine.Machine.act.Goals as goal

pub returns-in_default-clause-goes : goal.returns-in_default-clause-goes
returns-in_default-clause-goes c = step_nowhere (code_in c.args.program.now) (state_in c.args.program.now c.args.self.now) (body_nowhere c.args.program.now c.args.self.now.top.function.0 (sym c.in_default.ensures))

pub returns-in_default-get-clause-goes : goal.returns-in_default-get-clause-goes
returns-in_default-get-clause-goes c =
    step_lost (code_in c.args.program.now) (state_in c.args.program.now c.args.self.now) (body_of (trees_of c.args.program.now.types) c.in-Some.function.now.body) (body_there c.args.program.now c.args.self.now.top.function.0 c.in-Some.function.now (sym c.in-Some.ensures))
    (block_nowhere (trees_of c.args.program.now.types) c.in-Some.function.now.body c.args.self.now.top.block (sym c.in_default-get.ensures))

pub perform-requires-clause-whole : goal.perform-requires-clause-whole
perform-requires-clause-whole c = block_is_whole c.args.program.now c.args.self.now.top.function.0 c.args.self.now.top.block c.in-Some.function.now c.in-Some-get.block.now c.requires.formed (sym c.in-Some.ensures) (sym c.in-Some-get.ensures)

pub returns-clause-goes : goal.returns-clause-goes
returns-clause-goes c =
    gives_same _ _ _ _ (step_performs (code_in c.args.program.now) (state_in c.args.program.now c.args.self.now) (body_of (trees_of c.args.program.now.types) c.in-Some.function.now.body) (block_of (trees_of c.args.program.now.types) c.in-Some-get.block.now)
    (body_there c.args.program.now c.args.self.now.top.function.0 c.in-Some.function.now (sym c.in-Some.ensures))
    (block_at (trees_of c.args.program.now.types) c.in-Some.function.now.body c.args.self.now.top.block c.in-Some-get.block.now (sym c.in-Some-get.ensures))) c.perform.ensures.goes
