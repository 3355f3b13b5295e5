use Rattle.std.proofs.Common.{◌∙◌, ◌+◌, sym, ap, Some, get_or, drop, arith}
use Rattle.mir_meaning.specs.Programs.{shapes_in}
use Rattle.mir_meaning.proofs.Values.{view_num}
use Rattle.mir_meaning.proofs.Binds.{gives_same}
use Rattle.mir_machine.specs.Seen.{dest_in, state_in}
use Rattle.mir_machine.specs.Ends.{told}
use Rattle.mir_machine.proofs.Ending.{asked_none, asked_one, none_to_ask, next_to_ask}
use Rattle.mir_machine.proofs.machine.Machine.answer.Goals as goal

pub returns-then-answers-self-clause-goes : goal.returns-then-answers-self-clause-goes
returns-then-answers-self-clause-goes c =
    asked_none (shapes_in c.args.program.now) (state_in c.args.program.now c.args.self.now) (dest_in c.args.program.now c.args.dest.now) c.args.out.0 c.args.args c.args.ty
    (none_to_ask c.args.self.now.answers c.as_slice-answers.result.now c.args.self.now.asked c.as_slice-answers.ensures (grind (arith, c.if-answers-self.true)))

pub returns-clause-goes : goal.returns-clause-goes
returns-clause-goes c =
    gives_same _ _ _ _ (asked_one (shapes_in c.args.program.now) (state_in c.args.program.now c.args.self.now) (dest_in c.args.program.now c.args.dest.now) c.args.out.0 c.args.args c.args.ty (get_or c.as_slice-answers.result.now c.args.self.now.asked 0) c.wrap-bits.result (drop (c.args.self.now.asked + 1) c.args.self.now.answers)
    (next_to_ask c.args.self.now.answers c.as_slice-answers.result.now c.args.self.now.asked c.as_slice-answers.ensures (grind (arith, c.if-answers-self.false))) c.wrap-bits.ensures
    ∙ ap (told (shapes_in c.args.program.now) (state_in c.args.program.now (record c.args.self.now { asked = c.args.self.now.asked + 1 })) (record { outside = c.args.out.0; args = c.args.args; answer = Some c.wrap-bits.result }) (dest_in c.args.program.now c.args.dest.now)) (sym (view_num c.wrap-bits.result))) c.told.ensures.goes
