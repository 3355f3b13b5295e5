use Rattle.std.proofs.Common.{◌≡◌, ◌∙◌, ◌+◌, refl, sym, subst}
use Rattle.std.specs.Prelude.{Result, Ok, OnOk}
use Rattle.mir_syntax.specs.declared.OutOfMemory.{OutOfMemory}
use Rattle.mir_machine.specs.declared.state.Stepped.{Stepped}
use Rattle.mir_machine.proofs.Stepping.{sound_framed, sound_next}
use Rattle.mir_machine.proofs.steps.step.Goals as goal

pub returns-in_default-clause-answers : goal.returns-in_default-clause-answers
returns-in_default-clause-answers c = c.stepped-in_default.ensures c.args.program.now

pub returns-in_default-clause-counts : goal.returns-in_default-clause-counts
returns-in_default-clause-counts c = λ e. subst (λ (r : Result Stepped OutOfMemory). OnOk r (c.args.state.now.taken ≡ c.args.state.now.taken + 1)) (sym (c.stepped-in_default.ensures c.args.program.now)) tt

pub returns-clause-sound : goal.returns-clause-sound
returns-clause-sound c =
    let sound = sound_framed c.args.state.now.machine c.args.state.now.taken c.args.state.now.outcome (sym c.is_going.ensures ∙ c.if-not-is_going.false) c.requires.sound in
    sound_next c.args.program.now c.args.state.now.machine c.advance.new.self c.args.state.now.taken (c.args.state.now.taken + 1) (Ok c.in-Ok.outcome) c.in-Ok.ensures sound.0 sound.1 (λ _. refl)
