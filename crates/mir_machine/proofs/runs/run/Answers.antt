use Rattle.std.proofs.Common.{◌≡◌, ◌∙◌, ◌+◌, sym, nat_lt}
use Rattle.std.proofs.lemmas.Bool.{and_parts}
use Rattle.mir_semantics.specs.Run as runs
use Rattle.mir_machine.specs.Seen.{code_in}
use Rattle.mir_machine.specs.Sound.{goes}
use Rattle.mir_machine.specs.Runs.{entry_in}
use Rattle.mir_machine.proofs.Stepping.{below, next_within, shows_next, shown}
use Rattle.mir_machine.proofs.runs.run.Goals as goal

pub loop-alloc-preserved : goal.loop-alloc-preserved
loop-alloc-preserved c =
    let both = and_parts (goes c.loop-alloc.state.outcome) (nat_lt c.loop-alloc.state.taken c.args.n) (sym c.goes_below.ensures ∙ c.loop-alloc-test.true) in
    let less = below c.loop-alloc.state.taken c.args.n both.1 in
    let counted : c.step.new.state.taken ≡ c.loop-alloc.state.taken + 1 = c.in_ok-step.ensures.counts both.0 in
    record {
      within = next_within c.loop-alloc.state.taken c.step.new.state.taken c.args.n less counted;
      sound = c.step.ensures.sound;
      same = shows_next c.args.program.now (runs.run (code_in c.args.program.now) (entry_in c.args.entry.now) c.args.answers.now c.args.n) c.args.n c.loop-alloc.state c.step.new.state both.0 less c.step.ensures.goes counted c.loop-alloc.invariant.same;
    }

pub returns : goal.returns
returns c =
    shown c.args.program.now (runs.run (code_in c.args.program.now) (entry_in c.args.entry.now) c.args.answers.now c.args.n) c.args.n c.loop-alloc.state c.seen.result c.seen.ensures.outcome c.seen.ensures.trace
    (sym c.goes_below.ensures ∙ c.loop-alloc-test.false) c.loop-alloc.invariant.same
