use Rattle.std.proofs.Common.{◌∙◌, sym, ap, map, None}
use Rattle.mir_syntax.specs.Tree.{trees_of}
use Rattle.mir_syntax.specs.Crate.{outside_of}
use Rattle.mir_semantics.specs.Values.{listed}
use Rattle.mir_meaning.specs.Programs.{shapes_in, type_in}
use Rattle.mir_meaning.specs.Views.{value_of}
use Rattle.mir_meaning.proofs.Values.{view_parts}
use Rattle.mir_meaning.proofs.Binds.{stopped, gives_same}
use Rattle.mir_machine.specs.Seen.{code_in, dest_in, state_in}
use Rattle.mir_machine.specs.Ends.{asked, told}
use Rattle.mir_machine.proofs.Ending.{outside_gone, outside_lost, outside_asks, outside_nowhere, outside_there, scalar_is, asked_unit}
use Rattle.mir_machine.proofs.machine.Machine.ask.Goals as goal

pub returns-in_default-clause-goes : goal.returns-in_default-clause-goes
returns-in_default-clause-goes c =
    outside_gone (code_in c.args.program.now) (state_in c.args.program.now c.args.self.now) (dest_in c.args.program.now c.args.dest.now) c.args.out.0 (map value_of c.args.args.now) (outside_nowhere c.args.program.now c.args.out.0 (sym c.in_default.ensures))

pub returns-in_err-args-clause-goes : goal.returns-in_err-args-clause-goes
returns-in_err-args-clause-goes c =
    stopped c.in_err-args.field-0.0 c.numbers_in.result c.from_residual.result _ _ _ _ c.in_err-args.was c.from_residual.ensures.1 c.numbers_in.ensures
    (outside_lost (code_in c.args.program.now) (state_in c.args.program.now c.args.self.now) (dest_in c.args.program.now c.args.dest.now) c.args.out.0 (map value_of c.args.args.now) (outside_of (trees_of c.args.program.now.types) c.in-Some.outside.now) (outside_there c.args.program.now c.args.out.0 c.in-Some.outside.now (sym c.in-Some.ensures)))

pub returns-in-Some-scalar_of-clause-goes : goal.returns-in-Some-scalar_of-clause-goes
returns-in-Some-scalar_of-clause-goes c =
    gives_same _ _ _ _ (outside_asks (code_in c.args.program.now) (state_in c.args.program.now c.args.self.now) (dest_in c.args.program.now c.args.dest.now) c.args.out.0 (map value_of c.args.args.now) c.in_ok-args.args (outside_of (trees_of c.args.program.now.types) c.in-Some.outside.now)
    (outside_there c.args.program.now c.args.out.0 c.in-Some.outside.now (sym c.in-Some.ensures)) c.in_ok-args.ensures
    ∙ ap (asked (shapes_in c.args.program.now) (state_in c.args.program.now c.args.self.now) (dest_in c.args.program.now c.args.dest.now) c.args.out.0 c.in_ok-args.args) (scalar_is (type_in c.args.program.now c.in-Some.outside.now.result) c.in-Some-scalar_of.ty (sym c.in-Some-scalar_of.ensures))) c.answer.ensures.goes

pub returns-in-None-clause-goes : goal.returns-in-None-clause-goes
returns-in-None-clause-goes c =
    gives_same _ _ _ _ (outside_asks (code_in c.args.program.now) (state_in c.args.program.now c.args.self.now) (dest_in c.args.program.now c.args.dest.now) c.args.out.0 (map value_of c.args.args.now) c.in_ok-args.args (outside_of (trees_of c.args.program.now.types) c.in-Some.outside.now)
    (outside_there c.args.program.now c.args.out.0 c.in-Some.outside.now (sym c.in-Some.ensures)) c.in_ok-args.ensures
    ∙ (asked_unit (shapes_in c.args.program.now) (state_in c.args.program.now c.args.self.now) (dest_in c.args.program.now c.args.dest.now) c.args.out.0 c.in_ok-args.args (type_in c.args.program.now c.in-Some.outside.now.result) (sym c.in-None.ensures)
    ∙ ap (told (shapes_in c.args.program.now) (state_in c.args.program.now c.args.self.now) (record { outside = c.args.out.0; args = c.in_ok-args.args; answer = None }) (dest_in c.args.program.now c.args.dest.now)) (sym (view_parts c.new.result ∙ ap (λ l. listed (map value_of l)) c.new.ensures)))) c.told.ensures.goes
