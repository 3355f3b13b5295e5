use Rattle.std.proofs.lemmas.List.{length_push}
use Rattle.std.proofs.lemmas.Slice.Zip.{zip_turn, zip_end}
use Rattle.std.proofs.Common.{length, ◌∙◌}
use Rattle.mir_meaning.specs.Programs.{type_in}
use Rattle.run_text.proofs.Lines.{argument_put, arguments_all}
use Rattle.run_text.proofs.calls.arguments.Goals as goal

pub loop-ty-preserved : goal.loop-ty-preserved
loop-ty-preserved c =
    let turn = zip_turn c.args.types.now c.args.bits.now c.loop-ty.yielded c.into_iter-ty-iterator.result c.loop-ty.ty-iterator c.next.new.self c.next.result (cc) (cc) c.loop-ty.yielded_by (c.in-Some.ty, c.in-Some.bits) c.in-Some.is c.next.ensures.steps in
    argument_put (type_in c.args.program.now) c.args.types.now c.args.bits.now (length c.loop-ty.yielded) _ c.in-Some.ty.now c.in-Some.bits.now c.loop-ty.numbers c.integer_of.result (length_push c.loop-ty.yielded _) turn c.loop-ty.invariant c.integer_of.ensures c.in_ok-push.ensures.ok

pub returns : goal.returns
returns c =
    c.loop-ty.invariant
    ∙ arguments_all (type_in c.args.program.now) c.args.types.now c.args.bits.now (length c.loop-ty.yielded)
    (zip_end c.args.types.now c.args.bits.now c.loop-ty.yielded c.into_iter-ty-iterator.result c.loop-ty.ty-iterator c.next.new.self c.next.result (cc) (cc) c.loop-ty.yielded_by c.in-None.is c.next.ensures.steps)
