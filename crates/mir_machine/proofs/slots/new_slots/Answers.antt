use Rattle.std.proofs.Common.{◌∙◌, ◌++◌, sym, ap, map}
use Rattle.std.proofs.lemmas.List.{map-append, length-map}
use Rattle.mir_semantics.specs.Step.{blanks}
use Rattle.mir_meaning.specs.Programs.{shapes_in, type_in}
use Rattle.mir_meaning.specs.Views.{value_of}
use Rattle.mir_machine.proofs.Entering.{slots_made}
use Rattle.mir_machine.proofs.slots.new_slots.Goals as goal

pub returns : goal.returns
returns c =
    slots_made (shapes_in c.args.program.now) (type_in c.args.program.now) c.args.locals.now c.len-count.result (map value_of c.args.args) (map value_of c.push_blanks.new.slots) (map value_of c.append.new.self) (map value_of c.push_blanks-2.new.slots)
    (c.in_ok-push_blanks.ensures ∙ (ap (λ l. map value_of l ++ blanks (shapes_in c.args.program.now) (map (type_in c.args.program.now) c.first.result.now)) c.in_ok-slots.ensures ∙ ap (λ l. blanks (shapes_in c.args.program.now) (map (type_in c.args.program.now) l)) c.first.ensures))
    (ap (map value_of) c.in_ok-append.ensures.ok ∙ map-append value_of _ _)
    (c.in_ok-push_blanks-2.ensures ∙ ap (λ l. map value_of c.append.new.self ++ blanks (shapes_in c.args.program.now) (map (type_in c.args.program.now) l)) c.others.ensures)
    (c.len-count.ensures ∙ sym (length-map c.args.args value_of))
