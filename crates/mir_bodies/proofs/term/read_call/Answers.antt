use Rattle.std.proofs.Common.{map, ap, ap₂, sym, ◌∙◌}
use Rattle.mir_syntax.specs.declared.body.Operand.{Operand}
use Rattle.mir_syntax.specs.declared.body.Term.TheVariants as term
use Rattle.mir_text.specs.GrammarPlaces.{OperandRule}
use Rattle.mir_text.specs.NamedBodies.{place_named, operand_named}
use Rattle.mir_text.specs.NameFaults.{operand_codes, each, each_item}
use Rattle.mir_text.specs.ReadLines.{any_wrong, operand_places}
use Rattle.mir_tree.specs.Lists.{items_rule}
use Rattle.mir_tree.specs.Bodies.{place_rule, operand_rule}
use Rattle.mir_resolve.proofs.Listed.{items_listed}
use Rattle.mir_bodies.specs.Operands.{text_operand, text_codes, text_places}
use Rattle.mir_bodies.proofs.Reading.{went_then, went_as, wrong_after, each_listed}
use Rattle.mir_bodies.proofs.term.read_call.Goals as goal

pub returns-clause-term : goal.returns-clause-term
returns-clause-term g c =
    let args = c.args.args.now in
    let block = c.args.block in
    let name : OperandRule → Operand = operand_named g.sense.names g.sense.locals in
    ap (λ p. term.Call p c.in_ok-callee.callee c.in_ok-args.args.part block) c.in_ok-place.ensures.place
    ∙ ap₂ (λ f xs. term.Call (place_named g.sense.names g.sense.locals (place_rule c.args.place.now)) f xs block) c.in_ok-callee.ensures.callee
    (c.in_ok-args.ensures.operands ∙ ap (map (text_operand g.sense)) c.as_slice.ensures ∙ sym (items_listed name operand_rule args.items args.trailing))

pub returns-clause-wrong : goal.returns-clause-wrong
returns-clause-wrong g c =
    let args = c.args.args.now in
    wrong_after g.sense.names g.sense.locals c.in_ok-place.place.wrong c.in_ok-args.args.wrong c.either.result (place_rule c.args.place.now) (each_item operand_places (items_rule operand_rule args))
    c.either.ensures c.in_ok-place.ensures.wrong
    (c.in_ok-args.ensures.wrong
    ∙ ap (any_wrong g.sense.names g.sense.locals) (ap (each text_places) c.as_slice.ensures ∙ sym (each_listed operand_places operand_rule args.items args.trailing)))

pub returns-clause-went : goal.returns-clause-went
returns-clause-went g c =
    let args = c.args.args.now in
    went_then
    (went_then (went_then c.in_ok-place.ensures.went c.in_ok-callee.ensures.went)
    (went_as c.in_ok-args.ensures.went
    (ap (each (text_codes g.sense)) c.as_slice.ensures ∙ sym (each_listed (operand_codes g.sense.names g.sense.locals) operand_rule args.items args.trailing))))
    c.note_target.ensures.went
