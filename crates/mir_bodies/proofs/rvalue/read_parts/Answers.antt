use Rattle.std.proofs.Common.{List, map, ap, sym, ◌∙◌}
use Rattle.std.proofs.lemmas.Simd.{map-map}
use Rattle.mir_syntax.specs.declared.body.Operand.{Operand}
use Rattle.mir_text.specs.GrammarPlaces.{OperandRule, PlaceRule}
use Rattle.mir_text.specs.GrammarStatements.{NamedRule}
use Rattle.mir_text.specs.NamedBodies.{operand_named}
use Rattle.mir_text.specs.NameFaults.{operand_codes, named_operand_codes, each, concat}
use Rattle.mir_text.specs.ReadLines.{any_wrong, operand_places}
use Rattle.mir_tree.specs.Bodies.{operand_rule, named_rule}
use Rattle.mir_resolve.proofs.Listed.{items_listed}
use Rattle.mir_resolve.proofs.PartNotes.{nothing_went}
use Rattle.mir_bodies.specs.Operands.{text_operand, text_codes, text_places, behind_name}
use Rattle.mir_bodies.proofs.Reading.{went_as, each_listed}
use Rattle.mir_bodies.proofs.rvalue.read_parts.Goals as goal

pub returns-in-Plain-clause-went : goal.returns-in-Plain-clause-went
returns-in-Plain-clause-went g c = rw c.in-Plain.is (nothing_went c.args.draft.now c.args.line)

pub returns-in_ok-read-in-Tupled-clause-parts : goal.returns-in_ok-read-in-Tupled-clause-parts
returns-in_ok-read-in-Tupled-clause-parts g c =
    let xs = c.in-Tupled.operands in
    let name : OperandRule → Operand = operand_named g.sense.names g.sense.locals in
    rw c.in-Tupled.is
    (c.in_ok-read-in-Tupled.ensures.operands ∙ ap (map (text_operand g.sense)) c.as_slice.ensures ∙ sym (items_listed name operand_rule xs.items xs.trailing))

pub returns-in_ok-read-in-Tupled-clause-wrong : goal.returns-in_ok-read-in-Tupled-clause-wrong
returns-in_ok-read-in-Tupled-clause-wrong g c =
    let xs = c.in-Tupled.operands in
    rw c.in-Tupled.is
    (c.in_ok-read-in-Tupled.ensures.wrong
    ∙ ap (any_wrong g.sense.names g.sense.locals) (ap (each text_places) c.as_slice.ensures ∙ sym (each_listed operand_places operand_rule xs.items xs.trailing)))

pub returns-in_ok-read-in-Tupled-clause-went : goal.returns-in_ok-read-in-Tupled-clause-went
returns-in_ok-read-in-Tupled-clause-went g c =
    let xs = c.in-Tupled.operands in
    rw c.in-Tupled.is
    (went_as c.in_ok-read-in-Tupled.ensures.went
    (ap (each (text_codes g.sense)) c.as_slice.ensures ∙ sym (each_listed (operand_codes g.sense.names g.sense.locals) operand_rule xs.items xs.trailing)))

pub returns-in_ok-read-in-Labelled-clause-parts : goal.returns-in_ok-read-in-Labelled-clause-parts
returns-in_ok-read-in-Labelled-clause-parts g c =
    let xs = c.in-Labelled.named in
    let name : NamedRule → Operand = λ x. operand_named g.sense.names g.sense.locals x.1 in
    rw c.in-Labelled.is
    (c.in_ok-read-in-Labelled.ensures.operands ∙ ap (λ l. map (text_operand g.sense) (map behind_name l)) c.as_slice-in-Labelled.ensures
    ∙ map-map (text_operand g.sense) behind_name xs.items ∙ sym (items_listed name named_rule xs.items xs.trailing))

pub returns-in_ok-read-in-Labelled-clause-wrong : goal.returns-in_ok-read-in-Labelled-clause-wrong
returns-in_ok-read-in-Labelled-clause-wrong g c =
    let xs = c.in-Labelled.named in
    let places : NamedRule → List PlaceRule = λ x. operand_places x.1 in
    rw c.in-Labelled.is
    (c.in_ok-read-in-Labelled.ensures.wrong
    ∙ ap (any_wrong g.sense.names g.sense.locals)
    (ap (λ l. each text_places (map behind_name l)) c.as_slice-in-Labelled.ensures
    ∙ ap concat (map-map text_places behind_name xs.items) ∙ sym (each_listed places named_rule xs.items xs.trailing)))

pub returns-in_ok-read-in-Labelled-clause-went : goal.returns-in_ok-read-in-Labelled-clause-went
returns-in_ok-read-in-Labelled-clause-went g c =
    let xs = c.in-Labelled.named in
    rw c.in-Labelled.is
    (went_as c.in_ok-read-in-Labelled.ensures.went
    (ap (λ l. each (text_codes g.sense) (map behind_name l)) c.as_slice-in-Labelled.ensures
    ∙ ap concat (map-map (text_codes g.sense) behind_name xs.items) ∙ sym (each_listed (named_operand_codes g.sense.names g.sense.locals) named_rule xs.items xs.trailing)))
