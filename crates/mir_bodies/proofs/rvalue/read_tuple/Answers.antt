use Rattle.std.proofs.Common.{◌≡◌, List, [], ◌∷◌, ◌++◌, map, ap, ap₂, sym, refl, ◌∙◌}
use Rattle.mir_syntax.specs.declared.body.Operand.{Operand}
use Rattle.mir_syntax.specs.Crate as typed
use Rattle.mir_text.specs.GrammarPlaces.{OperandRule}
use Rattle.mir_text.specs.NamedBodies.{operand_named}
use Rattle.mir_text.specs.NameFaults.{operand_codes, each, each_item}
use Rattle.mir_text.specs.ReadLines.{any_wrong, operand_places}
use Rattle.mir_tree.specs.Lists.{items_rule}
use Rattle.mir_tree.specs.Bodies.{operand_rule}
use Rattle.mir_resolve.proofs.Listed.{items_listed}
use Rattle.mir_bodies.specs.Operands.{text_operand, text_codes, text_places}
use Rattle.mir_bodies.proofs.Reading.{went_then, went_as, wrong_two, each_listed}
use Rattle.mir_bodies.proofs.rvalue.read_tuple.Goals as goal

put_front : (none one all : List Operand) (a : Operand) (more : List Operand) → none ≡ [] → one ≡ none ++ a ∷ [] → all ≡ one ++ more → all ≡ a ∷ more
put_front none one all a more e f h = rw (h, f, e) refl

pub returns-clause-rvalue : goal.returns-clause-rvalue
returns-clause-rvalue g c =
    let others = c.args.others.now in
    let name : OperandRule → Operand = operand_named g.sense.names g.sense.locals in
    ap typed.tuple
    (put_front _ c.push.new.self c.append.new.self c.in_ok-a.a.part c.in_ok-more.more.part c.new-parts.ensures c.in_ok-push.ensures.ok c.in_ok-append.ensures.ok
    ∙ ap₂ (λ x xs. x ∷ xs) c.in_ok-a.ensures.operand
    (c.in_ok-more.ensures.operands ∙ ap (map (text_operand g.sense)) c.as_slice.ensures ∙ sym (items_listed name operand_rule others.items others.trailing)))

pub returns-clause-wrong : goal.returns-clause-wrong
returns-clause-wrong g c =
    let others = c.args.others.now in
    wrong_two g.sense.names g.sense.locals c.in_ok-a.a.wrong c.in_ok-more.more.wrong c.either.result (operand_places (operand_rule c.args.first.now)) (each_item operand_places (items_rule operand_rule others))
    c.either.ensures c.in_ok-a.ensures.wrong
    (c.in_ok-more.ensures.wrong
    ∙ ap (any_wrong g.sense.names g.sense.locals) (ap (each text_places) c.as_slice.ensures ∙ sym (each_listed operand_places operand_rule others.items others.trailing)))

pub returns-clause-went : goal.returns-clause-went
returns-clause-went g c =
    let others = c.args.others.now in
    went_then c.in_ok-a.ensures.went
    (went_as c.in_ok-more.ensures.went
    (ap (each (text_codes g.sense)) c.as_slice.ensures ∙ sym (each_listed (operand_codes g.sense.names g.sense.locals) operand_rule others.items others.trailing)))
