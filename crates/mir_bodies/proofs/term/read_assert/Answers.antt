use Rattle.std.proofs.Common.{map, ap, ap₂, sym, ◌∙◌}
use Rattle.std.proofs.lemmas.Simd.{map-map}
use Rattle.mir_syntax.specs.declared.body.Operand.{Operand}
use Rattle.mir_syntax.specs.declared.body.Term.TheVariants as term
use Rattle.mir_text.specs.GrammarPlaces.{OperandRule}
use Rattle.mir_text.specs.Names.{string_at}
use Rattle.mir_text.specs.NamedBodies.{operand_named}
use Rattle.mir_text.specs.NameFaults.{operand_codes, concat, each}
use Rattle.mir_text.specs.ReadLines.{any_wrong, operand_places}
use Rattle.mir_tree.specs.Bodies.{operand_rule}
use Rattle.mir_bodies.proofs.Reading.{went_then, went_as, wrong_two}
use Rattle.mir_bodies.proofs.term.read_assert.Goals as goal

pub returns-clause-term : goal.returns-clause-term
returns-clause-term g c =
    let name : OperandRule → Operand = operand_named g.sense.names g.sense.locals in
    ap₂ (λ x xs. term.Assert x c.args.expected c.in_ok-message.message xs c.args.block) c.in_ok-operand.ensures.operand
    (c.in_ok-args.ensures.operands ∙ sym (map-map name operand_rule c.args.args.now))
    ∙ ap (λ m. term.Assert (name (operand_rule c.args.operand.now)) c.args.expected m (map name (map operand_rule c.args.args.now)) c.args.block)
    (c.in_ok-message.ensures ∙ c.string_of.ensures ∙ ap (λ s. string_at s c.args.message) (sym c.requires.strings))

pub returns-clause-wrong : goal.returns-clause-wrong
returns-clause-wrong g c =
    wrong_two g.sense.names g.sense.locals c.in_ok-operand.operand.wrong c.in_ok-args.args.wrong c.either.result (operand_places (operand_rule c.args.operand.now))
    (each operand_places (map operand_rule c.args.args.now)) c.either.ensures c.in_ok-operand.ensures.wrong
    (c.in_ok-args.ensures.wrong ∙ ap (λ l. any_wrong g.sense.names g.sense.locals (concat l)) (sym (map-map operand_places operand_rule c.args.args.now)))

pub returns-clause-went : goal.returns-clause-went
returns-clause-went g c =
    went_then
    (went_then c.in_ok-operand.ensures.went
    (went_as c.in_ok-args.ensures.went (ap concat (sym (map-map (operand_codes g.sense.names g.sense.locals) operand_rule c.args.args.now)))))
    c.note_target.ensures.went
