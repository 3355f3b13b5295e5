use Rattle.std.proofs.Common.{ap, ap₂, sym, ◌∙◌}
use Rattle.std.proofs.lemmas.Simd.{map-map}
use Rattle.mir_syntax.specs.declared.body.Term.TheVariants as term
use Rattle.mir_text.specs.NamedBodies.{arm_named}
use Rattle.mir_text.specs.NameFaults.{arm_codes, concat}
use Rattle.mir_tree.specs.Bodies.{arm_rule}
use Rattle.mir_bodies.proofs.Reading.{went_then, went_as}
use Rattle.mir_bodies.proofs.term.read_switch.Goals as goal

pub returns-clause-term : goal.returns-clause-term
returns-clause-term g c =
    ap₂ (λ x arms. term.Switch x arms c.args.otherwise) c.in_ok-operand.ensures.operand (c.in_ok-arms.ensures.arms ∙ sym (map-map arm_named arm_rule c.args.arms.now))

pub returns-clause-went : goal.returns-clause-went
returns-clause-went g c =
    went_then
    (went_then c.in_ok-operand.ensures.went (went_as c.in_ok-arms.ensures.went (ap concat (sym (map-map (arm_codes g.sense.labels) arm_rule c.args.arms.now)))))
    c.note_target.ensures.went
