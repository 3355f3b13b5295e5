use Rattle.std.proofs.Common.{◌≡◌, ◌+◌, suc, nat_eq, ◌∷◌, ◌∙◌, map, ap, refl, sym, add-one}
use Rattle.mir_text.specs.NameFaults.{args_in_place, on_line, unless}
use Rattle.mir_tree.specs.Bodies.{lined}
use Rattle.mir_tree.specs.Rules.{arg_rule}
use Rattle.mir_resolve.specs.Faults.{noted}
use Rattle.mir_resolve.proofs.Making.{later_of, first_left}
use Rattle.mir_file.proofs.Steps.{faults_step, faults_ended}
use Rattle.mir_file.proofs.HeadSteps.{size_step}
use Rattle.mir_file.proofs.head.note_places.Goals as goal

pub texts-preserved : goal.texts-preserved
texts-preserved c =
    let left = c.texts.left.now in
    let item = c.arg-item.result in
    let later = later_of left in
    let first : left ≡ item ∷ later = first_left left item c.in-len1-up.len_at_least c.arg-item.is in
    let place = c.texts.place in
    let up : place + 1 ≡ suc place = add-one place in
    let kept = c.texts.notes in
    let rest = map (lined arg_rule) later in
    record {
      notes = ap (λ n. noted c.note_unless.new.self (args_in_place (suc n) rest)) up
          ∙ faults_step kept c.note_unless.new.self _ (on_line item.line (unless (nat_eq item.part.local (suc place)) 14)) (args_in_place (suc (suc place)) rest)
          (c.note_unless.ensures ∙ ap (λ n. noted kept (on_line item.line (unless (nat_eq item.part.local n) 14))) up)
          (ap (λ l. noted kept (args_in_place (suc place) (map (lined arg_rule) l))) (sym first) ∙ c.texts.invariant.notes);
      size = size_step place left item later _ first c.texts.invariant.size;
    }

pub returns : goal.returns
returns c = faults_ended (λ l. args_in_place (suc c.texts.place) (map (lined arg_rule) l)) c.texts.left.now c.texts.notes _ c.in_default.len_below refl c.texts.invariant.notes
