use Rattle.std.proofs.Common.{◌≡◌, List, not, ◌∷◌, ◌∙◌, map, ap, sym, subst}
use Rattle.mir_text.specs.NameFaults.{on_line, unless}
use Rattle.mir_tree.specs.declared.Lined.{Lined}
use Rattle.mir_tree.specs.declared.item.ItemText.{ItemText}
use Rattle.mir_resolve.specs.Faults.{noted}
use Rattle.mir_resolve.proofs.Making.{later_of, first_left}
use Rattle.mir_file.specs.Clashes.{defined_at, defined_as, meets}
use Rattle.mir_file.proofs.Clashing.{Sees, sees_none, sees_step, sees_ended, line_is}
use Rattle.mir_file.proofs.clashes.note_clashes.Goals as goal

pub items-init : goal.items-init
items-init c = sees_none _ _ _ c.new.ensures c.new-2.ensures c.new-3.ensures c.new-4.ensures

pub items-preserved : goal.items-preserved
items-preserved c =
    let left = c.items.left.now in
    let item = c.item-item.result in
    let later = later_of left in
    let first : left ≡ item ∷ later = first_left left item c.in-len1-up.len_at_least c.item-item.is in
    let strings = c.args.strings.now in
    let notes = c.items.notes in
    let whole = map (defined_as strings) c.args.items.now in
    let Q : List (Lined ItemText) → Type 0 = λ l. Sees c.items.seen c.args.notes.now notes (map (defined_as strings) l) whole in
    sees_step c.items.seen c.note_clash.new.seen c.args.notes.now notes c.note_clash.new.notes (defined_as strings item) (map (defined_as strings) later) whole
    (subst Q first c.items.invariant) c.in_ok-note_clash.ensures.saw
    (c.in_ok-note_clash.ensures.notes
    ∙ ap (λ n. noted notes (on_line n (unless (not (meets c.items.seen (defined_at strings item.line item.part))) 10))) (sym (line_is strings item.line item.part)))

pub returns : goal.returns
returns c = sees_ended (defined_as c.args.strings.now) c.items.seen c.args.notes.now c.items.notes c.items.left.now _ c.in_default.len_below c.items.invariant
