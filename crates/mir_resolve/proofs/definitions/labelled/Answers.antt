use Rattle.std.proofs.Common.{[], ◌∙◌, map, ap, sym}
use Rattle.mir_text.specs.Names.{string_at, field_named}
use Rattle.mir_text.specs.NameFaults.{on_line, each, none_twice}
use Rattle.mir_tree.specs.Rules.{field_rule}
use Rattle.mir_resolve.specs.Faults.{noted}
use Rattle.mir_resolve.specs.Definitions.{field_codes}
use Rattle.mir_resolve.proofs.Listed.{items_listed}
use Rattle.mir_resolve.proofs.PartNotes.{labelled_noted}
use Rattle.mir_resolve.proofs.definitions.labelled.Goals as goal

pub returns-clause-fields : goal.returns-clause-fields
returns-clause-fields c =
    let texts = c.args.texts.now in
    c.in_ok-fields.ensures.fields
    ∙ ap (map (λ f. field_named c.args.strings.now c.args.paths.now (field_rule f))) c.as_slice-2.ensures
    ∙ sym (items_listed (field_named c.args.strings.now c.args.paths.now) field_rule texts.items texts.trailing)

pub returns-clause-went : goal.returns-clause-went
returns-clause-went c =
    let strings = c.args.strings.now in
    let paths = c.args.paths.now in
    let went = c.in_ok-fields.ensures.went in
    record {
      grown = went.grown;
      notes = labelled_noted strings paths c.args.line c.args.draft.now.notes c.note_unless.new.self c.labelled_fields.new.draft.notes c.in_ok-once.once c.args.texts.now
          (went.notes ∙ ap (λ l. noted c.note_unless.new.self (on_line c.args.line (each (field_codes strings paths) l))) c.as_slice-2.ensures)
          c.note_unless.ensures
          (c.in_ok-once.ensures ∙ ap (λ l. none_twice [] (map (λ f. string_at strings f.name) l)) c.as_slice.ensures);
    }
