use Rattle.std.proofs.Common.{ℕ, List, true, [], ◌∙◌, map, ap, ap₂, sym}
use Rattle.mir_syntax.specs.Crate.{TypedVariant, TypedDef}
use Rattle.mir_text.specs.Names.{string_at, variant_named}
use Rattle.mir_text.specs.NameFaults.{on_line, each, none_twice}
use Rattle.mir_tree.specs.Rules.{variant_rule}
use Rattle.mir_resolve.specs.Faults.{noted}
use Rattle.mir_resolve.specs.Definitions.{variant_codes}
use Rattle.mir_resolve.proofs.Listed.{items_listed}
use Rattle.mir_resolve.proofs.PartNotes.{variants_noted}
use Rattle.mir_resolve.proofs.definitions.read_enum.Goals as goal

pub returns-clause-def : goal.returns-clause-def
returns-clause-def c =
    let texts = c.args.texts.now in
    let make : List ℕ → List TypedVariant → TypedDef = λ path variants. record { path = path; is_enum = true; variants = variants } in
    ap₂ make c.in_ok-path.ensures
    (c.in_ok-variants.ensures.variants
    ∙ ap (map (λ v. variant_named c.args.strings.now c.args.paths.now (variant_rule v))) c.as_slice-2.ensures
    ∙ sym (items_listed (variant_named c.args.strings.now c.args.paths.now) variant_rule texts.items texts.trailing))

pub returns-clause-went : goal.returns-clause-went
returns-clause-went c =
    let strings = c.args.strings.now in
    let paths = c.args.paths.now in
    let went = c.in_ok-variants.ensures.went in
    record {
      grown = went.grown;
      notes = variants_noted strings paths c.args.line c.args.draft.now.notes c.note_unless.new.self c.read_variants.new.draft.notes c.in_ok-once.once c.args.texts.now
          (went.notes ∙ ap (λ l. noted c.note_unless.new.self (on_line c.args.line (each (variant_codes strings paths) l))) c.as_slice-2.ensures)
          c.note_unless.ensures
          (c.in_ok-once.ensures ∙ ap (λ l. none_twice [] (map (λ v. string_at strings v.name) l)) c.as_slice.ensures);
    }
