use Rattle.std.proofs.Common.{◌≡◌, ℕ, List, ◌∷◌, ◌∙◌, ◌++◌, map, rules, ap, ap₂, sym}
use Rattle.mir_syntax.specs.declared.types.Field.{Field}
use Rattle.mir_syntax.specs.Tree.{Tree, trees_of}
use Rattle.mir_syntax.specs.Crate.{TypedField, field_of}
use Rattle.mir_syntax.specs.Ids.{field_below}
use Rattle.mir_text.specs.Names.{field_named}
use Rattle.mir_text.specs.NameFaults.{each, on_line}
use Rattle.mir_tree.specs.declared.item.FieldText.{FieldText}
use Rattle.mir_tree.specs.Rules.{field_rule}
use Rattle.mir_resolve.specs.Faults.{noted}
use Rattle.mir_resolve.specs.Definitions.{field_codes}
use Rattle.mir_resolve.proofs.Growing.{grown_then}
use Rattle.mir_resolve.proofs.Making.{later_of, first_left, made_step, inside_step, fields_keep}
use Rattle.mir_resolve.proofs.Noting.{notes_step, notes_ended}
use Rattle.mir_resolve.proofs.fields.labelled_fields.Goals as goal

pub fields-preserved : goal.fields-preserved
fields-preserved c =
    let left = c.fields.left.now in
    let item = c.field-item.result in
    let first : left ≡ item ∷ later_of left = first_left left item c.in-len1-up.len_at_least c.field-item.is in
    let old = c.fields.draft.program.types in
    let new = c.read_noted.new.draft.program.types in
    let xs = c.fields.fields in
    let x : Field = record { name = c.in_ok-name.name; ty = c.in_ok-ty.ty } in
    let f : FieldText → TypedField = λ u. field_named c.args.strings.now c.args.paths.now (field_rule u) in
    let make : List ℕ → Tree → TypedField = λ n t. record { name = n; ty = t } in
    let codes : FieldText → List ℕ = field_codes c.args.strings.now c.args.paths.now in
    let went = c.in_ok-ty.ensures.went in
    record {
      told = rw c.in_ok-push.ensures.ok
          (made_step field_of field_below fields_keep old new went.grown.types xs x (f item) (map f (later_of left)) _ c.fields.invariant.inside
          (ap (λ l. map (field_of (trees_of old)) xs ++ map f l) (sym first) ∙ c.fields.invariant.told)
          (ap₂ make (c.in_ok-name.ensures ∙ c.string_of.ensures) c.in_ok-ty.ensures.stands));
      notes = notes_step codes item (later_of left) c.args.line c.fields.draft.notes c.read_noted.new.draft.notes _
          (ap (λ l. noted c.fields.draft.notes (on_line c.args.line (each codes l))) (sym first) ∙ c.fields.invariant.notes) went.notes;
      inside = rw c.in_ok-push.ensures.ok
          (inside_step field_of field_below fields_keep old new went.grown.types xs x c.fields.invariant.inside (search (rules, c.in_ok-ty.ensures.inside)));
      grown = grown_then c.fields.invariant.grown went.grown;
    }

pub returns-clause-went : goal.returns-clause-went
returns-clause-went c = record {
  grown = c.fields.invariant.grown;
  notes = notes_ended (field_codes c.args.strings.now c.args.paths.now) c.fields.left.now c.args.line c.fields.draft.notes _ c.in_default.len_below c.fields.invariant.notes;
}
