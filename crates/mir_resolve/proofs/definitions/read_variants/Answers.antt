use Rattle.std.proofs.Common.{◌≡◌, ℕ, List, ◌∷◌, ◌∙◌, ◌++◌, map, ap, sym}
use Rattle.mir_syntax.specs.Tree.{trees_of}
use Rattle.mir_syntax.specs.Crate.{TypedVariant, variant_of}
use Rattle.mir_syntax.specs.Ids.{variant_below}
use Rattle.mir_text.specs.Names.{variant_named}
use Rattle.mir_text.specs.Names.{variant_of as named_variant}
use Rattle.mir_text.specs.NameFaults.{each, on_line}
use Rattle.mir_tree.specs.declared.item.VariantText.{VariantText}
use Rattle.mir_tree.specs.Rules.{variant_rule, fields_rule}
use Rattle.mir_resolve.specs.Faults.{noted}
use Rattle.mir_resolve.specs.Definitions.{variant_codes}
use Rattle.mir_resolve.proofs.Growing.{grown_then}
use Rattle.mir_resolve.proofs.Making.{later_of, first_left, made_step, inside_step, variants_keep}
use Rattle.mir_resolve.proofs.Noting.{notes_step, notes_ended}
use Rattle.mir_resolve.proofs.definitions.read_variants.Goals as goal

pub variants-preserved : goal.variants-preserved
variants-preserved c =
    let left = c.variants.left.now in
    let item = c.text-item.result in
    let first : left ≡ item ∷ later_of left = first_left left item c.in-len1-up.len_at_least c.text-item.is in
    let old = c.variants.draft.program.types in
    let new = c.read_variant.new.draft.program.types in
    let xs = c.variants.variants in
    let x = c.in_ok-variant.variant in
    let f : VariantText → TypedVariant = λ u. variant_named c.args.strings.now c.args.paths.now (variant_rule u) in
    let codes : VariantText → List ℕ = variant_codes c.args.strings.now c.args.paths.now in
    let went = c.in_ok-variant.ensures.went in
    record {
      told = rw c.in_ok-push.ensures.ok
          (made_step variant_of variant_below variants_keep old new went.grown.types xs x (f item) (map f (later_of left)) _ c.variants.invariant.inside
          (ap (λ l. map (variant_of (trees_of old)) xs ++ map f l) (sym first) ∙ c.variants.invariant.told)
          (c.in_ok-variant.ensures.variant ∙ ap (λ b. named_variant c.args.strings.now c.args.paths.now b (fields_rule item.fields)) (c.in_ok-name.ensures ∙ c.string_of.ensures)));
      notes = notes_step codes item (later_of left) c.args.line c.variants.draft.notes c.read_variant.new.draft.notes _
          (ap (λ l. noted c.variants.draft.notes (on_line c.args.line (each codes l))) (sym first) ∙ c.variants.invariant.notes) went.notes;
      inside = rw c.in_ok-push.ensures.ok
          (inside_step variant_of variant_below variants_keep old new went.grown.types xs x c.variants.invariant.inside c.in_ok-variant.ensures.inside);
      grown = grown_then c.variants.invariant.grown went.grown;
    }

pub returns-clause-went : goal.returns-clause-went
returns-clause-went c = record {
  grown = c.variants.invariant.grown;
  notes = notes_ended (variant_codes c.args.strings.now c.args.paths.now) c.variants.left.now c.args.line c.variants.draft.notes _ c.in_default.len_below c.variants.invariant.notes;
}
