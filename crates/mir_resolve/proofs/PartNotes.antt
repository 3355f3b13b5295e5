-- The codes of fields, variants and items, noted part by part.
use Rattle.std.proofs.Common.{◌≡◌, ℕ, Bool, List, [], ◌++◌, map, Option, refl, sym, ap, ap₂, ◌∙◌}
use Rattle.mir_text.specs.GrammarItems as m
use Rattle.mir_text.specs.Names.{Strings, string_at}
use Rattle.mir_text.specs.NameFaults.{Fault, on_line, unless, concat, each, type_codes, none_twice, fields_codes, variants_codes}
use Rattle.mir_tree.specs.declared.Items.{Items}
use Rattle.mir_tree.specs.declared.item.FieldText.{FieldText}
use Rattle.mir_tree.specs.declared.item.VariantText.{VariantText}
use Rattle.mir_tree.specs.Lists.{items_rule}
use Rattle.mir_tree.specs.Rules.{field_rule, variant_rule}
use Rattle.mir_resolve.specs.declared.draft.Draft.{Draft}
use Rattle.mir_resolve.specs.Faults.{noted}
use Rattle.mir_resolve.specs.Definitions.{before_defs, field_codes, variant_codes, Went}
use Rattle.mir_resolve.proofs.Growing.{grown_same}
use Rattle.mir_resolve.proofs.Listed.{items_listed}
use Rattle.mir_resolve.proofs.Noting.{noted_on}

-- nothing is noted
pub nothing_went : (d : Draft) (line : ℕ) → Went d d line []
unfolding noted
nothing_went d line = record { grown = grown_same d.program; notes = refl }

-- a first code, and then those of each part
both_noted : (line : ℕ) (old mid new : Option Fault) (is once : Bool) (codes all : List ℕ)
    → new ≡ noted mid (on_line line codes) → mid ≡ noted old (on_line line (unless is 10)) → is ≡ once → codes ≡ all
    → new ≡ noted old (on_line line (unless once 10 ++ all))
both_noted line old mid new is once codes all second first same those =
    second ∙ ap (λ k. noted k (on_line line codes)) first ∙ sym (noted_on old line (unless is 10) codes)
    ∙ ap₂ (λ k cs. noted old (on_line line (unless k 10 ++ cs))) same those

pub labelled_noted : (strings : Strings) (paths : List (List ℕ)) (line : ℕ) (old mid new : Option Fault) (is : Bool) (fs : Items FieldText)
    → new ≡ noted mid (on_line line (each (field_codes strings paths) fs.items)) → mid ≡ noted old (on_line line (unless is 10))
    → is ≡ none_twice [] (map (λ f. string_at strings f.name) fs.items)
    → new ≡ noted old (on_line line (fields_codes (before_defs strings paths) (m.labelled (items_rule field_rule fs))))
labelled_noted strings paths line old mid new is fs second first once =
    both_noted line old mid new is _ _ _ second first
    (once ∙ ap (none_twice []) (sym (items_listed (λ (f : m.FieldRule). string_at strings f.0) field_rule fs.items fs.trailing)))
    (ap concat (sym (items_listed (λ (f : m.FieldRule). type_codes (before_defs strings paths) f.1) field_rule fs.items fs.trailing)))

pub variants_noted : (strings : Strings) (paths : List (List ℕ)) (line : ℕ) (old mid new : Option Fault) (is : Bool) (vs : Items VariantText)
    → new ≡ noted mid (on_line line (each (variant_codes strings paths) vs.items)) → mid ≡ noted old (on_line line (unless is 10))
    → is ≡ none_twice [] (map (λ v. string_at strings v.name) vs.items)
    → new ≡ noted old (on_line line (variants_codes (before_defs strings paths) (items_rule variant_rule vs)))
variants_noted strings paths line old mid new is vs second first once =
    both_noted line old mid new is _ _ _ second first
    (once ∙ ap (none_twice []) (sym (items_listed (λ (v : m.VariantRule). string_at strings v.0) variant_rule vs.items vs.trailing)))
    (ap concat (sym (items_listed (λ (v : m.VariantRule). fields_codes (before_defs strings paths) v.1) variant_rule vs.items vs.trailing)))
