-- Parsing fields and variants is the grammar's rule, both ways.
use Rattle.std.proofs.Common.{◌≡◌, ℕ, false, ◌<◌, ◌≤◌, List, [], ◌∷◌, length, Ok, None, refl, ap, subst, ◌∙◌, arith}
use Rattle.mir_text.specs.declared.symbol.Symbol.{Symbol}
use Rattle.mir_text.specs.declared.symbol.Symbol.TheVariants as s
use Rattle.mir_text.specs.Grammar as g
use Rattle.mir_text.specs.Grammar.{items_put, AllItems}
use Rattle.mir_text.specs.GrammarTypes.{type_put, types_put}
use Rattle.mir_text.specs.GrammarItems as m
use Rattle.mir_text.specs.GrammarItems.{FieldRule, field_decl_put, FieldsRule, VariantRule, fields_put, variant_decl_put, struct_put}
use Rattle.mir_text.specs.Nesting.{FieldGood, FieldsGood, VariantGood}
use Rattle.mir_tree.specs.declared.Items.{Items}
use Rattle.mir_tree.specs.declared.item.FieldText.{FieldText}
use Rattle.mir_tree.specs.declared.item.FieldsText.{FieldsText}
use Rattle.mir_tree.specs.declared.item.FieldsText.TheVariants as f
use Rattle.mir_tree.specs.declared.item.VariantText.{VariantText}
use Rattle.mir_tree.specs.declared.ty.TypeText.{TypeText}
use Rattle.mir_tree.specs.Types.{type_text}
use Rattle.mir_tree.specs.Lists.{items_rule}
use Rattle.mir_tree.specs.Rules.{field_rule, fields_rule, variant_rule}
use Rattle.mir_parse.specs.Promises.{starts_colons}
use Rattle.mir_parse.specs.Signs.{name, colon, semicolon}
use Rattle.mir_parse.specs.Lists.{closing_brace}
use Rattle.mir_parse.proofs.Laws.{in_steps, ok_same, IsRead, brace_closes, ItemLaws, items_text, items-complete, items-sound, items-back, name-sound, colon-sound, semicolon-sound}
use Rattle.mir_parse.proofs.TypesRead.{types_text, type_grows, types_grow, type-complete, type-sound, type_rule-back, types-complete, types-sound, types_rule-back}
use Rattle.mir_items.specs.Fields.{field, fields, struct_end, variant_end, variant, variants}

-- ---- fields

abbrev pub field_text : FieldRule → FieldText
field_text r = record { name = r.0; ty = type_text r.1 }

pub field_rule-back : (r : FieldRule) → field_rule (field_text r) ≡ r
field_rule-back r = ap (λ t. (r.0, t)) (type_rule-back r.1)

pub field-complete : (r : FieldRule) (rest : List Symbol) → FieldGood r → starts_colons rest ≡ false → field (field_decl_put r rest) ≡ Ok (field_text r, rest)
unfolding field name colon
field-complete r rest good e = rw (type-complete r.1 65 rest good e) refl

abbrev IsField : List Symbol → FieldText → List Symbol → Type 0
IsField = IsRead field_decl_put field_text FieldGood

pub field-sound : (ts : List Symbol) (x : FieldText) (rest : List Symbol) → field ts ≡ Ok (x, rest) → IsField ts x rest
unfolding field
field-sound ts x rest h =
    in_steps _ _ (x, rest) h (λ n past named went.
    in_steps _ _ (x, rest) went (λ nothing over is_colon went2.
    in_steps _ _ (x, rest) went2 (λ u after typed same_h.
    let t = type-sound 65 over u after typed in
    let of : TypeText → FieldText = λ u. record { name = n; ty = u } in
    let P : FieldText × List Symbol → Type 0 = λ y. IsField ts y.0 y.1 in
    subst P (ok_same _ _ same_h) (record {
      rule = (n, t.rule);
      reads = ap of t.reads;
      yields = name-sound ts (n, past) named ∙ ap (λ l. s.Name n ∷ l) (colon-sound past (nothing, over) is_colon ∙ ap (λ l. s.Colon ∷ l) t.yields);
      good = t.good;
    }))))

name_no_brace : (n : ℕ) (rest : List Symbol) → closing_brace (s.Name n ∷ rest) ≡ None
unfolding closing_brace
name_no_brace n rest = refl

pub field_laws : ItemLaws closing_brace field field_decl_put field_text FieldGood s.CloseBrace
field_laws = record {
  closes = brace_closes;
  no_item = (λ r rest. name_no_brace r.0 (s.Colon ∷ type_put r.1 rest));
  before_comma = (λ r rest good. field-complete r (s.Comma ∷ rest) good refl);
  before_sign = (λ r rest good. field-complete r (s.CloseBrace ∷ rest) good refl);
  sound = field-sound;
  grows = (λ r rest. omega (arith, type_grows r.1 rest));
}

-- ---- the list in braces

abbrev pub FieldsPut : g.Items FieldRule → List Symbol → List Symbol
FieldsPut fs rest = items_put field_decl_put s.CloseBrace fs rest

pub fields_list-back : (fs : g.Items FieldRule) → items_rule field_rule (items_text field_text fs) ≡ fs
fields_list-back = items-back field_text field_rule field_rule-back

pub fields-complete : (fs : g.Items FieldRule) (rest : List Symbol) → AllItems FieldGood fs → fields (FieldsPut fs rest) ≡ Ok (items_text field_text fs, rest)
fields-complete = items-complete closing_brace field field_decl_put field_text FieldGood s.CloseBrace field_laws

pub fields-sound : (ts : List Symbol) (xs : Items FieldText) (rest : List Symbol) → fields ts ≡ Ok (xs, rest) → IsRead FieldsPut (items_text field_text) (AllItems FieldGood) ts xs rest
fields-sound ts xs rest h = items-sound closing_brace field field_decl_put field_text FieldGood s.CloseBrace field_laws _ ts xs rest h

-- ---- the fields of a struct or a variant

abbrev pub fields_text : FieldsRule → FieldsText
fields_text m.plain = f.Plain
fields_text (m.tupled us) = f.Tupled (types_text us)
fields_text (m.labelled fs) = f.Labelled (items_text field_text fs)

pub fields_rule-back : (r : FieldsRule) → fields_rule (fields_text r) ≡ r
fields_rule-back m.plain = refl
fields_rule-back (m.tupled us) = ap m.tupled (types_rule-back us)
fields_rule-back (m.labelled fs) = ap m.labelled (fields_list-back fs)

pub struct-complete : (r : FieldsRule) (rest : List Symbol) → FieldsGood r → struct_end (struct_put r rest) ≡ Ok (fields_text r, rest)
unfolding struct_end semicolon
struct-complete m.plain rest good = refl
struct-complete (m.tupled us) rest good = rw (types-complete us 65 (s.Semicolon ∷ rest) good) refl
struct-complete (m.labelled fs) rest good = rw (fields-complete fs rest good) refl

abbrev IsStructEnd : List Symbol → FieldsText → List Symbol → Type 0
IsStructEnd = IsRead struct_put fields_text FieldsGood

pub struct-sound : (ts : List Symbol) (x : FieldsText) (rest : List Symbol) → struct_end ts ≡ Ok (x, rest) → IsStructEnd ts x rest
unfolding struct_end
struct-sound [] x rest h = absurd cc
struct-sound (s.Semicolon ∷ ts) x rest h =
    let P : FieldsText × List Symbol → Type 0 = λ y. IsStructEnd (s.Semicolon ∷ ts) y.0 y.1 in
    subst P (ok_same _ _ h) (record { rule = m.plain; reads = refl; yields = refl; good = tt })
struct-sound (s.Open ∷ ts) x rest h =
    in_steps _ _ (x, rest) h (λ us past typed went.
    in_steps _ _ (x, rest) went (λ nothing over closed same_h.
    let t = types-sound 65 ts us past typed in
    let P : FieldsText × List Symbol → Type 0 = λ y. IsStructEnd (s.Open ∷ ts) y.0 y.1 in
    subst P (ok_same _ _ same_h) (record {
      rule = m.tupled t.rule;
      reads = ap f.Tupled t.reads;
      yields = ap (λ l. s.Open ∷ l) (t.yields ∙ ap (types_put t.rule) (semicolon-sound past (nothing, over) closed));
      good = t.good;
    })))
struct-sound (s.OpenBrace ∷ ts) x rest h =
    in_steps _ _ (x, rest) h (λ fs past found same_h.
    let t = fields-sound ts fs past found in
    let P : FieldsText × List Symbol → Type 0 = λ y. IsStructEnd (s.OpenBrace ∷ ts) y.0 y.1 in
    subst P (ok_same _ _ same_h) (record { rule = m.labelled t.rule; reads = ap f.Labelled t.reads; yields = ap (λ l. s.OpenBrace ∷ l) t.yields; good = t.good }))
struct-sound (y ∷ ts) x rest h = absurd cc

-- ---- variants

abbrev pub variant_text : VariantRule → VariantText
variant_text r = record { name = r.0; fields = fields_text r.1 }

pub variant_rule-back : (r : VariantRule) → variant_rule (variant_text r) ≡ r
variant_rule-back r = ap (λ fs. (r.0, fs)) (fields_rule-back r.1)

-- no fields begin
abbrev EndsVariant : List Symbol → Type 0
EndsVariant rest = variant_end rest ≡ Ok (f.Plain, rest)

before_comma : (rest : List Symbol) → EndsVariant (s.Comma ∷ rest)
unfolding variant_end
before_comma rest = refl

before_brace : (rest : List Symbol) → EndsVariant (s.CloseBrace ∷ rest)
unfolding variant_end
before_brace rest = refl

variant_end-complete : (r : FieldsRule) (rest : List Symbol) → FieldsGood r → EndsVariant rest → variant_end (fields_put r rest) ≡ Ok (fields_text r, rest)
unfolding variant_end
variant_end-complete m.plain rest good ends = ends
variant_end-complete (m.tupled us) rest good ends = rw (types-complete us 65 rest good) refl
variant_end-complete (m.labelled fs) rest good ends = rw (fields-complete fs rest good) refl

pub variant-complete : (r : VariantRule) (rest : List Symbol) → VariantGood r → EndsVariant rest → variant (variant_decl_put r rest) ≡ Ok (variant_text r, rest)
unfolding variant name
variant-complete r rest good ends = rw (variant_end-complete r.1 rest good ends) refl

abbrev IsVariantEnd : List Symbol → FieldsText → List Symbol → Type 0
IsVariantEnd = IsRead fields_put fields_text FieldsGood

no_fields : (ts : List Symbol) (x : FieldsText) (rest : List Symbol) → ◌≡◌ {A = FieldsText × List Symbol} (f.Plain, ts) (x, rest) → IsVariantEnd ts x rest
no_fields ts x rest h =
    let P : FieldsText × List Symbol → Type 0 = λ y. IsVariantEnd ts y.0 y.1 in
    subst P h (record { rule = m.plain; reads = refl; yields = refl; good = tt })

variant_end-sound : (ts : List Symbol) (x : FieldsText) (rest : List Symbol) → variant_end ts ≡ Ok (x, rest) → IsVariantEnd ts x rest
unfolding variant_end
variant_end-sound [] x rest h = no_fields [] x rest (ok_same _ _ h)
variant_end-sound (s.Open ∷ ts) x rest h =
    in_steps _ _ (x, rest) h (λ us past typed same_h.
    let t = types-sound 65 ts us past typed in
    let P : FieldsText × List Symbol → Type 0 = λ y. IsVariantEnd (s.Open ∷ ts) y.0 y.1 in
    subst P (ok_same _ _ same_h) (record { rule = m.tupled t.rule; reads = ap f.Tupled t.reads; yields = ap (λ l. s.Open ∷ l) t.yields; good = t.good }))
variant_end-sound (s.OpenBrace ∷ ts) x rest h =
    in_steps _ _ (x, rest) h (λ fs past found same_h.
    let t = fields-sound ts fs past found in
    let P : FieldsText × List Symbol → Type 0 = λ y. IsVariantEnd (s.OpenBrace ∷ ts) y.0 y.1 in
    subst P (ok_same _ _ same_h) (record { rule = m.labelled t.rule; reads = ap f.Labelled t.reads; yields = ap (λ l. s.OpenBrace ∷ l) t.yields; good = t.good }))
variant_end-sound (y ∷ ts) x rest h = no_fields (y ∷ ts) x rest (ok_same _ _ h)

abbrev IsVariant : List Symbol → VariantText → List Symbol → Type 0
IsVariant = IsRead variant_decl_put variant_text VariantGood

pub variant-sound : (ts : List Symbol) (x : VariantText) (rest : List Symbol) → variant ts ≡ Ok (x, rest) → IsVariant ts x rest
unfolding variant
variant-sound ts x rest h =
    in_steps _ _ (x, rest) h (λ n past named went.
    in_steps _ _ (x, rest) went (λ fs over found same_h.
    let t = variant_end-sound past fs over found in
    let of : FieldsText → VariantText = λ fs. record { name = n; fields = fs } in
    let P : VariantText × List Symbol → Type 0 = λ y. IsVariant ts y.0 y.1 in
    subst P (ok_same _ _ same_h) (record {
      rule = (n, t.rule);
      reads = ap of t.reads;
      yields = name-sound ts (n, past) named ∙ ap (λ l. s.Name n ∷ l) t.yields;
      good = t.good;
    })))

list_grows : (fs : g.Items FieldRule) (rest : List Symbol) → length rest < length (FieldsPut fs rest)
list_grows g.end rest = omega arith
list_grows (g.last r) rest = omega (arith, type_grows r.1 (s.CloseBrace ∷ rest))
list_grows (g.more r rs) rest = omega (arith, type_grows r.1 (s.Comma ∷ FieldsPut rs rest), list_grows rs rest)

fields_grow : (r : FieldsRule) (rest : List Symbol) → length rest ≤ length (fields_put r rest)
fields_grow m.plain rest = omega arith
fields_grow (m.tupled us) rest = omega (arith, types_grow us rest)
fields_grow (m.labelled fs) rest = omega (arith, list_grows fs rest)

pub variant_laws : ItemLaws closing_brace variant variant_decl_put variant_text VariantGood s.CloseBrace
variant_laws = record {
  closes = brace_closes;
  no_item = (λ r rest. name_no_brace r.0 (fields_put r.1 rest));
  before_comma = (λ r rest good. variant-complete r (s.Comma ∷ rest) good (before_comma rest));
  before_sign = (λ r rest good. variant-complete r (s.CloseBrace ∷ rest) good (before_brace rest));
  sound = variant-sound;
  grows = (λ r rest. omega (arith, fields_grow r.1 rest));
}

abbrev pub VariantsPut : g.Items VariantRule → List Symbol → List Symbol
VariantsPut vs rest = items_put variant_decl_put s.CloseBrace vs rest

pub variants_rule-back : (vs : g.Items VariantRule) → items_rule variant_rule (items_text variant_text vs) ≡ vs
variants_rule-back = items-back variant_text variant_rule variant_rule-back

pub variants-complete : (vs : g.Items VariantRule) (rest : List Symbol) → AllItems VariantGood vs → variants (VariantsPut vs rest) ≡ Ok (items_text variant_text vs, rest)
variants-complete = items-complete closing_brace variant variant_decl_put variant_text VariantGood s.CloseBrace variant_laws

pub variants-sound : (ts : List Symbol) (xs : Items VariantText) (rest : List Symbol) → variants ts ≡ Ok (xs, rest) → IsRead VariantsPut (items_text variant_text) (AllItems VariantGood) ts xs rest
variants-sound ts xs rest h = items-sound closing_brace variant variant_decl_put variant_text VariantGood s.CloseBrace variant_laws _ ts xs rest h
