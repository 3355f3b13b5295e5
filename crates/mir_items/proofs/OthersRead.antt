-- Parsing structs, enums and outside functions is the grammar's rule, both ways.
use Rattle.std.proofs.Common.{◌≡◌, false, List, [], ◌∷◌, Ok, refl, ap, subst, ◌∙◌}
use Rattle.mir_text.specs.declared.symbol.Symbol.{Symbol}
use Rattle.mir_text.specs.declared.symbol.Symbol.TheVariants as s
use Rattle.mir_text.specs.Grammar.{Put, Items, items_put, AllItems}
use Rattle.mir_text.specs.GrammarTypes.{PathRule, path_put, TypeRule, type_put, TypesRule, types_put}
use Rattle.mir_text.specs.GrammarItems as m
use Rattle.mir_text.specs.GrammarItems.{FieldsRule, VariantRule, variant_decl_put, struct_put}
use Rattle.mir_text.specs.Nesting.{TypeGood, TypesGood, FieldsGood, VariantGood}
use Rattle.mir_tree.specs.declared.ty.PathText.{PathText}
use Rattle.mir_tree.specs.declared.ty.TypeText.{TypeText}
use Rattle.mir_tree.specs.declared.item.ItemText.{ItemText}
use Rattle.mir_tree.specs.declared.item.ItemText.TheVariants as i
use Rattle.mir_tree.specs.Types.{path_text, type_text}
use Rattle.mir_parse.specs.Promises.{starts_colons}
use Rattle.mir_parse.specs.Signs.{open_paren, open_brace, semicolon, arrow}
use Rattle.mir_parse.proofs.Laws.{in_steps, ok_same, IsRead, items_text, open_paren-sound, open_brace-sound, semicolon-sound, arrow-sound}
use Rattle.mir_parse.proofs.PathsRead.{path-complete, path-sound}
use Rattle.mir_parse.proofs.TypesRead.{types_text, type-complete, type-sound, types-complete, types-sound}
use Rattle.mir_items.specs.Items.{fn_word, struct_item, enum_item, result_type, result_end, path_open, extern_item}
use Rattle.mir_items.proofs.FieldsRead.{fields_text, struct-complete, struct-sound, variant_text, variants-complete, variants-sound}

-- ---- structs, past the first word

abbrev pub StructRule : Type 0
StructRule = PathRule × FieldsRule

abbrev pub struct_item_put : StructRule → List Symbol → List Symbol
struct_item_put r rest = path_put r.0 (struct_put r.1 rest)

abbrev pub struct_text : StructRule → ItemText
struct_text r = i.Struct (path_text r.0) (fields_text r.1)

abbrev pub StructGood : StructRule → Type 0
StructGood r = FieldsGood r.1

no_colons : (fs : FieldsRule) (rest : List Symbol) → starts_colons (struct_put fs rest) ≡ false
no_colons m.plain rest = refl
no_colons (m.tupled us) rest = refl
no_colons (m.labelled fs) rest = refl

pub struct_item-complete : (r : StructRule) (rest : List Symbol) → StructGood r → struct_item (struct_item_put r rest) ≡ Ok (struct_text r, rest)
unfolding struct_item
struct_item-complete r rest good = rw (path-complete r.0 (struct_put r.1 rest) (no_colons r.1 rest), struct-complete r.1 rest good) refl

abbrev IsStruct : List Symbol → ItemText → List Symbol → Type 0
IsStruct = IsRead struct_item_put struct_text StructGood

pub struct_item-sound : (ts : List Symbol) (x : ItemText) (rest : List Symbol) → struct_item ts ≡ Ok (x, rest) → IsStruct ts x rest
unfolding struct_item
struct_item-sound ts x rest h =
    in_steps _ _ (x, rest) h (λ p past named went.
    in_steps _ _ (x, rest) went (λ fs over found same_h.
    let q = path-sound ts p past named in
    let t = struct-sound past fs over found in
    let P : ItemText × List Symbol → Type 0 = λ y. IsStruct ts y.0 y.1 in
    subst P (ok_same _ _ same_h) (record {
      rule = (q.rule, t.rule);
      reads = ap (λ p. i.Struct p (fields_text t.rule)) q.reads ∙ ap (i.Struct p) t.reads;
      yields = q.yields ∙ ap (path_put q.rule) t.yields;
      good = t.good;
    })))

-- ---- enums, past the first word

abbrev pub EnumRule : Type 0
EnumRule = PathRule × Items VariantRule

abbrev pub enum_item_put : EnumRule → List Symbol → List Symbol
enum_item_put r rest = path_put r.0 (s.OpenBrace ∷ items_put variant_decl_put s.CloseBrace r.1 rest)

abbrev pub enum_text : EnumRule → ItemText
enum_text r = i.Enum (path_text r.0) (items_text variant_text r.1)

abbrev pub EnumGood : EnumRule → Type 0
EnumGood r = AllItems VariantGood r.1

pub enum_item-complete : (r : EnumRule) (rest : List Symbol) → EnumGood r → enum_item (enum_item_put r rest) ≡ Ok (enum_text r, rest)
unfolding enum_item open_brace
enum_item-complete r rest good =
    rw (path-complete r.0 (s.OpenBrace ∷ items_put variant_decl_put s.CloseBrace r.1 rest) refl, variants-complete r.1 rest good) refl

abbrev IsEnum : List Symbol → ItemText → List Symbol → Type 0
IsEnum = IsRead enum_item_put enum_text EnumGood

pub enum_item-sound : (ts : List Symbol) (x : ItemText) (rest : List Symbol) → enum_item ts ≡ Ok (x, rest) → IsEnum ts x rest
unfolding enum_item
enum_item-sound ts x rest h =
    in_steps _ _ (x, rest) h (λ p past named went.
    in_steps _ _ (x, rest) went (λ a over opened went2.
    in_steps _ _ (x, rest) went2 (λ vs after found same_h.
    let q = path-sound ts p past named in
    let t = variants-sound over vs after found in
    let P : ItemText × List Symbol → Type 0 = λ y. IsEnum ts y.0 y.1 in
    subst P (ok_same _ _ same_h) (record {
      rule = (q.rule, t.rule);
      reads = ap (λ p. i.Enum p (items_text variant_text t.rule)) q.reads ∙ ap (i.Enum p) t.reads;
      yields = q.yields ∙ ap (path_put q.rule) (open_brace-sound past (a, over) opened ∙ ap (λ l. s.OpenBrace ∷ l) t.yields);
      good = t.good;
    }))))

-- ---- outside functions, past the first word

pub fn_word-sound : (ts : List Symbol) (q : Unit {0} × List Symbol) → fn_word ts ≡ Ok q → ts ≡ s.Fn ∷ q.1
unfolding fn_word
fn_word-sound [] q h = absurd cc
fn_word-sound (s.Fn ∷ ts) q h = ap (λ q. s.Fn ∷ q.1) (ok_same _ _ h)
fn_word-sound (x ∷ ts) q h = absurd cc

pub path_open-complete : (p : PathRule) (rest : List Symbol) → path_open (path_put p (s.Open ∷ rest)) ≡ Ok (path_text p, rest)
unfolding path_open open_paren
path_open-complete p rest = rw (path-complete p (s.Open ∷ rest) refl) refl

-- a path and a parenthesis
pub record IsPathOpen (ts : List Symbol) (x : PathText) (rest : List Symbol) : Type 0 where
  pub rule : PathRule
  pub reads : path_text rule ≡ x
  pub yields : ts ≡ path_put rule (s.Open ∷ rest)

pub path_open-sound : (ts : List Symbol) (x : PathText) (rest : List Symbol) → path_open ts ≡ Ok (x, rest) → IsPathOpen ts x rest
unfolding path_open
path_open-sound ts x rest h =
    in_steps _ _ (x, rest) h (λ p past named went.
    in_steps _ _ (x, rest) went (λ a over opened same_h.
    let q = path-sound ts p past named in
    let P : PathText × List Symbol → Type 0 = λ y. IsPathOpen ts y.0 y.1 in
    subst P (ok_same _ _ same_h) (record { rule = q.rule; reads = q.reads; yields = q.yields ∙ ap (path_put q.rule) (open_paren-sound past (a, over) opened) })))

-- an arrow and a type
abbrev pub result_type_put : Put TypeRule
result_type_put u rest = s.Arrow ∷ type_put u rest

pub result_type-complete : (u : TypeRule) (rest : List Symbol) → TypeGood u → starts_colons rest ≡ false
    → result_type (result_type_put u rest) ≡ Ok (type_text u, rest)
unfolding result_type arrow
result_type-complete u rest good e = rw (type-complete u 65 rest good e) refl

abbrev pub IsResultType : List Symbol → TypeText → List Symbol → Type 0
IsResultType = IsRead result_type_put type_text TypeGood

pub result_type-sound : (ts : List Symbol) (x : TypeText) (rest : List Symbol) → result_type ts ≡ Ok (x, rest) → IsResultType ts x rest
unfolding result_type
result_type-sound ts x rest h =
    in_steps _ _ (x, rest) h (λ a past is_arrow went.
    in_steps _ _ (x, rest) went (λ u over typed same_h.
    let t = type-sound 65 past u over typed in
    let P : TypeText × List Symbol → Type 0 = λ y. IsResultType ts y.0 y.1 in
    subst P (ok_same _ _ same_h) (record {
      rule = t.rule;
      reads = t.reads;
      yields = arrow-sound ts (a, past) is_arrow ∙ ap (λ l. s.Arrow ∷ l) t.yields;
      good = t.good;
    })))

result_end-complete : (u : TypeRule) (rest : List Symbol) → TypeGood u → result_end (s.Arrow ∷ type_put u (s.Semicolon ∷ rest)) ≡ Ok (type_text u, rest)
unfolding result_end semicolon
result_end-complete u rest good = rw (result_type-complete u (s.Semicolon ∷ rest) good refl) refl

-- an arrow, a type and a semicolon
record IsResultEnd (ts : List Symbol) (x : TypeText) (rest : List Symbol) : Type 0 where
  rule : TypeRule
  reads : type_text rule ≡ x
  yields : ts ≡ s.Arrow ∷ type_put rule (s.Semicolon ∷ rest)
  good : TypeGood rule

result_end-sound : (ts : List Symbol) (x : TypeText) (rest : List Symbol) → result_end ts ≡ Ok (x, rest) → IsResultEnd ts x rest
unfolding result_end
result_end-sound ts x rest h =
    in_steps _ _ (x, rest) h (λ u over typed went.
    in_steps _ _ (x, rest) went (λ a after closed same_h.
    let t = result_type-sound ts u over typed in
    let P : TypeText × List Symbol → Type 0 = λ y. IsResultEnd ts y.0 y.1 in
    subst P (ok_same _ _ same_h) (record {
      rule = t.rule;
      reads = t.reads;
      yields = t.yields ∙ ap (result_type_put t.rule) (semicolon-sound over (a, after) closed);
      good = t.good;
    })))

abbrev pub ExternRule : Type 0
ExternRule = PathRule × TypesRule × TypeRule

abbrev pub extern_item_put : ExternRule → List Symbol → List Symbol
extern_item_put r rest = s.Fn ∷ path_put r.0 (s.Open ∷ types_put r.1 (s.Arrow ∷ type_put r.2 (s.Semicolon ∷ rest)))

abbrev pub extern_text : ExternRule → ItemText
extern_text r = i.Extern (path_text r.0) (types_text r.1) (type_text r.2)

abbrev pub ExternGood : ExternRule → Type 0
ExternGood r = TypesGood r.1 × TypeGood r.2

pub extern_item-complete : (r : ExternRule) (rest : List Symbol) → ExternGood r → extern_item (extern_item_put r rest) ≡ Ok (extern_text r, rest)
unfolding extern_item fn_word
extern_item-complete r rest good =
    let tail = s.Arrow ∷ type_put r.2 (s.Semicolon ∷ rest) in
    rw (path_open-complete r.0 (types_put r.1 tail), types-complete r.1 65 tail good.0, result_end-complete r.2 rest good.1) refl

abbrev IsExtern : List Symbol → ItemText → List Symbol → Type 0
IsExtern = IsRead extern_item_put extern_text ExternGood

pub extern_item-sound : (ts : List Symbol) (x : ItemText) (rest : List Symbol) → extern_item ts ≡ Ok (x, rest) → IsExtern ts x rest
unfolding extern_item
extern_item-sound ts x rest h =
    in_steps _ _ (x, rest) h (λ a past is_fn went.
    in_steps _ _ (x, rest) went (λ p over opened went2.
    in_steps _ _ (x, rest) went2 (λ us after typed went3.
    in_steps _ _ (x, rest) went3 (λ u last ended same_h.
    let q = path_open-sound past p over opened in
    let t = types-sound 65 over us after typed in
    let e = result_end-sound after u last ended in
    let P : ItemText × List Symbol → Type 0 = λ y. IsExtern ts y.0 y.1 in
    subst P (ok_same _ _ same_h) (record {
      rule = (q.rule, t.rule, e.rule);
      reads = ap (λ p. i.Extern p (types_text t.rule) (type_text e.rule)) q.reads ∙ ap (λ us. i.Extern p us (type_text e.rule)) t.reads ∙ ap (i.Extern p us) e.reads;
      yields = fn_word-sound ts (a, past) is_fn ∙ ap (λ l. s.Fn ∷ l) (q.yields ∙ ap (λ l. path_put q.rule (s.Open ∷ l)) (t.yields ∙ ap (types_put t.rule) e.yields));
      good = (t.good, e.good);
    })))))
