-- The grammar of items and files.
--
--     file    = item*
--     item    = "struct" path ( ";" | "(" type,* ")" ";" | "{" field,* "}" )
--             | "enum" path "{" variant,* "}"
--             | "extern" "fn" path "(" type,* ")" "->" type ";"
--             | attr? "drop"? "fn" path "(" arg,* ")" "->" type "{" decl* block* "}"
--     variant = name ( "(" type,* ")" | "{" field,* "}" )?
--     field   = name ":" type
--     arg     = local ":" type
--     attr    = "#" "[" "inline" ( "(" ( "always" | "never" ) ")" )? "]"
--     decl    = "let" "mut"? local ":" type ";"
--             | "debug" (any token but ";")* ";"
--             | "scope" number ( "(" "inlined" path ")" )? "{" decl* "}"
use Rattle.std.specs.Prelude.{ℕ, ◌≡◌, Bool, true, false, List, ◌∷◌, Option, Some, None}
use Rattle.mir_text.specs.declared.symbol.Symbol.{Symbol}
use Rattle.mir_text.specs.declared.symbol.Symbol.TheVariants as s
use Rattle.mir_text.specs.Symbols.{inline_name, always_name, never_name, inlined_name}
use Rattle.mir_text.specs.Grammar.{Put, Items, items_put, each_put}
use Rattle.mir_text.specs.GrammarTypes.{PathRule, path_put, TypeRule, type_put, TypesRule, types_put, mut_put}
use Rattle.mir_text.specs.GrammarTerms.{BlockRule, block_put}

-- ---- field and variant

abbrev pub FieldRule : Type 0
FieldRule = ℕ × TypeRule

abbrev pub field_decl_put : Put FieldRule
field_decl_put f rest = s.Name f.0 ∷ s.Colon ∷ type_put f.1 rest

-- the fields of a struct or of a variant
pub data FieldsRule : Type 0 where
  plain : FieldsRule
  tupled : TypesRule → FieldsRule
  labelled : Items FieldRule → FieldsRule

abbrev pub VariantRule : Type 0
VariantRule = ℕ × FieldsRule

-- ( "(" type,* ")" | "{" field,* "}" )?
abbrev pub fields_put : Put FieldsRule
fields_put plain rest = rest
fields_put (tupled ts) rest = s.Open ∷ types_put ts rest
fields_put (labelled fs) rest = s.OpenBrace ∷ items_put field_decl_put s.CloseBrace fs rest

abbrev pub variant_decl_put : Put VariantRule
variant_decl_put v rest = s.Name v.0 ∷ fields_put v.1 rest

-- ";" | "(" type,* ")" ";" | "{" field,* "}"
abbrev pub struct_put : Put FieldsRule
struct_put plain rest = s.Semicolon ∷ rest
struct_put (tupled ts) rest = s.Open ∷ types_put ts (s.Semicolon ∷ rest)
struct_put (labelled fs) rest = s.OpenBrace ∷ items_put field_decl_put s.CloseBrace fs rest

-- ---- arg and attr

abbrev pub ArgRule : Type 0
ArgRule = ℕ × TypeRule

abbrev pub arg_put : Put ArgRule
arg_put a rest = s.Local a.0 ∷ s.Colon ∷ type_put a.1 rest

pub data AttrRule : Type 0 where
  none : AttrRule
  hint : AttrRule
  always : AttrRule
  never : AttrRule

-- attr?
abbrev pub attr_put : Put AttrRule
attr_put none rest = rest
attr_put hint rest = s.Hash ∷ s.OpenBracket ∷ inline_name ∷ s.CloseBracket ∷ rest
attr_put always rest = s.Hash ∷ s.OpenBracket ∷ inline_name ∷ s.Open ∷ always_name ∷ s.Close ∷ s.CloseBracket ∷ rest
attr_put never rest = s.Hash ∷ s.OpenBracket ∷ inline_name ∷ s.Open ∷ never_name ∷ s.Close ∷ s.CloseBracket ∷ rest

-- ---- decl

abbrev pub is_semicolon : Symbol → Bool
is_semicolon s.Semicolon = true
is_semicolon x = false

-- any token but ";"
pub record DebugSymbol : Type 0 where
  pub symbol : Symbol
  pub other : is_semicolon symbol ≡ false

mutual
  pub data DeclRule : Type 0 where
    «let» : Bool → ℕ → TypeRule → DeclRule
    debug : List DebugSymbol → DeclRule
    scope : ℕ → Option PathRule → DeclsRule → DeclRule

  -- decl*
  pub data DeclsRule : Type 0 where
    no_decls : DeclsRule
    decls : DeclRule → DeclsRule → DeclsRule

abbrev pub debug_put : Put DebugSymbol
debug_put x rest = x.symbol ∷ rest

-- ( "(" "inlined" path ")" )?
abbrev pub inlined_put : Put (Option PathRule)
inlined_put None rest = rest
inlined_put (Some p) rest = s.Open ∷ inlined_name ∷ path_put p (s.Close ∷ rest)

abbrev mutual
  pub decl_put : Put DeclRule
  decl_put («let» m x t) rest = s.Let ∷ mut_put m (s.Local x ∷ s.Colon ∷ type_put t (s.Semicolon ∷ rest))
  decl_put (debug xs) rest = s.Debug ∷ each_put debug_put xs (s.Semicolon ∷ rest)
  decl_put (scope n p ds) rest = s.Scope ∷ s.Number n ∷ inlined_put p (s.OpenBrace ∷ decls_put ds (s.CloseBrace ∷ rest))

  pub decls_put : Put DeclsRule
  decls_put no_decls rest = rest
  decls_put (decls d ds) rest = decl_put d (decls_put ds rest)

-- ---- item and file

pub record FnRule : Type 0 where
  pub attr : AttrRule
  pub is_drop : Bool
  pub path : PathRule
  pub args : Items ArgRule
  pub result : TypeRule
  pub locals : DeclsRule
  pub blocks : List BlockRule

pub data ItemRule : Type 0 where
  struct : PathRule → FieldsRule → ItemRule
  enum : PathRule → Items VariantRule → ItemRule
  extern : PathRule → TypesRule → TypeRule → ItemRule
  function : FnRule → ItemRule

-- "drop"?
abbrev pub drop_put : Put Bool
drop_put true rest = s.Drop ∷ rest
drop_put false rest = rest

-- attr? "drop"? "fn" path "("
abbrev pub fn_front_put : Put FnRule
fn_front_put f rest = attr_put f.attr (drop_put f.is_drop (s.Fn ∷ path_put f.path (s.Open ∷ rest)))

-- "->" type "{"
abbrev pub result_put : Put TypeRule
result_put t rest = s.Arrow ∷ type_put t (s.OpenBrace ∷ rest)

abbrev pub fn_put : Put FnRule
fn_put f rest = fn_front_put f (items_put arg_put s.Close f.args (result_put f.result (decls_put f.locals (each_put block_put f.blocks (s.CloseBrace ∷ rest)))))

abbrev pub item_put : Put ItemRule
item_put (struct p fs) rest = s.Struct ∷ path_put p (struct_put fs rest)
item_put (enum p vs) rest = s.Enum ∷ path_put p (s.OpenBrace ∷ items_put variant_decl_put s.CloseBrace vs rest)
item_put (extern p ts t) rest = s.Extern ∷ s.Fn ∷ path_put p (s.Open ∷ types_put ts (s.Arrow ∷ type_put t (s.Semicolon ∷ rest)))
item_put (function f) rest = fn_put f rest

abbrev pub FileRule : Type 0
FileRule = List ItemRule

abbrev pub file_put : Put FileRule
file_put items rest = each_put item_put items rest
