-- How many symbols a rule puts, and the lines that are left behind it.
use Rattle.std.proofs.Common.{◌≡◌, ℕ, ◌+◌, ◌-◌, ◌<◌, ◌≤◌, Bool, true, false, List, [], ◌∷◌, length, get_or, drop, Some, None, ap, ◌∙◌, arith}
use Rattle.std.proofs.lemmas.List.{drop-drop, get_or-drop}
use Rattle.mir_text.specs.declared.symbol.Symbol.{Symbol}
use Rattle.mir_text.specs.declared.symbol.Symbol.TheVariants as s
use Rattle.mir_text.specs.GrammarItems as m
use Rattle.mir_text.specs.GrammarItems.{FieldRule, field_decl_put, FieldsRule, VariantRule, fields_put, variant_decl_put, struct_put, ArgRule, arg_put, AttrRule, attr_put, DebugSymbol, debug_put, DeclRule, DeclsRule, inlined_put, decl_put, decls_put, FnRule, ItemRule, drop_put, fn_front_put, result_put, fn_put, item_put}
use Rattle.mir_text.specs.Grammar.{Put, Items, items_put, each_put}
use Rattle.mir_text.specs.GrammarTypes.{path_put, TypeRule, type_put, TypesRule, types_put}
use Rattle.mir_text.specs.GrammarTerms.{BlockRule, block_put}
use Rattle.mir_text.specs.PartLines.{first_line, past, scope_front}
use Rattle.mir_parse.proofs.Sizes.{path_size, type_size, types_size, items_size, each_size, block_size}
use Rattle.mir_items.specs.Lines.{line_of, lines_at}

-- ---- sizes

debug_symbol_size : (x : DebugSymbol) (rest : List Symbol) → length (debug_put x rest) ≡ length (debug_put x []) + length rest
debug_symbol_size x rest = omega arith

debug_size : (xs : List DebugSymbol) (rest : List Symbol) → length (each_put debug_put xs rest) ≡ length (each_put debug_put xs []) + length rest
debug_size = each_size debug_put debug_symbol_size

pub inlined_size : (q : _) (rest : List Symbol) → length (inlined_put q rest) ≡ length (inlined_put q []) + length rest
inlined_size None rest = omega arith
inlined_size (Some q) rest = omega (arith, path_size q (s.Close ∷ rest), path_size q (s.Close ∷ []))

mutual
  pub decl_size : (d : DeclRule) (rest : List Symbol) → length (decl_put d rest) ≡ length (decl_put d []) + length rest
  decl_size (m.«let» true x u) rest = omega (arith, type_size u (s.Semicolon ∷ rest), type_size u (s.Semicolon ∷ []))
  decl_size (m.«let» false x u) rest = omega (arith, type_size u (s.Semicolon ∷ rest), type_size u (s.Semicolon ∷ []))
  decl_size (m.debug xs) rest = omega (arith, debug_size xs (s.Semicolon ∷ rest), debug_size xs (s.Semicolon ∷ []))
  decl_size (m.scope n q ds) rest =
      omega (
        arith,
        inlined_size q (s.OpenBrace ∷ decls_put ds (s.CloseBrace ∷ rest)),
        inlined_size q (s.OpenBrace ∷ decls_put ds (s.CloseBrace ∷ [])),
        decls_size ds (s.CloseBrace ∷ rest),
        decls_size ds (s.CloseBrace ∷ []),
      )

  pub decls_size : (ds : DeclsRule) (rest : List Symbol) → length (decls_put ds rest) ≡ length (decls_put ds []) + length rest
  decls_size m.no_decls rest = omega arith
  decls_size (m.decls d ds) rest = omega (arith, decl_size d (decls_put ds rest), decl_size d (decls_put ds []), decls_size ds rest)

-- a scope is what stands before its declarations, and these
pub scope_size : (n : ℕ) (q : _) (ds : DeclsRule) (rest : List Symbol) → length (decl_put (m.scope n q ds) rest) ≡ scope_front (m.scope n q ds) + length (decls_put ds (s.CloseBrace ∷ rest))
scope_size n q ds rest = omega (arith, inlined_size q (s.OpenBrace ∷ decls_put ds (s.CloseBrace ∷ rest)), inlined_size q (s.OpenBrace ∷ []))

-- ---- sizes of items

pub arg_size : (a : ArgRule) (rest : List Symbol) → length (arg_put a rest) ≡ length (arg_put a []) + length rest
arg_size a rest = omega (arith, type_size a.1 rest)

pub args_size : (xs : Items ArgRule) (rest : List Symbol) → length (items_put arg_put s.Close xs rest) ≡ length (items_put arg_put s.Close xs []) + length rest
args_size = items_size arg_put arg_size s.Close

attr_size : (r : AttrRule) (rest : List Symbol) → length (attr_put r rest) ≡ length (attr_put r []) + length rest
attr_size m.none rest = omega arith
attr_size m.hint rest = omega arith
attr_size m.always rest = omega arith
attr_size m.never rest = omega arith

drop_size : (is : Bool) (rest : List Symbol) → length (drop_put is rest) ≡ length (drop_put is []) + length rest
drop_size true rest = omega arith
drop_size false rest = omega arith

pub fn_front_size : (f : FnRule) (rest : List Symbol) → length (fn_front_put f rest) ≡ length (fn_front_put f []) + length rest
fn_front_size f rest =
    omega (
      arith,
      attr_size f.attr (drop_put f.is_drop (s.Fn ∷ path_put f.path (s.Open ∷ rest))),
      attr_size f.attr (drop_put f.is_drop (s.Fn ∷ path_put f.path (s.Open ∷ []))),
      drop_size f.is_drop (s.Fn ∷ path_put f.path (s.Open ∷ rest)),
      drop_size f.is_drop (s.Fn ∷ path_put f.path (s.Open ∷ [])),
      path_size f.path (s.Open ∷ rest),
      path_size f.path (s.Open ∷ []),
    )

pub result_size : (u : TypeRule) (rest : List Symbol) → length (result_put u rest) ≡ length (result_put u []) + length rest
result_size u rest = omega (arith, type_size u (s.OpenBrace ∷ rest), type_size u (s.OpenBrace ∷ []))

pub blocks_size : (bs : List BlockRule) (rest : List Symbol) → length (each_put block_put bs rest) ≡ length (each_put block_put bs []) + length rest
blocks_size = each_size block_put block_size

-- what stands behind the arguments of a function
abbrev pub body_put : FnRule → List Symbol → List Symbol
body_put f rest = result_put f.result (decls_put f.locals (each_put block_put f.blocks (s.CloseBrace ∷ rest)))

body_size : (f : FnRule) (rest : List Symbol) → length (body_put f rest) ≡ length (body_put f []) + length rest
body_size f rest =
    omega (
      arith,
      result_size f.result (decls_put f.locals (each_put block_put f.blocks (s.CloseBrace ∷ rest))),
      result_size f.result (decls_put f.locals (each_put block_put f.blocks (s.CloseBrace ∷ []))),
      decls_size f.locals (each_put block_put f.blocks (s.CloseBrace ∷ rest)),
      decls_size f.locals (each_put block_put f.blocks (s.CloseBrace ∷ [])),
      blocks_size f.blocks (s.CloseBrace ∷ rest),
      blocks_size f.blocks (s.CloseBrace ∷ []),
    )

pub fn_size : (f : FnRule) (rest : List Symbol) → length (fn_put f rest) ≡ length (fn_put f []) + length rest
fn_size f rest =
    omega (
      arith,
      fn_front_size f (items_put arg_put s.Close f.args (body_put f rest)),
      fn_front_size f (items_put arg_put s.Close f.args (body_put f [])),
      args_size f.args (body_put f rest),
      args_size f.args (body_put f []),
      body_size f rest,
    )

field_size : (x : FieldRule) (rest : List Symbol) → length (field_decl_put x rest) ≡ length (field_decl_put x []) + length rest
field_size x rest = omega (arith, type_size x.1 rest)

fields_size : (x : FieldsRule) (rest : List Symbol) → length (fields_put x rest) ≡ length (fields_put x []) + length rest
fields_size m.plain rest = omega arith
fields_size (m.tupled us) rest = omega (arith, types_size us rest)
fields_size (m.labelled fs) rest = omega (arith, items_size field_decl_put field_size s.CloseBrace fs rest)

variant_size : (v : VariantRule) (rest : List Symbol) → length (variant_decl_put v rest) ≡ length (variant_decl_put v []) + length rest
variant_size v rest = omega (arith, fields_size v.1 rest)

struct_size : (x : FieldsRule) (rest : List Symbol) → length (struct_put x rest) ≡ length (struct_put x []) + length rest
struct_size m.plain rest = omega arith
struct_size (m.tupled us) rest = omega (arith, types_size us (s.Semicolon ∷ rest), types_size us (s.Semicolon ∷ []))
struct_size (m.labelled fs) rest = omega (arith, items_size field_decl_put field_size s.CloseBrace fs rest)

abbrev extern_end : TypesRule → TypeRule → List Symbol → List Symbol
extern_end us u rest = s.Open ∷ types_put us (s.Arrow ∷ type_put u (s.Semicolon ∷ rest))

extern_size : (us : TypesRule) (u : TypeRule) (rest : List Symbol) → length (extern_end us u rest) ≡ length (extern_end us u []) + length rest
extern_size us u rest =
    omega (
      arith,
      types_size us (s.Arrow ∷ type_put u (s.Semicolon ∷ rest)),
      types_size us (s.Arrow ∷ type_put u (s.Semicolon ∷ [])),
      type_size u (s.Semicolon ∷ rest),
      type_size u (s.Semicolon ∷ []),
    )

pub item_size : (x : ItemRule) (rest : List Symbol) → length (item_put x rest) ≡ length (item_put x []) + length rest
item_size (m.struct p fs) rest = omega (arith, path_size p (struct_put fs rest), path_size p (struct_put fs []), struct_size fs rest)
item_size (m.enum p vs) rest =
    omega (
      arith,
      path_size p (s.OpenBrace ∷ items_put variant_decl_put s.CloseBrace vs rest),
      path_size p (s.OpenBrace ∷ items_put variant_decl_put s.CloseBrace vs []),
      items_size variant_decl_put variant_size s.CloseBrace vs rest,
    )
item_size (m.extern p us u) rest = omega (arith, path_size p (extern_end us u rest), path_size p (extern_end us u []), extern_size us u rest)
item_size (m.function f) rest = fn_size f rest

fn_begins : (f : FnRule) → 0 < length (fn_front_put f [])
fn_begins f =
    omega (
      arith,
      attr_size f.attr (drop_put f.is_drop (s.Fn ∷ path_put f.path (s.Open ∷ []))),
      drop_size f.is_drop (s.Fn ∷ path_put f.path (s.Open ∷ [])),
    )

pub some_item : (x : ItemRule) → 0 < length (item_put x [])
some_item (m.struct p fs) = omega arith
some_item (m.enum p vs) = omega arith
some_item (m.extern p us u) = omega arith
some_item (m.function f) = omega (arith, fn_front_size f (items_put arg_put s.Close f.args (body_put f [])), fn_begins f)

-- ---- lines

pub first-line : (lines : List ℕ) (ts : List Symbol) → first_line (lines_at lines ts) ≡ line_of lines ts
first-line lines ts =
    let k : length lines - length ts + 0 ≡ length lines - length ts = omega arith in
    get_or-drop (length lines - length ts) lines 0 0 ∙ ap (λ n. get_or lines n 0) k

pub lines-past : (lines : List ℕ) (a m whole : ℕ) → whole ≡ a + m → whole ≤ length lines → drop a (drop (length lines - whole) lines) ≡ drop (length lines - m) lines
lines-past lines a m whole e h =
    let k : length lines - whole + a ≡ length lines - m = omega arith in
    drop-drop a (length lines - whole) lines ∙ ap (λ n. drop n lines) k

-- the lines behind a rule are those of what follows it
pub past-lines : {R : Type 0} (put : Put R) (r : R) (lines : List ℕ) (ts rest : List Symbol) → length ts ≡ length (put r []) + length rest → length ts ≤ length lines → past put r (lines_at lines ts) ≡ lines_at lines rest
past-lines put r lines ts rest e h = lines-past lines (length (put r [])) (length rest) (length ts) e h

-- all lines are those of all symbols
pub all-lines : (lines : List ℕ) (ts : List Symbol) → length lines ≡ length ts → lines_at lines ts ≡ lines
all-lines lines ts e = let none : length lines - length ts ≡ 0 = omega arith in ap (λ n. drop n lines) none
