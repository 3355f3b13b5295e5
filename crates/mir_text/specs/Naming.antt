-- The crate that a derivation names.
use Rattle.std.specs.Prelude.{ℕ, zero, suc, List, [], ◌∷◌, ◌++◌, map, length, Option, Some, None}
use Rattle.mir_syntax.specs.declared.body.Inline.{Inline}
use Rattle.mir_syntax.specs.declared.body.Inline.TheVariants as inlining
use Rattle.mir_syntax.specs.Tree.{Tree, empty}
use Rattle.mir_syntax.specs.Crate.{TypedOutside, TypedBody, TypedFunction, Crate}
use Rattle.mir_text.specs.Grammar.{items_of}
use Rattle.mir_text.specs.GrammarTypes.{types_in}
use Rattle.mir_text.specs.GrammarItems as m
use Rattle.mir_text.specs.GrammarItems.{ArgRule, AttrRule, DeclRule, DeclsRule, FnRule, ItemRule, FileRule}
use Rattle.mir_text.specs.Names.{Strings, path_bytes, Names, names_of, ty_of}
use Rattle.mir_text.specs.NamedBodies.{Declared, declared_ty, block_named}

-- ---- locals

-- the `let` lines of a function, those in scopes too, in order
abbrev mutual
  pub lets_in : DeclRule → List ArgRule
  lets_in (m.«let» mutable x u) = (x, u) ∷ []
  lets_in (m.debug xs) = []
  lets_in (m.scope n p ds) = lets_of ds

  pub lets_of : DeclsRule → List ArgRule
  lets_of m.no_decls = []
  lets_of (m.decls d ds) = lets_in d ++ lets_of ds

-- the arguments and then the `let` lines
abbrev pub declarations : FnRule → List ArgRule
declarations f = items_of (λ a. a) f.args ++ lets_of f.locals

abbrev pub declares : Names → ArgRule → ℕ × Tree
declares names a = (a.0, ty_of names a.1)

abbrev pub declared : Names → FnRule → Declared
declared names f = map (declares names) (declarations f)

abbrev pub or_unit : Option Tree → Tree
or_unit None = empty
or_unit (Some t) = t

-- the types of so many locals from a number on
abbrev pub locals_from : Declared → ℕ → ℕ → List Tree
locals_from locals x zero = []
locals_from locals x (suc n) = or_unit (declared_ty locals x) ∷ locals_from locals (suc x) n

-- ---- functions

abbrev pub inline_named : AttrRule → Inline
inline_named m.none = inlining.Plain
inline_named m.hint = inlining.Hint
inline_named m.always = inlining.Always
inline_named m.never = inlining.Never

abbrev pub body_named : Names → Declared → FnRule → TypedBody
body_named names locals f = record {
  args = length (items_of (λ a. a) f.args);
  locals = locals_from locals 0 (length locals);
  blocks = map (block_named names locals) f.blocks;
}

abbrev pub function_named : Names → FnRule → TypedFunction
function_named names f = record {
  path = path_bytes names.strings f.path;
  inlining = inline_named f.attr;
  is_drop = f.is_drop;
  body = body_named names (declared names f) f;
}

-- ---- crates

abbrev pub outside_in : Names → ItemRule → List TypedOutside
outside_in names (m.extern p us u) = record { path = path_bytes names.strings p; args = map (ty_of names) (types_in us); result = ty_of names u } ∷ []
outside_in names item = []

abbrev pub outsides_in : Names → FileRule → List TypedOutside
outsides_in names [] = []
outsides_in names (item ∷ items) = outside_in names item ++ outsides_in names items

abbrev pub function_in : Names → ItemRule → List TypedFunction
function_in names (m.function f) = function_named names f ∷ []
function_in names item = []

abbrev pub functions_in : Names → FileRule → List TypedFunction
functions_in names [] = []
functions_in names (item ∷ items) = function_in names item ++ functions_in names items

abbrev pub crate_in : Names → FileRule → Crate
crate_in names items = record { defs = names.defs; outsides = outsides_in names items; functions = functions_in names items }

-- each kind of item keeps its order of the file
abbrev pub crate_named : Strings → FileRule → Crate
crate_named strings items = crate_in (names_of strings items) items
