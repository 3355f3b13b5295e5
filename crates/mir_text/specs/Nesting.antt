-- Which derivations are good: types, places and scopes nest at most 65 deep, constants fit their types, and the numbers of fields, scopes
-- and set variants are at most 4294967295. (The numbers of locals and blocks are so by their symbols.)
use Rattle.std.specs.Prelude.{ℕ, suc, ◌≡◌, ◌≤◌, max, true}
use Rattle.mir_text.specs.declared.symbol.Symbol.{Symbol}
use Rattle.mir_text.specs.declared.symbol.Symbol.TheVariants as s
use Rattle.mir_text.specs.Numbers.{fits}
use Rattle.mir_text.specs.Grammar.{AllItems, AllOf}
use Rattle.mir_text.specs.GrammarTypes as t
use Rattle.mir_text.specs.GrammarTypes.{TypeRule, TypesRule}
use Rattle.mir_text.specs.GrammarPlaces.{PlaceRule, local, deref, field, variant_field, ValueRule, number, OperandRule, copy, move, bare, const}
use Rattle.mir_text.specs.GrammarStatements as r
use Rattle.mir_text.specs.GrammarStatements.{NamedRule, BuildRule, RvalueRule, StmtRule}
use Rattle.mir_text.specs.GrammarTerms.{TermRule, switch, call, drop, assert, BlockRule}
use Rattle.mir_text.specs.GrammarItems as m
use Rattle.mir_text.specs.GrammarItems.{FieldRule, FieldsRule, VariantRule, ArgRule, DebugSymbol, DeclRule, DeclsRule, FnRule, ItemRule, FileRule}

-- ---- how deep types and places nest, counting themselves

abbrev mutual
  pub type_depth : TypeRule → ℕ
  type_depth (t.int i) = 1
  type_depth t.bool = 1
  type_depth (t.ref m u) = suc (type_depth u)
  type_depth (t.path p) = 1
  type_depth t.unit = 1
  type_depth (t.tuple u us) = suc (max (type_depth u) (types_depth us))

  pub types_depth : TypesRule → ℕ
  types_depth t.end = 0
  types_depth (t.last u) = type_depth u
  types_depth (t.more u us) = max (type_depth u) (types_depth us)

-- each `(` of a downcast opens a place
abbrev pub place_depth : PlaceRule → ℕ
place_depth (local x) = 1
place_depth (deref q) = suc (place_depth q)
place_depth (field q n u) = suc (max (place_depth q) (type_depth u))
place_depth (variant_field q name n u) = suc (max (suc (place_depth q)) (type_depth u))

abbrev pub TypeGood : TypeRule → Type 0
TypeGood u = type_depth u ≤ 65

abbrev pub TypesGood : TypesRule → Type 0
TypesGood us = types_depth us ≤ 65

-- ---- places, constants and operands

-- the numbers of fields are small enough
abbrev pub Small : PlaceRule → Type 0
Small (local x) = Unit {0}
Small (deref q) = Small q
Small (field q n u) = (n ≤ 4294967295) × Small q
Small (variant_field q name n u) = (n ≤ 4294967295) × Small q

-- a place that may nest so deep
abbrev pub PlaceGood : ℕ → PlaceRule → Type 0
PlaceGood d q = (place_depth q ≤ d) × Small q

abbrev pub ValueFits : ValueRule → Type 0
ValueFits (number negative n u) = fits negative n u ≡ true
ValueFits x = Unit {0}

abbrev pub OperandGood : OperandRule → Type 0
OperandGood (copy q) = PlaceGood 65 q
OperandGood (move q) = PlaceGood 65 q
OperandGood (bare q) = PlaceGood 65 q
OperandGood (const x) = ValueFits x

-- ---- rvalues and statements

abbrev pub NamedGood : NamedRule → Type 0
NamedGood x = OperandGood x.1

-- the first operand of a tuple: a bare place stands in a parenthesis that may be a place's
abbrev pub FirstGood : OperandRule → Type 0
FirstGood (bare q) = PlaceGood 64 q
FirstGood x = OperandGood x

abbrev pub PartsGood : BuildRule → Type 0
PartsGood r.plain = Unit {0}
PartsGood (r.tupled xs) = AllItems OperandGood xs
PartsGood (r.labelled xs) = AllItems NamedGood xs

abbrev pub RvalueGood : RvalueRule → Type 0
RvalueGood (r.«use» x) = OperandGood x
RvalueGood (r.cast x u) = OperandGood x × TypeGood u
RvalueGood (r.binary op x y) = OperandGood x × OperandGood y
RvalueGood (r.overflow op x y) = OperandGood x × OperandGood y
RvalueGood (r.unary op x) = OperandGood x
RvalueGood (r.reference m q) = PlaceGood 65 q
RvalueGood (r.discriminant q) = PlaceGood 65 q
RvalueGood r.nothing = Unit {0}
RvalueGood (r.tuple_of x xs) = FirstGood x × AllItems OperandGood xs
RvalueGood (r.build q x) = PartsGood x

abbrev pub StmtGood : StmtRule → Type 0
StmtGood (r.assign q x) = PlaceGood 65 q × RvalueGood x
StmtGood (r.set q k) = PlaceGood 65 q × (k ≤ 4294967295)
StmtGood x = Unit {0}

-- ---- terminators and blocks

abbrev pub TermGood : TermRule → Type 0
TermGood (switch x arms b) = OperandGood x
TermGood (call q path xs b u) = PlaceGood 65 q × AllItems OperandGood xs
TermGood (drop q b u) = PlaceGood 65 q
TermGood (assert expected x message xs b u) = OperandGood x × AllOf OperandGood xs
TermGood x = Unit {0}

abbrev pub BlockGood : BlockRule → Type 0
BlockGood b = AllOf StmtGood b.stmts × TermGood b.term

-- ---- items

abbrev pub FieldGood : FieldRule → Type 0
FieldGood f = TypeGood f.1

abbrev pub FieldsGood : FieldsRule → Type 0
FieldsGood m.plain = Unit {0}
FieldsGood (m.tupled us) = TypesGood us
FieldsGood (m.labelled fs) = AllItems FieldGood fs

abbrev pub VariantGood : VariantRule → Type 0
VariantGood v = FieldsGood v.1

abbrev pub ArgGood : ArgRule → Type 0
ArgGood a = TypeGood a.1

-- how deep declarations nest: a scope is one more than what stands in it
abbrev mutual
  pub decl_depth : DeclRule → ℕ
  decl_depth (m.«let» mutable x u) = type_depth u
  decl_depth (m.debug xs) = 0
  decl_depth (m.scope n p ds) = suc (decls_depth ds)

  pub decls_depth : DeclsRule → ℕ
  decls_depth m.no_decls = 0
  decls_depth (m.decls d ds) = max (decl_depth d) (decls_depth ds)

-- the number of a local or a block in a `debug` line is small enough too
abbrev pub DebugGood : Symbol → Type 0
DebugGood s.LargeLocal = ⊥
DebugGood s.LargeBlock = ⊥
DebugGood x = Unit {0}

abbrev pub DebugSymbolGood : DebugSymbol → Type 0
DebugSymbolGood x = DebugGood x.symbol

abbrev mutual
  pub DeclSmall : DeclRule → Type 0
  DeclSmall (m.«let» mutable x u) = Unit {0}
  DeclSmall (m.debug xs) = AllOf DebugSymbolGood xs
  DeclSmall (m.scope n p ds) = (n ≤ 4294967295) × DeclsSmall ds

  pub DeclsSmall : DeclsRule → Type 0
  DeclsSmall m.no_decls = Unit {0}
  DeclsSmall (m.decls d ds) = DeclSmall d × DeclsSmall ds

abbrev pub DeclsGood : DeclsRule → Type 0
DeclsGood ds = (decls_depth ds ≤ 65) × DeclsSmall ds

abbrev pub FnGood : FnRule → Type 0
FnGood f = AllItems ArgGood f.args × TypeGood f.result × DeclsGood f.locals × AllOf BlockGood f.blocks

abbrev pub ItemGood : ItemRule → Type 0
ItemGood (m.struct p fs) = FieldsGood fs
ItemGood (m.enum p vs) = AllItems VariantGood vs
ItemGood (m.extern p us u) = TypesGood us × TypeGood u
ItemGood (m.function f) = FnGood f

abbrev pub FileGood : FileRule → Type 0
FileGood items = AllOf ItemGood items
