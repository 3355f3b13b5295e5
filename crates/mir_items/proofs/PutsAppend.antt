-- A rule puts the same symbols before whatever follows.
use Rattle.std.proofs.Common.{◌≡◌, ℕ, true, false, List, [], ◌∷◌, ◌++◌, Some, None, refl, ap, ◌∙◌}
use Rattle.mir_text.specs.declared.symbol.Symbol.{Symbol}
use Rattle.mir_text.specs.declared.symbol.Symbol.TheVariants as s
use Rattle.mir_text.specs.Symbols.{success_name}
use Rattle.mir_text.specs.Grammar.{Put, Items, end, last, more, items_put, each_put}
use Rattle.mir_text.specs.GrammarTypes as t
use Rattle.mir_text.specs.GrammarTypes.{path_put, type_put, types_put, mut_put}
use Rattle.mir_text.specs.GrammarPlaces as p
use Rattle.mir_text.specs.GrammarPlaces.{field_put, variant_put, place_put, value_put, OperandRule, operand_put}
use Rattle.mir_text.specs.GrammarStatements as r
use Rattle.mir_text.specs.GrammarStatements.{named_put, parts_put, pair_put, cast_put, rvalue_put, stmt_put}
use Rattle.mir_text.specs.GrammarTerms as g
use Rattle.mir_text.specs.GrammarTerms.{UnwindRule, goes_put, ArmRule, arm_put, value_operand_put, expected_put, term_put, ended_put, block_put}
use Rattle.mir_text.specs.GrammarItems as m
use Rattle.mir_text.specs.GrammarItems.{field_decl_put, fields_put, variant_decl_put, struct_put, arg_put, attr_put, debug_put, inlined_put, decl_put, decls_put, drop_put, fn_front_put, result_put, fn_put, item_put, file_put}

abbrev pub Appends : {R : Type 0} → Put R → Type 0
Appends {R} put = (r : R) (rest behind : List Symbol) → put r (rest ++ behind) ≡ put r rest ++ behind

-- ---- lists

items_append : {R : Type 0} (put : Put R) → Appends put → (closing : Symbol) → Appends (items_put put closing)
items_append put one closing end rest behind = refl
items_append put one closing (last x) rest behind = one x (closing ∷ rest) behind
items_append put one closing (more x xs) rest behind =
    ap (λ l. put x (s.Comma ∷ l)) (items_append put one closing xs rest behind) ∙ one x (s.Comma ∷ items_put put closing xs rest) behind

each_append : {R : Type 0} (put : Put R) → Appends put → Appends (each_put put)
each_append put one [] rest behind = refl
each_append put one (x ∷ xs) rest behind = ap (put x) (each_append put one xs rest behind) ∙ one x (each_put put xs rest) behind

-- ---- paths and types

path_append : Appends path_put
path_append (t.name n) rest behind = refl
path_append (t.name_in n q) rest behind = ap (λ l. s.Name n ∷ s.Colons ∷ l) (path_append q rest behind)

mut_append : Appends mut_put
mut_append true rest behind = refl
mut_append false rest behind = refl

mutual
  type_append : Appends type_put
  type_append (t.int i) rest behind = refl
  type_append t.bool rest behind = refl
  type_append (t.ref b u) rest behind = ap (λ l. s.Ampersand ∷ l) (ap (mut_put b) (type_append u rest behind) ∙ mut_append b (type_put u rest) behind)
  type_append (t.path q) rest behind = path_append q rest behind
  type_append t.unit rest behind = refl
  type_append (t.tuple u us) rest behind =
      ap (λ l. s.Open ∷ l) (ap (λ l. type_put u (s.Comma ∷ l)) (types_append us rest behind) ∙ type_append u (s.Comma ∷ types_put us rest) behind)

  types_append : Appends types_put
  types_append t.end rest behind = refl
  types_append (t.last u) rest behind = type_append u (s.Close ∷ rest) behind
  types_append (t.more u us) rest behind = ap (λ l. type_put u (s.Comma ∷ l)) (types_append us rest behind) ∙ type_append u (s.Comma ∷ types_put us rest) behind

-- ---- places and operands

field_append : (n : ℕ) → Appends (field_put n)
field_append n u rest behind = ap (λ l. s.Dot ∷ s.Number n ∷ s.Colon ∷ l) (type_append u (s.Close ∷ rest) behind)

place_append : Appends place_put
place_append (p.local x) rest behind = refl
place_append (p.deref q) rest behind = ap (λ l. s.Open ∷ s.Star ∷ l) (place_append q (s.Close ∷ rest) behind)
place_append (p.field q n u) rest behind =
    ap (λ l. s.Open ∷ l) (ap (place_put q) (field_append n u rest behind) ∙ place_append q (field_put n u rest) behind)
place_append (p.variant_field q v n u) rest behind =
    ap (λ l. s.Open ∷ s.Open ∷ l) (ap (λ l. place_put q (variant_put v l)) (field_append n u rest behind) ∙ place_append q (variant_put v (field_put n u rest)) behind)

value_append : Appends value_put
value_append (p.number true n u) rest behind = refl
value_append (p.number false n u) rest behind = refl
value_append (p.boolean x) rest behind = refl
value_append p.unit rest behind = refl
value_append (p.least u) rest behind = refl
value_append (p.most u) rest behind = refl

operand_append : Appends operand_put
operand_append (p.copy q) rest behind = ap (λ l. s.Copy ∷ l) (place_append q rest behind)
operand_append (p.move q) rest behind = ap (λ l. s.Move ∷ l) (place_append q rest behind)
operand_append (p.bare q) rest behind = place_append q rest behind
operand_append (p.const x) rest behind = ap (λ l. s.Const ∷ l) (value_append x rest behind)

named_append : Appends named_put
named_append x rest behind = ap (λ l. s.Name x.0 ∷ s.Colon ∷ l) (operand_append x.1 rest behind)

-- ---- rvalues and statements

parts_append : Appends parts_put
parts_append r.plain rest behind = refl
parts_append (r.tupled xs) rest behind = ap (λ l. s.Open ∷ l) (items_append operand_put operand_append s.Close xs rest behind)
parts_append (r.labelled xs) rest behind = ap (λ l. s.OpenBrace ∷ l) (items_append named_put named_append s.CloseBrace xs rest behind)

pair_append : (x : OperandRule) → Appends (pair_put x)
pair_append x y rest behind =
    ap (λ l. s.Open ∷ l) (ap (λ l. operand_put x (s.Comma ∷ l)) (operand_append y (s.Close ∷ rest) behind) ∙ operand_append x (s.Comma ∷ operand_put y (s.Close ∷ rest)) behind)

cast_append : Appends cast_put
cast_append u rest behind = ap (λ l. s.As ∷ l) (type_append u (s.Open ∷ s.Name 7 ∷ s.Close ∷ rest) behind)

rvalue_append : Appends rvalue_put
rvalue_append (r.«use» x) rest behind = operand_append x rest behind
rvalue_append (r.cast x u) rest behind = ap (operand_put x) (cast_append u rest behind) ∙ operand_append x (cast_put u rest) behind
rvalue_append (r.binary op x y) rest behind = ap (λ l. s.Binary op ∷ l) (pair_append x y rest behind)
rvalue_append (r.overflow op x y) rest behind = ap (λ l. s.Over op ∷ l) (pair_append x y rest behind)
rvalue_append (r.unary op x) rest behind = ap (λ l. s.Unary op ∷ s.Open ∷ l) (operand_append x (s.Close ∷ rest) behind)
rvalue_append (r.reference b q) rest behind = ap (λ l. s.Ampersand ∷ l) (ap (mut_put b) (place_append q rest behind) ∙ mut_append b (place_put q rest) behind)
rvalue_append (r.discriminant q) rest behind = ap (λ l. s.Discriminant ∷ s.Open ∷ l) (place_append q (s.Close ∷ rest) behind)
rvalue_append r.nothing rest behind = refl
rvalue_append (r.tuple_of x xs) rest behind =
    ap (λ l. s.Open ∷ l) (
    ap (λ l. operand_put x (s.Comma ∷ l)) (items_append operand_put operand_append s.Close xs rest behind)
    ∙ operand_append x (s.Comma ∷ items_put operand_put s.Close xs rest) behind)
rvalue_append (r.build q x) rest behind = ap (path_put q) (parts_append x rest behind) ∙ path_append q (parts_put x rest) behind

stmt_append : Appends stmt_put
stmt_append (r.assign q x) rest behind = ap (λ l. place_put q (s.Equals ∷ l)) (rvalue_append x rest behind) ∙ place_append q (s.Equals ∷ rvalue_put x rest) behind
stmt_append r.nop rest behind = refl
stmt_append (r.live x) rest behind = refl
stmt_append (r.dead x) rest behind = refl
stmt_append (r.set q k) rest behind = ap (λ l. s.Discriminant ∷ s.Open ∷ l) (place_append q (s.Close ∷ s.Equals ∷ s.Number k ∷ rest) behind)

ended_append : Appends ended_put
ended_append x rest behind = stmt_append x (s.Semicolon ∷ rest) behind

-- ---- terminators and blocks

goes_append : (w : Symbol) (b : ℕ) → Appends (goes_put w b)
goes_append w b g.continues rest behind = refl
goes_append w b g.unreachable rest behind = refl

arm_append : Appends arm_put
arm_append a rest behind = refl

value_operand_append : Appends value_operand_put
value_operand_append x rest behind = ap (λ l. s.Comma ∷ l) (operand_append x rest behind)

expected_append : Appends expected_put
expected_append true rest behind = refl
expected_append false rest behind = refl

abbrev otherwise_put : ℕ → List Symbol → List Symbol
otherwise_put b rest = s.Otherwise ∷ s.Colon ∷ s.Block b ∷ s.CloseBracket ∷ rest

abbrev arms_put : List ArmRule → ℕ → List Symbol → List Symbol
arms_put arms b rest = s.Close ∷ s.Arrow ∷ s.OpenBracket ∷ each_put arm_put arms (otherwise_put b rest)

arms_append : (arms : List ArmRule) (b : ℕ) (rest behind : List Symbol) → arms_put arms b (rest ++ behind) ≡ arms_put arms b rest ++ behind
arms_append arms b rest behind = ap (λ l. s.Close ∷ s.Arrow ∷ s.OpenBracket ∷ l) (each_append arm_put arm_append arms (otherwise_put b rest) behind)

abbrev call_put : Items OperandRule → ℕ → UnwindRule → List Symbol → List Symbol
call_put xs b u rest = s.Open ∷ items_put operand_put s.Close xs (goes_put s.Return b u rest)

call_append : (xs : Items OperandRule) (b : ℕ) → (u : UnwindRule) (rest behind : List Symbol) → call_put xs b u (rest ++ behind) ≡ call_put xs b u rest ++ behind
call_append xs b u rest behind =
    ap (λ l. s.Open ∷ l) (
    ap (items_put operand_put s.Close xs) (goes_append s.Return b u rest behind)
    ∙ items_append operand_put operand_append s.Close xs (goes_put s.Return b u rest) behind)

abbrev assert_put : ℕ → List OperandRule → ℕ → UnwindRule → List Symbol → List Symbol
assert_put message xs b u rest = s.Comma ∷ s.Text message ∷ each_put value_operand_put xs (s.Close ∷ goes_put success_name b u rest)

assert_append : (message : ℕ) (xs : List OperandRule) (b : ℕ) (u : UnwindRule) (rest behind : List Symbol) → assert_put message xs b u (rest ++ behind) ≡ assert_put message xs b u rest ++ behind
assert_append message xs b u rest behind =
    ap (λ l. s.Comma ∷ s.Text message ∷ l) (
    ap (λ l. each_put value_operand_put xs (s.Close ∷ l)) (goes_append success_name b u rest behind)
    ∙ each_append value_operand_put value_operand_append xs (s.Close ∷ goes_put success_name b u rest) behind)

pub term_append : Appends term_put
term_append (g.goto b) rest behind = refl
term_append g.returns rest behind = refl
term_append g.never rest behind = refl
term_append (g.switch x arms b) rest behind =
    ap (λ l. s.SwitchInt ∷ s.Open ∷ l) (ap (operand_put x) (arms_append arms b rest behind) ∙ operand_append x (arms_put arms b rest) behind)
term_append (g.call q path xs b u) rest behind =
    ap (λ l. place_put q (s.Equals ∷ path_put path l)) (call_append xs b u rest behind)
    ∙ ap (λ l. place_put q (s.Equals ∷ l)) (path_append path (call_put xs b u rest) behind)
    ∙ place_append q (s.Equals ∷ path_put path (call_put xs b u rest)) behind
term_append (g.drop q b u) rest behind =
    ap (λ l. s.Drop ∷ s.Open ∷ l) (ap (λ l. place_put q (s.Close ∷ l)) (goes_append s.Return b u rest behind) ∙ place_append q (s.Close ∷ goes_put s.Return b u rest) behind)
term_append (g.assert expected x message xs b u) rest behind =
    ap (λ l. s.Assert ∷ s.Open ∷ l) (
    ap (λ l. expected_put expected (operand_put x l)) (assert_append message xs b u rest behind)
    ∙ ap (expected_put expected) (operand_append x (assert_put message xs b u rest) behind)
    ∙ expected_append expected (operand_put x (assert_put message xs b u rest)) behind)

block_append : Appends block_put
block_append b rest behind =
    let over = s.Semicolon ∷ s.CloseBrace ∷ rest in
    ap (λ l. s.Block b.label ∷ s.Colon ∷ s.OpenBrace ∷ l) (
    ap (each_put ended_put b.stmts) (term_append b.term over behind)
    ∙ each_append ended_put ended_append b.stmts (term_put b.term over) behind)

-- ---- fields and variants

field_decl_append : Appends field_decl_put
field_decl_append f rest behind = ap (λ l. s.Name f.0 ∷ s.Colon ∷ l) (type_append f.1 rest behind)

fields_append : Appends fields_put
fields_append m.plain rest behind = refl
fields_append (m.tupled us) rest behind = ap (λ l. s.Open ∷ l) (types_append us rest behind)
fields_append (m.labelled fs) rest behind = ap (λ l. s.OpenBrace ∷ l) (items_append field_decl_put field_decl_append s.CloseBrace fs rest behind)

variant_append : Appends variant_decl_put
variant_append v rest behind = ap (λ l. s.Name v.0 ∷ l) (fields_append v.1 rest behind)

struct_append : Appends struct_put
struct_append m.plain rest behind = refl
struct_append (m.tupled us) rest behind = ap (λ l. s.Open ∷ l) (types_append us (s.Semicolon ∷ rest) behind)
struct_append (m.labelled fs) rest behind = ap (λ l. s.OpenBrace ∷ l) (items_append field_decl_put field_decl_append s.CloseBrace fs rest behind)

-- ---- functions

arg_append : Appends arg_put
arg_append a rest behind = ap (λ l. s.Local a.0 ∷ s.Colon ∷ l) (type_append a.1 rest behind)

attr_append : Appends attr_put
attr_append m.none rest behind = refl
attr_append m.hint rest behind = refl
attr_append m.always rest behind = refl
attr_append m.never rest behind = refl

debug_append : Appends debug_put
debug_append x rest behind = refl

inlined_append : Appends inlined_put
inlined_append None rest behind = refl
inlined_append (Some q) rest behind = ap (λ l. s.Open ∷ s.Name 3 ∷ l) (path_append q (s.Close ∷ rest) behind)

mutual
  decl_append : Appends decl_put
  decl_append (m.«let» b x u) rest behind =
      ap (λ l. s.Let ∷ l) (
      ap (λ l. mut_put b (s.Local x ∷ s.Colon ∷ l)) (type_append u (s.Semicolon ∷ rest) behind)
      ∙ mut_append b (s.Local x ∷ s.Colon ∷ type_put u (s.Semicolon ∷ rest)) behind)
  decl_append (m.debug xs) rest behind = ap (λ l. s.Debug ∷ l) (each_append debug_put debug_append xs (s.Semicolon ∷ rest) behind)
  decl_append (m.scope n q ds) rest behind =
      let inner = s.OpenBrace ∷ decls_put ds (s.CloseBrace ∷ rest) in
      ap (λ l. s.Scope ∷ s.Number n ∷ l) (
      ap (λ l. inlined_put q (s.OpenBrace ∷ l)) (decls_append ds (s.CloseBrace ∷ rest) behind)
      ∙ inlined_append q inner behind)

  decls_append : Appends decls_put
  decls_append m.no_decls rest behind = refl
  decls_append (m.decls d ds) rest behind = ap (decl_put d) (decls_append ds rest behind) ∙ decl_append d (decls_put ds rest) behind

drop_append : Appends drop_put
drop_append true rest behind = refl
drop_append false rest behind = refl

front_append : Appends fn_front_put
front_append f rest behind =
    ap (λ l. attr_put f.attr (drop_put f.is_drop (s.Fn ∷ l))) (path_append f.path (s.Open ∷ rest) behind)
    ∙ ap (attr_put f.attr) (drop_append f.is_drop (s.Fn ∷ path_put f.path (s.Open ∷ rest)) behind)
    ∙ attr_append f.attr (drop_put f.is_drop (s.Fn ∷ path_put f.path (s.Open ∷ rest))) behind

result_append : Appends result_put
result_append u rest behind = ap (λ l. s.Arrow ∷ l) (type_append u (s.OpenBrace ∷ rest) behind)

fn_append : Appends fn_put
fn_append f rest behind =
    let blocks = each_put block_put f.blocks (s.CloseBrace ∷ rest) in
    let locals = decls_put f.locals blocks in
    let result = result_put f.result locals in
    let args = items_put arg_put s.Close f.args in
    ap (λ l. fn_front_put f (args (result_put f.result (decls_put f.locals l)))) (each_append block_put block_append f.blocks (s.CloseBrace ∷ rest) behind)
    ∙ ap (λ l. fn_front_put f (args (result_put f.result l))) (decls_append f.locals blocks behind)
    ∙ ap (λ l. fn_front_put f (args l)) (result_append f.result locals behind)
    ∙ ap (fn_front_put f) (items_append arg_put arg_append s.Close f.args result behind)
    ∙ front_append f (args result) behind

-- ---- items and files

item_append : Appends item_put
item_append (m.struct q fs) rest behind = ap (λ l. s.Struct ∷ l) (ap (path_put q) (struct_append fs rest behind) ∙ path_append q (struct_put fs rest) behind)
item_append (m.enum q vs) rest behind =
    ap (λ l. s.Enum ∷ l) (
    ap (λ l. path_put q (s.OpenBrace ∷ l)) (items_append variant_decl_put variant_append s.CloseBrace vs rest behind)
    ∙ path_append q (s.OpenBrace ∷ items_put variant_decl_put s.CloseBrace vs rest) behind)
item_append (m.extern q us u) rest behind =
    let over = s.Arrow ∷ type_put u (s.Semicolon ∷ rest) in
    ap (λ l. s.Extern ∷ s.Fn ∷ l) (
    ap (λ l. path_put q (s.Open ∷ types_put us (s.Arrow ∷ l))) (type_append u (s.Semicolon ∷ rest) behind)
    ∙ ap (λ l. path_put q (s.Open ∷ l)) (types_append us over behind)
    ∙ path_append q (s.Open ∷ types_put us over) behind)
item_append (m.function f) rest behind = fn_append f rest behind

pub file_append : Appends file_put
file_append = each_append item_put item_append
