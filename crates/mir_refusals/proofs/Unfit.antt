-- S08: a constant that doesn't fit its type.
use Rattle.std.proofs.Common.{◌≡◌, ℕ, suc, ◌+◌, ◌<◌, ◌≤◌, Bool, true, false, ◌&&◌, ◌||◌, not, nat_eq, nat_lt, ◌⊎◌, inl, inr, List, [], ◌∷◌, ◌++◌, length, take, drop, refl, ap, ◌∙◌, arith, rules}
use Rattle.mir_syntax.specs.declared.types.IntTy.TheVariants as i
use Rattle.mir_text.specs.declared.symbol.Symbol.{Symbol}
use Rattle.mir_text.specs.declared.symbol.Symbol.TheVariants as s
use Rattle.mir_text.specs.Bytes.{suffix_at}
use Rattle.mir_text.specs.Pieces.{Piece, text_of, Stand}
use Rattle.mir_text.specs.Words.{word_place}
use Rattle.mir_text.specs.Symbols.{word_token, block_digits}
use Rattle.mir_text.specs.Grammar as g
use Rattle.mir_text.specs.Grammar.{Items, items_put, each_put}
use Rattle.mir_text.specs.GrammarTypes as t
use Rattle.mir_text.specs.GrammarTypes.{PathRule, path_put, TypeRule, type_put}
use Rattle.mir_text.specs.GrammarPlaces as p
use Rattle.mir_text.specs.GrammarPlaces.{ValueRule, value_put, OperandRule, operand_put}
use Rattle.mir_text.specs.GrammarStatements as r
use Rattle.mir_text.specs.GrammarStatements.{RvalueRule, rvalue_put, StmtRule}
use Rattle.mir_text.specs.GrammarTerms as k
use Rattle.mir_text.specs.GrammarTerms.{TermRule, term_put, BlockRule, block_put, ended_put}
use Rattle.mir_text.specs.GrammarItems as n
use Rattle.mir_text.specs.GrammarItems.{ArgRule, arg_put, AttrRule, DeclsRule, decls_put, result_put, FnRule, FileRule, file_put}
use Rattle.mir_text.specs.Nesting.{type_depth, FileGood}
use Rattle.mir_text.specs.ReadFaults.{Viable, InDebug, GoesOn, TooDeep, Breaks, Reading, Innermost, MayBegin, IsReadFault}
use Rattle.mir_text.specs.Spans.{is_open, begins_part, numbers_from, spans_of}
use Rattle.mir_text.proofs.Cut.{cut, cut_from, piece_at, number_piece, stands as stand_by}
use Rattle.mir_refusals.specs.Texts.{unfit_number}
use Rattle.mir_refusals.proofs.Symbols.{rest-is, stands, none-refused, AllStand, no-path, fn-args, args-first, behind_args, name-opens, paren-opens}
use Rattle.mir_refusals.proofs.Parts.{Far, far-dropped, lt-true, Elsewhere, elsewhere-append, elsewhere-begins, first-far, stmts-elsewhere, blocks-elsewhere, items-elsewhere}

-- ---- how such a function begins

-- a function of one block that begins with an assignment to a local
abbrev function_of : ℕ → TypeRule → ℕ → ℕ → RvalueRule → List StmtRule → TermRule → List BlockRule → FnRule
function_of name u label x a others term blocks = record {
  attr = n.none;
  is_drop = false;
  path = t.name name;
  args = g.end;
  result = u;
  locals = n.no_decls;
  blocks = record { label = label; stmts = r.assign (p.local x) a ∷ others; term = term } ∷ blocks;
}

abbrev head : List Symbol
head = s.Fn ∷ s.Name 8 ∷ s.Open ∷ s.Close ∷ s.Arrow ∷ []

abbrev before : List Symbol
before = head ++ s.Open ∷ s.Close ∷ s.OpenBrace ∷ s.Block 0 ∷ s.Colon ∷ s.OpenBrace ∷ s.Local 0 ∷ s.Equals ∷ s.Const ∷ []

pub record Begun (file : FileRule) (more : List Symbol) : Type 0 where
  pub name : ℕ
  pub label : ℕ
  pub local : ℕ
  pub value : RvalueRule
  pub others : List StmtRule
  pub term : TermRule
  pub blocks : List BlockRule
  pub items : FileRule
  pub rest : List Symbol
  pub is : file ≡ n.function (function_of name t.unit label local value others term blocks) ∷ items
  pub puts : rvalue_put value rest ≡ s.Const ∷ more

no-close : (u : TypeRule) (rest more : List Symbol) → type_put u rest ≡ s.Close ∷ more → ⊥
no-close (t.int j) rest more e = absurd cc
no-close t.bool rest more e = absurd cc
no-close (t.ref m u) rest more e = absurd cc
no-close (t.path path) rest more e = no-path path rest s.Close more (λ j e. absurd cc) e
no-close t.unit rest more e = absurd cc
no-close (t.tuple u us) rest more e = absurd cc

no-local : (u : TypeRule) (rest more : List Symbol) (x : ℕ) → type_put u rest ≡ s.Local x ∷ more → ⊥
no-local (t.int j) rest more x e = absurd cc
no-local t.bool rest more x e = absurd cc
no-local (t.ref m u) rest more x e = absurd cc
no-local (t.path path) rest more x e = no-path path rest (s.Local x) more (λ j e. absurd cc) e
no-local t.unit rest more x e = absurd cc
no-local (t.tuple u us) rest more x e = absurd cc

abbrev behind_statement : List StmtRule → TermRule → List BlockRule → FileRule → List Symbol
behind_statement others term blocks items = s.Semicolon ∷ each_put ended_put others (term_put term (s.Semicolon ∷ s.CloseBrace ∷ each_put block_put blocks (s.CloseBrace ∷ file_put items [])))

no-term : (term : TermRule) (rest more : List Symbol) → term_put term rest ≡ s.Local 0 ∷ s.Equals ∷ s.Const ∷ more → ⊥
no-term (k.goto b) rest more e = absurd cc
no-term k.returns rest more e = absurd cc
no-term k.never rest more e = absurd cc
no-term (k.switch a arms b) rest more e = absurd cc
no-term (k.call (p.local x) path args b u) rest more e = no-path path _ s.Const more (λ j e. absurd cc) (rest-is (rest-is e))
no-term (k.call (p.deref q) path args b u) rest more e = absurd cc
no-term (k.call (p.field q f u) path args b w) rest more e = absurd cc
no-term (k.call (p.variant_field q v f u) path args b w) rest more e = absurd cc
no-term (k.drop q b u) rest more e = absurd cc
no-term (k.assert expected a message args b u) rest more e = absurd cc

by-statements : (name label : ℕ) (stmts : List StmtRule) (term : TermRule) (blocks : List BlockRule) (items : FileRule) (more : List Symbol)
    → each_put ended_put stmts (term_put term (s.Semicolon ∷ s.CloseBrace ∷ each_put block_put blocks (s.CloseBrace ∷ file_put items []))) ≡ s.Local 0 ∷ s.Equals ∷ s.Const ∷ more
    → Begun (n.function (record { attr = n.none; is_drop = false; path = t.name name; args = g.end; result = t.unit; locals = n.no_decls; blocks = record { label = label; stmts = stmts; term = term } ∷ blocks }) ∷ items) more
by-statements name label [] term blocks items more e = absurd (no-term term _ more e)
by-statements name label (r.assign (p.local x) a ∷ others) term blocks items more e = record {
  name = name;
  label = label;
  local = x;
  value = a;
  others = others;
  term = term;
  blocks = blocks;
  items = items;
  rest = behind_statement others term blocks items;
  is = refl;
  puts = rest-is (rest-is e);
}
by-statements name label (r.assign (p.deref q) a ∷ others) term blocks items more e = absurd cc
by-statements name label (r.assign (p.field q f u) a ∷ others) term blocks items more e = absurd cc
by-statements name label (r.assign (p.variant_field q v f u) a ∷ others) term blocks items more e = absurd cc
by-statements name label (r.nop ∷ others) term blocks items more e = absurd cc
by-statements name label (r.live x ∷ others) term blocks items more e = absurd cc
by-statements name label (r.dead x ∷ others) term blocks items more e = absurd cc
by-statements name label (r.set q j ∷ others) term blocks items more e = absurd cc

abbrev block_front : List Symbol → List Symbol
block_front more = s.Block 0 ∷ s.Colon ∷ s.OpenBrace ∷ s.Local 0 ∷ s.Equals ∷ s.Const ∷ more

by-blocks : (name : ℕ) (blocks : List BlockRule) (items : FileRule) (more : List Symbol) → each_put block_put blocks (s.CloseBrace ∷ file_put items []) ≡ block_front more
    → Begun (n.function (record { attr = n.none; is_drop = false; path = t.name name; args = g.end; result = t.unit; locals = n.no_decls; blocks = blocks }) ∷ items) more
by-blocks name [] items more e = absurd cc
by-blocks name (b ∷ blocks) items more e = by-statements name b.label b.stmts b.term blocks items more (rest-is (rest-is (rest-is e)))

by-decls : (name : ℕ) (locals : DeclsRule) (blocks : List BlockRule) (items : FileRule) (more : List Symbol)
    → decls_put locals (each_put block_put blocks (s.CloseBrace ∷ file_put items [])) ≡ block_front more
    → Begun (n.function (record { attr = n.none; is_drop = false; path = t.name name; args = g.end; result = t.unit; locals = locals; blocks = blocks }) ∷ items) more
by-decls name n.no_decls blocks items more e = by-blocks name blocks items more e
by-decls name (n.decls (n.«let» m x u) ds) blocks items more e = absurd cc
by-decls name (n.decls (n.debug xs) ds) blocks items more e = absurd cc
by-decls name (n.decls (n.scope j q es) ds) blocks items more e = absurd cc

by-result : (name : ℕ) (u : TypeRule) (locals : DeclsRule) (blocks : List BlockRule) (items : FileRule) (more : List Symbol)
    → type_put u (s.OpenBrace ∷ decls_put locals (each_put block_put blocks (s.CloseBrace ∷ file_put items []))) ≡ s.Open ∷ s.Close ∷ s.OpenBrace ∷ block_front more
    → Begun (n.function (record { attr = n.none; is_drop = false; path = t.name name; args = g.end; result = u; locals = locals; blocks = blocks }) ∷ items) more
by-result name (t.int j) locals blocks items more e = absurd cc
by-result name t.bool locals blocks items more e = absurd cc
by-result name (t.ref m u) locals blocks items more e = absurd cc
by-result name (t.path path) locals blocks items more e = absurd (no-path path _ s.Open _ (λ j e. absurd cc) e)
by-result name t.unit locals blocks items more e = by-decls name locals blocks items more (rest-is (rest-is (rest-is e)))
by-result name (t.tuple u us) locals blocks items more e = absurd (no-close u _ _ (rest-is e))

by-args : (name : ℕ) (args : Items ArgRule) (u : TypeRule) (locals : DeclsRule) (blocks : List BlockRule) (items : FileRule) (more : List Symbol)
    → items_put arg_put s.Close args (result_put u (decls_put locals (each_put block_put blocks (s.CloseBrace ∷ file_put items [])))) ≡ s.Close ∷ s.Arrow ∷ s.Open ∷ s.Close ∷ s.OpenBrace ∷ block_front more
    → Begun (n.function (record { attr = n.none; is_drop = false; path = t.name name; args = args; result = u; locals = locals; blocks = blocks }) ∷ items) more
by-args name g.end u locals blocks items more e = by-result name u locals blocks items more (rest-is (rest-is e))
by-args name (g.last a) u locals blocks items more e = absurd cc
by-args name (g.more a args) u locals blocks items more e = absurd cc

by-path : (path : PathRule) (args : Items ArgRule) (u : TypeRule) (locals : DeclsRule) (blocks : List BlockRule) (items : FileRule) (more : List Symbol)
    → path_put path (s.Open ∷ items_put arg_put s.Close args (result_put u (decls_put locals (each_put block_put blocks (s.CloseBrace ∷ file_put items [])))))
    ≡ s.Name 8 ∷ s.Open ∷ s.Close ∷ s.Arrow ∷ s.Open ∷ s.Close ∷ s.OpenBrace ∷ block_front more
    → Begun (n.function (record { attr = n.none; is_drop = false; path = path; args = args; result = u; locals = locals; blocks = blocks }) ∷ items) more
by-path (t.name name) args u locals blocks items more e = by-args name args u locals blocks items more (rest-is (rest-is e))
by-path (t.name_in name path) args u locals blocks items more e = absurd cc

by-attr : (a : AttrRule) (d : Bool) (path : PathRule) (args : Items ArgRule) (u : TypeRule) (locals : DeclsRule) (blocks : List BlockRule) (items : FileRule) (more : List Symbol)
    → file_put (n.function (record { attr = a; is_drop = d; path = path; args = args; result = u; locals = locals; blocks = blocks }) ∷ items) [] ≡ before ++ more
    → Begun (n.function (record { attr = a; is_drop = d; path = path; args = args; result = u; locals = locals; blocks = blocks }) ∷ items) more
by-attr n.none true path args u locals blocks items more e = absurd cc
by-attr n.none false path args u locals blocks items more e = by-path path args u locals blocks items more (rest-is e)
by-attr n.hint d path args u locals blocks items more e = absurd cc
by-attr n.always d path args u locals blocks items more e = absurd cc
by-attr n.never d path args u locals blocks items more e = absurd cc

begun : (file : FileRule) (more : List Symbol) → file_put file [] ≡ before ++ more → Begun file more
begun [] more e = absurd cc
begun (n.struct path fs ∷ items) more e = absurd cc
begun (n.enum path vs ∷ items) more e = absurd cc
begun (n.extern path us u ∷ items) more e = absurd cc
begun (n.function f ∷ items) more e = by-attr f.attr f.is_drop f.path f.args f.result f.locals f.blocks items more e

-- ---- the constant

-- behind `const` stands a value
abbrev Valued : List Symbol → Type 0
Valued more = (v : ValueRule) × (rest : List Symbol) × (value_put v rest ≡ more)

operand-value : (a : OperandRule) (rest more : List Symbol) → operand_put a rest ≡ s.Const ∷ more → (v : ValueRule) × ((a ≡ p.const v) × (value_put v rest ≡ more))
operand-value (p.copy q) rest more e = absurd cc
operand-value (p.move q) rest more e = absurd cc
operand-value (p.bare (p.local x)) rest more e = absurd cc
operand-value (p.bare (p.deref q)) rest more e = absurd cc
operand-value (p.bare (p.field q f u)) rest more e = absurd cc
operand-value (p.bare (p.variant_field q v f u)) rest more e = absurd cc
operand-value (p.const v) rest more e = (v, (refl, rest-is e))

value-some : (v : ValueRule) (rest : List Symbol) → suc (length rest) ≤ length (value_put v rest)
value-some (p.number true j ty) rest = omega arith
value-some (p.number false j ty) rest = omega arith
value-some (p.boolean x) rest = omega arith
value-some p.unit rest = omega arith
value-some (p.least ty) rest = omega arith
value-some (p.most ty) rest = omega arith

-- with what stands behind it, such an rvalue has at least three symbols
abbrev Long : RvalueRule → Type 0
Long a = (behind : List Symbol) → 3 ≤ length (rvalue_put a (s.Semicolon ∷ behind))

rvalue-value : (a : RvalueRule) (rest more : List Symbol) → rvalue_put a rest ≡ s.Const ∷ more → Valued more × Long a
rvalue-value (r.«use» a) rest more e = let (v, (is, h)) = operand-value a rest more e in rw is ((v, rest, h), λ behind. (let some = value-some v (s.Semicolon ∷ behind) in omega (arith, some)))
rvalue-value (r.cast a u) rest more e =
    let (v, (is, h)) = operand-value a (r.cast_put u rest) more e in
    rw is ((v, r.cast_put u rest, h), λ behind. (let some = value-some v (r.cast_put u (s.Semicolon ∷ behind)) in omega (arith, some)))
rvalue-value (r.binary op a b) rest more e = absurd cc
rvalue-value (r.overflow op a b) rest more e = absurd cc
rvalue-value (r.unary op a) rest more e = absurd cc
rvalue-value (r.reference m q) rest more e = absurd cc
rvalue-value (r.discriminant q) rest more e = absurd cc
rvalue-value r.nothing rest more e = absurd cc
rvalue-value (r.tuple_of a others) rest more e = absurd cc
rvalue-value (r.build path parts) rest more e = absurd (no-path path _ s.Const more (λ j e. absurd cc) e)

no-left-out : (v : ValueRule) (rest more : List Symbol) → value_put v rest ≡ s.LeftOut ∷ more → ⊥
no-left-out (p.number true j ty) rest more e = absurd cc
no-left-out (p.number false j ty) rest more e = absurd cc
no-left-out (p.boolean true) rest more e = absurd cc
no-left-out (p.boolean false) rest more e = absurd cc
no-left-out p.unit rest more e = absurd cc
no-left-out (p.least ty) rest more e = absurd cc
no-left-out (p.most ty) rest more e = absurd cc

no-debug : InDebug before → ⊥
no-debug v = let b = begun v.file (s.LeftOut ∷ v.more) v.derives in let ((w, rest, h), some) = rvalue-value b.value b.rest (s.LeftOut ∷ v.more) b.puts in no-left-out w rest v.more h

-- ---- the part that is open: the statement

module _ (name label x : ℕ) (a : RvalueRule) (others : List StmtRule) (term : TermRule) (blocks : List BlockRule) (items : FileRule) (long : Long a) where
  abbrev the_file : FileRule
  the_file = n.function (function_of name t.unit label x a others term blocks) ∷ items

  -- what stands behind the constant is far
  far : (behind : List Symbol) (count : ℕ) → Far 14 (drop (length (rvalue_put a (s.Semicolon ∷ behind))) (numbers_from 13 count))
  far behind count = let some = long behind in far-dropped 14 13 (length (rvalue_put a (s.Semicolon ∷ behind))) count (omega (arith, some))

  abbrev behind_others : List Symbol → List Symbol
  behind_others rest = each_put ended_put others rest

  abbrev behind_term : List Symbol → List Symbol
  behind_term rest = behind_others (term_put term (s.Semicolon ∷ s.CloseBrace ∷ rest))

  abbrev behind_blocks : List Symbol → List Symbol
  behind_blocks rest = behind_term (each_put block_put blocks (s.CloseBrace ∷ rest))

  abbrev count : ℕ
  count = length (rvalue_put a (s.Semicolon ∷ behind_blocks (file_put items [])))

  spans-elsewhere : Elsewhere 14 (spans_of the_file)
  spans-elsewhere = (
    refl,
    (
      refl,
      elsewhere-append 14 _ _
          (elsewhere-append 14 _ _
          (elsewhere-append 14 _ _
          (stmts-elsewhere 14 (omega arith) others _ (far [] count))
          (first-far 14 _ (omega arith) (far (behind_others []) count), tt))
          (blocks-elsewhere 14 (omega arith) blocks _ (far (behind_term []) count)))
          (items-elsewhere 14 (omega arith) items _ (far (behind_blocks []) count)),
    ),
  )

  open-at : (len : ℕ) (later : Bool) → 3 ≤ len → ((not (nat_lt 14 11) && nat_lt 14 (11 + suc (suc len))) || later) ≡ true
  open-at len later some = let is : nat_lt 14 (11 + suc (suc len)) ≡ true = lt-true 14 (11 + suc (suc len)) (omega (arith, some)) in rw is refl

  spans-open : is_open (spans_of the_file) 11 14 ≡ true
  spans-open = open-at (length (rvalue_put a (s.Semicolon ∷ []))) _ (long [])

abbrev at : Symbol
at = s.Typed i.U8 256

in-statement : (file : FileRule) (more : List Symbol) → file_put file [] ≡ before ++ more → (begins_part (spans_of file) 14 ≡ false) × (is_open (spans_of file) 11 14 ≡ true)
in-statement file more e =
    let b = begun file more e in
    let (valued, long) = rvalue-value b.value b.rest more b.puts in
    rw b.is (elsewhere-begins 14 (spans_of (n.function (function_of b.name t.unit b.label b.local b.value b.others b.term b.blocks) ∷ b.items)) (spans-elsewhere b.name b.label b.local b.value b.others b.term b.blocks b.items long), spans-open b.name b.label b.local b.value b.others b.term b.blocks b.items long)

in-reading : (reading : Reading before at) → (begins_part (spans_of reading.file) 14 ≡ false) × (is_open (spans_of reading.file) 11 14 ≡ true)
in-reading reading = in-statement reading.file (reading.other ∷ reading.more) reading.derives

no-part : MayBegin before at → ⊥
no-part (reading, is) = let isnt = (in-reading reading).0 in absurd cc

-- ---- files that begin so

file_with : TypeRule → ℕ → FileRule
file_with u number = n.function (function_of 8 u 0 0 (r.«use» (p.const (p.number false number i.U8))) [] k.returns []) ∷ []

abbrev end_of_file : List Symbol
end_of_file = s.Semicolon ∷ s.Return ∷ s.Semicolon ∷ s.CloseBrace ∷ s.CloseBrace ∷ []

a-reading : Reading before at
unfolding file_with
a-reading = record { other = at; read_as = inl refl; file = file_with t.unit 256; more = end_of_file; derives = refl }

from-spans : (b c d : Bool) → ((b && true) || ((c && true) || ((d && false) || false))) ≡ true → (b ≡ true) ⊎ (c ≡ true)
from-spans true c d e = inl refl
from-spans false true d e = inr refl
from-spans false false true e = absurd cc
from-spans false false false e = absurd cc

one-of : (start : ℕ) → (nat_eq 0 start ≡ true) ⊎ (nat_eq 11 start ≡ true) → start ≤ 11
one-of start (inl is) = let same : 0 ≡ start = search rules in omega (arith, same)
one-of start (inr is) = let same : 11 ≡ start = search rules in omega (arith, same)

starts-before : (start : ℕ) → is_open (spans_of (file_with t.unit 256)) start 14 ≡ true → start ≤ 11
unfolding file_with
starts-before start e = one-of start (from-spans (nat_eq 0 start) (nat_eq 11 start) (nat_eq 16 start) e)

the-statement : Innermost before at 11
unfolding a-reading
the-statement = ((λ reading. (in-reading reading).1), λ start holds. starts-before start (holds a-reading))

-- ---- what stands before isn't refused

abbrev good_symbols : List Symbol
good_symbols = before ++ s.Typed i.U8 0 ∷ end_of_file

goes : (xs : List Symbol) (x : Symbol) (ys : List Symbol) → good_symbols ≡ (xs ++ x ∷ []) ++ ys → GoesOn xs x
unfolding file_with
goes xs x ys is = inl (record { file = file_with t.unit 0; more = ys; derives = is })

good-file : (u : TypeRule) → type_depth u ≤ 65 → FileGood (file_with u 0)
unfolding file_with
good-file u small = ((tt, small, (omega arith, tt), (((((omega arith, tt), refl), tt), tt), tt)), tt)

abbrev behind_bool : List Symbol
behind_bool = s.OpenBrace ∷ s.Block 0 ∷ s.Colon ∷ s.OpenBrace ∷ s.Local 0 ∷ s.Equals ∷ s.Const ∷ s.Typed i.U8 0 ∷ end_of_file

puts-bool : (x : Symbol) → x ≡ s.Bool → file_put (file_with t.bool 0) [] ≡ head ++ x ∷ behind_bool
unfolding file_with
puts-bool x is = rw is refl

-- no local stands behind the arrow
no-result : (x : Symbol) → x ≡ s.Local 0 → Viable (head ++ x ∷ []) → ⊥
no-result x is v =
    let (f, items, h) = fn-args v.file 8 (s.Close ∷ s.Arrow ∷ x ∷ v.more) v.derives in
    go f items (args-first f.args (behind_args f items) s.Close (s.Arrow ∷ x ∷ v.more) h)
  where
    go : (f : FnRule) (items : FileRule) → ((s.Close ≡ s.Close) × (behind_args f items ≡ s.Arrow ∷ x ∷ v.more)) ⊎ ((j : ℕ) × (s.Close ≡ s.Local j)) → ⊥
    go f items (inl (same, h)) = no-local f.result _ v.more 0 (rest-is h ∙ ap (λ y. y ∷ v.more) is)
    go f items (inr (j, e)) = absurd cc

result-opens : TooDeep head s.Open → ⊥
result-opens h = go h.opens
  where
    go : (h.least ≡ s.Bool) ⊎ (h.least ≡ s.Local 0) → ⊥
    go (inl is) = h.none_good (file_with t.bool 0) behind_bool (good-file t.bool (omega arith)) (puts-bool h.least is)
    go (inr is) = no-result h.least is h.viable

local-opens : TooDeep (head ++ s.Open ∷ s.Close ∷ s.OpenBrace ∷ s.Block 0 ∷ s.Colon ∷ s.OpenBrace ∷ []) (s.Local 0) → ⊥
unfolding file_with
local-opens h = h.none_good (file_with t.unit 0) (s.Equals ∷ s.Const ∷ s.Typed i.U8 0 ∷ end_of_file) (good-file t.unit (omega arith)) (puts-local h.least h.opens.0)
  where
    puts-local : (x : Symbol) → x ≡ s.Local 0
        → file_put (file_with t.unit 0) [] ≡ (head ++ s.Open ∷ s.Close ∷ s.OpenBrace ∷ s.Block 0 ∷ s.Colon ∷ s.OpenBrace ∷ []) ++ x ∷ s.Equals ∷ s.Const ∷ s.Typed i.U8 0 ∷ end_of_file
    puts-local x is = rw is refl

front-stands : AllStand [] before
front-stands = (
  stands (take 0 before) s.Fn (goes (take 0 before) s.Fn (drop 1 good_symbols) refl) (λ e. absurd cc) (λ h. h.opens) (λ h. h) (λ h. h),
  (
    stands (take 1 before) (s.Name 8) (goes (take 1 before) (s.Name 8) (drop 2 good_symbols) refl) (λ e. absurd cc) (name-opens 8) (λ h. h) (λ h. h),
    (
      stands (take 2 before) s.Open (goes (take 2 before) s.Open (drop 3 good_symbols) refl) (λ e. absurd cc) (paren-opens 8) (λ h. h) (λ h. h),
      (
        stands (take 3 before) s.Close (goes (take 3 before) s.Close (drop 4 good_symbols) refl) (λ e. absurd cc) (λ h. h.opens) (λ h. h) (λ h. h),
        (
          stands (take 4 before) s.Arrow (goes (take 4 before) s.Arrow (drop 5 good_symbols) refl) (λ e. absurd cc) (λ h. h.opens) (λ h. h) (λ h. h),
          (
            stands (take 5 before) s.Open (goes (take 5 before) s.Open (drop 6 good_symbols) refl) (λ e. absurd cc) result-opens (λ h. h) (λ h. h),
            (
              stands (take 6 before) s.Close (goes (take 6 before) s.Close (drop 7 good_symbols) refl) (λ e. absurd cc) (λ h. h.opens) (λ h. h) (λ h. h),
              (
                stands (take 7 before) s.OpenBrace (goes (take 7 before) s.OpenBrace (drop 8 good_symbols) refl) (λ e. absurd cc) (λ h. h.opens) (λ h. h) (λ h. h),
                (
                  stands (take 8 before) (s.Block 0) (goes (take 8 before) (s.Block 0) (drop 9 good_symbols) refl) (λ e. absurd cc) (λ h. h.opens) (λ h. h) (λ h. h),
                  (
                    stands (take 9 before) s.Colon (goes (take 9 before) s.Colon (drop 10 good_symbols) refl) (λ e. absurd cc) (λ h. h.opens) (λ h. h) (λ h. h),
                    (
                      stands (take 10 before) s.OpenBrace (goes (take 10 before) s.OpenBrace (drop 11 good_symbols) refl) (λ e. absurd cc) (λ h. h.opens) (λ h. h) (λ h. h),
                      (
                        stands (take 11 before) (s.Local 0) (goes (take 11 before) (s.Local 0) (drop 12 good_symbols) refl) (λ e. absurd cc) local-opens (λ h. h) (λ h. h),
                        (
                          stands (take 12 before) s.Equals (goes (take 12 before) s.Equals (drop 13 good_symbols) refl) (λ e. absurd cc) (λ h. h.opens) (λ h. h) (λ h. h),
                          (
                            stands (take 13 before) s.Const (goes (take 13 before) s.Const (drop 14 good_symbols) refl) (λ e. absurd cc) (λ h. h.opens) (λ h. h) (λ h. h),
                            tt,
                          ),
                        ),
                      ),
                    ),
                  ),
                ),
              ),
            ),
          ),
        ),
      ),
    ),
  ),
)

-- ---- the fact

viable-here : Viable (before ++ at ∷ [])
unfolding file_with
viable-here = record { file = file_with t.unit 256; more = end_of_file; derives = refl }

below-eight : (code : ℕ) → code < 8 → Breaks before at code → ⊥
below-eight code small (inl (e, h)) = h.1 (inl viable-here)
below-eight code small (inr (inl (e, h))) = h.opens
below-eight code small (inr (inr (inl (e, h)))) = let z : s.Typed i.U8 256 ≡ s.LeftOut = h.0 in absurd cc
below-eight code small (inr (inr (inr (inl (e, h))))) = omega arith
below-eight code small (inr (inr (inr (inr (e, h))))) = omega arith

pub pieces : List Piece
pieces = cut unfit_number

all-stand : Stand pieces []
unfolding pieces cut cut_from piece_at number_piece suffix_at
all-stand = stand_by pieces [] refl

whole : unfit_number ≡ text_of pieces ++ []
unfolding pieces cut cut_from piece_at number_piece suffix_at
whole = refl

no-eight : ◌≡◌ {A = ℕ} 8 4 → ⊥
no-eight e = omega arith

pub unfit-number : IsReadFault unfit_number 8 3
unfolding pieces cut cut_from piece_at number_piece suffix_at word_token block_digits word_place
unfit-number = inl (record {
  pieces = pieces;
  left = [];
  cut = record { whole = whole; stand = all-stand };
  before =
      (s.Fn, 1) ∷ (s.Name 8, 1) ∷ (s.Open, 1) ∷ (s.Close, 1) ∷ (s.Arrow, 1) ∷ (s.Open, 1) ∷ (s.Close, 1) ∷ (s.OpenBrace, 1) ∷
      (s.Block 0, 2) ∷ (s.Colon, 2) ∷ (s.OpenBrace, 2) ∷ (s.Local 0, 3) ∷ (s.Equals, 3) ∷ (s.Const, 3) ∷ [];
  at = (at, 3);
  after = (s.Semicolon, 3) ∷ (s.CloseBrace, 4) ∷ (s.CloseBrace, 5) ∷ [];
  symbols = refl;
  first = none-refused before front-stands;
  refused = (inr (inr (inr (inl (refl, (no-debug, (viable-here, refl)))))), below-eight);
  on_line = inr ((λ e. absurd (no-eight e)), inr (no-part, (11, the-statement, refl)));
})
