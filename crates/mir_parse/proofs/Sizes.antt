-- How many symbols a rule puts: so many more than what follows it.
use Rattle.std.proofs.Common.{◌≡◌, ℕ, Bool, ◌+◌, ◌<◌, true, false, List, [], ◌∷◌, length, arith}
use Rattle.mir_text.specs.declared.symbol.Symbol.{Symbol}
use Rattle.mir_text.specs.declared.symbol.Symbol.TheVariants as s
use Rattle.mir_text.specs.Grammar.{Put, Items, end, last, more, items_put, each_put}
use Rattle.mir_text.specs.GrammarTypes as t
use Rattle.mir_text.specs.GrammarTypes.{PathRule, path_put, TypeRule, type_put, TypesRule, types_put}
use Rattle.mir_text.specs.GrammarPlaces.{PlaceRule, local, deref, field, variant_field, field_put, variant_put, place_put, ValueRule, number, boolean, unit, least, most, value_put, OperandRule, copy, move, bare, const, operand_put}
use Rattle.mir_text.specs.GrammarStatements.{NamedRule, named_put, BuildRule, plain, tupled, labelled, RvalueRule, «use», cast, binary, overflow, unary, reference, discriminant, nothing, tuple_of, build, parts_put, cast_put, rvalue_put, StmtRule, assign, nop, live, dead, set, stmt_put}
use Rattle.mir_text.specs.GrammarTerms.{UnwindRule, continues, unreachable, unwind_put, ArmRule, TermRule, goto, returns, never, switch, call, drop, assert, goes_put, arm_put, value_operand_put, expected_put, term_put, BlockRule, ended_put, block_put}
use Rattle.mir_text.specs.Symbols.{success_name}

abbrev pub Sized : {R : Type 0} → Put R → Type 0
Sized {R} put = (r : R) (rest : List Symbol) → length (put r rest) ≡ length (put r []) + length rest

pub path_size : (q : PathRule) (rest : List Symbol) → length (path_put q rest) ≡ length (path_put q []) + length rest
path_size (t.name n) rest = omega arith
path_size (t.name_in n q) rest = omega (arith, path_size q rest)

mutual
  pub type_size : (u : TypeRule) (rest : List Symbol) → length (type_put u rest) ≡ length (type_put u []) + length rest
  type_size (t.int i) rest = omega arith
  type_size t.bool rest = omega arith
  type_size (t.ref true u) rest = omega (arith, type_size u rest)
  type_size (t.ref false u) rest = omega (arith, type_size u rest)
  type_size (t.path q) rest = path_size q rest
  type_size t.unit rest = omega arith
  type_size (t.tuple u us) rest = omega (arith, type_size u (s.Comma ∷ types_put us rest), type_size u (s.Comma ∷ types_put us []), types_size us rest)

  pub types_size : (us : TypesRule) (rest : List Symbol) → length (types_put us rest) ≡ length (types_put us []) + length rest
  types_size t.end rest = omega arith
  types_size (t.last u) rest = omega (arith, type_size u (s.Close ∷ rest), type_size u (s.Close ∷ []))
  types_size (t.more u us) rest = omega (arith, type_size u (s.Comma ∷ types_put us rest), type_size u (s.Comma ∷ types_put us []), types_size us rest)

pub place_size : (q : PlaceRule) (rest : List Symbol) → length (place_put q rest) ≡ length (place_put q []) + length rest
place_size (local n) rest = omega arith
place_size (deref q) rest = omega (arith, place_size q (s.Close ∷ rest), place_size q (s.Close ∷ []))
place_size (field q n u) rest =
    omega (arith, place_size q (field_put n u rest), place_size q (field_put n u []), type_size u (s.Close ∷ rest), type_size u (s.Close ∷ []))
place_size (variant_field q v n u) rest =
    omega (arith, place_size q (variant_put v (field_put n u rest)), place_size q (variant_put v (field_put n u [])), type_size u (s.Close ∷ rest), type_size u (s.Close ∷ []))

pub value_size : (x : ValueRule) (rest : List Symbol) → length (value_put x rest) ≡ length (value_put x []) + length rest
value_size (number true n u) rest = omega arith
value_size (number false n u) rest = omega arith
value_size (boolean x) rest = omega arith
value_size unit rest = omega arith
value_size (least u) rest = omega arith
value_size (most u) rest = omega arith

pub operand_size : (x : OperandRule) (rest : List Symbol) → length (operand_put x rest) ≡ length (operand_put x []) + length rest
operand_size (copy q) rest = omega (arith, place_size q rest)
operand_size (move q) rest = omega (arith, place_size q rest)
operand_size (bare q) rest = place_size q rest
operand_size (const x) rest = omega (arith, value_size x rest)

named_size : (x : NamedRule) (rest : List Symbol) → length (named_put x rest) ≡ length (named_put x []) + length rest
named_size x rest = omega (arith, operand_size x.1 rest)

pub items_size : {R : Type 0} (put : Put R) → Sized put → (close : Symbol) (rs : Items R) (rest : List Symbol) → length (items_put put close rs rest) ≡ length (items_put put close rs []) + length rest
items_size put sized close end rest = omega arith
items_size put sized close (last r) rest = omega (arith, sized r (close ∷ rest), sized r (close ∷ []))
items_size put sized close (more r rs) rest =
    omega (arith, sized r (s.Comma ∷ items_put put close rs rest), sized r (s.Comma ∷ items_put put close rs []), items_size put sized close rs rest)

parts_size : (x : BuildRule) (rest : List Symbol) → length (parts_put x rest) ≡ length (parts_put x []) + length rest
parts_size plain rest = omega arith
parts_size (tupled xs) rest = omega (arith, items_size operand_put operand_size s.Close xs rest)
parts_size (labelled xs) rest = omega (arith, items_size named_put named_size s.CloseBrace xs rest)

cast_size : (u : TypeRule) (rest : List Symbol) → length (cast_put u rest) ≡ length (cast_put u []) + length rest
cast_size u rest = omega (arith, type_size u (s.Open ∷ s.Name 7 ∷ s.Close ∷ rest), type_size u (s.Open ∷ s.Name 7 ∷ s.Close ∷ []))

rvalue_size : (x : RvalueRule) (rest : List Symbol) → length (rvalue_put x rest) ≡ length (rvalue_put x []) + length rest
rvalue_size («use» x) rest = operand_size x rest
rvalue_size (cast x u) rest = omega (arith, operand_size x (cast_put u rest), operand_size x (cast_put u []), cast_size u rest)
rvalue_size (binary op x y) rest =
    omega (arith, operand_size x (s.Comma ∷ operand_put y (s.Close ∷ rest)), operand_size x (s.Comma ∷ operand_put y (s.Close ∷ [])), operand_size y (s.Close ∷ rest), operand_size y (s.Close ∷ []))
rvalue_size (overflow op x y) rest =
    omega (arith, operand_size x (s.Comma ∷ operand_put y (s.Close ∷ rest)), operand_size x (s.Comma ∷ operand_put y (s.Close ∷ [])), operand_size y (s.Close ∷ rest), operand_size y (s.Close ∷ []))
rvalue_size (unary op x) rest = omega (arith, operand_size x (s.Close ∷ rest), operand_size x (s.Close ∷ []))
rvalue_size (reference true q) rest = omega (arith, place_size q rest)
rvalue_size (reference false q) rest = omega (arith, place_size q rest)
rvalue_size (discriminant q) rest = omega (arith, place_size q (s.Close ∷ rest), place_size q (s.Close ∷ []))
rvalue_size nothing rest = omega arith
rvalue_size (tuple_of x xs) rest =
    omega (arith, operand_size x (s.Comma ∷ items_put operand_put s.Close xs rest), operand_size x (s.Comma ∷ items_put operand_put s.Close xs []), items_size operand_put operand_size s.Close xs rest)
rvalue_size (build q x) rest = omega (arith, path_size q (parts_put x rest), path_size q (parts_put x []), parts_size x rest)

stmt_size : (x : StmtRule) (rest : List Symbol) → length (stmt_put x rest) ≡ length (stmt_put x []) + length rest
stmt_size (assign q x) rest = omega (arith, place_size q (s.Equals ∷ rvalue_put x rest), place_size q (s.Equals ∷ rvalue_put x []), rvalue_size x rest)
stmt_size nop rest = omega arith
stmt_size (live n) rest = omega arith
stmt_size (dead n) rest = omega arith
stmt_size (set q k) rest = omega (arith, place_size q (s.Close ∷ s.Equals ∷ s.Number k ∷ rest), place_size q (s.Close ∷ s.Equals ∷ s.Number k ∷ []))

-- a statement and its semicolon
pub ended_size : (x : StmtRule) (rest : List Symbol) → length (ended_put x rest) ≡ length (ended_put x []) + length rest
ended_size x rest = omega (arith, stmt_size x (s.Semicolon ∷ rest), stmt_size x (s.Semicolon ∷ []))

pub each_ended_size : (xs : List StmtRule) (rest : List Symbol) → length (each_put ended_put xs rest) ≡ length (each_put ended_put xs []) + length rest
each_ended_size [] rest = omega arith
each_ended_size (x ∷ xs) rest = omega (arith, ended_size x (each_put ended_put xs rest), ended_size x (each_put ended_put xs []), each_ended_size xs rest)

pub some_ended : (x : StmtRule) → 0 < length (ended_put x [])
some_ended x = omega (arith, stmt_size x (s.Semicolon ∷ []))

pub each_size : {R : Type 0} (put : Put R) → Sized put → (rs : List R) (rest : List Symbol) → length (each_put put rs rest) ≡ length (each_put put rs []) + length rest
each_size put sized [] rest = omega arith
each_size put sized (r ∷ rs) rest = omega (arith, sized r (each_put put rs rest), sized r (each_put put rs []), each_size put sized rs rest)

-- ---- terminators and blocks

unwind_size : (u : UnwindRule) (rest : List Symbol) → length (unwind_put u rest) ≡ length (unwind_put u []) + length rest
unwind_size continues rest = omega arith
unwind_size unreachable rest = omega arith

goes_size : (word : Symbol) (b : ℕ) (u : UnwindRule) (rest : List Symbol) → length (goes_put word b u rest) ≡ length (goes_put word b u []) + length rest
goes_size word b u rest = omega (arith, unwind_size u (s.CloseBracket ∷ rest), unwind_size u (s.CloseBracket ∷ []))

arm_size : (a : ArmRule) (rest : List Symbol) → length (arm_put a rest) ≡ length (arm_put a []) + length rest
arm_size a rest = omega arith

value_operand_size : (x : OperandRule) (rest : List Symbol) → length (value_operand_put x rest) ≡ length (value_operand_put x []) + length rest
value_operand_size x rest = omega (arith, operand_size x rest)

expected_size : (expected : Bool) (rest : List Symbol) → length (expected_put expected rest) ≡ length (expected_put expected []) + length rest
expected_size true rest = omega arith
expected_size false rest = omega arith

switch_size : (arms : List ArmRule) (b : ℕ) (rest : List Symbol)
    → length (each_put arm_put arms (s.Otherwise ∷ s.Colon ∷ s.Block b ∷ s.CloseBracket ∷ rest)) ≡ length (each_put arm_put arms (s.Otherwise ∷ s.Colon ∷ s.Block b ∷ s.CloseBracket ∷ [])) + length rest
switch_size arms b rest =
    omega (arith, each_size arm_put arm_size arms (s.Otherwise ∷ s.Colon ∷ s.Block b ∷ s.CloseBracket ∷ rest), each_size arm_put arm_size arms (s.Otherwise ∷ s.Colon ∷ s.Block b ∷ s.CloseBracket ∷ []))

abbrev arms_end : List ArmRule → ℕ → List Symbol → List Symbol
arms_end arms b rest = s.Close ∷ s.Arrow ∷ s.OpenBracket ∷ each_put arm_put arms (s.Otherwise ∷ s.Colon ∷ s.Block b ∷ s.CloseBracket ∷ rest)

abbrev call_end : Items OperandRule → ℕ → UnwindRule → List Symbol → List Symbol
call_end xs b u rest = s.Open ∷ items_put operand_put s.Close xs (goes_put s.Return b u rest)

call_size : (xs : Items OperandRule) (b : ℕ) (u : UnwindRule) (rest : List Symbol) → length (call_end xs b u rest) ≡ length (call_end xs b u []) + length rest
call_size xs b u rest =
    omega (arith, items_size operand_put operand_size s.Close xs (goes_put s.Return b u rest), items_size operand_put operand_size s.Close xs (goes_put s.Return b u []), goes_size s.Return b u rest)

abbrev assert_end : ℕ → List OperandRule → ℕ → UnwindRule → List Symbol → List Symbol
assert_end message xs b u rest = s.Comma ∷ s.Text message ∷ each_put value_operand_put xs (s.Close ∷ goes_put success_name b u rest)

assert_size : (message : ℕ) (xs : List OperandRule) (b : ℕ) (u : UnwindRule) (rest : List Symbol) → length (assert_end message xs b u rest) ≡ length (assert_end message xs b u []) + length rest
assert_size message xs b u rest =
    omega (
      arith,
      each_size value_operand_put value_operand_size xs (s.Close ∷ goes_put success_name b u rest),
      each_size value_operand_put value_operand_size xs (s.Close ∷ goes_put success_name b u []),
      goes_size success_name b u rest,
    )

term_size : (x : TermRule) (rest : List Symbol) → length (term_put x rest) ≡ length (term_put x []) + length rest
term_size (goto b) rest = omega arith
term_size returns rest = omega arith
term_size never rest = omega arith
term_size (switch x arms b) rest = omega (arith, operand_size x (arms_end arms b rest), operand_size x (arms_end arms b []), switch_size arms b rest)
term_size (call q path xs b u) rest =
    omega (
      arith,
      place_size q (s.Equals ∷ path_put path (call_end xs b u rest)),
      place_size q (s.Equals ∷ path_put path (call_end xs b u [])),
      path_size path (call_end xs b u rest),
      path_size path (call_end xs b u []),
      call_size xs b u rest,
    )
term_size (drop q b u) rest = omega (arith, place_size q (s.Close ∷ goes_put s.Return b u rest), place_size q (s.Close ∷ goes_put s.Return b u []), goes_size s.Return b u rest)
term_size (assert expected x message xs b u) rest =
    omega (
      arith,
      expected_size expected (operand_put x (assert_end message xs b u rest)),
      expected_size expected (operand_put x (assert_end message xs b u [])),
      operand_size x (assert_end message xs b u rest),
      operand_size x (assert_end message xs b u []),
      assert_size message xs b u rest,
    )

abbrev block_end : TermRule → List Symbol → List Symbol
block_end x rest = term_put x (s.Semicolon ∷ s.CloseBrace ∷ rest)

pub block_size : (b : BlockRule) (rest : List Symbol) → length (block_put b rest) ≡ length (block_put b []) + length rest
block_size b rest =
    omega (
      arith,
      each_ended_size b.stmts (block_end b.term rest),
      each_ended_size b.stmts (block_end b.term []),
      term_size b.term (s.Semicolon ∷ s.CloseBrace ∷ rest),
      term_size b.term (s.Semicolon ∷ s.CloseBrace ∷ []),
    )
