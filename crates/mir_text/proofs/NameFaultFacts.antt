-- Texts whose names have a fault: S10 to S15, each with its line.
use Rattle.std.proofs.Common.{◌≡◌, refl, sym, ℕ, true, false, List, [], ◌∷◌, ◌++◌, codes, Some, is_some, append-nil, inr, arith}
use Rattle.mir_syntax.specs.declared.types.IntTy.TheVariants as i
use Rattle.mir_syntax.specs.Shapes.{◌>>=◌}
use Rattle.mir_text.specs.Bytes.{suffix_at}
use Rattle.mir_text.specs.Pieces.{text_of}
use Rattle.mir_text.specs.Words.{word_place}
use Rattle.mir_text.specs.Symbols.{word_token, block_digits, symbols_of}
use Rattle.mir_text.specs.Grammar as g
use Rattle.mir_text.specs.GrammarTypes as t
use Rattle.mir_text.specs.GrammarPlaces as p
use Rattle.mir_text.specs.GrammarStatements as r
use Rattle.mir_text.specs.GrammarStatements.{StmtRule}
use Rattle.mir_text.specs.GrammarTerms as m
use Rattle.mir_text.specs.GrammarTerms.{TermRule, BlockRule}
use Rattle.mir_text.specs.GrammarItems as n
use Rattle.mir_text.specs.GrammarItems.{DeclsRule, FileRule, file_put}
use Rattle.mir_text.specs.Nesting.{FileGood}
use Rattle.mir_text.specs.NameFaults.{first_fault}
use Rattle.mir_text.specs.Reads.{faults_in}
use Rattle.mir_text.specs.ReadFaults.{IsReadFault}
use Rattle.mir_text.proofs.Cut.{cut, cut_from, piece_at, number_piece, if_stand, stands}

-- the names of a good file have a fault
name_fault : (bytes : List ℕ) (file : FileRule) (code line : ℕ) → text_of (cut bytes) ≡ bytes → is_some (if_stand (cut bytes) []) ≡ true
    → symbols_of (cut bytes) ≡ file_put file [] → FileGood file → first_fault (faults_in (cut bytes) file) ≡ Some (line, code) → IsReadFault bytes code line
name_fault bytes file code line whole standing derives good first = inr (inr (inr (record {
  pieces = cut bytes;
  cut = record { whole = rw (append-nil (text_of (cut bytes))) (sym whole); stand = stands (cut bytes) [] standing };
  file = file;
  derives = derives;
  good = good;
  first = first;
})))

-- a function with a path of one name, no arguments and the result `()`
abbrev plain_fn : ℕ → DeclsRule → List BlockRule → FileRule
plain_fn name locals blocks = n.function (record {
  attr = n.none;
  is_drop = false;
  path = t.name name;
  args = g.end;
  result = t.unit;
  locals = locals;
  blocks = blocks;
}) ∷ []

abbrev let_0 : DeclsRule
let_0 = n.decls (n.«let» false 0 t.unit) n.no_decls

abbrev labelled : ℕ → List StmtRule → TermRule → BlockRule
labelled b stmts term = record { label = b; stmts = stmts; term = term }

-- S10: a path is defined twice: line of the second
path-twice : IsReadFault (codes "struct A;\nstruct A;\n") 10 2
unfolding cut cut_from piece_at number_piece suffix_at word_token block_digits word_place ◌>>=◌
path-twice = name_fault _
    (n.struct (t.name 8) n.plain ∷ n.struct (t.name 8) n.plain ∷ []) 10 2 refl refl refl
    (tt, (tt, tt)) refl

-- S10: a field name stands twice
field-twice : IsReadFault (codes "struct A {\n    x: u8,\n    x: u8 }\n") 10 1
unfolding cut cut_from piece_at number_piece suffix_at word_token block_digits word_place ◌>>=◌
field-twice = name_fault _
    (n.struct (t.name 8) (n.labelled (g.more (9, t.int i.U8) (g.last (9, t.int i.U8)))) ∷ []) 10 1 refl refl refl
    ((omega arith, omega arith), tt) refl

-- S10: a struct has the path of an enum's variant
variant-path : IsReadFault (codes "enum E { V }\nstruct E::V;\n") 10 2
unfolding cut cut_from piece_at number_piece suffix_at word_token block_digits word_place ◌>>=◌
variant-path = name_fault _
    (n.enum (t.name 8) (g.last (9, n.plain)) ∷ n.struct (t.name_in 8 (t.name 9)) n.plain ∷ []) 10 2 refl refl refl
    (tt, (tt, tt)) refl

-- S11: a call names no function: line of the terminator
no-function : IsReadFault (
    codes "fn f() -> () {\n" ++
    codes "    let _0: ();\n" ++
    codes "    bb0: {\n" ++
    codes "        _0 = g() -> [return: bb1, unwind continue];\n" ++
    codes "    }\n" ++
    codes "    bb1: { return; }\n" ++
    codes "}\n") 11 4
unfolding cut cut_from piece_at number_piece suffix_at word_token block_digits word_place ◌>>=◌
no-function = name_fault _
    (plain_fn 8 let_0 (labelled 0 [] (m.call (p.local 0) (t.name 9) g.end 1 m.continues) ∷ labelled 1 [] m.returns ∷ [])) 11 4 refl refl refl
    ((tt, omega arith, (omega arith, (tt, tt)), ((tt, ((omega arith, tt), tt)), ((tt, tt), tt))), tt) refl

-- S12: a type names no struct or enum
no-type : IsReadFault (codes "struct A;\nstruct B(\n    C);\n") 12 2
unfolding cut cut_from piece_at number_piece suffix_at word_token block_digits word_place ◌>>=◌
no-type = name_fault _
    (n.struct (t.name 8) n.plain ∷ n.struct (t.name 9) (n.tupled (t.last (t.path (t.name 10)))) ∷ []) 12 2 refl refl refl
    (tt, (omega arith, tt)) refl

-- S13: a build has another form than the definition: line of the statement
other-form : IsReadFault (
    codes "struct A;\n" ++
    codes "fn f() -> () {\n" ++
    codes "    let _0: ();\n" ++
    codes "    bb0: {\n" ++
    codes "        _0 = A();\n" ++
    codes "        return;\n" ++
    codes "    }\n" ++
    codes "}\n") 13 5
unfolding cut cut_from piece_at number_piece suffix_at word_token block_digits word_place ◌>>=◌
other-form = name_fault _
    (n.struct (t.name 8) n.plain ∷ plain_fn 9 let_0 (labelled 0 (r.assign (p.local 0) (r.build (t.name 8) (r.tupled g.end)) ∷ []) m.returns ∷ [])) 13 5 refl refl refl
    (tt, ((tt, omega arith, (omega arith, (tt, tt)), (((((omega arith, tt), tt), tt), tt), tt)), tt)) refl

-- S14: a local is missing: line of the item
missing-local : IsReadFault (codes "\nfn f() -> () {\n    bb0: { return; }\n}\n") 14 2
unfolding cut cut_from piece_at number_piece suffix_at word_token block_digits word_place ◌>>=◌
missing-local = name_fault _
    (plain_fn 8 n.no_decls (labelled 0 [] m.returns ∷ [])) 14 2 refl refl refl
    ((tt, omega arith, (omega arith, tt), ((tt, tt), tt)), tt) refl

-- S14: the type of `_0` isn't the result: line of the `let`
other-result : IsReadFault (codes "fn f() -> () {\n    let _0: u8;\n    bb0: { return; }\n}\n") 14 2
unfolding cut cut_from piece_at number_piece suffix_at word_token block_digits word_place ◌>>=◌
other-result = name_fault _
    (plain_fn 8 (n.decls (n.«let» false 0 (t.int i.U8)) n.no_decls) (labelled 0 [] m.returns ∷ [])) 14 2 refl refl refl
    ((tt, omega arith, (omega arith, (tt, tt)), ((tt, tt), tt)), tt) refl

-- S14: a local that is used isn't declared: line of the statement
unknown-local : IsReadFault (
    codes "fn f() -> () {\n" ++
    codes "    let _0: ();\n" ++
    codes "    bb0: {\n" ++
    codes "        StorageLive(_1);\n" ++
    codes "        return;\n" ++
    codes "    }\n" ++
    codes "}\n") 14 4
unfolding cut cut_from piece_at number_piece suffix_at word_token block_digits word_place ◌>>=◌
unknown-local = name_fault _
    (plain_fn 8 let_0 (labelled 0 (r.live 1 ∷ []) m.returns ∷ [])) 14 4 refl refl refl
    ((tt, omega arith, (omega arith, (tt, tt)), (((tt, tt), tt), tt)), tt) refl

-- S15: a terminator goes to a block that isn't there
no-block : IsReadFault (
    codes "fn l() -> () {\n" ++
    codes "    let mut _0: ();\n" ++
    codes "\n" ++
    codes "    bb0: {\n" ++
    codes "        goto -> bb1;\n" ++
    codes "    }\n" ++
    codes "\n" ++
    codes "    bb1: {\n" ++
    codes "        goto -> bb9;\n" ++
    codes "    }\n" ++
    codes "}\n") 15 9
unfolding cut cut_from piece_at number_piece suffix_at word_token block_digits word_place ◌>>=◌
no-block = name_fault _
    (plain_fn 8 (n.decls (n.«let» true 0 t.unit) n.no_decls) (labelled 0 [] (m.goto 1) ∷ labelled 1 [] (m.goto 9) ∷ [])) 15 9 refl refl refl
    ((tt, omega arith, (omega arith, (tt, tt)), ((tt, tt), ((tt, tt), tt))), tt) refl

-- S15: the blocks don't begin with bb0: line of the item
no-first-block : IsReadFault (codes "fn f() -> () {\n    let _0: ();\n    bb1: { return; }\n}\n") 15 1
unfolding cut cut_from piece_at number_piece suffix_at word_token block_digits word_place ◌>>=◌
no-first-block = name_fault _
    (plain_fn 8 let_0 (labelled 1 [] m.returns ∷ [])) 15 1 refl refl refl
    ((tt, omega arith, (omega arith, (tt, tt)), ((tt, tt), tt)), tt) refl
