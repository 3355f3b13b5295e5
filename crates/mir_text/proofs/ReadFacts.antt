-- Texts that are read, and the crates that they name.
use Rattle.std.proofs.Common.{◌≡◌, refl, ℕ, true, false, List, [], ◌∷◌, ◌++◌, codes, None, arith}
use Rattle.mir_syntax.specs.declared.types.IntTy.TheVariants as i
use Rattle.mir_syntax.specs.declared.body.Term.TheVariants as term
use Rattle.mir_syntax.specs.declared.body.Proj.TheVariants.{Field}
use Rattle.mir_syntax.specs.declared.body.Operand.TheVariants as operand
use Rattle.mir_syntax.specs.declared.body.OverOp.TheVariants as over
use Rattle.mir_syntax.specs.declared.body.Inline.TheVariants as inlining
use Rattle.mir_syntax.specs.Tree.{empty, more}
use Rattle.mir_syntax.specs.Crate as C
use Rattle.mir_syntax.specs.Crate.{Crate}
use Rattle.mir_syntax.specs.Shapes.{◌>>=◌}
use Rattle.mir_text.specs.declared.symbol.Symbol.TheVariants as s
use Rattle.mir_text.specs.Bytes.{suffix_at}
use Rattle.mir_text.specs.Pieces.{Piece, Stand}
use Rattle.mir_text.specs.Words.{word_place}
use Rattle.mir_text.specs.Symbols.{word_token, block_digits, symbols_of}
use Rattle.mir_text.specs.Grammar as g
use Rattle.mir_text.specs.Grammar.{AllOf}
use Rattle.mir_text.specs.GrammarTypes as t
use Rattle.mir_text.specs.GrammarTypes.{TypeRule}
use Rattle.mir_text.specs.GrammarPlaces as p
use Rattle.mir_text.specs.GrammarPlaces.{OperandRule}
use Rattle.mir_text.specs.GrammarStatements as r
use Rattle.mir_text.specs.GrammarTerms as m
use Rattle.mir_text.specs.GrammarTerms.{BlockRule}
use Rattle.mir_text.specs.GrammarItems as n
use Rattle.mir_text.specs.GrammarItems.{DebugSymbol, DeclRule, DeclsRule, FileRule, file_put}
use Rattle.mir_text.specs.Nesting.{PlaceGood, DebugSymbolGood, FileGood}
use Rattle.mir_text.specs.Reads.{Derivation, lines_read, Reads}
use Rattle.mir_text.proofs.Cut.{cut, cut_from, piece_at, number_piece, stands}
use Rattle.mir_text.proofs.TextFacts.{of_local, at, block, i32, bool, returning}

-- ---- a function that returns

abbrev returning_text : List ℕ
returning_text = codes "fn f() -> () {\n    let mut _0: ();\n\n    bb0: {\n        return;\n    }\n}\n"

pub returning_pieces : List Piece
returning_pieces = cut returning_text

returning_file : FileRule
returning_file = n.function (record {
  attr = n.none;
  is_drop = false;
  path = t.name 8;
  args = g.end;
  result = t.unit;
  locals = n.decls (n.«let» true 0 t.unit) n.no_decls;
  blocks = record { label = 0; stmts = []; term = m.returns } ∷ [];
}) ∷ []

returning-stands : Stand returning_pieces []
unfolding returning_pieces cut cut_from piece_at number_piece suffix_at
returning-stands = stands returning_pieces [] refl

returning-derives : symbols_of returning_pieces ≡ file_put returning_file []
unfolding returning_pieces returning_file cut cut_from piece_at number_piece suffix_at word_token block_digits word_place
returning-derives = refl

returning-good : FileGood returning_file
unfolding returning_file
returning-good = ((tt, omega arith, (omega arith, (tt, tt)), ((tt, tt), tt)), tt)

returning-derivation : Derivation returning_text
unfolding returning_pieces returning_file cut cut_from piece_at number_piece suffix_at word_token block_digits word_place
returning-derivation = record {
  pieces = returning_pieces;
  whole = refl;
  stand = returning-stands;
  file = returning_file;
  derives = returning-derives;
  good = returning-good;
  faultless = refl;
}

reads-returning : Reads returning_text returning
unfolding returning-derivation returning_pieces returning_file cut cut_from piece_at number_piece suffix_at word_token block_digits word_place
reads-returning = record { derivation = returning-derivation; named = refl }

-- ---- a checked addition, with a comment, `debug` lines and a scope

abbrev adding_text : List ℕ
adding_text =
    codes "// WARNING: This output format is intended for human consumers only\n" ++
    codes "fn add(_1: i32, _2: i32) -> i32 {\n" ++
    codes "    debug a => _1;\n" ++
    codes "    debug b => _2;\n" ++
    codes "    let mut _0: i32;\n" ++
    codes "    let _3: i32;\n" ++
    codes "    let mut _4: (i32, bool);\n" ++
    codes "    scope 1 {\n" ++
    codes "        debug s => _3;\n" ++
    codes "    }\n" ++
    codes "\n" ++
    codes "    bb0: {\n" ++
    codes "        StorageLive(_3);\n" ++
    codes "        _4 = AddWithOverflow(copy _1, copy _2);\n" ++
    codes "        assert(!move (_4.1: bool), \"attempt to compute `{} + {}`, which would overflow\", copy _1, copy _2) -> [success: bb1, unwind continue];\n" ++
    codes "    }\n" ++
    codes "\n" ++
    codes "    bb1: {\n" ++
    codes "        _3 = move (_4.0: i32);\n" ++
    codes "        _0 = copy _3;\n" ++
    codes "        StorageDead(_3);\n" ++
    codes "        return;\n" ++
    codes "    }\n" ++
    codes "}\n"

adding_pieces : List Piece
adding_pieces = cut adding_text

abbrev i32_rule : TypeRule
i32_rule = t.int i.I32

abbrev symbol_shown : ℕ → ℕ → List DebugSymbol
symbol_shown name x = record { symbol = s.Name name; other = refl } ∷ record { symbol = s.FatArrow; other = refl } ∷ record { symbol = s.Local x; other = refl } ∷ []

abbrev shown : ℕ → ℕ → DeclRule
shown name x = n.debug (symbol_shown name x)

abbrev copied : ℕ → OperandRule
copied x = p.copy (p.local x)

abbrev part_of : ℕ → ℕ → TypeRule → OperandRule
part_of x k u = p.move (p.field (p.local x) k u)

abbrev first_rule : BlockRule
first_rule = record {
  label = 0;
  stmts = r.live 3 ∷ r.assign (p.local 4) (r.overflow over.Add (copied 1) (copied 2)) ∷ [];
  term = m.assert false (part_of 4 1 t.bool) 12 (copied 1 ∷ copied 2 ∷ []) 1 m.continues;
}

abbrev second_rule : BlockRule
second_rule = record {
  label = 1;
  stmts = r.assign (p.local 3) (r.«use» (part_of 4 0 i32_rule)) ∷ r.assign (p.local 0) (r.«use» (copied 3)) ∷ r.dead 3 ∷ [];
  term = m.returns;
}

abbrev adding_locals : DeclsRule
adding_locals =
    n.decls (shown 9 1) (n.decls (shown 10 2) (n.decls (n.«let» true 0 i32_rule) (n.decls (n.«let» false 3 i32_rule)
    (n.decls (n.«let» true 4 (t.tuple i32_rule (t.last t.bool))) (n.decls (n.scope 1 None (n.decls (shown 11 3) n.no_decls)) n.no_decls)))))

adding_file : FileRule
adding_file = n.function (record {
  attr = n.none;
  is_drop = false;
  path = t.name 8;
  args = g.more (1, i32_rule) (g.last (2, i32_rule));
  result = i32_rule;
  locals = adding_locals;
  blocks = first_rule ∷ second_rule ∷ [];
}) ∷ []

adding-stands : Stand adding_pieces []
unfolding adding_pieces cut cut_from piece_at number_piece suffix_at
adding-stands = stands adding_pieces [] refl

adding-derives : symbols_of adding_pieces ≡ file_put adding_file []
unfolding adding_pieces adding_file cut cut_from piece_at number_piece suffix_at word_token block_digits word_place ◌>>=◌
adding-derives = refl

adding-good : FileGood adding_file
unfolding adding_file
adding-good =
    let whole : PlaceGood 65 (p.local 0) = (omega arith, tt) in
    let part : PlaceGood 65 (p.field (p.local 4) 0 i32_rule) = (omega arith, (omega arith, tt)) in
    let free : AllOf DebugSymbolGood (symbol_shown 0 1) = (tt, (tt, (tt, tt))) in (
      (
        (omega arith, omega arith),
        omega arith,
        (omega arith, (free, (free, (tt, (tt, (tt, ((omega arith, (free, tt)), tt))))))),
        (
          ((tt, ((whole, (whole, whole)), tt)), ((omega arith, (omega arith, tt)), (whole, (whole, tt)))),
          ((((whole, part), ((whole, whole), (tt, tt))), tt), tt),
        ),
      ),
      tt,
    )

-- the program before any pass: `_3` is a local of its own, and `nop`, scopes and `debug` lines are gone
abbrev pub read_adding : Crate
read_adding = record {
  defs = [];
  outsides = [];
  functions = record {
    path = codes "add";
    inlining = inlining.Plain;
    is_drop = false;
    body = record {
      args = 2;
      locals = i32 ∷ i32 ∷ i32 ∷ i32 ∷ more i32 (more bool empty) ∷ [];
      blocks =
          block
          (C.storage_live 3 ∷
          C.assign (of_local 4) (C.overflow over.Add (operand.Copy (of_local 1)) (operand.Copy (of_local 2))) ∷ [])
          (term.Assert (operand.Move (at 4 (Field 1 ∷ []))) false (codes "attempt to compute `{} + {}`, which would overflow")
          (operand.Copy (of_local 1) ∷ operand.Copy (of_local 2) ∷ []) 1) ∷
          block
          (C.assign (of_local 3) (C.«use» (operand.Move (at 4 (Field 0 ∷ [])))) ∷
          C.assign (of_local 0) (C.«use» (operand.Copy (of_local 3))) ∷
          C.storage_dead 3 ∷ [])
          term.Return ∷ [];
    };
  } ∷ [];
}

adding-derivation : Derivation adding_text
unfolding adding_pieces adding_file cut cut_from piece_at number_piece suffix_at word_token block_digits word_place ◌>>=◌
adding-derivation = record {
  pieces = adding_pieces;
  whole = refl;
  stand = adding-stands;
  file = adding_file;
  derives = adding-derives;
  good = adding-good;
  faultless = refl;
}

reads-adding : Reads adding_text read_adding
unfolding adding-derivation adding_pieces adding_file cut cut_from piece_at number_piece suffix_at word_token block_digits word_place ◌>>=◌
reads-adding = record { derivation = adding-derivation; named = refl }

-- the lines of its items, locals, statements and terminators
lines-of-adding : lines_read adding-derivation ≡ record {
  defs = [];
  outsides = [];
  functions = record {
    head = 2;
    locals = 5 ∷ 2 ∷ 2 ∷ 6 ∷ 7 ∷ [];
    blocks = record { stmts = 13 ∷ 14 ∷ []; term = 15 } ∷ record { stmts = 19 ∷ 20 ∷ 21 ∷ []; term = 22 } ∷ [];
  } ∷ [];
  wrong_field = None;
}
unfolding adding-derivation adding_pieces adding_file cut cut_from piece_at number_piece suffix_at word_token block_digits word_place ◌>>=◌
lines-of-adding = refl
