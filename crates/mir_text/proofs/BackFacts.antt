-- Canonical texts read as their crates.
use Rattle.std.proofs.Common.{◌≡◌, refl, ℕ, Bool, true, false, List, [], ◌∷◌, ◌++◌, codes, Some, is_some, arith}
use Rattle.mir_syntax.specs.declared.types.IntTy.TheVariants as i
use Rattle.mir_syntax.specs.Crate.{Crate}
use Rattle.mir_syntax.specs.Shapes.{◌>>=◌}
use Rattle.mir_text.specs.Bytes.{suffix_at}
use Rattle.mir_text.specs.Pieces.{text_of}
use Rattle.mir_text.specs.Words.{word_place}
use Rattle.mir_text.specs.Symbols.{word_token, block_digits, symbols_of, strings_of}
use Rattle.mir_text.specs.Grammar as g
use Rattle.mir_text.specs.GrammarTypes as t
use Rattle.mir_text.specs.GrammarTypes.{TypeRule}
use Rattle.mir_text.specs.GrammarPlaces as p
use Rattle.mir_text.specs.GrammarPlaces.{PlaceRule}
use Rattle.mir_text.specs.GrammarStatements as r
use Rattle.mir_text.specs.GrammarStatements.{StmtRule}
use Rattle.mir_text.specs.GrammarTerms as m
use Rattle.mir_text.specs.GrammarTerms.{TermRule, BlockRule}
use Rattle.mir_text.specs.GrammarItems as n
use Rattle.mir_text.specs.GrammarItems.{ArgRule, AttrRule, DeclsRule, ItemRule, FileRule, file_put}
use Rattle.mir_text.specs.Nesting.{PlaceGood, FileGood}
use Rattle.mir_text.specs.Naming.{crate_named}
use Rattle.mir_text.specs.ReadLines.{wrong_field_in}
use Rattle.mir_text.specs.Reads.{Reads, faults_in, names_in, items_in}
use Rattle.mir_text.proofs.Cut.{cut, cut_from, piece_at, number_piece, if_stand, stands}
use Rattle.mir_text.proofs.TextFacts.{walking, moving, looking, walking_text, moving_text, looking_text}

-- ---- makers

-- a text reads as a crate
read_as : (bytes : List ℕ) (file : FileRule) (c : Crate) → bytes ≡ text_of (cut bytes) → is_some (if_stand (cut bytes) []) ≡ true
    → symbols_of (cut bytes) ≡ file_put file [] → FileGood file → faults_in (cut bytes) file ≡ [] → crate_named (strings_of (cut bytes)) file ≡ c → Reads bytes c
read_as bytes file c whole standing derives good faultless named = record {
  derivation = record {
    pieces = cut bytes;
    whole = whole;
    stand = stands (cut bytes) [] standing;
    file = file;
    derives = derives;
    good = good;
    faultless = faultless;
  };
  named = named;
}

abbrev of_local : ℕ → PlaceRule
of_local x = p.local x

abbrev i32 : TypeRule
i32 = t.int i.I32

abbrev u32 : TypeRule
u32 = t.int i.U32

abbrev u8 : TypeRule
u8 = t.int i.U8

abbrev path_ty : ℕ → TypeRule
path_ty name = t.path (t.name name)

abbrev let_mut : ℕ → TypeRule → DeclsRule → DeclsRule
let_mut x u others = n.decls (n.«let» true x u) others

abbrev block : ℕ → List StmtRule → TermRule → BlockRule
block label stmts term = record { label = label; stmts = stmts; term = term }

abbrev fun : AttrRule → Bool → ℕ → g.Items ArgRule → TypeRule → DeclsRule → List BlockRule → ItemRule
fun attr is_drop name args result locals blocks = n.function (record {
  attr = attr;
  is_drop = is_drop;
  path = t.name name;
  args = args;
  result = result;
  locals = locals;
  blocks = blocks;
})

abbrev assign_copy : ℕ → PlaceRule → StmtRule
assign_copy x q = r.assign (of_local x) (r.«use» (p.copy q))

-- ---- a struct with a reference to itself

abbrev walking_file : FileRule
walking_file =
    n.struct (t.name 8) (n.labelled (g.more (9, i32) (g.last (10, t.ref false (path_ty 8))))) ∷
    fun n.none false 11 (g.last (1, t.ref false (path_ty 8))) i32 (let_mut 0 i32 (let_mut 2 (path_ty 8) n.no_decls))
    (block 0
    (assign_copy 2 (p.deref (of_local 1)) ∷
    assign_copy 2 (p.deref (p.field (of_local 2) 1 (t.ref false (path_ty 8)))) ∷
    assign_copy 0 (p.field (of_local 2) 0 i32) ∷ [])
    m.returns ∷ []) ∷ []

walking-good : FileGood walking_file
walking-good =
    let whole : PlaceGood 65 (of_local 0) = (omega arith, tt) in (
      (omega arith, omega arith),
      (
        (
          omega arith,
          omega arith,
          (omega arith, (tt, (tt, tt))),
          (((((whole, (omega arith, tt)), ((whole, (omega arith, (omega arith, tt))), ((whole, (omega arith, (omega arith, tt))), tt)))), tt), tt),
        ),
        tt,
      ),
    )

reads-walking : Reads walking_text walking
unfolding cut cut_from piece_at number_piece suffix_at word_token block_digits word_place ◌>>=◌
reads-walking = read_as _ walking_file walking refl refl refl walking-good refl refl

-- ---- a value that is moved on one arm

abbrev returns : BlockRule
returns = block 1 [] m.returns

abbrev moving_file : FileRule
moving_file =
    n.struct (t.name 8) (n.tupled (t.last u32)) ∷
    n.extern (t.name 9) (t.last u32) t.unit ∷
    fun n.none true 10 (g.last (1, t.ref true (path_ty 8))) t.unit (let_mut 0 t.unit n.no_decls)
    (block 0 [] (m.call (of_local 0) (t.name 9) (g.last (p.copy (p.field (p.deref (of_local 1)) 0 u32))) 1 m.unreachable) ∷ returns ∷ []) ∷
    fun n.never false 11 (g.last (1, path_ty 8)) t.unit (let_mut 0 t.unit n.no_decls)
    (block 0 [] (m.drop (of_local 1) 1 m.unreachable) ∷ returns ∷ []) ∷
    fun n.none false 12 (g.last (1, t.bool)) t.unit (let_mut 0 t.unit (let_mut 2 (path_ty 8) (let_mut 3 t.unit n.no_decls)))
    (block 0
    (r.assign (of_local 2) (r.build (t.name 8) (r.tupled (g.last (p.const (p.number false 7 i.U32))))) ∷ [])
    (m.switch (p.copy (of_local 1)) ((0, 2) ∷ []) 1) ∷
    block 1 [] (m.call (of_local 3) (t.name 11) (g.last (p.move (of_local 2))) 2 m.unreachable) ∷
    block 2 [] (m.drop (of_local 2) 3 m.unreachable) ∷
    block 3 [] m.returns ∷ []) ∷ []

moving-good : FileGood moving_file
moving-good =
    let whole : PlaceGood 65 (of_local 0) = (omega arith, tt) in (
      omega arith,
      (
        (omega arith, omega arith),
        (
          (omega arith, omega arith, (omega arith, (tt, tt)), ((tt, (whole, (omega arith, (omega arith, tt)))), ((tt, tt), tt))),
          (
            (omega arith, omega arith, (omega arith, (tt, tt)), ((tt, whole), ((tt, tt), tt))),
            (
              (
                omega arith,
                omega arith,
                (omega arith, (tt, (tt, (tt, tt)))),
                ((((whole, refl), tt), whole), ((tt, (whole, whole)), ((tt, whole), ((tt, tt), tt)))),
              ),
              tt,
            ),
          ),
        ),
      ),
    )

reads-moving : Reads moving_text moving
unfolding cut cut_from piece_at number_piece suffix_at word_token block_digits word_place ◌>>=◌
reads-moving = read_as _ moving_file moving refl refl refl moving-good refl refl

-- ---- a switch on the variant of an enum

abbrev looking_file : FileRule
looking_file =
    n.enum (t.name 8) (g.more (9, n.plain) (g.last (10, n.tupled (t.last u8)))) ∷
    fun n.none false 11 (g.last (1, path_ty 8)) u8 (let_mut 0 u8 (let_mut 2 (t.int i.Isize) n.no_decls))
    (block 0 (r.assign (of_local 2) (r.discriminant (of_local 1)) ∷ []) (m.switch (p.move (of_local 2)) ((0, 1) ∷ (1, 2) ∷ []) 3) ∷
    block 1 (r.assign (of_local 0) (r.«use» (p.const (p.number false 0 i.U8))) ∷ []) (m.goto 4) ∷
    block 2 (assign_copy 0 (p.variant_field (of_local 1) 10 0 u8) ∷ []) (m.goto 4) ∷
    block 3 [] m.never ∷
    block 4 [] m.returns ∷ []) ∷ []

looking-good : FileGood looking_file
looking-good =
    let whole : PlaceGood 65 (of_local 0) = (omega arith, tt) in (
      (tt, omega arith),
      (
        (
          omega arith,
          omega arith,
          (omega arith, (tt, (tt, tt))),
          ((((whole, whole), tt), whole), ((((whole, refl), tt), tt), ((((whole, (omega arith, (omega arith, tt))), tt), tt), ((tt, tt), ((tt, tt), tt))))),
        ),
        tt,
      ),
    )

reads-looking : Reads looking_text looking
unfolding cut cut_from piece_at number_piece suffix_at word_token block_digits word_place ◌>>=◌
reads-looking = read_as _ looking_file looking refl refl refl looking-good refl refl

-- ---- a field that is written with another type than its own

abbrev wrong_text : List ℕ
wrong_text = codes "fn f(_1: (u8, u8)) -> u8 {\n    let _0: u8;\n    bb0: {\n        _0 = (_1.1: bool);\n        return;\n    }\n}\n"

abbrev wrong_file : FileRule
wrong_file =
    fun n.none false 8 (g.last (1, t.tuple u8 (t.last u8))) u8 (n.decls (n.«let» false 0 u8) n.no_decls)
    (block 0 (r.assign (of_local 0) (r.«use» (p.bare (p.field (of_local 1) 1 t.bool))) ∷ []) m.returns ∷ []) ∷ []

wrong-derives : symbols_of (cut wrong_text) ≡ file_put wrong_file []
unfolding cut cut_from piece_at number_piece suffix_at word_token block_digits word_place ◌>>=◌
wrong-derives = refl

-- its names have no fault, and the line of the field is kept
wrong-line : wrong_field_in (names_in (cut wrong_text) wrong_file) (items_in (cut wrong_text) wrong_file) ≡ Some 4
unfolding cut cut_from piece_at number_piece suffix_at word_token block_digits word_place ◌>>=◌
wrong-line = refl

wrong-names : faults_in (cut wrong_text) wrong_file ≡ []
unfolding cut cut_from piece_at number_piece suffix_at word_token block_digits word_place ◌>>=◌
wrong-names = refl
