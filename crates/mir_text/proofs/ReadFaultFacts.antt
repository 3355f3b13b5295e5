-- Texts that are refused with S01 to S05 and S07, and rules that aren't good: S06, S08 and S09.
use Rattle.std.proofs.Common.{◌≡◌, refl, sym, subst, ◌≤◌, ◌<◌, ◌^◌, ℕ, zero, suc, ◌==◌, Bool, true, false, List, [], ◌∷◌, ◌++◌, codes, inl, inr, arith}
use Rattle.std.proofs.lemmas.Bool.{ltb-false}
use Rattle.std.specs.Char.{is_ascii_digit, is_ascii_alphabetic}
use Rattle.std.specs.Str.Parse.{digits_value}
use Rattle.mir_syntax.specs.declared.types.IntTy.TheVariants as i
use Rattle.mir_text.specs.declared.symbol.Symbol.{Symbol}
use Rattle.mir_text.specs.declared.symbol.Symbol.TheVariants as s
use Rattle.mir_text.specs.Bytes.{is_blank}
use Rattle.mir_text.specs.Pieces.{Mark, open_paren, close_paren, open_brace, close_brace, open_bracket, close_bracket, comma, semicolon, colon, colons, dot, ampersand, star, exclamation, equals, hash, minus, arrow, fat_arrow, less, greater, bar, question, mark_text, Piece, blank, line, comment, local, number, typed, text, word, under, mark, spelled, IsContent, IsPiece, Ends}
use Rattle.mir_text.specs.Words.{word_place}
use Rattle.mir_text.specs.Symbols.{word_token, block_digits}
use Rattle.mir_text.specs.GrammarTypes as t
use Rattle.mir_text.specs.GrammarTypes.{PathRule, path_put, TypeRule}
use Rattle.mir_text.specs.GrammarPlaces as p
use Rattle.mir_text.specs.GrammarItems as n
use Rattle.mir_text.specs.GrammarItems.{AttrRule, attr_put, drop_put, FileRule, file_put}
use Rattle.mir_text.specs.Nesting.{TypeGood, PlaceGood, ValueFits, FirstGood}
use Rattle.mir_text.specs.ReadFaults.{Viable, GoesOn, InDebug, Breaks, NoneRefused, Reading, IsReadFault}
use Rattle.mir_text.proofs.Cut.{if_all, from_some}

-- ---- S06, S08, S09: rules that aren't good

-- a type in so many references
abbrev refs : ℕ → TypeRule
refs zero = t.int i.U8
refs (suc n) = t.ref false (refs n)

abbrev derefs : ℕ → p.PlaceRule
derefs zero = p.local 1
derefs (suc n) = p.deref (derefs n)

-- a type may stand in 64 others, and not in 65
deep-type : TypeGood (refs 64)
deep-type = omega arith

too-deep-type : TypeGood (refs 65) → ⊥
too-deep-type h = omega arith

deep-place : PlaceGood 65 (derefs 64)
deep-place = (omega arith, tt)

too-deep-place : PlaceGood 65 (derefs 65) → ⊥
too-deep-place h = let depth : 66 ≤ 65 = h.0 in omega arith

-- the first parenthesis of a tuple counts with a bare place
deep-first : FirstGood (p.bare (derefs 63))
deep-first = (omega arith, tt)

too-deep-first : FirstGood (p.bare (derefs 64)) → ⊥
too-deep-first h = let depth : 65 ≤ 64 = h.0 in omega arith

-- 255 is the greatest `u8`, -128 the least `i8`, and minus zero fits each type
fits-u8 : ValueFits (p.number false 255 i.U8)
fits-u8 = refl

unfit-u8 : ValueFits (p.number false 256 i.U8) → ⊥
unfit-u8 e = absurd cc

fits-i8 : ValueFits (p.number true 128 i.I8)
fits-i8 = refl

unfit-i8 : ValueFits (p.number false 128 i.I8) → ⊥
unfit-i8 e = absurd cc

fits-minus-zero : ValueFits (p.number true 0 i.U8)
fits-minus-zero = refl

unfit-minus : ValueFits (p.number true 1 i.U8) → ⊥
unfit-minus e = absurd cc

fits-u128 : ValueFits (p.number false 340282366920938463463374607431768211455 i.U128)
fits-u128 = refl

-- the number of a field is at most 4294967295
large-field : PlaceGood 65 (p.field (p.local 1) 4294967295 t.bool)
large-field = (omega arith, (omega arith, tt))

too-large-field : PlaceGood 65 (p.field (p.local 1) 4294967296 t.bool) → ⊥
too-large-field h = let size : 4294967296 ≤ 4294967295 = h.1.0 in omega arith

-- ---- what no symbols are

first_is : {A : Type 0} {x y : A} {xs ys : List A} → x ∷ xs ≡ y ∷ ys → x ≡ y
first_is e = cc

rest_is : {A : Type 0} {x y : A} {xs ys : List A} → x ∷ xs ≡ y ∷ ys → xs ≡ ys
rest_is e = cc

no-more : {A : Type 0} {x : A} {xs : List A} → [] ≡ x ∷ xs → ⊥
no-more e = absurd cc

no-last : {A : Type 0} (xs : List A) (x : A) (ys : List A) → [] ≡ xs ++ x ∷ ys → ⊥
no-last [] x ys e = absurd cc
no-last (y ∷ xs) x ys e = absurd cc

none-refused : NoneRefused []
none-refused before x after code e breaks = no-last before x after e

-- ---- S01, S02, S03

apart : (q : ℕ → Bool) (a b : ℕ) → q a ≡ false → q b ≡ true → a ≡ b → ⊥
apart q a b isnt is e = absurd cc

other-byte : (q : ℕ → Bool) (b : ℕ) → q 64 ≡ false → 64 ≡ b → q b ≡ true → ⊥
other-byte q b isnt e is = apart q 64 b isnt is e

not-64 : (b : ℕ) {xs ys : List ℕ} → (64 == b) ≡ false → (b == b) ≡ true → 64 ∷ xs ≡ b ∷ ys → ⊥
not-64 b isnt is e = apart (λ z. z == b) 64 b isnt is (first_is e)

no-mark : (m : Mark) (rest : List ℕ) → 64 ∷ [] ≡ mark_text m ++ rest → ⊥
no-mark open_paren rest e = not-64 40 refl refl e
no-mark close_paren rest e = not-64 41 refl refl e
no-mark open_brace rest e = not-64 123 refl refl e
no-mark close_brace rest e = not-64 125 refl refl e
no-mark open_bracket rest e = not-64 91 refl refl e
no-mark close_bracket rest e = not-64 93 refl refl e
no-mark comma rest e = not-64 44 refl refl e
no-mark semicolon rest e = not-64 59 refl refl e
no-mark colon rest e = not-64 58 refl refl e
no-mark colons rest e = not-64 58 refl refl e
no-mark dot rest e = not-64 46 refl refl e
no-mark ampersand rest e = not-64 38 refl refl e
no-mark star rest e = not-64 42 refl refl e
no-mark exclamation rest e = not-64 33 refl refl e
no-mark equals rest e = not-64 61 refl refl e
no-mark hash rest e = not-64 35 refl refl e
no-mark minus rest e = not-64 45 refl refl e
no-mark arrow rest e = not-64 45 refl refl e
no-mark fat_arrow rest e = not-64 61 refl refl e
no-mark less rest e = not-64 60 refl refl e
no-mark greater rest e = not-64 62 refl refl e
no-mark bar rest e = not-64 124 refl refl e
no-mark question rest e = not-64 63 refl refl e

no-piece : (q : Piece) (rest : List ℕ) → IsPiece q → Ends q rest → 64 ∷ [] ≡ spelled q ++ rest → ⊥
no-piece (blank b) rest h ends e = other-byte is_blank b refl (first_is e) h
no-piece line rest h ends e = not-64 10 refl refl e
no-piece (comment bs) rest h ends e = not-64 47 refl refl e
no-piece (local d ds) rest h ends e = not-64 95 refl refl e
no-piece (number d ds) rest h ends e = other-byte is_ascii_digit d refl (first_is e) h.0.0
no-piece (typed d ds u) rest h ends e = other-byte is_ascii_digit d refl (first_is e) h.0.0
no-piece (text bs) rest h ends e = not-64 34 refl refl e
no-piece (word b bs) rest h ends e = other-byte is_ascii_alphabetic b refl (first_is e) h.0
no-piece (under b bs) rest h ends e = not-64 95 refl refl e
no-piece (mark m) rest h ends e = no-mark m rest e

-- S01: `@` begins no token
no-token : IsReadFault (codes "@") 1 1
no-token = inr (inl (record {
  pieces = [];
  left = codes "@";
  cut = record { whole = refl; stand = tt };
  first = none-refused;
  fault = inl (refl, record { byte = 64; past = []; front = refl; no_digit = refl; no_quote = apart (λ z. z == 34) 64 34 refl refl; no_piece = no-piece });
  on_line = refl;
}))

-- S02: 2^128
large-number : IsReadFault (codes "340282366920938463463374607431768211456") 2 1
large-number = inr (inl (record {
  pieces = [];
  left = codes "340282366920938463463374607431768211456";
  cut = record { whole = refl; stand = tt };
  first = none-refused;
  fault = inr (inl (
    refl,
    record {
      digit = 51;
      digits = codes "40282366920938463463374607431768211456";
      rest = [];
      front = refl;
      are_digits = from_some (if_all is_ascii_digit (codes "340282366920938463463374607431768211456")) refl;
      whole = refl;
      large = ltb-false (digits_value 10 (codes "340282366920938463463374607431768211456")) (2 ^ 128) refl;
    },
  ));
  on_line = refl;
}))

never-closed : (content rest : List ℕ) → IsContent false content → codes "a" ≡ content ++ 34 ∷ rest → ⊥
never-closed [] rest h e = apart (λ z. z == 34) 97 34 refl refl (first_is e)
never-closed (a ∷ []) rest h e = no-more (rest_is e)
never-closed (a ∷ b ∷ bs) rest h e = no-more (rest_is e)

-- S03: the string isn't closed
open-string : IsReadFault (codes "\"a") 3 1
open-string = inr (inl (record {
  pieces = [];
  left = codes "\"a";
  cut = record { whole = refl; stand = tt };
  first = none-refused;
  fault = inr (inr (refl, record { past = codes "a"; front = refl; open_ended = never-closed }));
  on_line = refl;
}))

-- ---- with what a file begins

abbrev begins_item : Symbol → Bool
begins_item s.Struct = true
begins_item s.Enum = true
begins_item s.Extern = true
begins_item s.Hash = true
begins_item s.Drop = true
begins_item s.Fn = true
begins_item x = false

starts : {x y : Symbol} {xs ys : List Symbol} → begins_item x ≡ true → x ∷ xs ≡ y ∷ ys → begins_item y ≡ true
starts h e = subst (λ z. begins_item z ≡ true) (first_is e) h

fn-first : (a : AttrRule) (d : Bool) (rest : List Symbol) {x : Symbol} {more : List Symbol} → attr_put a (drop_put d (s.Fn ∷ rest)) ≡ x ∷ more → begins_item x ≡ true
fn-first n.none true rest e = starts refl e
fn-first n.none false rest e = starts refl e
fn-first n.hint d rest e = starts refl e
fn-first n.always d rest e = starts refl e
fn-first n.never d rest e = starts refl e

file-first : (file : FileRule) {x : Symbol} {more : List Symbol} → file_put file [] ≡ x ∷ more → begins_item x ≡ true
file-first [] e = absurd cc
file-first (n.struct path fs ∷ items) e = starts refl e
file-first (n.enum path vs ∷ items) e = starts refl e
file-first (n.extern path us u ∷ items) e = starts refl e
file-first (n.function f ∷ items) e = fn-first f.attr f.is_drop _ e

not-viable : {x : Symbol} → begins_item x ≡ false → Viable (x ∷ []) → ⊥
not-viable isnt v = let is = file-first v.file v.derives in absurd cc

-- ---- S04, S07, S05

name-stops : GoesOn [] (s.Name 8) → ⊥
name-stops (inl v) = not-viable refl v
name-stops (inr (y, stands, v)) = stands

below-four : (k : ℕ) → k < 4 → Breaks [] (s.Name 8) k → ⊥
below-four k small (inl (e, h)) = omega arith
below-four k small (inr (inl (e, h))) = omega arith
below-four k small (inr (inr (inl (e, h)))) = omega arith
below-four k small (inr (inr (inr (inl (e, h))))) = omega arith
below-four k small (inr (inr (inr (inr (e, h))))) = omega arith

-- S04: no file begins with a name
a-name : IsReadFault (codes "x") 4 1
unfolding word_token block_digits word_place
a-name = inl (record {
  pieces = word 120 [] ∷ [];
  left = [];
  cut = record { whole = refl; stand = ((refl, tt), refl, tt) };
  before = [];
  at = (s.Name 8, 1);
  after = [];
  symbols = refl;
  first = none-refused;
  refused = (inl (refl, (λ e. absurd cc, name-stops)), below-four);
  on_line = inl (refl, refl);
})

no-debug : InDebug [] → ⊥
no-debug v = not-viable refl v

below-seven : (k : ℕ) → k < 7 → Breaks [] s.LeftOut k → ⊥
below-seven k small (inl (e, h)) = h.0 refl
below-seven k small (inr (inl (e, h))) = h.opens
below-seven k small (inr (inr (inl (e, h)))) = omega arith
below-seven k small (inr (inr (inr (inl (e, h))))) = omega arith
below-seven k small (inr (inr (inr (inr (e, h))))) = omega arith

-- an item begins in place of the word
an-item : Reading [] s.LeftOut
an-item = record {
  other = s.Struct;
  read_as = inr (inr refl);
  file = n.struct (t.name 8) n.plain ∷ [];
  more = s.Name 8 ∷ s.Semicolon ∷ [];
  derives = refl;
}

-- S07: `static` is left out
a-static : IsReadFault (codes "\nstatic") 7 2
unfolding word_token block_digits word_place an-item
a-static = inl (record {
  pieces = line ∷ word 115 (codes "tatic") ∷ [];
  left = [];
  cut = record { whole = refl; stand = (tt, tt, ((refl, (refl, (refl, (refl, (refl, (refl, tt)))))), refl, tt)) };
  before = [];
  at = (s.LeftOut, 2);
  after = [];
  symbols = refl;
  first = none-refused;
  refused = (inr (inr (inl (refl, (refl, no-debug)))), below-seven);
  on_line = inr (λ e. apart (λ z. z == 4) 7 4 refl refl e, inl ((an-item, refl), refl));
})

struct-goes-on : Viable (s.Struct ∷ [])
struct-goes-on = record { file = n.struct (t.name 8) n.plain ∷ []; more = s.Name 8 ∷ s.Semicolon ∷ []; derives = refl }

struct-stands : (code : ℕ) → Breaks [] s.Struct code → ⊥
struct-stands code (inl (e, h)) = h.1 (inl struct-goes-on)
struct-stands code (inr (inl (e, h))) = h.opens
struct-stands code (inr (inr (inl (e, h)))) = absurd (let no : s.Struct ≡ s.LeftOut = h.0 in cc)
struct-stands code (inr (inr (inr (inl (e, h))))) = h.1
struct-stands code (inr (inr (inr (inr (e, h))))) = h

struct-not-refused : NoneRefused (s.Struct ∷ [])
struct-not-refused [] x after code e breaks = struct-stands code (subst (λ z. Breaks [] z code) (sym (first_is e)) breaks)
struct-not-refused (y ∷ before) x after code e breaks = no-last before x after cc

no-fn-file : (a : AttrRule) (d : Bool) (rest : List Symbol) → s.Struct ∷ [] ≡ attr_put a (drop_put d (s.Fn ∷ rest)) → ⊥
no-fn-file n.none true rest e = absurd cc
no-fn-file n.none false rest e = absurd cc
no-fn-file n.hint d rest e = absurd cc
no-fn-file n.always d rest e = absurd cc
no-fn-file n.never d rest e = absurd cc

no-path : (path : PathRule) (rest : List Symbol) → s.Struct ∷ [] ≡ s.Struct ∷ path_put path rest → ⊥
no-path (t.name k) rest e = absurd cc
no-path (t.name_in k path) rest e = absurd cc

no-struct-file : (file : FileRule) → s.Struct ∷ [] ≡ file_put file [] → ⊥
no-struct-file [] e = absurd cc
no-struct-file (n.struct path fs ∷ items) e = no-path path _ e
no-struct-file (n.enum path vs ∷ items) e = absurd cc
no-struct-file (n.extern path us u ∷ items) e = absurd cc
no-struct-file (n.function f ∷ items) e = no-fn-file f.attr f.is_drop _ e

-- S05: the text ends inside an item, on the line of its end
ends-inside : IsReadFault (codes "struct\n\n") 5 3
unfolding word_token block_digits word_place
ends-inside = inr (inr (inl (record {
  pieces = word 115 (codes "truct") ∷ line ∷ line ∷ [];
  cut = record { whole = refl; stand = ((refl, (refl, (refl, (refl, (refl, (refl, tt)))))), refl, (tt, tt, (tt, tt, tt))) };
  first = struct-not-refused;
  no_file = no-struct-file;
  code_is = refl;
  on_line = refl;
})))
