-- Constants and operands: the rule that writes one, its text, and back.
use Rattle.mir_round_trip.specs.Bodies.{IsConst, IsOperand, names_at}
use Rattle.std.proofs.Common.{◌≡◌, ◌<◌, ◌≤◌, ◌+◌, ◌-◌, ◌^◌, ℕ, Bool, true, false, not, ◌&&◌, ◌==◌, nat_lt, List, [], codes, refl, ap, ◌∙◌, arith, if◌then◌else◌, lit<, lit≤}
use Rattle.std.proofs.lemmas.Bool.Decides.{nat_tests}
use Rattle.mir_syntax.specs.declared.types.IntTy.{IntTy}
use Rattle.mir_syntax.specs.declared.types.IntTy.TheVariants as i
use Rattle.mir_syntax.specs.declared.body.Const.{Const}
use Rattle.mir_syntax.specs.declared.body.Const.TheVariants as const
use Rattle.mir_syntax.specs.declared.body.Operand.{Operand}
use Rattle.mir_syntax.specs.declared.body.Operand.TheVariants as operand
use Rattle.mir_syntax.specs.Tree.{Tree}
use Rattle.mir_syntax.specs.Crate.{Crate}
use Rattle.mir_text.specs.declared.symbol.Symbol.TheVariants as s
use Rattle.mir_text.specs.Words.{word_place}
use Rattle.mir_text.specs.Numbers.{is_signed, half, count, is_negative, size_of, limit, fits, bits_of}
use Rattle.mir_text.specs.Symbols.{word_token, block_digits}
use Rattle.mir_text.specs.GrammarPlaces as p
use Rattle.mir_text.specs.GrammarPlaces.{ValueRule, truth, value_put, OperandRule, operand_put}
use Rattle.mir_text.specs.Names.{Strings}
use Rattle.mir_text.specs.NamedBodies.{Declared, value_named, operand_named}
use Rattle.mir_text.specs.NameFaults.{operand_codes}
use Rattle.mir_text.specs.Nesting.{ValueFits, OperandGood}
use Rattle.mir_text.specs.TypeText.{piece, const_text}
use Rattle.mir_text.specs.PlaceText.{operand_text}
use Rattle.mir_round_trip.proofs.Spelling.{Spelt, after, alone}
use Rattle.mir_round_trip.proofs.Atoms.{word_spelt, typed_spelt}
use Rattle.mir_round_trip.proofs.Literals.{const_word, const_unit, copy_word, move_word}
use Rattle.mir_round_trip.proofs.Places.{place_rule, place_spelt}
use Rattle.mir_round_trip.proofs.PlacesBack.{Setting, place_back, place_faultless, place_good}

-- ---- the numbers of a type

-- half of a type's numbers, twice, are all; they are at most 2^128
pub halves : (t : IntTy) → (count t ≡ half t + half t) × (count t ≤ 2 ^ 128) × (0 < half t)
halves i.I8 = (refl, lit≤ tt, lit< tt)
halves i.I16 = (refl, lit≤ tt, lit< tt)
halves i.I32 = (refl, lit≤ tt, lit< tt)
halves i.I64 = (refl, lit≤ tt, lit< tt)
halves i.I128 = (refl, lit≤ tt, lit< tt)
halves i.Isize = (refl, lit≤ tt, lit< tt)
halves i.U8 = (refl, lit≤ tt, lit< tt)
halves i.U16 = (refl, lit≤ tt, lit< tt)
halves i.U32 = (refl, lit≤ tt, lit< tt)
halves i.U64 = (refl, lit≤ tt, lit< tt)
halves i.U128 = (refl, lit≤ tt, lit< tt)
halves i.Usize = (refl, lit≤ tt, lit< tt)

-- the sign and the size of bits, for a type with a sign or without
abbrev negative-by : Bool → ℕ → ℕ → Bool
negative-by signed h n = signed && not (nat_lt n h)

abbrev size-by : Bool → ℕ → ℕ → ℕ
size-by negative c n = if negative then c - n else n

abbrev limit-by : Bool → Bool → ℕ → ℕ → ℕ
limit-by true signed h c = if signed then h else 0
limit-by false signed h c = if signed then h - 1 else c - 1

abbrev bits-by : Bool → ℕ → ℕ → ℕ
bits-by true n c = if n == 0 then 0 else c - n
bits-by false n c = n

-- such a number is in the type, and has these bits
record Kept-number (signed negative : Bool) (h c n size : ℕ) : Type 0 where
  pub fits : nat_lt (limit-by negative signed h c) size ≡ false
  pub bits : bits-by negative size c ≡ n
  pub below : size < c

not-below : (a b : ℕ) → b ≤ a → nat_lt a b ≡ false
not-below a b h = grind (arith, nat_tests)

number-by : (signed : Bool) (h c n : ℕ) (b : Bool) → nat_lt n h ≡ b → c ≡ h + h → 0 < h → n < c
    → Kept-number signed (negative-by signed h n) h c n (size-by (negative-by signed h n) c n)
number-by false h c n b e twice some below = record { fits = not-below (c - 1) n (omega arith); bits = refl; below = omega arith }
number-by true h c n true e twice some below =
    let less : n < h = grind (arith, nat_tests) in
    rw e (record { fits = not-below (h - 1) n (omega arith); bits = refl; below = omega arith })
number-by true h c n false e twice some below =
    let more : h ≤ n = grind (arith, nat_tests) in
    let some-left : ((c - n) == 0) ≡ false = grind (arith, nat_tests) in
    let back : c - (c - n) ≡ n = omega arith in
    let bits : bits-by true (c - n) c ≡ n = rw some-left back in
    rw e (record { fits = not-below h (c - n) (omega arith); bits = bits; below = omega arith })

number-kept : (t : IntTy) (n : ℕ) → n < count t → Kept-number (is_signed t) (negative-by (is_signed t) (half t) n) (half t) (count t) n (size-by (negative-by (is_signed t) (half t) n) (count t) n)
number-kept t n h = let is = halves t in number-by (is_signed t) (half t) (count t) n (nat_lt n (half t)) refl is.0 is.2 h

limit-same : (negative : Bool) (t : IntTy) → limit negative t ≡ limit-by negative (is_signed t) (half t) (count t)
limit-same true t = refl
limit-same false t = refl

bits-same : (negative : Bool) (n : ℕ) (t : IntTy) → bits_of negative n t ≡ bits-by negative n (count t)
bits-same true n t = refl
bits-same false n t = refl

number-fits : (t : IntTy) (n : ℕ) → n < count t → fits (is_negative t n) (size_of t n) t ≡ true
unfolding is_negative size_of
number-fits t n h = let k = number-kept t n h in
    ap (λ m. not (nat_lt m (size_of t n))) (limit-same (is_negative t n) t) ∙ ap not k.fits

number-back : (t : IntTy) (n : ℕ) → n < count t → bits_of (is_negative t n) (size_of t n) t ≡ n
unfolding is_negative size_of
number-back t n h = let k = number-kept t n h in bits-same (is_negative t n) (size_of t n) t ∙ k.bits

-- ---- constants

abbrev pub value_rule : Const → ValueRule
value_rule (const.Int t n) = p.number (is_negative t n) (size_of t n) t
value_rule (const.Bool x) = p.boolean x
value_rule const.Unit = p.unit

-- the size of a number whose size isn't above that of its type
size-small : (t : IntTy) (n : ℕ) → n < count t → size_of t n < 2 ^ 128
unfolding is_negative size_of
size-small t n h = let k = number-kept t n h in let is = halves t in let below = k.below in omega arith

const-spelt : (x : Const) → IsConst x → Spelt (const_text x) (λ strings. operand_put (p.const (value_rule x))) []
unfolding const_text piece word_token block_digits word_place
const-spelt (const.Int t n) h = after const_word (typed_spelt (is_negative t n) (size_of t n) t (size-small t n h))
const-spelt (const.Bool true) h = after const_word (word_spelt 116 (codes "rue") s.True refl refl refl)
const-spelt (const.Bool false) h = after const_word (word_spelt 102 (codes "alse") s.False refl refl refl)
const-spelt const.Unit h = alone const_unit

const-back : (x : Const) → IsConst x → value_named (value_rule x) ≡ x
const-back (const.Int t n) h = ap (const.Int t) (number-back t n h)
const-back (const.Bool x) h = refl
const-back const.Unit h = refl

const-fits : (x : Const) → IsConst x → ValueFits (value_rule x)
const-fits (const.Int t n) h = number-fits t n h
const-fits (const.Bool x) h = tt
const-fits const.Unit h = tt

-- ---- operands

unfoldable pub operand_rule : Crate → Strings → List Tree → Operand → OperandRule
operand_rule c strings locals (operand.Copy q) = p.copy (place_rule c strings locals q)
operand_rule c strings locals (operand.Move q) = p.move (place_rule c strings locals q)
operand_rule c strings locals (operand.Const x) = p.const (value_rule x)

pub operand_spelt : (c : Crate) (locals : List Tree) (x : Operand) → IsOperand c locals x → Spelt (operand_text c locals x) (λ strings. operand_put (operand_rule c strings locals x)) []
unfolding operand_text operand_rule IsOperand piece
operand_spelt c locals (operand.Copy q) h = after copy_word (place_spelt c locals q h)
operand_spelt c locals (operand.Move q) h = after move_word (place_spelt c locals q h)
operand_spelt c locals (operand.Const x) h = const-spelt x h

pub operand_back : (c : Crate) (strings : Strings) (L : Declared) (locals : List Tree) → Setting c strings L locals → (x : Operand) → IsOperand c locals x
    → operand_named (names_at c strings) L (operand_rule c strings locals x) ≡ x
unfolding operand_rule IsOperand
operand_back c strings L locals set (operand.Copy q) h = ap operand.Copy (place_back c strings L locals set q h)
operand_back c strings L locals set (operand.Move q) h = ap operand.Move (place_back c strings L locals set q h)
operand_back c strings L locals set (operand.Const x) h = ap operand.Const (const-back x h)

pub operand_faultless : (c : Crate) (strings : Strings) (L : Declared) (locals : List Tree) → Setting c strings L locals → (x : Operand) → IsOperand c locals x
    → operand_codes (names_at c strings) L (operand_rule c strings locals x) ≡ []
unfolding operand_rule IsOperand
operand_faultless c strings L locals set (operand.Copy q) h = place_faultless c strings L locals set q h
operand_faultless c strings L locals set (operand.Move q) h = place_faultless c strings L locals set q h
operand_faultless c strings L locals set (operand.Const x) h = refl

pub operand_good : (c : Crate) (strings : Strings) (locals : List Tree) (x : Operand) → IsOperand c locals x → OperandGood (operand_rule c strings locals x)
unfolding operand_rule IsOperand
operand_good c strings locals (operand.Copy q) h = place_good c strings locals q h
operand_good c strings locals (operand.Move q) h = place_good c strings locals q h
operand_good c strings locals (operand.Const x) h = const-fits x h
