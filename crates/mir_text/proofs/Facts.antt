-- Small texts, computed.
use Rattle.std.specs.Prelude.{◌≡◌, refl, List, [], ◌∷◌, codes}
use Rattle.mir_syntax.specs.declared.types.IntTy.TheVariants as i
use Rattle.mir_text.specs.declared.symbol.Symbol.TheVariants as s
use Rattle.mir_text.specs.Pieces.{Piece, blank, line, local, typed, mark, equals, semicolon, text_of}
use Rattle.mir_text.specs.Symbols.{lined_symbols, word_token, block_digits, symbol, name}
use Rattle.mir_text.specs.Words.{word_place}
use Rattle.mir_syntax.specs.declared.body.BinOp.TheVariants as bin

-- `_1 = 5_u8;`
abbrev assignment : List Piece
assignment = local 49 [] ∷ blank 32 ∷ mark equals ∷ blank 32 ∷ typed 53 [] i.U8 ∷ mark semicolon ∷ line ∷ local 50 [] ∷ []

assignment-text : text_of assignment ≡ codes "_1 = 5_u8;\n_2"
assignment-text = refl

assignment-symbols : lined_symbols assignment ≡ (s.Local 1, 1) ∷ (s.Equals, 1) ∷ (s.Typed i.U8 5, 1) ∷ (s.Semicolon, 1) ∷ (s.Local 2, 2) ∷ []
assignment-symbols = refl

-- ---- blocks, reserved words and names

a-large-block : word_token (codes "bb4294967296") ≡ symbol s.LargeBlock
unfolding word_token block_digits
a-large-block = refl

the-last-block : word_token (codes "bb4294967295") ≡ symbol (s.Block 4294967295)
unfolding word_token block_digits
the-last-block = refl

no-block : word_token (codes "bb0x") ≡ name (codes "bb0x")
unfolding word_token block_digits word_place
no-block = refl

a-reserved-word : word_token (codes "MulUnchecked") ≡ symbol (s.Binary bin.MulUnchecked)
unfolding word_token block_digits word_place
a-reserved-word = refl

a-left-out-word : word_token (codes "ShlUnchecked") ≡ symbol s.LeftOut
unfolding word_token block_digits word_place
a-left-out-word = refl
