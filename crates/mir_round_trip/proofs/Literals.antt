-- The texts of canonical text that stand for themselves: those that end with a sign, a space or a line feed.
use Rattle.std.proofs.Common.{ℕ, List, [], ◌∷◌, codes, refl, ap, ◌∙◌}
use Rattle.mir_text.specs.declared.symbol.Symbol.{Symbol}
use Rattle.mir_text.specs.declared.symbol.Symbol.TheVariants as s
use Rattle.mir_text.specs.Words.{word_place}
use Rattle.mir_text.specs.Pieces.{open_paren, close_paren, open_brace, close_brace, open_bracket, close_bracket, comma, semicolon, colon, colons, dot, ampersand, star, exclamation, equals, hash, arrow, Piece, blank, line, word, mark, text_of, Stand}
use Rattle.mir_text.specs.Symbols.{word_token, block_digits, number_in, int_to_int_name, success_name, inline_name, always_name, never_name}
use Rattle.mir_text.proofs.Cut.{stands}
use Rattle.mir_round_trip.specs.Known.{known_symbols}
use Rattle.mir_round_trip.proofs.Spelling.{KnownAs, Sign}

-- pieces whose symbols and neighbours are computed
sign : (ps : List Piece) (f : List Symbol → List Symbol) → ((left : List ℕ) → Stand ps left) → KnownAs ps (λ strings. f) → Sign (text_of ps) f
sign ps f stands known = record { pieces = ps; whole = refl; stands = stands; known = known }

pub open_sign : Sign (codes "(") (λ rest. s.Open ∷ rest)
open_sign = sign (mark open_paren ∷ []) (λ rest. s.Open ∷ rest) (λ left. stands (mark open_paren ∷ []) left refl) (λ strings ground rest. refl)

pub close_sign : Sign (codes ")") (λ rest. s.Close ∷ rest)
close_sign = sign (mark close_paren ∷ []) (λ rest. s.Close ∷ rest) (λ left. stands (mark close_paren ∷ []) left refl) (λ strings ground rest. refl)

pub unit : Sign (codes "()") (λ rest. s.Open ∷ s.Close ∷ rest)
unit = sign (mark open_paren ∷ mark close_paren ∷ []) (λ rest. s.Open ∷ s.Close ∷ rest) (λ left. stands (mark open_paren ∷ mark close_paren ∷ []) left refl) (λ strings ground rest. refl)

pub ampersand_sign : Sign (codes "&") (λ rest. s.Ampersand ∷ rest)
ampersand_sign = sign (mark ampersand ∷ []) (λ rest. s.Ampersand ∷ rest) (λ left. stands (mark ampersand ∷ []) left refl) (λ strings ground rest. refl)

pub ampersand_mut : Sign (codes "&mut ") (λ rest. s.Ampersand ∷ s.Mut ∷ rest)
unfolding word_token block_digits word_place
ampersand_mut = sign (mark ampersand ∷ word 109 (codes "ut") ∷ blank 32 ∷ []) (λ rest. s.Ampersand ∷ s.Mut ∷ rest) (λ left. stands (mark ampersand ∷ word 109 (codes "ut") ∷ blank 32 ∷ []) left refl) (λ strings ground rest. refl)

pub comma_space : Sign (codes ", ") (λ rest. s.Comma ∷ rest)
comma_space = sign (mark comma ∷ blank 32 ∷ []) (λ rest. s.Comma ∷ rest) (λ left. stands (mark comma ∷ blank 32 ∷ []) left refl) (λ strings ground rest. refl)

pub comma_close : Sign (codes ",)") (λ rest. s.Comma ∷ s.Close ∷ rest)
comma_close = sign (mark comma ∷ mark close_paren ∷ []) (λ rest. s.Comma ∷ s.Close ∷ rest) (λ left. stands (mark comma ∷ mark close_paren ∷ []) left refl) (λ strings ground rest. refl)

pub open_star : Sign (codes "(*") (λ rest. s.Open ∷ s.Star ∷ rest)
open_star = sign (mark open_paren ∷ mark star ∷ []) (λ rest. s.Open ∷ s.Star ∷ rest) (λ left. stands (mark open_paren ∷ mark star ∷ []) left refl) (λ strings ground rest. refl)

pub as_word : Sign (codes " as ") (λ rest. s.As ∷ rest)
unfolding word_token block_digits word_place
as_word = sign (blank 32 ∷ word 97 (codes "s") ∷ blank 32 ∷ []) (λ rest. s.As ∷ rest) (λ left. stands (blank 32 ∷ word 97 (codes "s") ∷ blank 32 ∷ []) left refl) (λ strings ground rest. refl)

pub dot_sign : Sign (codes ".") (λ rest. s.Dot ∷ rest)
dot_sign = sign (mark dot ∷ []) (λ rest. s.Dot ∷ rest) (λ left. stands (mark dot ∷ []) left refl) (λ strings ground rest. refl)

pub colon_space : Sign (codes ": ") (λ rest. s.Colon ∷ rest)
colon_space = sign (mark colon ∷ blank 32 ∷ []) (λ rest. s.Colon ∷ rest) (λ left. stands (mark colon ∷ blank 32 ∷ []) left refl) (λ strings ground rest. refl)

pub copy_word : Sign (codes "copy ") (λ rest. s.Copy ∷ rest)
unfolding word_token block_digits word_place
copy_word = sign (word 99 (codes "opy") ∷ blank 32 ∷ []) (λ rest. s.Copy ∷ rest) (λ left. stands (word 99 (codes "opy") ∷ blank 32 ∷ []) left refl) (λ strings ground rest. refl)

pub move_word : Sign (codes "move ") (λ rest. s.Move ∷ rest)
unfolding word_token block_digits word_place
move_word = sign (word 109 (codes "ove") ∷ blank 32 ∷ []) (λ rest. s.Move ∷ rest) (λ left. stands (word 109 (codes "ove") ∷ blank 32 ∷ []) left refl) (λ strings ground rest. refl)

pub const_word : Sign (codes "const ") (λ rest. s.Const ∷ rest)
unfolding word_token block_digits word_place
const_word = sign (word 99 (codes "onst") ∷ blank 32 ∷ []) (λ rest. s.Const ∷ rest) (λ left. stands (word 99 (codes "onst") ∷ blank 32 ∷ []) left refl) (λ strings ground rest. refl)

pub const_unit : Sign (codes "const ()") (λ rest. s.Const ∷ s.Open ∷ s.Close ∷ rest)
unfolding word_token block_digits word_place
const_unit = sign (word 99 (codes "onst") ∷ blank 32 ∷ mark open_paren ∷ mark close_paren ∷ []) (λ rest. s.Const ∷ s.Open ∷ s.Close ∷ rest) (λ left. stands (word 99 (codes "onst") ∷ blank 32 ∷ mark open_paren ∷ mark close_paren ∷ []) left refl) (λ strings ground rest. refl)

pub colons_sign : Sign (codes "::") (λ rest. s.Colons ∷ rest)
colons_sign = sign (mark colons ∷ []) (λ rest. s.Colons ∷ rest) (λ left. stands (mark colons ∷ []) left refl) (λ strings ground rest. refl)

pub brace : Sign (codes " { ") (λ rest. s.OpenBrace ∷ rest)
brace = sign (blank 32 ∷ mark open_brace ∷ blank 32 ∷ []) (λ rest. s.OpenBrace ∷ rest) (λ left. stands (blank 32 ∷ mark open_brace ∷ blank 32 ∷ []) left refl) (λ strings ground rest. refl)

pub close_brace_space : Sign (codes " }") (λ rest. s.CloseBrace ∷ rest)
close_brace_space = sign (blank 32 ∷ mark close_brace ∷ []) (λ rest. s.CloseBrace ∷ rest) (λ left. stands (blank 32 ∷ mark close_brace ∷ []) left refl) (λ strings ground rest. refl)

pub braces : Sign (codes " {}") (λ rest. s.OpenBrace ∷ s.CloseBrace ∷ rest)
braces = sign (blank 32 ∷ mark open_brace ∷ mark close_brace ∷ []) (λ rest. s.OpenBrace ∷ s.CloseBrace ∷ rest) (λ left. stands (blank 32 ∷ mark open_brace ∷ mark close_brace ∷ []) left refl) (λ strings ground rest. refl)

pub discriminant_open : Sign (codes "discriminant(") (λ rest. s.Discriminant ∷ s.Open ∷ rest)
unfolding word_token block_digits word_place
discriminant_open = sign (word 100 (codes "iscriminant") ∷ mark open_paren ∷ []) (λ rest. s.Discriminant ∷ s.Open ∷ rest) (λ left. stands (word 100 (codes "iscriminant") ∷ mark open_paren ∷ []) left refl) (λ strings ground rest. refl)

pub equals_sign : Sign (codes " = ") (λ rest. s.Equals ∷ rest)
equals_sign = sign (blank 32 ∷ mark equals ∷ blank 32 ∷ []) (λ rest. s.Equals ∷ rest) (λ left. stands (blank 32 ∷ mark equals ∷ blank 32 ∷ []) left refl) (λ strings ground rest. refl)

pub live_open : Sign (codes "StorageLive(") (λ rest. s.StorageLive ∷ s.Open ∷ rest)
unfolding word_token block_digits word_place
live_open = sign (word 83 (codes "torageLive") ∷ mark open_paren ∷ []) (λ rest. s.StorageLive ∷ s.Open ∷ rest) (λ left. stands (word 83 (codes "torageLive") ∷ mark open_paren ∷ []) left refl) (λ strings ground rest. refl)

pub dead_open : Sign (codes "StorageDead(") (λ rest. s.StorageDead ∷ s.Open ∷ rest)
unfolding word_token block_digits word_place
dead_open = sign (word 83 (codes "torageDead") ∷ mark open_paren ∷ []) (λ rest. s.StorageDead ∷ s.Open ∷ rest) (λ left. stands (word 83 (codes "torageDead") ∷ mark open_paren ∷ []) left refl) (λ strings ground rest. refl)

pub close_equals : Sign (codes ") = ") (λ rest. s.Close ∷ s.Equals ∷ rest)
close_equals = sign (mark close_paren ∷ blank 32 ∷ mark equals ∷ blank 32 ∷ []) (λ rest. s.Close ∷ s.Equals ∷ rest) (λ left. stands (mark close_paren ∷ blank 32 ∷ mark equals ∷ blank 32 ∷ []) left refl) (λ strings ground rest. refl)

pub eight_spaces : Sign (codes "        ") (λ rest. rest)
eight_spaces = sign (blank 32 ∷ blank 32 ∷ blank 32 ∷ blank 32 ∷ blank 32 ∷ blank 32 ∷ blank 32 ∷ blank 32 ∷ []) (λ rest. rest) (λ left. stands (blank 32 ∷ blank 32 ∷ blank 32 ∷ blank 32 ∷ blank 32 ∷ blank 32 ∷ blank 32 ∷ blank 32 ∷ []) left refl) (λ strings ground rest. refl)

pub end_of_line : Sign (codes ";\n") (λ rest. s.Semicolon ∷ rest)
end_of_line = sign (mark semicolon ∷ line ∷ []) (λ rest. s.Semicolon ∷ rest) (λ left. stands (mark semicolon ∷ line ∷ []) left refl) (λ strings ground rest. refl)

pub return_arrow : Sign (codes " -> [return: ") (λ rest. s.Arrow ∷ s.OpenBracket ∷ s.Return ∷ s.Colon ∷ rest)
unfolding word_token block_digits word_place
return_arrow = sign (blank 32 ∷ mark arrow ∷ blank 32 ∷ mark open_bracket ∷ word 114 (codes "eturn") ∷ mark colon ∷ blank 32 ∷ []) (λ rest. s.Arrow ∷ s.OpenBracket ∷ s.Return ∷ s.Colon ∷ rest) (λ left. stands (blank 32 ∷ mark arrow ∷ blank 32 ∷ mark open_bracket ∷ word 114 (codes "eturn") ∷ mark colon ∷ blank 32 ∷ []) left refl) (λ strings ground rest. refl)

pub unwind_end : Sign (codes ", unwind unreachable]") (λ rest. s.Comma ∷ s.Unwind ∷ s.Unreachable ∷ s.CloseBracket ∷ rest)
unfolding word_token block_digits word_place
unwind_end = sign (mark comma ∷ blank 32 ∷ word 117 (codes "nwind") ∷ blank 32 ∷ word 117 (codes "nreachable") ∷ mark close_bracket ∷ []) (λ rest. s.Comma ∷ s.Unwind ∷ s.Unreachable ∷ s.CloseBracket ∷ rest) (λ left. stands (mark comma ∷ blank 32 ∷ word 117 (codes "nwind") ∷ blank 32 ∷ word 117 (codes "nreachable") ∷ mark close_bracket ∷ []) left refl) (λ strings ground rest. refl)

pub goto_arrow : Sign (codes "goto -> ") (λ rest. s.Goto ∷ s.Arrow ∷ rest)
unfolding word_token block_digits word_place
goto_arrow = sign (word 103 (codes "oto") ∷ blank 32 ∷ mark arrow ∷ blank 32 ∷ []) (λ rest. s.Goto ∷ s.Arrow ∷ rest) (λ left. stands (word 103 (codes "oto") ∷ blank 32 ∷ mark arrow ∷ blank 32 ∷ []) left refl) (λ strings ground rest. refl)

pub switch_open : Sign (codes "switchInt(") (λ rest. s.SwitchInt ∷ s.Open ∷ rest)
unfolding word_token block_digits word_place
switch_open = sign (word 115 (codes "witchInt") ∷ mark open_paren ∷ []) (λ rest. s.SwitchInt ∷ s.Open ∷ rest) (λ left. stands (word 115 (codes "witchInt") ∷ mark open_paren ∷ []) left refl) (λ strings ground rest. refl)

pub close_arrow : Sign (codes ") -> [") (λ rest. s.Close ∷ s.Arrow ∷ s.OpenBracket ∷ rest)
close_arrow = sign (mark close_paren ∷ blank 32 ∷ mark arrow ∷ blank 32 ∷ mark open_bracket ∷ []) (λ rest. s.Close ∷ s.Arrow ∷ s.OpenBracket ∷ rest) (λ left. stands (mark close_paren ∷ blank 32 ∷ mark arrow ∷ blank 32 ∷ mark open_bracket ∷ []) left refl) (λ strings ground rest. refl)

pub otherwise_colon : Sign (codes "otherwise: ") (λ rest. s.Otherwise ∷ s.Colon ∷ rest)
unfolding word_token block_digits word_place
otherwise_colon = sign (word 111 (codes "therwise") ∷ mark colon ∷ blank 32 ∷ []) (λ rest. s.Otherwise ∷ s.Colon ∷ rest) (λ left. stands (word 111 (codes "therwise") ∷ mark colon ∷ blank 32 ∷ []) left refl) (λ strings ground rest. refl)

pub bracket : Sign (codes "]") (λ rest. s.CloseBracket ∷ rest)
bracket = sign (mark close_bracket ∷ []) (λ rest. s.CloseBracket ∷ rest) (λ left. stands (mark close_bracket ∷ []) left refl) (λ strings ground rest. refl)

pub drop_open : Sign (codes "drop(") (λ rest. s.Drop ∷ s.Open ∷ rest)
unfolding word_token block_digits word_place
drop_open = sign (word 100 (codes "rop") ∷ mark open_paren ∷ []) (λ rest. s.Drop ∷ s.Open ∷ rest) (λ left. stands (word 100 (codes "rop") ∷ mark open_paren ∷ []) left refl) (λ strings ground rest. refl)

pub assert_open : Sign (codes "assert(") (λ rest. s.Assert ∷ s.Open ∷ rest)
unfolding word_token block_digits word_place
assert_open = sign (word 97 (codes "ssert") ∷ mark open_paren ∷ []) (λ rest. s.Assert ∷ s.Open ∷ rest) (λ left. stands (word 97 (codes "ssert") ∷ mark open_paren ∷ []) left refl) (λ strings ground rest. refl)

pub not_sign : Sign (codes "!") (λ rest. s.Exclamation ∷ rest)
not_sign = sign (mark exclamation ∷ []) (λ rest. s.Exclamation ∷ rest) (λ left. stands (mark exclamation ∷ []) left refl) (λ strings ground rest. refl)

pub four_spaces : Sign (codes "    ") (λ rest. rest)
four_spaces = sign (blank 32 ∷ blank 32 ∷ blank 32 ∷ blank 32 ∷ []) (λ rest. rest) (λ left. stands (blank 32 ∷ blank 32 ∷ blank 32 ∷ blank 32 ∷ []) left refl) (λ strings ground rest. refl)

pub block_open : Sign (codes ": {\n") (λ rest. s.Colon ∷ s.OpenBrace ∷ rest)
block_open = sign (mark colon ∷ blank 32 ∷ mark open_brace ∷ line ∷ []) (λ rest. s.Colon ∷ s.OpenBrace ∷ rest) (λ left. stands (mark colon ∷ blank 32 ∷ mark open_brace ∷ line ∷ []) left refl) (λ strings ground rest. refl)

pub block_close : Sign (codes "    }\n") (λ rest. s.CloseBrace ∷ rest)
block_close = sign (blank 32 ∷ blank 32 ∷ blank 32 ∷ blank 32 ∷ mark close_brace ∷ line ∷ []) (λ rest. s.CloseBrace ∷ rest) (λ left. stands (blank 32 ∷ blank 32 ∷ blank 32 ∷ blank 32 ∷ mark close_brace ∷ line ∷ []) left refl) (λ strings ground rest. refl)

pub empty_line : Sign (codes "\n") (λ rest. rest)
empty_line = sign (line ∷ []) (λ rest. rest) (λ left. stands (line ∷ []) left refl) (λ strings ground rest. refl)

pub let_mut : Sign (codes "    let mut ") (λ rest. s.Let ∷ s.Mut ∷ rest)
unfolding word_token block_digits word_place
let_mut = sign (blank 32 ∷ blank 32 ∷ blank 32 ∷ blank 32 ∷ word 108 (codes "et") ∷ blank 32 ∷ word 109 (codes "ut") ∷ blank 32 ∷ []) (λ rest. s.Let ∷ s.Mut ∷ rest) (λ left. stands (blank 32 ∷ blank 32 ∷ blank 32 ∷ blank 32 ∷ word 108 (codes "et") ∷ blank 32 ∷ word 109 (codes "ut") ∷ blank 32 ∷ []) left refl) (λ strings ground rest. refl)

pub drop_word : Sign (codes "drop ") (λ rest. s.Drop ∷ rest)
unfolding word_token block_digits word_place
drop_word = sign (word 100 (codes "rop") ∷ blank 32 ∷ []) (λ rest. s.Drop ∷ rest) (λ left. stands (word 100 (codes "rop") ∷ blank 32 ∷ []) left refl) (λ strings ground rest. refl)

pub fn_word : Sign (codes "fn ") (λ rest. s.Fn ∷ rest)
unfolding word_token block_digits word_place
fn_word = sign (word 102 (codes "n") ∷ blank 32 ∷ []) (λ rest. s.Fn ∷ rest) (λ left. stands (word 102 (codes "n") ∷ blank 32 ∷ []) left refl) (λ strings ground rest. refl)

pub arrow_spaces : Sign (codes " -> ") (λ rest. s.Arrow ∷ rest)
arrow_spaces = sign (blank 32 ∷ mark arrow ∷ blank 32 ∷ []) (λ rest. s.Arrow ∷ rest) (λ left. stands (blank 32 ∷ mark arrow ∷ blank 32 ∷ []) left refl) (λ strings ground rest. refl)

pub result_arrow : Sign (codes ") -> ") (λ rest. s.Close ∷ s.Arrow ∷ rest)
result_arrow = sign (mark close_paren ∷ blank 32 ∷ mark arrow ∷ blank 32 ∷ []) (λ rest. s.Close ∷ s.Arrow ∷ rest) (λ left. stands (mark close_paren ∷ blank 32 ∷ mark arrow ∷ blank 32 ∷ []) left refl) (λ strings ground rest. refl)

pub body_open : Sign (codes " {\n") (λ rest. s.OpenBrace ∷ rest)
body_open = sign (blank 32 ∷ mark open_brace ∷ line ∷ []) (λ rest. s.OpenBrace ∷ rest) (λ left. stands (blank 32 ∷ mark open_brace ∷ line ∷ []) left refl) (λ strings ground rest. refl)

pub body_close : Sign (codes "}\n") (λ rest. s.CloseBrace ∷ rest)
body_close = sign (mark close_brace ∷ line ∷ []) (λ rest. s.CloseBrace ∷ rest) (λ left. stands (mark close_brace ∷ line ∷ []) left refl) (λ strings ground rest. refl)

pub semicolon_sign : Sign (codes ";") (λ rest. s.Semicolon ∷ rest)
semicolon_sign = sign (mark semicolon ∷ []) (λ rest. s.Semicolon ∷ rest) (λ left. stands (mark semicolon ∷ []) left refl) (λ strings ground rest. refl)

pub enum_word : Sign (codes "enum ") (λ rest. s.Enum ∷ rest)
unfolding word_token block_digits word_place
enum_word = sign (word 101 (codes "num") ∷ blank 32 ∷ []) (λ rest. s.Enum ∷ rest) (λ left. stands (word 101 (codes "num") ∷ blank 32 ∷ []) left refl) (λ strings ground rest. refl)

pub struct_word : Sign (codes "struct ") (λ rest. s.Struct ∷ rest)
unfolding word_token block_digits word_place
struct_word = sign (word 115 (codes "truct") ∷ blank 32 ∷ []) (λ rest. s.Struct ∷ rest) (λ left. stands (word 115 (codes "truct") ∷ blank 32 ∷ []) left refl) (λ strings ground rest. refl)

pub extern_word : Sign (codes "extern fn ") (λ rest. s.Extern ∷ s.Fn ∷ rest)
unfolding word_token block_digits word_place
extern_word = sign (word 101 (codes "xtern") ∷ blank 32 ∷ word 102 (codes "n") ∷ blank 32 ∷ []) (λ rest. s.Extern ∷ s.Fn ∷ rest) (λ left. stands (word 101 (codes "xtern") ∷ blank 32 ∷ word 102 (codes "n") ∷ blank 32 ∷ []) left refl) (λ strings ground rest. refl)

-- ---- with a name that the grammar looks for

pub cast_end : Sign (codes " (IntToInt)") (λ rest. s.Open ∷ int_to_int_name ∷ s.Close ∷ rest)
unfolding word_token block_digits word_place
cast_end =
    sign (blank 32 ∷ mark open_paren ∷ word 73 (codes "ntToInt") ∷ mark close_paren ∷ []) (λ rest. s.Open ∷ int_to_int_name ∷ s.Close ∷ rest)
    (λ left. stands (blank 32 ∷ mark open_paren ∷ word 73 (codes "ntToInt") ∷ mark close_paren ∷ []) left refl)
    (λ strings ground rest. ap (λ n. s.Open ∷ s.Name n ∷ s.Close ∷ known_symbols strings rest) ground.cast)

pub success_arrow : Sign (codes ") -> [success: ") (λ rest. s.Close ∷ s.Arrow ∷ s.OpenBracket ∷ success_name ∷ s.Colon ∷ rest)
unfolding word_token block_digits word_place
success_arrow =
    sign (mark close_paren ∷ blank 32 ∷ mark arrow ∷ blank 32 ∷ mark open_bracket ∷ word 115 (codes "uccess") ∷ mark colon ∷ blank 32 ∷ []) (λ rest. s.Close ∷ s.Arrow ∷ s.OpenBracket ∷ success_name ∷ s.Colon ∷ rest)
    (λ left. stands (mark close_paren ∷ blank 32 ∷ mark arrow ∷ blank 32 ∷ mark open_bracket ∷ word 115 (codes "uccess") ∷ mark colon ∷ blank 32 ∷ []) left refl)
    (λ strings ground rest. ap (λ n. s.Close ∷ s.Arrow ∷ s.OpenBracket ∷ s.Name n ∷ s.Colon ∷ known_symbols strings rest) ground.success)

pub inline_hint : Sign (codes "#[inline]\n") (λ rest. s.Hash ∷ s.OpenBracket ∷ inline_name ∷ s.CloseBracket ∷ rest)
unfolding word_token block_digits word_place
inline_hint =
    sign (mark hash ∷ mark open_bracket ∷ word 105 (codes "nline") ∷ mark close_bracket ∷ line ∷ []) (λ rest. s.Hash ∷ s.OpenBracket ∷ inline_name ∷ s.CloseBracket ∷ rest)
    (λ left. stands (mark hash ∷ mark open_bracket ∷ word 105 (codes "nline") ∷ mark close_bracket ∷ line ∷ []) left refl)
    (λ strings ground rest. ap (λ n. s.Hash ∷ s.OpenBracket ∷ s.Name n ∷ s.CloseBracket ∷ known_symbols strings rest) ground.inline)

pub inline_always : Sign (codes "#[inline(always)]\n") (λ rest. s.Hash ∷ s.OpenBracket ∷ inline_name ∷ s.Open ∷ always_name ∷ s.Close ∷ s.CloseBracket ∷ rest)
unfolding word_token block_digits word_place
inline_always =
    sign (mark hash ∷ mark open_bracket ∷ word 105 (codes "nline") ∷ mark open_paren ∷ word 97 (codes "lways") ∷ mark close_paren ∷ mark close_bracket ∷ line ∷ []) (λ rest. s.Hash ∷ s.OpenBracket ∷ inline_name ∷ s.Open ∷ always_name ∷ s.Close ∷ s.CloseBracket ∷ rest)
    (λ left. stands (mark hash ∷ mark open_bracket ∷ word 105 (codes "nline") ∷ mark open_paren ∷ word 97 (codes "lways") ∷ mark close_paren ∷ mark close_bracket ∷ line ∷ []) left refl)
    (λ strings ground rest. ap (λ n. s.Hash ∷ s.OpenBracket ∷ s.Name n ∷ s.Open ∷ s.Name (number_in strings (codes "always")) ∷ s.Close ∷ s.CloseBracket ∷ known_symbols strings rest) ground.inline
    ∙ ap (λ n. s.Hash ∷ s.OpenBracket ∷ inline_name ∷ s.Open ∷ s.Name n ∷ s.Close ∷ s.CloseBracket ∷ known_symbols strings rest) ground.always)

pub inline_never : Sign (codes "#[inline(never)]\n") (λ rest. s.Hash ∷ s.OpenBracket ∷ inline_name ∷ s.Open ∷ never_name ∷ s.Close ∷ s.CloseBracket ∷ rest)
unfolding word_token block_digits word_place
inline_never =
    sign (mark hash ∷ mark open_bracket ∷ word 105 (codes "nline") ∷ mark open_paren ∷ word 110 (codes "ever") ∷ mark close_paren ∷ mark close_bracket ∷ line ∷ []) (λ rest. s.Hash ∷ s.OpenBracket ∷ inline_name ∷ s.Open ∷ never_name ∷ s.Close ∷ s.CloseBracket ∷ rest)
    (λ left. stands (mark hash ∷ mark open_bracket ∷ word 105 (codes "nline") ∷ mark open_paren ∷ word 110 (codes "ever") ∷ mark close_paren ∷ mark close_bracket ∷ line ∷ []) left refl)
    (λ strings ground rest. ap (λ n. s.Hash ∷ s.OpenBracket ∷ s.Name n ∷ s.Open ∷ s.Name (number_in strings (codes "never")) ∷ s.Close ∷ s.CloseBracket ∷ known_symbols strings rest) ground.inline
    ∙ ap (λ n. s.Hash ∷ s.OpenBracket ∷ inline_name ∷ s.Open ∷ s.Name n ∷ s.Close ∷ s.CloseBracket ∷ known_symbols strings rest) ground.never)
