-- One sign, word, name or number at the front of symbols.
use Rattle.std.specs.Prelude.{ℕ, ◌∷◌, Ok, Err, nat_lt, ◌==◌, if◌then◌else◌}
use Rattle.mir_text.specs.declared.symbol.Symbol.TheVariants as s
use Rattle.mir_parse.specs.Parser.{Parse}
use Rattle.mir_parse.specs.Faults.{no_reading, fault_at}

unfoldable pub comma : Parse (Unit {0})
comma (s.Comma ∷ ts) = Ok (tt, ts)
comma ts = Err (no_reading ts)

unfoldable pub open_paren : Parse (Unit {0})
open_paren (s.Open ∷ ts) = Ok (tt, ts)
open_paren ts = Err (no_reading ts)

unfoldable pub close : Parse (Unit {0})
close (s.Close ∷ ts) = Ok (tt, ts)
close ts = Err (no_reading ts)

unfoldable pub open_brace : Parse (Unit {0})
open_brace (s.OpenBrace ∷ ts) = Ok (tt, ts)
open_brace ts = Err (no_reading ts)

unfoldable pub close_brace : Parse (Unit {0})
close_brace (s.CloseBrace ∷ ts) = Ok (tt, ts)
close_brace ts = Err (no_reading ts)

unfoldable pub open_bracket : Parse (Unit {0})
open_bracket (s.OpenBracket ∷ ts) = Ok (tt, ts)
open_bracket ts = Err (no_reading ts)

unfoldable pub close_bracket : Parse (Unit {0})
close_bracket (s.CloseBracket ∷ ts) = Ok (tt, ts)
close_bracket ts = Err (no_reading ts)

unfoldable pub semicolon : Parse (Unit {0})
semicolon (s.Semicolon ∷ ts) = Ok (tt, ts)
semicolon ts = Err (no_reading ts)

unfoldable pub colon : Parse (Unit {0})
colon (s.Colon ∷ ts) = Ok (tt, ts)
colon ts = Err (no_reading ts)

unfoldable pub colons : Parse (Unit {0})
colons (s.Colons ∷ ts) = Ok (tt, ts)
colons ts = Err (no_reading ts)

unfoldable pub dot : Parse (Unit {0})
dot (s.Dot ∷ ts) = Ok (tt, ts)
dot ts = Err (no_reading ts)

unfoldable pub equals : Parse (Unit {0})
equals (s.Equals ∷ ts) = Ok (tt, ts)
equals ts = Err (no_reading ts)

unfoldable pub arrow : Parse (Unit {0})
arrow (s.Arrow ∷ ts) = Ok (tt, ts)
arrow ts = Err (no_reading ts)

unfoldable pub returns : Parse (Unit {0})
returns (s.Return ∷ ts) = Ok (tt, ts)
returns ts = Err (no_reading ts)

unfoldable pub otherwise : Parse (Unit {0})
otherwise (s.Otherwise ∷ ts) = Ok (tt, ts)
otherwise ts = Err (no_reading ts)

unfoldable pub unwind : Parse (Unit {0})
unwind (s.Unwind ∷ ts) = Ok (tt, ts)
unwind ts = Err (no_reading ts)

-- a name's number
unfoldable pub name : Parse ℕ
name (s.Name n ∷ ts) = Ok (n, ts)
name ts = Err (no_reading ts)

-- the name that is looked for
unfoldable pub this_name : ℕ → Parse (Unit {0})
this_name n (s.Name m ∷ ts) = if m == n then Ok (tt, ts) else Err (no_reading (s.Name m ∷ ts))
this_name n ts = Err (no_reading ts)

-- a string's number
unfoldable pub string : Parse ℕ
string (s.Text n ∷ ts) = Ok (n, ts)
string ts = Err (no_reading ts)

unfoldable pub local : Parse ℕ
local (s.Local n ∷ ts) = Ok (n, ts)
local (s.LargeLocal ∷ ts) = Err (fault_at 9 (s.LargeLocal ∷ ts))
local ts = Err (no_reading ts)

unfoldable pub block : Parse ℕ
block (s.Block n ∷ ts) = Ok (n, ts)
block (s.LargeBlock ∷ ts) = Err (fault_at 9 (s.LargeBlock ∷ ts))
block ts = Err (no_reading ts)

-- the number of a field, a scope or a set variant, at most 4294967295
unfoldable pub small_number : Parse ℕ
small_number (s.Number n ∷ ts) = if nat_lt 4294967295 n then Err (fault_at 9 (s.Number n ∷ ts)) else Ok (n, ts)
small_number ts = Err (no_reading ts)
