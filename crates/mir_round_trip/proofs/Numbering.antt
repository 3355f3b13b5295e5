-- A byte string keeps the number under which it was first seen.
use Rattle.std.proofs.Common.{◌≡◌, ℕ, suc, ◌+◌, Bool, true, false, List, [], ◌∷◌, ◌++◌, map, length, get_or, Option, Some, None, refl, sym, ap, ◌∙◌, arith, append_assoc, inl, inr, bytes_eq}
use Rattle.std.proofs.lemmas.List.{append-nil}
use Rattle.std.proofs.lemmas.Slice.Eq.{bytes_eq-Decides}
use Rattle.mir_text.specs.declared.symbol.Symbol.{Symbol}
use Rattle.mir_text.specs.declared.symbol.Symbol.TheVariants as s
use Rattle.mir_text.specs.Words.{place_from, place_in}
use Rattle.mir_text.specs.Pieces.{Piece, line_after}
use Rattle.mir_text.specs.Symbols.{grammar_names, place_or, number_in, seen_with, noted, Token, nothing, symbol, name, string, token_of, Lined, seen_after, put_token, symbols_from, strings_from, symbol_in, symbols_of, strings_of}
use Rattle.mir_text.specs.Names.{Strings, string_at}
use Rattle.mir_round_trip.specs.Known.{Carries, Holds, put_known, known_symbols}

same_bytes : (bytes : List ℕ) → bytes_eq bytes bytes ≡ true
same_bytes bytes = (bytes_eq-Decides bytes bytes).1 refl

-- what is found in a list of byte strings is found in a longer one at the same place
found-step : (k n : ℕ) (x : List ℕ) (seen more : Strings) (bytes : List ℕ) (b : Bool) → (place_from (suc k) seen bytes ≡ Some n → place_from (suc k) (seen ++ more) bytes ≡ Some n)
    → bytes_eq x bytes ≡ b → place_from k (x ∷ seen) bytes ≡ Some n → place_from k (x ∷ seen ++ more) bytes ≡ Some n
found-step k n x seen more bytes true later e h = let first = rw e at h in rw e first
found-step k n x seen more bytes false later e h = let first = rw e at h in rw e (later first)

found-front : (k n : ℕ) (seen more : Strings) (bytes : List ℕ) → place_from k seen bytes ≡ Some n → place_from k (seen ++ more) bytes ≡ Some n
found-front k n [] more bytes h = absurd cc
found-front k n (x ∷ seen) more bytes h = found-step k n x seen more bytes (bytes_eq x bytes) (found-front (suc k) n seen more bytes) refl h

-- what isn't found is found once it is noted
noted-step : (k : ℕ) (x : List ℕ) (seen : Strings) (bytes : List ℕ) (b : Bool) → (place_from (suc k) seen bytes ≡ None → place_from (suc k) (seen ++ bytes ∷ []) bytes ≡ Some (suc k + length seen))
    → bytes_eq x bytes ≡ b → place_from k (x ∷ seen) bytes ≡ None → place_from k (x ∷ seen ++ bytes ∷ []) bytes ≡ Some (k + length (x ∷ seen))
noted-step k x seen bytes true later e h = let first = rw e at h in absurd cc
noted-step k x seen bytes false later e h =
    let first = rw e at h in
    let next : suc k + length seen ≡ k + length (x ∷ seen) = omega arith in
    rw e (later first ∙ ap Some next)

found-noted : (k : ℕ) (seen : Strings) (bytes : List ℕ) → place_from k seen bytes ≡ None → place_from k (seen ++ bytes ∷ []) bytes ≡ Some (k + length seen)
found-noted k [] bytes h =
    let here : k ≡ k + 0 = omega arith in
    rw (same_bytes bytes) (ap Some here)
found-noted k (x ∷ seen) bytes h = noted-step k x seen bytes (bytes_eq x bytes) (found-noted (suc k) seen bytes) refl h

noted-found : (seen : Strings) (bytes : List ℕ) (o : Option ℕ) → place_in seen bytes ≡ o → place_in (seen_with seen bytes o) bytes ≡ Some (place_or (length seen) o)
noted-found seen bytes None h =
    let all : 0 + length seen ≡ length seen = omega arith in
    found-noted 0 seen bytes h ∙ ap Some all
noted-found seen bytes (Some k) h = h

-- the number under which a byte string is noted is its place among all that are seen later
number-final : (seen more : Strings) (bytes : List ℕ) → number_in (noted seen bytes ++ more) bytes ≡ number_in seen bytes
number-final seen more bytes =
    let here = noted-found seen bytes (place_in seen bytes) refl in
    let late : place_in (noted seen bytes ++ more) bytes ≡ Some (number_in seen bytes) = found-front 0 (number_in seen bytes) (noted seen bytes) more bytes here in
    ap (place_or (length (noted seen bytes ++ more))) late

seen-more : (seen : Strings) (bytes : List ℕ) (o : Option ℕ) → (more : Strings) × (seen_with seen bytes o ≡ seen ++ more)
seen-more seen bytes None = (bytes ∷ [], refl)
seen-more seen bytes (Some k) = ([], sym (append-nil seen))

after-more : (seen : Strings) (x : Token) → (more : Strings) × (seen_after seen x ≡ seen ++ more)
after-more seen nothing = ([], sym (append-nil seen))
after-more seen (symbol x) = ([], sym (append-nil seen))
after-more seen (name bytes) = seen-more seen bytes (place_in seen bytes)
after-more seen (string bytes) = seen-more seen bytes (place_in seen bytes)

-- the byte strings that were seen stay in front
pub strings-more : (seen : Strings) (ps : List Piece) → (more : Strings) × (strings_from seen ps ≡ seen ++ more)
strings-more seen [] = ([], sym (append-nil seen))
strings-more seen (p ∷ ps) =
    let first = after-more seen (token_of p) in
    let others = strings-more (seen_after seen (token_of p)) ps in
    (first.0 ++ others.0, others.1 ∙ ap (λ l. l ++ others.0) first.1 ∙ append_assoc seen first.0 others.0)

-- one token, before symbols that are known
token-known : (seen strings more : Strings) (n : ℕ) (x : Token) (rest : List Lined) (known : List Symbol) → strings ≡ seen_after seen x ++ more → map symbol_in rest ≡ known
    → map symbol_in (put_token seen n x rest) ≡ put_known strings x known
token-known seen strings more n nothing rest known is same = same
token-known seen strings more n (symbol x) rest known is same = ap (λ l. x ∷ l) same
token-known seen strings more n (name bytes) rest known is same =
    rw (is, number-final seen more bytes) (ap (λ l. s.Name (number_in seen bytes) ∷ l) same)
token-known seen strings more n (string bytes) rest known is same =
    rw (is, number-final seen more bytes) (ap (λ l. s.Text (number_in seen bytes) ∷ l) same)

pub symbols-known : (seen : Strings) (n : ℕ) (ps : List Piece) → map symbol_in (symbols_from seen n ps) ≡ known_symbols (strings_from seen ps) ps
symbols-known seen n [] = refl
symbols-known seen n (p ∷ ps) =
    let next = seen_after seen (token_of p) in
    let more = strings-more next ps in
    token-known seen (strings_from next ps) more.0 n (token_of p) (symbols_from next (line_after n p) ps) (known_symbols (strings_from next ps) ps)
    more.1 (symbols-known next (line_after n p) ps)

-- the symbols of a text are those with the numbers that its byte strings have in the end
pub numbers_final : (ps : List Piece) → symbols_of ps ≡ known_symbols (strings_of ps) ps
numbers_final ps = symbols-known grammar_names 1 ps

-- ---- back from numbers to byte strings

-- what stands at a place that was found
abbrev pub StandsAt : Strings → List ℕ → ℕ → ℕ → Type 0
StandsAt strings bytes k n = (j : ℕ) × (n ≡ k + j) × (get_or strings j [] ≡ bytes)

at-step : (k n : ℕ) (x : List ℕ) (strings : Strings) (bytes : List ℕ) (b : Bool) → (place_from (suc k) strings bytes ≡ Some n → StandsAt strings bytes (suc k) n)
    → bytes_eq x bytes ≡ b → place_from k (x ∷ strings) bytes ≡ Some n → StandsAt (x ∷ strings) bytes k n
at-step k n x strings bytes true later e h =
    let first = rw e at h in
    let here : k ≡ n = cc in
    (0, omega (arith, here), (bytes_eq-Decides x bytes).0 e)
at-step k n x strings bytes false later e h =
    let first = rw e at h in
    let p = later first in
    (suc p.0, omega (arith, p.1), p.2)

pub stands-at : (k n : ℕ) (strings : Strings) (bytes : List ℕ) → place_from k strings bytes ≡ Some n → StandsAt strings bytes k n
stands-at k n [] bytes h = absurd cc
stands-at k n (x ∷ strings) bytes h = at-step k n x strings bytes (bytes_eq x bytes) (stands-at (suc k) n strings bytes) refl h

pub number-back : (strings : Strings) (bytes : List ℕ) (n : ℕ) → place_in strings bytes ≡ Some n → string_at strings (number_in strings bytes) ≡ bytes
number-back strings bytes n h =
    let p = stands-at 0 n strings bytes h in
    let same : n ≡ p.0 = omega (arith, p.1) in
    ap (λ o. string_at strings (place_or (length strings) o)) h ∙ ap (string_at strings) same ∙ p.2

-- a byte string that was noted is read back by its number
pub noted_back : (seen more : Strings) (bytes : List ℕ) → string_at (noted seen bytes ++ more) (number_in (noted seen bytes ++ more) bytes) ≡ bytes
noted_back seen more bytes =
    let here = noted-found seen bytes (place_in seen bytes) refl in
    let late : place_in (noted seen bytes ++ more) bytes ≡ Some (number_in seen bytes) = found-front 0 (number_in seen bytes) (noted seen bytes) more bytes here in
    number-back (noted seen bytes ++ more) bytes (number_in seen bytes) late

carried-back : (seen strings more : Strings) (x : Token) (bytes : List ℕ) → strings ≡ seen_after seen x ++ more → Carries x bytes → string_at strings (number_in strings bytes) ≡ bytes
carried-back seen strings more nothing bytes is h = absurd h
carried-back seen strings more (symbol x) bytes is h = absurd h
carried-back seen strings more (name bs) bytes is h = rw (is, h) (noted_back seen more bytes)
carried-back seen strings more (string bs) bytes is h = rw (is, h) (noted_back seen more bytes)

-- each byte string of a text stands in the list of the whole text at its number
pub strings_back : (seen : Strings) (ps : List Piece) (bytes : List ℕ) → Holds ps bytes → string_at (strings_from seen ps) (number_in (strings_from seen ps) bytes) ≡ bytes
strings_back seen [] bytes h = absurd h
strings_back seen (p ∷ ps) bytes (inl h) =
    let more = strings-more (seen_after seen (token_of p)) ps in
    carried-back seen (strings_from seen (p ∷ ps)) more.0 (token_of p) bytes more.1 h
strings_back seen (p ∷ ps) bytes (inr h) = strings_back (seen_after seen (token_of p)) ps bytes h
