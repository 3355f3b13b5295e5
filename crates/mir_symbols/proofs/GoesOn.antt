-- A scan that goes on from where it stopped, while symbols that were found are given up.
use Rattle.std.proofs.Common.{◌≡◌, ℕ, zero, suc, ◌+◌, ◌-◌, ◌<◌, ◌≤◌, Bool, true, false, ◌==◌, List, [], ◌∷◌, ◌++◌, length, take, Result, Ok, Err, Some, refl, sym, ap, ap₂, subst, ◌∙◌, arith, append_assoc, append-nil, length-append}
use Rattle.std.proofs.lemmas.Bool.{eqb-true}
use Rattle.mir_text.specs.declared.symbol.Symbol.{Symbol}
use Rattle.mir_text.specs.declared.symbol.Symbol.TheVariants as s
use Rattle.mir_text.specs.Symbols.{number_in, Token, nothing, symbol, name, string}
use Rattle.mir_lex.specs.declared.scan.Found.{Found}
use Rattle.mir_lex.specs.declared.scan.Found.TheVariants as f
use Rattle.mir_lex.specs.Tokens.{found_from}
use Rattle.mir_symbols.specs.declared.scan.Symbols.{Symbols}
use Rattle.mir_symbols.specs.Scan.{kind_token, with_symbol, with_noted, with_token, taking, no_symbols, goes_on, scan_from, scan, EndsWith, ahead, cleared, InStep}
use Rattle.mir_symbols.proofs.Pieces.{scan-turn, scan_goes}

-- ---- turns

pub some_bytes : (bs : List ℕ) (empty : Bool) → empty ≡ (length bs == 0) → empty ≡ false → 0 < length bs
some_bytes [] empty e h = absurd cc
some_bytes (b ∷ bs) empty e h = omega arith

pub piece-goes_on : (found next : Symbols) (bs past : List ℕ) (fd : Found) (whole : Symbols) → length past < length bs → found_from bs ≡ Ok (fd, past)
    → next ≡ taking found fd (take (length bs - length past) bs) → EndsWith found bs whole → EndsWith next past whole
piece-goes_on found next bs past fd whole shorter at taken ends =
    let some : 0 < length bs = omega arith in
    let few : length bs ≤ ends.0 = ends.1 in
    let turns : ends.0 ≡ suc (ends.0 - 1) = omega arith in
    (ends.0 - 1, omega arith, sym (scan_goes ends.0 (ends.0 - 1) found next bs past fd turns some at taken) ∙ ends.2)

-- the fault is found again where it was
pub fault-goes_on : (found next : Symbols) (bs : List ℕ) (code : ℕ) (whole : Symbols) → 0 < length bs → found_from bs ≡ Err code
    → next ≡ record found { fault = Some (record { code = code; line = found.end_line }) } → EndsWith found bs whole → EndsWith next bs whole
fault-goes_on found next bs code whole some at is ends =
    let last = record found { fault = Some (record { code = code; line = found.end_line }) } in
    let first : scan_from (suc ends.0) found bs ≡ last = scan-turn ends.0 found bs some ∙ ap (goes_on (scan_from ends.0) found bs) at in
    let again : scan_from (suc ends.0) last bs ≡ last = scan-turn ends.0 last bs some ∙ ap (goes_on (scan_from ends.0) last bs) at in
    (ends.0, ends.1, ap (λ found. scan_from (suc ends.0) found bs) is ∙ again ∙ sym first ∙ ends.2)

pub fault-ends : (found next : Symbols) (bs : List ℕ) (code : ℕ) (whole : Symbols) → 0 < length bs → found_from bs ≡ Err code
    → next ≡ record found { fault = Some (record { code = code; line = found.end_line }) } → EndsWith found bs whole → whole ≡ next
fault-ends found next bs code whole some at is ends = sym ends.2 ∙ scan-turn ends.0 found bs some ∙ ap (goes_on (scan_from ends.0) found bs) at ∙ sym is

pub last-ends : (found whole : Symbols) (bs : List ℕ) (empty : Bool) → empty ≡ (length bs == 0) → empty ≡ true → EndsWith found bs whole → whole ≡ found
unfolding scan_from
last-ends found whole [] empty e h ends = sym ends.2
last-ends found whole (b ∷ bs) empty e h ends = absurd (omega (arith, eqb-true (length (b ∷ bs)) 0 (sym e ∙ h)))

pub ends-here : (found whole : Symbols) → EndsWith found [] whole → whole ≡ found
unfolding scan_from
ends-here found whole ends = sym ends.2

pub begins : (bs : List ℕ) → EndsWith no_symbols bs (scan bs)
unfolding scan
begins bs = (length bs, omega arith, refl)

pub begins-with : (found : Symbols) (bs : List ℕ) → found ≡ no_symbols → EndsWith found bs (scan bs)
begins-with found bs is = subst (λ found. EndsWith found bs (scan bs)) (sym is) (begins bs)

-- ---- symbols given up

symbol-ahead : (xs : List Symbol) (ns : List ℕ) (found : Symbols) (x : Symbol) → with_symbol (ahead xs ns found) x ≡ ahead xs ns (with_symbol found x)
symbol-ahead xs ns found x =
    let join : List Symbol → List ℕ → Symbols = λ a b. record found { symbols = a; lines = b } in
    ap₂ join (append_assoc xs found.symbols (x ∷ [])) (append_assoc ns found.lines (found.end_line ∷ []))

token-ahead : (xs : List Symbol) (ns : List ℕ) (found : Symbols) (t : Token) → with_token (ahead xs ns found) t ≡ ahead xs ns (with_token found t)
token-ahead xs ns found nothing = refl
token-ahead xs ns found (symbol x) = symbol-ahead xs ns found x
token-ahead xs ns found (name bs) = symbol-ahead xs ns (with_noted found bs) (s.Name (number_in found.strings bs))
token-ahead xs ns found (string bs) = symbol-ahead xs ns (with_noted found bs) (s.Text (number_in found.strings bs))

taking-ahead : (xs : List Symbol) (ns : List ℕ) (found : Symbols) (fd : Found) (bs : List ℕ) → taking (ahead xs ns found) fd bs ≡ ahead xs ns (taking found fd bs)
taking-ahead xs ns found f.Blank bs = refl
taking-ahead xs ns found f.Comment bs = refl
taking-ahead xs ns found f.Line bs = refl
taking-ahead xs ns found (f.Token kind) bs = token-ahead xs ns found (kind_token kind bs)

turn-ahead : (xs : List Symbol) (ns : List ℕ) (more : Symbols → List ℕ → Symbols) → ((found : Symbols) (bs : List ℕ) → more (ahead xs ns found) bs ≡ ahead xs ns (more found bs))
    → (found : Symbols) (bs : List ℕ) (r : Result (Found × List ℕ) ℕ) → goes_on more (ahead xs ns found) bs r ≡ ahead xs ns (goes_on more found bs r)
turn-ahead xs ns more one found bs (Ok q) =
    let text = take (length bs - length q.1) bs in
    ap (λ found. more found q.1) (taking-ahead xs ns found q.0 text) ∙ one (taking found q.0 text) q.1
turn-ahead xs ns more one found bs (Err code) = refl

scan-ahead : (xs : List Symbol) (ns : List ℕ) (n : ℕ) (found : Symbols) (bs : List ℕ) → scan_from n (ahead xs ns found) bs ≡ ahead xs ns (scan_from n found bs)
unfolding scan_from
scan-ahead xs ns zero found bs = refl
scan-ahead xs ns (suc n) found [] = refl
scan-ahead xs ns (suc n) found (b ∷ bs) = turn-ahead xs ns (scan_from n) (scan-ahead xs ns n) found (b ∷ bs) (found_from (b ∷ bs))

-- what was given up changes nothing in how a scan goes on
pub ahead-goes_on : (xs : List Symbol) (ns : List ℕ) (found next : Symbols) (bs left : List ℕ) (whole : Symbols)
    → ((w : Symbols) → EndsWith found bs w → EndsWith next left w) → EndsWith (ahead xs ns found) bs whole → EndsWith (ahead xs ns next) left whole
ahead-goes_on xs ns found next bs left whole step ends =
    let last = scan_from (suc ends.0) found bs in
    let on : EndsWith next left last = step last (ends.0, ends.1, refl) in
    (on.0, on.1, scan-ahead xs ns (suc on.0) next left ∙ ap (ahead xs ns) on.2 ∙ sym (scan-ahead xs ns (suc ends.0) found bs) ∙ ends.2)

-- giving up what was found
pub cleared-goes_on : (xs : List Symbol) (ns : List ℕ) (found : Symbols) (bs : List ℕ) (whole : Symbols)
    → EndsWith (ahead xs ns found) bs whole → EndsWith (ahead (xs ++ found.symbols) (ns ++ found.lines) (cleared found)) bs whole
cleared-goes_on xs ns found bs whole ends =
    let join : List Symbol → List ℕ → Symbols = λ a b. record found { symbols = a; lines = b } in
    let same : ahead (xs ++ found.symbols) (ns ++ found.lines) (cleared found) ≡ ahead xs ns found = ap₂ join (append-nil (xs ++ found.symbols)) (append-nil (ns ++ found.lines)) in
    (ends.0, ends.1, ap (λ found. scan_from (suc ends.0) found bs) same ∙ ends.2)

-- ---- lines

symbol-in_step : (found : Symbols) (x : Symbol) → InStep found → InStep (with_symbol found x)
symbol-in_step found x same = omega (arith, length-append found.lines (found.end_line ∷ []), length-append found.symbols (x ∷ []))

token-in_step : (found : Symbols) (t : Token) → InStep found → InStep (with_token found t)
token-in_step found nothing same = same
token-in_step found (symbol x) same = symbol-in_step found x same
token-in_step found (name bs) same = symbol-in_step (with_noted found bs) (s.Name (number_in found.strings bs)) same
token-in_step found (string bs) same = symbol-in_step (with_noted found bs) (s.Text (number_in found.strings bs)) same

taking-in_step : (found : Symbols) (fd : Found) (bs : List ℕ) → InStep found → InStep (taking found fd bs)
taking-in_step found f.Blank bs same = same
taking-in_step found f.Comment bs same = same
taking-in_step found f.Line bs same = same
taking-in_step found (f.Token kind) bs same = token-in_step found (kind_token kind bs) same

pub piece-in_step : (found next : Symbols) (fd : Found) (bs : List ℕ) → next ≡ taking found fd bs → InStep found → InStep next
piece-in_step found next fd bs is same = ap (λ found. length found.lines) is ∙ taking-in_step found fd bs same ∙ sym (ap (λ found. length found.symbols) is)
