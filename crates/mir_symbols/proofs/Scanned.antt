-- The symbols that are found are those of the text, and it has no others.
use Rattle.std.proofs.Common.{◌≡◌, ℕ, suc, ◌+◌, ◌-◌, ◌≤◌, ◌⊎◌, inl, inr, List, [], ◌∷◌, ◌++◌, length, Result, Ok, Err, Option, Some, None, IfOk, refl, sym, ap, ◌∙◌, subst, arith, length-append}
use Rattle.mir_text.specs.Pieces.{Piece, text_of, Stand}
use Rattle.mir_lex.specs.declared.kind.LexFault.{LexFault}
use Rattle.mir_lex.specs.Tokens.{found_from}
use Rattle.mir_lex.proofs.PiecesFound.{fewer_pieces}
use Rattle.mir_lex.proofs.PiecesSound.{cut}
use Rattle.mir_symbols.specs.declared.scan.Symbols.{Symbols}
use Rattle.mir_symbols.specs.Scan.{no_symbols, scan_from, scan}
use Rattle.mir_symbols.specs.Found.{IsFault, IsSymbolsOf}
use Rattle.mir_symbols.proofs.Pieces.{after, after-symbols, after-lines, after-strings, after-line, after-fault, pieces-scanned}
use Rattle.mir_symbols.proofs.Faults.{byte_fault, fault_found, fault_some}

abbrev Ended : List ℕ → Type 0
Ended left = (left ≡ []) ⊎ ((code : ℕ) × (found_from left ≡ Err code))

-- how the last turn ends
record Ends (n : ℕ) (found : Symbols) (left : List ℕ) : Type 0 where
  fault : Option LexFault
  is : scan_from (suc n) found left ≡ record found { fault = fault }
  says : IsFault found.end_line left fault

ends : (n : ℕ) (found : Symbols) (left : List ℕ) → found.fault ≡ None → Ended left → Ends n found left
unfolding scan_from
ends n found [] none e = record { fault = None; is = ap (λ fault. record found { fault = fault }) none; says = refl }
ends n found (b ∷ bs) none (inl e) = absurd cc
ends n found (b ∷ bs) none (inr e) = record {
  fault = Some (record { code = e.0; line = found.end_line });
  is = rw e.1 refl;
  says = (byte_fault b bs e.0 e.1, refl);
}

-- a text that is cut is scanned piece by piece
cut-scanned : (bs : List ℕ) (ps : List Piece) (left : List ℕ) → bs ≡ text_of ps ++ left → Stand ps left
    → scan bs ≡ scan_from (suc (length bs - length ps)) (after no_symbols ps) left
unfolding scan
cut-scanned bs ps left whole stand =
    let few : length ps ≤ length bs = omega (arith, fewer_pieces ps, length-append (text_of ps) left, ap length whole) in
    let turns : suc (length bs) ≡ suc (length bs - length ps) + length ps = omega arith in
    ap (scan_from (suc (length bs)) no_symbols) whole ∙ pieces-scanned ps (suc (length bs)) (suc (length bs - length ps)) no_symbols left stand turns

pub scan_cut : (bs : List ℕ) → IsSymbolsOf bs (scan bs)
scan_cut bs =
    let c = cut bs in
    let found = after no_symbols c.pieces in
    let last = ends (length bs - length c.pieces) found c.left (after-fault no_symbols c.pieces) c.ended in
    let e = cut-scanned bs c.pieces c.left c.whole c.stand ∙ last.is in
    record {
      pieces = c.pieces;
      left = c.left;
      cut = record { whole = c.whole; stand = c.stand };
      symbols = ap (λ r. r.symbols) e ∙ after-symbols no_symbols c.pieces;
      lines = ap (λ r. r.lines) e ∙ after-lines no_symbols c.pieces;
      strings = ap (λ r. r.strings) e ∙ after-strings no_symbols c.pieces;
      end_line = ap (λ r. r.end_line) e ∙ after-line no_symbols c.pieces;
      fault = subst (λ n. IsFault n c.left (scan bs).fault) (after-line no_symbols c.pieces) (subst (λ f. IsFault found.end_line c.left f) (ap (λ r. r.fault) (sym e)) last.says);
    }

ends_as : (n : ℕ) (found : Symbols) (left : List ℕ) (fault : Option LexFault) → found.fault ≡ None → IsFault found.end_line left fault → scan_from (suc n) found left ≡ record found { fault = fault }
unfolding scan_from
ends_as n found [] None none e = ap (λ fault. record found { fault = fault }) none
ends_as n found (b ∷ bs) None none e = absurd cc
ends_as n found [] (Some fault) none e = absurd (omega (arith, fault_some [] fault.code e.0))
ends_as n found (b ∷ bs) (Some fault) none e = rw (fault_found (b ∷ bs) fault.code e.0, ← e.1) refl

same : (found other : Symbols) → found.symbols ≡ other.symbols → found.lines ≡ other.lines → found.strings ≡ other.strings → found.fault ≡ other.fault → found.end_line ≡ other.end_line → found ≡ other
same found other a b c d e = λ i. record { symbols = a i; lines = b i; strings = c i; fault = d i; end_line = e i }

pub scan_once : (bs : List ℕ) (other : Symbols) → IsSymbolsOf bs other → other ≡ scan bs
scan_once bs other is =
    let found = after no_symbols is.pieces in
    let line = after-line no_symbols is.pieces in
    let last = ends_as (length bs - length is.pieces) found is.left other.fault (after-fault no_symbols is.pieces) (subst (λ n. IsFault n is.left other.fault) (sym line) is.fault) in
    let e = cut-scanned bs is.pieces is.left is.cut.whole is.cut.stand ∙ last in
    same other (record found { fault = other.fault }) (is.symbols ∙ sym (after-symbols no_symbols is.pieces)) (is.lines ∙ sym (after-lines no_symbols is.pieces))
    (is.strings ∙ sym (after-strings no_symbols is.pieces)) refl (is.end_line ∙ sym line)
    ∙ sym e

pub scanned : {E : Type 0} (bs : List ℕ) (r : Result Symbols E) → IfOk r (λ found. found ≡ scan bs) → IfOk r (λ found. IsSymbolsOf bs found)
scanned bs (Ok found) h = subst (IsSymbolsOf bs) (sym h) (scan_cut bs)
scanned bs (Err e) h = tt

pub scanned_once : {E : Type 0} (bs : List ℕ) (r : Result Symbols E) → IfOk r (λ found. found ≡ scan bs) → IfOk r (λ found. (other : Symbols) → IsSymbolsOf bs other → other ≡ found)
scanned_once bs (Ok found) h = λ other is. scan_once bs other is ∙ sym h
scanned_once bs (Err e) h = tt
