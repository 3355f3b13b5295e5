-- Where no piece is found: the faults of bytes.
use Rattle.std.proofs.Common.{◌≡◌, ℕ, suc, ◌+◌, ◌<◌, ◌≤◌, inl, inr, ◌^◌, Bool, true, false, ◌==◌, nat_lt, List, [], ◌∷◌, ◌++◌, length, take, drop, Result, Ok, Err, Option, Some, None, refl, sym, ap, ◌∙◌, subst, arith}
use Rattle.std.proofs.lemmas.List.{take-append-drop}
use Rattle.std.proofs.lemmas.Bool.{eqb-true}
use Rattle.std.proofs.lemmas.Bool.Decides.{nat_tests}
use Rattle.std.specs.List.{prefix_len}
use Rattle.std.specs.Char.{is_ascii_digit}
use Rattle.std.specs.Str.Parse.{digits_value}
use Rattle.mir_text.specs.Bytes.{begins, is_blank, AreAll}
use Rattle.mir_text.specs.Pieces.{taken_next, IsContent, text}
use Rattle.mir_text.specs.ReadFaults.{NoPiece, LargeNumber, OpenString, IsByteFault}
use Rattle.mir_lex.specs.declared.scan.Found.{Found}
use Rattle.mir_lex.specs.Tokens.{number_of, number_with, number_at, text_past, text_with, token_at, found_token, found_at, found_from}
use Rattle.mir_lex.specs.Pieces.{FaultAt}
use Rattle.mir_lex.proofs.PiecesFound.{run-front, by_digit}
use Rattle.mir_lex.proofs.PiecesSound.{on, run-all, run-stops, found_sound, fault_sound}

-- ---- a fault that is found is one

too-large : (ds bs : List ℕ) (code : ℕ) → found_token (number_with (number_of ds) bs) ≡ Err code → 2 ^ 128 ≤ digits_value 10 ds
unfolding number_of
too-large ds bs code h = on (nat_lt (digits_value 10 ds) (2 ^ 128))
    (λ e. let h1 = rw e at h in absurd cc)
    (λ e. grind (arith, nat_tests))

large-fault : (b : ℕ) (bs : List ℕ) (code : ℕ) → is_ascii_digit b ≡ true → found_at b bs ≡ Err code → LargeNumber (b ∷ bs)
unfolding number_at
large-fault b bs code e h =
    let n = prefix_len is_ascii_digit bs in
    let one : 1 + n ≡ suc n = omega arith in
    let whole : b ∷ bs ≡ (b ∷ take n bs) ++ drop n bs = ap (λ l. b ∷ l) (sym (take-append-drop n bs)) in
    let digits : take (prefix_len is_ascii_digit (b ∷ bs)) (b ∷ bs) ≡ b ∷ take n bs = rw (e, one) refl in
    let h1 : found_token (number_with (number_of (b ∷ take n bs)) (drop (prefix_len is_ascii_digit (b ∷ bs)) (b ∷ bs))) ≡ Err code = rw (← digits) (sym (by_digit b bs e) ∙ h) in
    record {
      digit = b;
      digits = take n bs;
      rest = drop n bs;
      front = whole;
      are_digits = (e, run-all is_ascii_digit bs);
      whole = run-stops is_ascii_digit bs;
      large = too-large (b ∷ take n bs) (drop (prefix_len is_ascii_digit (b ∷ bs)) (b ∷ bs)) code h1;
    }

string-fault : (bs : List ℕ) (code : ℕ) → FaultAt (34 ∷ bs) code → OpenString (34 ∷ bs)
string-fault bs code none = record {
  past = bs;
  front = refl;
  open_ended = (λ content rest is whole. none.0 (text content) rest (record { whole = ap (λ l. 34 ∷ l) (whole ∙ sym (quoted content rest)); is = is; ends = tt }));
}
  where
    quoted : (content rest : List ℕ) → (content ++ 34 ∷ []) ++ rest ≡ content ++ 34 ∷ rest
    quoted [] rest = refl
    quoted (b ∷ content) rest = ap (λ l. b ∷ l) (quoted content rest)

not-quote : (b : ℕ) → (b == 34) ≡ false → b ≡ 34 → ⊥
not-quote b e h = let e1 = rw h at e in absurd cc

pub byte_fault : (b : ℕ) (bs : List ℕ) (code : ℕ) → found_at b bs ≡ Err code → IsByteFault (b ∷ bs) code
byte_fault b bs code h =
    let none = fault_sound b bs code h in
    on (is_ascii_digit b)
    (λ d. let c : code ≡ 2 = none.1 ∙ rw d refl in inr (inl (c, large-fault b bs code d h)))
    (λ d. on (b == 34)
    (λ q. let c : code ≡ 3 = none.1 ∙ rw (d, q) refl in
    inr (inr (c, subst (λ x. OpenString (x ∷ bs)) (sym (eqb-true b 34 q)) (string-fault bs code (subst (λ x. FaultAt (x ∷ bs) code) (eqb-true b 34 q) none)))))
    (λ q. let c : code ≡ 1 = none.1 ∙ rw (d, q) refl in
    inl (
      c,
      record {
        byte = b;
        past = bs;
        front = refl;
        no_digit = d;
        no_quote = not-quote b q;
        no_piece = (λ p rest is ends whole. none.0 p rest (record { whole = whole; is = is; ends = ends }));
      },
    )))

-- ---- a fault is found

too-large-found : (ds bs : List ℕ) → 2 ^ 128 ≤ digits_value 10 ds → ◌≡◌ {A = Result (Found × List ℕ) ℕ} (found_token (number_with (number_of ds) bs)) (Err 2)
unfolding number_of
too-large-found ds bs large = let e : nat_lt (digits_value 10 ds) (2 ^ 128) ≡ false = grind (arith, nat_tests) in rw e refl

large-found : (left : List ℕ) → LargeNumber left → found_from left ≡ Err 2
unfolding number_at
large-found left x =
    let all : AreAll is_ascii_digit (x.digit ∷ x.digits) = x.are_digits in
    let ds = x.digit ∷ x.digits in
    ap found_from x.front
    ∙ by_digit x.digit (x.digits ++ x.rest) x.are_digits.0
    ∙ ap (λ l. found_token (number_with (number_of l) (drop (prefix_len is_ascii_digit (ds ++ x.rest)) (ds ++ x.rest)))) (run-front is_ascii_digit ds x.rest all x.whole)
    ∙ too-large-found ds (drop (prefix_len is_ascii_digit (ds ++ x.rest)) (ds ++ x.rest)) x.large

-- a string that is closed has content
record HasContent (taken : Bool) (bs : List ℕ) : Type 0 where
  content : List ℕ
  rest : List ℕ
  whole : bs ≡ content ++ 34 ∷ rest
  is : IsContent taken content

more-content : (taken : Bool) (b : ℕ) (bs : List ℕ) → (b == 10) ≡ false → (taken ≡ false → (b == 34) ≡ false) → HasContent (taken_next taken b) bs → HasContent taken (b ∷ bs)
more-content taken b bs e q c = record { content = b ∷ c.content; rest = c.rest; whole = ap (λ l. b ∷ l) c.whole; is = (e, q, c.is) }

closed : (taken : Bool) (bs rest : List ℕ) → text_past taken bs ≡ Some rest → HasContent taken bs
closed taken [] rest h = absurd cc
closed true (b ∷ bs) rest h = on (b == 10)
    (λ e. let h1 = rw e at h in absurd cc)
    (λ e. more-content true b bs e (λ c. absurd cc) (closed false bs rest (rw e at h)))
closed false (b ∷ bs) rest h = on (b == 10)
    (λ e. let h1 = rw e at h in absurd cc)
    (λ e. let h1 = rw e at h in on (b == 34)
    (λ q. record { content = []; rest = bs; whole = ap (λ x. x ∷ bs) (eqb-true b 34 q); is = refl })
    (λ q. more-content false b bs e (λ _. q) (closed (b == 92) bs rest (rw q at h1))))

open-by : (bs : List ℕ) (past : Option (List ℕ)) → text_past false bs ≡ past → ((content rest : List ℕ) → IsContent false content → bs ≡ content ++ 34 ∷ rest → ⊥) → ◌≡◌ {A = Result (Found × List ℕ) ℕ} (found_token (text_with past)) (Err 3)
open-by bs None e none = refl
open-by bs (Some rest) e none = let c = closed false bs rest e in absurd (none c.content c.rest c.is c.whole)

open-found : (left : List ℕ) → OpenString left → found_from left ≡ Err 3
unfolding found_at token_at
open-found left x = ap found_from x.front ∙ open-by x.past (text_past false x.past) refl x.open_ended

none-by : (b : ℕ) (bs : List ℕ) (found : Result (Found × List ℕ) ℕ) → found_at b bs ≡ found → is_ascii_digit b ≡ false → (b ≡ 34 → ⊥) → NoPiece (b ∷ bs) → found_at b bs ≡ Err 1
none-by b bs (Ok q) e digit quote x =
    let one = found_sound b bs q.0 q.1 e in
    absurd (x.no_piece one.piece q.1 one.is one.ends one.whole)
none-by b bs (Err c) e digit quote x =
    let code = (fault_sound b bs c e).1 in
    let q : (b == 34) ≡ false = on (b == 34) (λ q. absurd (quote (eqb-true b 34 q))) (λ q. q) in
    e ∙ ap (λ c. Err c) (code ∙ rw (digit, q) refl)

none-found : (left : List ℕ) → NoPiece left → found_from left ≡ Err 1
none-found left x =
    ap found_from x.front ∙ none-by x.byte x.past (found_at x.byte x.past) refl x.no_digit x.no_quote (subst NoPiece x.front x)

pub fault_found : (left : List ℕ) (code : ℕ) → IsByteFault left code → found_from left ≡ Err code
fault_found left code (inl h) = none-found left h.1 ∙ ap (λ c. Err c) (sym h.0)
fault_found left code (inr (inl h)) = large-found left h.1 ∙ ap (λ c. Err c) (sym h.0)
fault_found left code (inr (inr h)) = open-found left h.1 ∙ ap (λ c. Err c) (sym h.0)

front-some : (left rest : List ℕ) (b : ℕ) → left ≡ b ∷ rest → 0 < length left
front-some left rest b e = omega (arith, ap length e)

pub fault_some : (left : List ℕ) (code : ℕ) → IsByteFault left code → 0 < length left
fault_some left code (inl h) = front-some left h.1.past h.1.byte h.1.front
fault_some left code (inr (inl h)) = front-some left (h.1.digits ++ h.1.rest) h.1.digit h.1.front
fault_some left code (inr (inr h)) = front-some left h.1.past 34 h.1.front
