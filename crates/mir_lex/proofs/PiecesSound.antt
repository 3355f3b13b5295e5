-- What is found at the front of a text is a piece that stands there.
use Rattle.std.proofs.Common.{◌≡◌, ℕ, zero, suc, ◌+◌, ◌-◌, ◌<◌, ◌≤◌, ◌⊎◌, inl, inr, ◌^◌, Bool, true, false, ◌==◌, nat_lt, List, [], ◌∷◌, ◌++◌, length, take, drop, Result, Ok, Err, Option, Some, None, refl, sym, ap, ◌∙◌, arith, append_assoc, length-append}
use Rattle.std.proofs.lemmas.Bool.Decides.{nat_tests}
use Rattle.std.specs.List.{prefix_len}
use Rattle.std.specs.Char.{is_ascii_digit, is_ascii_alphabetic}
use Rattle.std.specs.Str.Parse.{digits_value}
use Rattle.mir_syntax.specs.declared.types.IntTy.{IntTy}
use Rattle.mir_lex.specs.declared.kind.Kind.{Kind}
use Rattle.mir_lex.specs.declared.kind.Kind.TheVariants as k
use Rattle.mir_lex.specs.declared.kind.Token.{Token}
use Rattle.mir_lex.specs.declared.kind.Lexed.{Lexed}
use Rattle.mir_lex.specs.declared.scan.Found.{Found}
use Rattle.mir_lex.specs.declared.scan.Found.TheVariants as f
use Rattle.std.proofs.Common.{subst}
use Rattle.std.proofs.lemmas.List.{take-append-drop}
use Rattle.std.proofs.lemmas.Bool.{eqb-true}
use Rattle.std.proofs.lemmas.Slice.Eq.{bytes_eq-Decides}
use Rattle.std.specs.List.{starts_with}
use Rattle.std.specs.Prelude.{nat_eq}
use Rattle.mir_lex.proofs.PiecesFound.{piece-found, pieces-lexed, fewer_pieces, some_bytes}
use Rattle.mir_lex.specs.declared.kind.LexFault.{LexFault}
use Rattle.mir_lex.specs.Tokens.{digits_front, digits_rest, found_from, sign_two, number_of, number_at, number_with, suffixed, local_of, kind_of, word_at, underscore_at, text_past, text_with, sign_at, token_at, found_token, slash_at, found_at, lexed_from, lexed}
use Rattle.mir_text.specs.Bytes.{suffix_in, suffixes, begins, is_blank, is_in_line, is_name_byte, suffix_at, suffix_text, AreAll}
use Rattle.mir_text.specs.Pieces.{Mark, open_paren, close_paren, open_brace, close_brace, open_bracket, close_bracket, comma, semicolon, colon, colons, dot, ampersand, star, exclamation, equals, hash, minus, arrow, fat_arrow, less, greater, bar, question, mark_text, Piece, blank, line, comment, local, number, typed, text, word, under, mark, spelled, taken_next, IsContent, ends_mark, Ends, text_of, Stand, line_past}
use Rattle.mir_lex.specs.Pieces.{mark_place, found_of, tokens_of, Front, IsFound, fault_code, FaultAt, EndsAt, Lexes}

-- ---- tests

pub on : {R : Type 0} (c : Bool) → (c ≡ true → R) → (c ≡ false → R) → R
on true k_true k_false = k_true refl
on false k_true k_false = k_false refl

ok_same : {A : Type 0} (x y : A) → ◌≡◌ {A = Result A ℕ} (Ok x) (Ok y) → x ≡ y
ok_same x y h = cc

some_same : {A : Type 0} (x y : A) → ◌≡◌ {A = Option A} (Some x) (Some y) → x ≡ y
some_same x y h = cc

-- ---- runs

run-whole : (p : ℕ → Bool) (bs : List ℕ) → bs ≡ take (prefix_len p bs) bs ++ drop (prefix_len p bs) bs
run-whole p bs = sym (take-append-drop (prefix_len p bs) bs)

run-more : (p : ℕ → Bool) (b : ℕ) (bs : List ℕ) → p b ≡ true → take (prefix_len p (b ∷ bs)) (b ∷ bs) ≡ b ∷ take (prefix_len p bs) bs
run-more p b bs e = let one : 1 + prefix_len p bs ≡ suc (prefix_len p bs) = omega arith in rw (e, one) refl

run-past : (p : ℕ → Bool) (b : ℕ) (bs : List ℕ) → p b ≡ true → drop (prefix_len p (b ∷ bs)) (b ∷ bs) ≡ drop (prefix_len p bs) bs
run-past p b bs e = let one : 1 + prefix_len p bs ≡ suc (prefix_len p bs) = omega arith in rw (e, one) refl

pub run-all : (p : ℕ → Bool) (bs : List ℕ) → AreAll p (take (prefix_len p bs) bs)
run-all p [] = tt
run-all p (b ∷ bs) = on (p b) (λ e. rw (run-more p b bs e) (e, run-all p bs)) (λ e. rw e tt)

pub run-stops : (p : ℕ → Bool) (bs : List ℕ) → begins p (drop (prefix_len p bs) bs) ≡ false
run-stops p [] = refl
run-stops p (b ∷ bs) = on (p b) (λ e. rw (run-past p b bs e) (run-stops p bs)) (λ e. rw e e)

-- ---- numbers

value-sound : {R : Type 0} (ds : List ℕ) (n : ℕ) → number_of ds ≡ Some n → (digits_value 10 ds ≡ n → digits_value 10 ds < 2 ^ 128 → R) → R
unfolding number_of
value-sound ds n h k = on (nat_lt (digits_value 10 ds) (2 ^ 128))
    (λ e. let h1 = rw e at h in let l : digits_value 10 ds < 2 ^ 128 = grind (arith, nat_tests) in k (some_same _ _ h1) l)
    (λ e. let h1 = rw e at h in absurd cc)

begins_with : (bs needle : List ℕ) → starts_with nat_eq bs needle ≡ true → bs ≡ needle ++ drop (length needle) bs
begins_with bs needle h =
    let e : needle ≡ take (length needle) bs = (bytes_eq-Decides needle (take (length needle) bs)).0 h in
    sym (take-append-drop (length needle) bs) ∙ ap (λ l. l ++ drop (length needle) bs) (sym e)

abbrev AreSuffixes : List (List ℕ × IntTy) → Type 0
AreSuffixes [] = Unit {0}
AreSuffixes (s ∷ ss) = (s.0 ≡ suffix_text s.1) × AreSuffixes ss

suffix_in-sound : (ss : List (List ℕ × IntTy)) (bs : List ℕ) (t : IntTy) (rest : List ℕ) → AreSuffixes ss → suffix_in ss bs ≡ Some (t, rest) → bs ≡ suffix_text t ++ rest
suffix_in-sound [] bs t rest a h = absurd cc
suffix_in-sound (s ∷ ss) bs t rest a h = on (starts_with nat_eq bs s.0)
    (λ e. let h1 = rw e at h in
    let same = some_same _ _ h1 in
    begins_with bs s.0 e ∙ ap (λ l. l ++ drop (length s.0) bs) a.0 ∙ ap (λ q. suffix_text q.0 ++ q.1) same)
    (λ e. suffix_in-sound ss bs t rest a.1 (rw e at h))

suffix-sound : (bs : List ℕ) (t : IntTy) (rest : List ℕ) → suffix_at bs ≡ Some (t, rest) → bs ≡ suffix_text t ++ rest
unfolding suffix_at
suffix-sound bs t rest h = suffix_in-sound suffixes bs t rest ((refl, (refl, (refl, (refl, (refl, (refl, (refl, (refl, (refl, (refl, (refl, (refl, tt))))))))))))) h

suffixed-sound : (d : ℕ) (ds bs : List ℕ) (n : ℕ) (s : Option (IntTy × List ℕ)) (kind : Kind) (rest : List ℕ) → suffix_at bs ≡ s → digits_value 10 (d ∷ ds) ≡ n → digits_value 10 (d ∷ ds) < 2 ^ 128
    → AreAll is_ascii_digit (d ∷ ds) → begins is_ascii_digit bs ≡ false → suffixed n bs s ≡ (kind, rest) → IsFound ((d ∷ ds) ++ bs) (f.Token kind) rest
suffixed-sound d ds bs n None kind rest e v l a b h =
    record {
      piece = number d ds;
      whole = ap (λ q. (d ∷ ds) ++ q.1) h;
      is = (a, l);
      ends = subst (λ (r : List ℕ). (begins is_ascii_digit r ≡ false) × (suffix_at r ≡ None)) (ap (λ q. q.1) h) (b, e);
      found = ap (λ m. f.Token (k.Number m None)) v ∙ ap (λ q. f.Token q.0) h;
    }
suffixed-sound d ds bs n (Some s) kind rest e v l a b h =
    record {
      piece = typed d ds s.0;
      whole = ap (λ r. (d ∷ ds) ++ r) (suffix-sound bs s.0 s.1 e ∙ ap (λ q. suffix_text s.0 ++ q.1) h) ∙ sym (append_assoc (d ∷ ds) (suffix_text s.0) rest);
      is = (a, l);
      ends = tt;
      found = ap (λ m. f.Token (k.Number m (Some s.0))) v ∙ ap (λ q. f.Token q.0) h;
    }

number-by : (d : ℕ) (ds bs : List ℕ) (v : Option ℕ) (kind : Kind) (rest : List ℕ) → number_of (d ∷ ds) ≡ v → AreAll is_ascii_digit (d ∷ ds) → begins is_ascii_digit bs ≡ false
    → number_with v bs ≡ Ok (kind, rest) → IsFound ((d ∷ ds) ++ bs) (f.Token kind) rest
number-by d ds bs None kind rest v a b h = absurd cc
number-by d ds bs (Some n) kind rest v a b h = value-sound (d ∷ ds) n v (λ e l. suffixed-sound d ds bs n (suffix_at bs) kind rest refl e l a b (ok_same _ _ h))

-- a text that is its run and the rest
abbrev run : (ℕ → Bool) → List ℕ → List ℕ
run p bs = take (prefix_len p bs) bs

abbrev past : (ℕ → Bool) → List ℕ → List ℕ
past p bs = drop (prefix_len p bs) bs

number-sound : (d : ℕ) (bs : List ℕ) (kind : Kind) (rest : List ℕ) → is_ascii_digit d ≡ true → number_at (d ∷ bs) ≡ Ok (kind, rest) → IsFound (d ∷ bs) (f.Token kind) rest
unfolding number_at
number-sound d bs kind rest e h =
    let more = run-more is_ascii_digit d bs e in
    let over = run-past is_ascii_digit d bs e in
    let h1 : number_with (number_of (d ∷ run is_ascii_digit bs)) (past is_ascii_digit bs) ≡ Ok (kind, rest) = rw (← more, ← over) h in
    subst (λ (l : List ℕ). IsFound (d ∷ l) (f.Token kind) rest) (sym (run-whole is_ascii_digit bs))
    (number-by d (run is_ascii_digit bs) (past is_ascii_digit bs) (number_of (d ∷ run is_ascii_digit bs)) kind rest refl (e, run-all is_ascii_digit bs) (run-stops is_ascii_digit bs) h1)

-- ---- words and locals

word-sound : (b : ℕ) (bs : List ℕ) (kind : Kind) (rest : List ℕ) → is_ascii_alphabetic b ≡ true → ◌≡◌ {A = Kind × List ℕ} (word_at (b ∷ bs)) (kind, rest) → IsFound (b ∷ bs) (f.Token kind) rest
unfolding word_at
word-sound b bs kind rest e h =
    let n : is_name_byte b ≡ true = rw e refl in
    let h1 : ◌≡◌ {A = Kind × List ℕ} (kind_of (b ∷ run is_name_byte bs), past is_name_byte bs) (kind, rest) = rw (← run-more is_name_byte b bs n, ← run-past is_name_byte b bs n) h in
    record {
      piece = word b (run is_name_byte bs);
      whole = ap (λ l. b ∷ l) (run-whole is_name_byte bs) ∙ ap (λ q. b ∷ (run is_name_byte bs ++ q.1)) h1;
      is = (e, run-all is_name_byte bs);
      ends = subst (λ (r : List ℕ). begins is_name_byte r ≡ false) (ap (λ q. q.1) h1) (run-stops is_name_byte bs);
      found = ap (λ q. f.Token q.0) h1;
    }

under-sound : (b : ℕ) (bs : List ℕ) (kind : Kind) (rest : List ℕ) → is_ascii_digit b ≡ false → is_name_byte b ≡ true → word_at (95 ∷ b ∷ bs) ≡ (kind, rest) → IsFound (95 ∷ b ∷ bs) (f.Token kind) rest
unfolding word_at
under-sound b bs kind rest d n h =
    let more = run-more is_name_byte 95 (b ∷ bs) refl ∙ ap (λ l. 95 ∷ l) (run-more is_name_byte b bs n) in
    let over = run-past is_name_byte 95 (b ∷ bs) refl ∙ run-past is_name_byte b bs n in
    let h1 : ◌≡◌ {A = Kind × List ℕ} (kind_of (95 ∷ b ∷ run is_name_byte bs), past is_name_byte bs) (kind, rest) = rw (← more, ← over) h in
    record {
      piece = under b (run is_name_byte bs);
      whole = ap (λ l. 95 ∷ b ∷ l) (run-whole is_name_byte bs) ∙ ap (λ q. 95 ∷ b ∷ (run is_name_byte bs ++ q.1)) h1;
      is = (d, (n, run-all is_name_byte bs));
      ends = subst (λ (r : List ℕ). begins is_name_byte r ≡ false) (ap (λ q. q.1) h1) (run-stops is_name_byte bs);
      found = ap (λ q. f.Token q.0) h1;
    }

local-sound : (d : ℕ) (bs : List ℕ) (kind : Kind) (rest : List ℕ) → is_ascii_digit d ≡ true → ◌≡◌ {A = Kind × List ℕ} (local_of (d ∷ run is_ascii_digit bs), past is_ascii_digit bs) (kind, rest) → IsFound (95 ∷ d ∷ bs) (f.Token kind) rest
local-sound d bs kind rest e h =
    record {
      piece = local d (run is_ascii_digit bs);
      whole = ap (λ l. 95 ∷ d ∷ l) (run-whole is_ascii_digit bs) ∙ ap (λ q. 95 ∷ d ∷ (run is_ascii_digit bs ++ q.1)) h;
      is = (e, run-all is_ascii_digit bs);
      ends = subst (λ (r : List ℕ). begins is_ascii_digit r ≡ false) (ap (λ q. q.1) h) (run-stops is_ascii_digit bs);
      found = ap (λ q. f.Token q.0) h;
    }

underscore-sound : (bs : List ℕ) (kind : Kind) (rest : List ℕ) → underscore_at bs ≡ Ok (kind, rest) → IsFound (95 ∷ bs) (f.Token kind) rest
unfolding underscore_at
underscore-sound [] kind rest h = absurd cc
underscore-sound (b ∷ bs) kind rest h = on (is_ascii_digit b)
    (λ e. local-sound b bs kind rest e (ok_same _ _ (rw (run-more is_ascii_digit b bs e, run-past is_ascii_digit b bs e, e) at h)))
    (λ e. on (is_name_byte b)
    (λ n. under-sound b bs kind rest e n (ok_same _ _ (rw (n, e) at h)))
    (λ n. let h2 = rw (n, e) at h in absurd cc))

-- ---- strings

-- a string's content, before what follows its closing quote
record HasContent (taken : Bool) (bs rest : List ℕ) : Type 0 where
  content : List ℕ
  whole : bs ≡ content ++ 34 ∷ rest
  is : IsContent taken content

more-content : (taken : Bool) (b : ℕ) (bs rest : List ℕ) → (b == 10) ≡ false → (taken ≡ false → (b == 34) ≡ false) → HasContent (taken_next taken b) bs rest → HasContent taken (b ∷ bs) rest
more-content taken b bs rest e q c = record { content = b ∷ c.content; whole = ap (λ l. b ∷ l) c.whole; is = (e, q, c.is) }

text-sound : (taken : Bool) (bs rest : List ℕ) → text_past taken bs ≡ Some rest → HasContent taken bs rest
text-sound taken [] rest h = absurd cc
text-sound true (b ∷ bs) rest h = on (b == 10)
    (λ e. let h1 = rw e at h in absurd cc)
    (λ e. more-content true b bs rest e (λ c. absurd cc) (text-sound false bs rest (rw e at h)))
text-sound false (b ∷ bs) rest h = on (b == 10)
    (λ e. let h1 = rw e at h in absurd cc)
    (λ e. let h1 = rw e at h in on (b == 34)
    (λ q. record { content = []; whole = rw (eqb-true b 34 q) (ap (λ l. 34 ∷ l) (some_same _ _ (rw q at h1))); is = refl })
    (λ q. more-content false b bs rest e (λ _. q) (text-sound (b == 92) bs rest (rw q at h1))))

quoted-sound : (bs : List ℕ) (kind : Kind) (rest : List ℕ) (o : Option (List ℕ)) → text_past false bs ≡ o → text_with o ≡ Ok (kind, rest) → IsFound (34 ∷ bs) (f.Token kind) rest
quoted-sound bs kind rest None e h = absurd cc
quoted-sound bs kind rest (Some r) e h =
    let same = ok_same _ _ h in
    let c = text-sound false bs r e in
    record {
      piece = text c.content;
      whole = ap (λ l. 34 ∷ l) (c.whole ∙ ap (λ q. c.content ++ 34 ∷ q.1) same ∙ sym (append_assoc c.content (34 ∷ []) rest));
      is = c.is;
      ends = tt;
      found = ap (λ q. f.Token q.0) same;
    }

-- ---- signs

mark-sound : (m : Mark) (b c : ℕ) (bs : List ℕ) (kind : Kind) (rest : List ℕ) → (b == c) ≡ true → mark_text m ≡ c ∷ [] → ends_mark m bs → ◌≡◌ {A = Result (Kind × List ℕ) ℕ} (Ok (k.Sign (mark_place m), bs)) (Ok (kind, rest)) → IsFound (b ∷ bs) (f.Token kind) rest
mark-sound m b c bs kind rest e t ends h =
    let same = ok_same _ _ h in
    record {
      piece = mark m;
      whole = ap (λ x. x ∷ bs) (eqb-true b c e) ∙ ap (λ l. l ++ bs) (sym t) ∙ ap (λ q. mark_text m ++ q.1) same;
      is = tt;
      ends = subst (λ (r : List ℕ). ends_mark m r) (ap (λ q. q.1) same) ends;
      found = ap (λ q. f.Token q.0) same;
    }

two-sound : (one two : Mark) (b c second : ℕ) (bs : List ℕ) (kind : Kind) (rest : List ℕ) → (b == c) ≡ true → mark_text one ≡ c ∷ [] → mark_text two ≡ c ∷ second ∷ []
    → ((r : List ℕ) → begins (λ x. x == second) r ≡ false → ends_mark one r) → ((r : List ℕ) → ends_mark two r)
    → ◌≡◌ {A = Result (Kind × List ℕ) ℕ} (Ok (sign_two second (mark_place two) (mark_place one) bs)) (Ok (kind, rest)) → IsFound (b ∷ bs) (f.Token kind) rest
two-sound one two b c second [] kind rest e t u ends ends2 h = mark-sound one b c [] kind rest e t (ends [] refl) h
two-sound one two b c second (x ∷ bs) kind rest e t u ends ends2 h = on (x == second)
    (λ q. let same = ok_same _ _ (rw q at h) in
    record {
      piece = mark two;
      whole = ap (λ y. y ∷ x ∷ bs) (eqb-true b c e) ∙ ap (λ y. c ∷ y ∷ bs) (eqb-true x second q) ∙ ap (λ l. l ++ bs) (sym u) ∙ ap (λ p. mark_text two ++ p.1) same;
      is = tt;
      ends = ends2 rest;
      found = ap (λ p. f.Token p.0) same;
    })
    (λ q. mark-sound one b c (x ∷ bs) kind rest e t (ends (x ∷ bs) q) (rw q at h))

sign-sound : (b : ℕ) (bs : List ℕ) (kind : Kind) (rest : List ℕ) → sign_at b bs ≡ Ok (kind, rest) → IsFound (b ∷ bs) (f.Token kind) rest
unfolding sign_at
sign-sound b bs kind rest h0 =
    on (b == 40) (λ e. mark-sound open_paren b 40 bs kind rest e refl tt (rw e at h0)) (λ e0. let h1 = rw e0 at h0 in
    on (b == 41) (λ e. mark-sound close_paren b 41 bs kind rest e refl tt (rw e at h1)) (λ e1. let h2 = rw e1 at h1 in
    on (b == 123) (λ e. mark-sound open_brace b 123 bs kind rest e refl tt (rw e at h2)) (λ e2. let h3 = rw e2 at h2 in
    on (b == 125) (λ e. mark-sound close_brace b 125 bs kind rest e refl tt (rw e at h3)) (λ e3. let h4 = rw e3 at h3 in
    on (b == 91) (λ e. mark-sound open_bracket b 91 bs kind rest e refl tt (rw e at h4)) (λ e4. let h5 = rw e4 at h4 in
    on (b == 93) (λ e. mark-sound close_bracket b 93 bs kind rest e refl tt (rw e at h5)) (λ e5. let h6 = rw e5 at h5 in
    on (b == 44) (λ e. mark-sound comma b 44 bs kind rest e refl tt (rw e at h6)) (λ e6. let h7 = rw e6 at h6 in
    on (b == 59) (λ e. mark-sound semicolon b 59 bs kind rest e refl tt (rw e at h7)) (λ e7. let h8 = rw e7 at h7 in
    on (b == 58) (λ e. two-sound colon colons b 58 58 bs kind rest e refl refl (λ r q. q) (λ r. tt) (rw e at h8)) (λ e8. let h9 = rw e8 at h8 in
    on (b == 46) (λ e. mark-sound dot b 46 bs kind rest e refl tt (rw e at h9)) (λ e9. let h10 = rw e9 at h9 in
    on (b == 38) (λ e. mark-sound ampersand b 38 bs kind rest e refl tt (rw e at h10)) (λ e10. let h11 = rw e10 at h10 in
    on (b == 42) (λ e. mark-sound star b 42 bs kind rest e refl tt (rw e at h11)) (λ e11. let h12 = rw e11 at h11 in
    on (b == 33) (λ e. mark-sound exclamation b 33 bs kind rest e refl tt (rw e at h12)) (λ e12. let h13 = rw e12 at h12 in
    on (b == 61) (λ e. two-sound equals fat_arrow b 61 62 bs kind rest e refl refl (λ r q. q) (λ r. tt) (rw e at h13)) (λ e13. let h14 = rw e13 at h13 in
    on (b == 35) (λ e. mark-sound hash b 35 bs kind rest e refl tt (rw e at h14)) (λ e14. let h15 = rw e14 at h14 in
    on (b == 45) (λ e. two-sound minus arrow b 45 62 bs kind rest e refl refl (λ r q. q) (λ r. tt) (rw e at h15)) (λ e15. let h16 = rw e15 at h15 in
    on (b == 60) (λ e. mark-sound less b 60 bs kind rest e refl tt (rw e at h16)) (λ e16. let h17 = rw e16 at h16 in
    on (b == 62) (λ e. mark-sound greater b 62 bs kind rest e refl tt (rw e at h17)) (λ e17. let h18 = rw e17 at h17 in
    on (b == 124) (λ e. mark-sound bar b 124 bs kind rest e refl tt (rw e at h18)) (λ e18. let h19 = rw e18 at h18 in
    on (b == 63) (λ e. mark-sound question b 63 bs kind rest e refl tt (rw e at h19)) (λ e19. let h20 = rw e19 at h19 in
    absurd cc))))))))))))))))))))

-- ---- what is found

token-sound : (b : ℕ) (bs : List ℕ) (kind : Kind) (rest : List ℕ) → token_at b bs ≡ Ok (kind, rest) → IsFound (b ∷ bs) (f.Token kind) rest
unfolding token_at
token-sound b bs kind rest h0 =
    on (is_ascii_digit b) (λ e. number-sound b bs kind rest e (rw e at h0)) (λ e0. let h1 = rw e0 at h0 in
    on (is_ascii_alphabetic b) (λ e. word-sound b bs kind rest e (ok_same _ _ (rw e at h1))) (λ e1. let h2 = rw e1 at h1 in
    on (b == 95) (λ e. subst (λ x. IsFound (x ∷ bs) (f.Token kind) rest) (sym (eqb-true b 95 e)) (underscore-sound bs kind rest (rw e at h2))) (λ e2. let h3 = rw e2 at h2 in
    on (b == 34) (λ e. subst (λ x. IsFound (x ∷ bs) (f.Token kind) rest) (sym (eqb-true b 34 e)) (quoted-sound bs kind rest (text_past false bs) refl (rw e at h3)))
    (λ e3. sign-sound b bs kind rest (rw e3 at h3)))))

found_token-sound : (text : List ℕ) (t : Result (Kind × List ℕ) ℕ) (fd : Found) (rest : List ℕ) → ((kind : Kind) (r : List ℕ) → t ≡ Ok (kind, r) → IsFound text (f.Token kind) r) → found_token t ≡ Ok (fd, rest) → IsFound text fd rest
found_token-sound bs (Ok q) fd rest sound h = subst (λ (p : Found × List ℕ). IsFound bs p.0 p.1) (ok_same _ _ h) (sound q.0 q.1 refl)
found_token-sound bs (Err c) fd rest sound h = absurd cc

slash-sound : (bs : List ℕ) (fd : Found) (rest : List ℕ) → slash_at bs ≡ Ok (fd, rest) → IsFound (47 ∷ bs) fd rest
unfolding slash_at
slash-sound [] fd rest h = absurd cc
slash-sound (b ∷ bs) fd rest h = on (b == 47)
    (λ e. let b_is = eqb-true b 47 e in
    let h1 : ◌≡◌ {A = Result (Found × List ℕ) ℕ} (Ok (f.Comment, drop (prefix_len is_in_line (b ∷ bs)) (b ∷ bs))) (Ok (fd, rest)) = rw e at h in
    let inside : is_in_line b ≡ true = rw b_is refl in
    let same : ◌≡◌ {A = Found × List ℕ} (f.Comment, past is_in_line bs) (fd, rest) = rw (← run-past is_in_line b bs inside) (ok_same _ _ h1) in
    record {
      piece = comment (run is_in_line bs);
      whole = ap (λ x. 47 ∷ x ∷ bs) b_is ∙ ap (λ l. 47 ∷ 47 ∷ l) (run-whole is_in_line bs) ∙ ap (λ q. 47 ∷ 47 ∷ (run is_in_line bs ++ q.1)) same;
      is = run-all is_in_line bs;
      ends = subst (λ (r : List ℕ). begins is_in_line r ≡ false) (ap (λ q. q.1) same) (run-stops is_in_line bs);
      found = ap (λ q. q.0) same;
    })
    (λ e. let h1 = rw e at h in absurd cc)

pub found_sound : (b : ℕ) (bs : List ℕ) (fd : Found) (rest : List ℕ) → found_at b bs ≡ Ok (fd, rest) → IsFound (b ∷ bs) fd rest
unfolding found_at
found_sound b bs fd rest h0 =
    on (is_blank b) (λ e. let same = ok_same _ _ (rw e at h0) in
    record { piece = blank b; whole = ap (λ q. b ∷ q.1) same; is = e; ends = tt; found = ap (λ q. q.0) same }) (λ e0. let h1 = rw e0 at h0 in
    on (b == 10) (λ e. let same = ok_same _ _ (rw e at h1) in
    record { piece = line; whole = ap (λ x. x ∷ bs) (eqb-true b 10 e) ∙ ap (λ q. 10 ∷ q.1) same; is = tt; ends = tt; found = ap (λ q. q.0) same }) (λ e1. let h2 = rw e1 at h1 in
    on (b == 47) (λ e. subst (λ x. IsFound (x ∷ bs) fd rest) (sym (eqb-true b 47 e)) (slash-sound bs fd rest (rw e at h2)))
    (λ e2. found_token-sound (b ∷ bs) (token_at b bs) fd rest (token-sound b bs) (rw e2 at h2))))

-- ---- faults

err_same : {A : Type 0} (c d : ℕ) → ◌≡◌ {A = Result A ℕ} (Err c) (Err d) → d ≡ c
err_same c d h = cc

sign_two-ok : (second two one : ℕ) (bs : List ℕ) (code : ℕ) → ◌≡◌ {A = Result (Kind × List ℕ) ℕ} (Ok (sign_two second two one bs)) (Err code) → ⊥
sign_two-ok second two one bs code h = cc

sign-err : (b : ℕ) (bs : List ℕ) (code : ℕ) → sign_at b bs ≡ Err code → code ≡ 1
unfolding sign_at
sign-err b bs code h0 =
    on (b == 40) (λ e. let g = rw e at h0 in absurd cc) (λ e0. let h1 = rw e0 at h0 in
    on (b == 41) (λ e. let g = rw e at h1 in absurd cc) (λ e1. let h2 = rw e1 at h1 in
    on (b == 123) (λ e. let g = rw e at h2 in absurd cc) (λ e2. let h3 = rw e2 at h2 in
    on (b == 125) (λ e. let g = rw e at h3 in absurd cc) (λ e3. let h4 = rw e3 at h3 in
    on (b == 91) (λ e. let g = rw e at h4 in absurd cc) (λ e4. let h5 = rw e4 at h4 in
    on (b == 93) (λ e. let g = rw e at h5 in absurd cc) (λ e5. let h6 = rw e5 at h5 in
    on (b == 44) (λ e. let g = rw e at h6 in absurd cc) (λ e6. let h7 = rw e6 at h6 in
    on (b == 59) (λ e. let g = rw e at h7 in absurd cc) (λ e7. let h8 = rw e7 at h7 in
    on (b == 58) (λ e. let g = rw e at h8 in absurd cc) (λ e8. let h9 = rw e8 at h8 in
    on (b == 46) (λ e. let g = rw e at h9 in absurd cc) (λ e9. let h10 = rw e9 at h9 in
    on (b == 38) (λ e. let g = rw e at h10 in absurd cc) (λ e10. let h11 = rw e10 at h10 in
    on (b == 42) (λ e. let g = rw e at h11 in absurd cc) (λ e11. let h12 = rw e11 at h11 in
    on (b == 33) (λ e. let g = rw e at h12 in absurd cc) (λ e12. let h13 = rw e12 at h12 in
    on (b == 61) (λ e. let g = rw e at h13 in absurd cc) (λ e13. let h14 = rw e13 at h13 in
    on (b == 35) (λ e. let g = rw e at h14 in absurd cc) (λ e14. let h15 = rw e14 at h14 in
    on (b == 45) (λ e. let g = rw e at h15 in absurd cc) (λ e15. let h16 = rw e15 at h15 in
    on (b == 60) (λ e. let g = rw e at h16 in absurd cc) (λ e16. let h17 = rw e16 at h16 in
    on (b == 62) (λ e. let g = rw e at h17 in absurd cc) (λ e17. let h18 = rw e17 at h17 in
    on (b == 124) (λ e. let g = rw e at h18 in absurd cc) (λ e18. let h19 = rw e18 at h18 in
    on (b == 63) (λ e. let g = rw e at h19 in absurd cc) (λ e19. let h20 = rw e19 at h19 in
    err_same _ _ h20))))))))))))))))))))

with_err : (v : Option ℕ) (bs : List ℕ) (code : ℕ) → number_with v bs ≡ Err code → code ≡ 2
with_err None bs code h = err_same _ _ h
with_err (Some n) bs code h = absurd cc

number-err : (bs : List ℕ) (code : ℕ) → number_at bs ≡ Err code → code ≡ 2
unfolding number_at
number-err bs code h = with_err (number_of (digits_front bs)) (digits_rest bs) code h

underscore-err : (bs : List ℕ) (code : ℕ) → underscore_at bs ≡ Err code → code ≡ 1
unfolding underscore_at
underscore-err bs code h0 =
    on (begins is_ascii_digit bs) (λ e. let g = rw e at h0 in absurd cc) (λ e0. let h1 = rw e0 at h0 in
    on (begins is_name_byte bs) (λ e. let g = rw e at h1 in absurd cc) (λ e1. let h2 = rw e1 at h1 in
    err_same _ _ h2))

text_with-err : (o : Option (List ℕ)) (code : ℕ) → text_with o ≡ Err code → code ≡ 3
text_with-err None code h = err_same _ _ h
text_with-err (Some bs) code h = absurd cc

token-err : (b : ℕ) (bs : List ℕ) (code : ℕ) → token_at b bs ≡ Err code → code ≡ fault_code b
unfolding token_at
token-err b bs code h0 =
    on (is_ascii_digit b) (λ e. rw e (number-err (b ∷ bs) code (rw e at h0))) (λ e0. let h1 = rw e0 at h0 in
    on (is_ascii_alphabetic b) (λ e. let g = rw e at h1 in absurd cc) (λ e1. let h2 = rw e1 at h1 in
    on (b == 95) (λ e. rw (eqb-true b 95 e) (underscore-err bs code (rw e at h2))) (λ e2. let h3 = rw e2 at h2 in
    on (b == 34) (λ e. rw (e0, e) (text_with-err (text_past false bs) code (rw e at h3)))
    (λ e3. rw (e0, e3) (sign-err b bs code (rw e3 at h3))))))

slash-err : (bs : List ℕ) (code : ℕ) → slash_at bs ≡ Err code → code ≡ 1
unfolding slash_at
slash-err bs code h0 =
    on (begins (λ b. b == 47) bs) (λ e. let g = rw e at h0 in absurd cc) (λ e. err_same _ _ (rw e at h0))

found_token-err : (t : Result (Kind × List ℕ) ℕ) (code : ℕ) → found_token t ≡ Err code → t ≡ Err code
found_token-err (Ok q) code h = absurd cc
found_token-err (Err c) code h = ap (λ x. Err x) (sym (err_same _ _ h))

found-err : (b : ℕ) (bs : List ℕ) (code : ℕ) → found_at b bs ≡ Err code → code ≡ fault_code b
unfolding found_at
found-err b bs code h0 =
    on (is_blank b) (λ e. let g = rw e at h0 in absurd cc) (λ e0. let h1 = rw e0 at h0 in
    on (b == 10) (λ e. let g = rw e at h1 in absurd cc) (λ e1. let h2 = rw e1 at h1 in
    on (b == 47) (λ e. rw (eqb-true b 47 e) (slash-err bs code (rw e at h2)))
    (λ e2. token-err b bs code (found_token-err (token_at b bs) code (rw e2 at h2)))))

-- a piece at the front is found
front-found : (b : ℕ) (bs : List ℕ) (p : Piece) (rest : List ℕ) → Front (b ∷ bs) p rest → found_at b bs ≡ Ok (found_of p, rest)
front-found b bs p rest front = ap found_from front.whole ∙ piece-found p rest front.is front.ends

pub fault_sound : (b : ℕ) (bs : List ℕ) (code : ℕ) → found_at b bs ≡ Err code → FaultAt (b ∷ bs) code
fault_sound b bs code h = ((λ p rest front. let e = sym (front-found b bs p rest front) ∙ h in absurd cc), found-err b bs code h)

pub front_sound : (bs : List ℕ) (fd : Found) (rest : List ℕ) → found_from bs ≡ Ok (fd, rest) → IsFound bs fd rest
front_sound [] fd rest h = absurd cc
front_sound (b ∷ bs) fd rest h = found_sound b bs fd rest h

pub front_fault : (bs : List ℕ) (code : ℕ) → 0 < length bs → found_from bs ≡ Err code → FaultAt bs code
front_fault [] code l h = absurd (omega arith)
front_fault (b ∷ bs) code l h = fault_sound b bs code h

fault-by : (b : ℕ) (bs : List ℕ) (code : ℕ) (t : Result (Found × List ℕ) ℕ) → found_at b bs ≡ t → FaultAt (b ∷ bs) code → found_at b bs ≡ Err code
fault-by b bs code (Ok q) e fault =
    let one = found_sound b bs q.0 q.1 e in
    absurd (fault.0 one.piece q.1 (record { whole = one.whole; is = one.is; ends = one.ends }))
fault-by b bs code (Err c) e fault = e ∙ ap (λ x. Err x) (found-err b bs c e ∙ sym fault.1)

fault-found : (b : ℕ) (bs : List ℕ) (code : ℕ) → FaultAt (b ∷ bs) code → found_at b bs ≡ Err code
fault-found b bs code fault = fault-by b bs code (found_at b bs) refl fault

-- ---- a whole text

-- pieces up to the end of a text or to a fault
pub record Cut (bs : List ℕ) : Type 0 where
  pub pieces : List Piece
  pub left : List ℕ
  pub whole : bs ≡ text_of pieces ++ left
  pub stand : Stand pieces left
  pub ended : (left ≡ []) ⊎ ((code : ℕ) × (found_from left ≡ Err code))

cut_more : (b : ℕ) (bs rest : List ℕ) (fd : Found) → IsFound (b ∷ bs) fd rest → Cut rest → Cut (b ∷ bs)
cut_more b bs rest fd one more =
    record {
      pieces = one.piece ∷ more.pieces;
      left = more.left;
      whole = one.whole ∙ ap (λ l. spelled one.piece ++ l) more.whole ∙ sym (append_assoc (spelled one.piece) (text_of more.pieces) more.left);
      stand = (one.is, subst (Ends one.piece) more.whole one.ends, more.stand);
      ended = more.ended;
    }

cut_by : (b : ℕ) (bs : List ℕ) (t : Result (Found × List ℕ) ℕ) → found_at b bs ≡ t → ((rest : List ℕ) → length rest < length (b ∷ bs) → Cut rest) → Cut (b ∷ bs)
cut_by b bs (Ok q) e more =
    let one = found_sound b bs q.0 q.1 e in
    let l : length q.1 < length (b ∷ bs) = omega (arith, ap length one.whole, length-append (spelled one.piece) q.1, some_bytes one.piece) in
    cut_more b bs q.1 q.0 one (more q.1 l)
cut_by b bs (Err code) e more = record { pieces = []; left = b ∷ bs; whole = refl; stand = tt; ended = inr (code, e) }

cut_below : (n : ℕ) (bs : List ℕ) → length bs < n → Cut bs
cut_below zero bs h = absurd (omega arith)
cut_below (suc n) [] h = record { pieces = []; left = []; whole = refl; stand = tt; ended = inl refl }
cut_below (suc n) (b ∷ bs) h = cut_by b bs (found_at b bs) refl (λ rest l. cut_below n rest (omega arith))

pub cut : (bs : List ℕ) → Cut bs
cut bs = cut_below (suc (length bs)) bs (omega arith)

ends_by : (n size line_no : ℕ) (before : List Token) (left : List ℕ) → 0 < n → (left ≡ []) ⊎ ((code : ℕ) × (found_from left ≡ Err code)) → EndsAt line_no left (lexed_from n size line_no before left).fault × ((lexed_from n size line_no before left).tokens ≡ before)
unfolding lexed_from
ends_by zero size line_no before left h e = absurd (omega arith)
ends_by (suc n) size line_no before [] h e = (tt, refl)
ends_by (suc n) size line_no before (b ∷ left) h (inl e) = absurd cc
ends_by (suc n) size line_no before (b ∷ left) h (inr e) = rw e.1 ((fault_sound b left e.0 e.1, refl), refl)

-- each text is cut
pub lexed_cut : (bs : List ℕ) → Lexes bs (lexed bs)
unfolding lexed
lexed_cut bs =
    let c = cut bs in
    let n = suc (length bs) in
    let few : length c.pieces ≤ length bs = omega (arith, fewer_pieces c.pieces, length-append (text_of c.pieces) c.left, ap length c.whole) in
    let size : length bs ≡ 0 + length (text_of c.pieces ++ c.left) = omega (arith, ap length c.whole) in
    let e : lexed_from n (length bs) 1 [] bs ≡ lexed_from (n - length c.pieces) (length bs) (line_past 1 c.pieces) (tokens_of 1 0 c.pieces) c.left =
    ap (λ l. lexed_from n (length bs) 1 [] l) c.whole ∙ pieces-lexed c.pieces n (n - length c.pieces) (length bs) 1 0 [] c.left c.stand (omega arith) size in
    let o = ends_by (n - length c.pieces) (length bs) (line_past 1 c.pieces) (tokens_of 1 0 c.pieces) c.left (omega arith) c.ended in
    record {
      pieces = c.pieces;
      left = c.left;
      whole = c.whole;
      stand = c.stand;
      tokens = ap (λ r. r.tokens) e ∙ o.1;
      fault = subst (λ r. EndsAt (line_past 1 c.pieces) c.left r) (ap (λ r. r.fault) (sym e)) o.0;
    }

ends_from : (n size line_no : ℕ) (before : List Token) (left : List ℕ) (fault : Option LexFault) → 0 < n → EndsAt line_no left fault → lexed_from n size line_no before left ≡ record { tokens = before; fault = fault }
unfolding lexed_from
ends_from zero size line_no before left fault h e = absurd (omega arith)
ends_from (suc n) size line_no before [] None h e = refl
ends_from (suc n) size line_no before (b ∷ left) None h e = absurd e
ends_from (suc n) size line_no before [] (Some fault) h e = absurd e
ends_from (suc n) size line_no before (b ∷ left) (Some fault) h e = rw (fault-found b left fault.code e.0, ← e.1) refl

-- a text is cut in one way
pub cut_once : (bs : List ℕ) (found : Lexed) → Lexes bs found → found ≡ lexed bs
unfolding lexed
cut_once bs found c =
    let n = suc (length bs) in
    let few : length c.pieces ≤ length bs = omega (arith, fewer_pieces c.pieces, length-append (text_of c.pieces) c.left, ap length c.whole) in
    let size : length bs ≡ 0 + length (text_of c.pieces ++ c.left) = omega (arith, ap length c.whole) in
    let e : lexed_from n (length bs) 1 [] bs ≡ lexed_from (n - length c.pieces) (length bs) (line_past 1 c.pieces) (tokens_of 1 0 c.pieces) c.left =
    ap (λ l. lexed_from n (length bs) 1 [] l) c.whole ∙ pieces-lexed c.pieces n (n - length c.pieces) (length bs) 1 0 [] c.left c.stand (omega arith) size in
    let last = ends_from (n - length c.pieces) (length bs) (line_past 1 c.pieces) (tokens_of 1 0 c.pieces) c.left found.fault (omega arith) c.fault in
    ap (λ (l : List Token). let r : Lexed = record { tokens = l; fault = found.fault } in r) c.tokens ∙ sym (e ∙ last)
