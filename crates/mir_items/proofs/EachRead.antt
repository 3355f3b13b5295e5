-- Lists that end where no item begins are read by the grammar's rule, both ways. What an item is read as may depend on where it stands.
use Rattle.std.proofs.Common.{◌≡◌, ℕ, zero, suc, ◌<◌, ◌≤◌, Bool, true, false, List, [], ◌∷◌, ◌++◌, length, Ok, Err, refl, sym, ap, ◌∙◌, arith, append_assoc, append-nil}
use Rattle.mir_text.specs.declared.symbol.Symbol.{Symbol}
use Rattle.mir_text.specs.Grammar.{Put, each_put, AllOf}
use Rattle.mir_parse.specs.declared.fault.SyntaxFault.{SyntaxFault}
use Rattle.mir_parse.specs.Parser.{Found, Parse, and_then}
use Rattle.mir_parse.proofs.Laws.{in_steps, ok_same, on, Grows}
use Rattle.mir_items.specs.Each.{each_from, each_at}

-- a rule stands at the front of symbols, and its tree there was found
pub record IsReadAt {R A : Type 0} (put : Put R) (of : R → List Symbol → A) (Good : R → Type 0) (ts : List Symbol) (x : A) (rest : List Symbol) : Type 0 where
  pub rule : R
  pub reads : of rule ts ≡ x
  pub yields : ts ≡ put rule rest
  pub good : Good rule

-- what is read of the items of a list before the rest
abbrev pub each_text : {R A : Type 0} → Put R → (R → List Symbol → A) → List R → List Symbol → List A
each_text put of [] rest = []
each_text put of (r ∷ rs) rest = of r (put r (each_put put rs rest)) ∷ each_text put of rs rest

pub err_same : {A : Type 0} (d e : SyntaxFault) → ◌≡◌ {A = Found A} (Err d) (Err e) → d ≡ e
err_same d e h = cc

-- a fault of two steps is one of either
fault_steps : {A B R : Type 0} (found : Found A) (f : A → Parse B) (e : SyntaxFault) → and_then found f ≡ Err e → (found ≡ Err e → R) → ((a : A) (rest : List Symbol) → found ≡ Ok (a, rest) → f a rest ≡ Err e → R) → R
fault_steps (Ok p) f e h first_k then_k = then_k p.0 p.1 refl h
fault_steps (Err d) f e h first_k then_k = first_k (ap (λ x. Err x) (err_same d e h))

-- an item's parser reads what its rule puts, and nothing else, where so many symbols stand at most
pub record EachLaws {R A : Type 0} (most : ℕ) (begins : List Symbol → Bool) (item : Parse A) (put : Put R) (of : R → List Symbol → A) (Good : R → Type 0) : Type 0 where
  pub begin : (r : R) (rest : List Symbol) → begins (put r rest) ≡ true
  pub complete : (r : R) (rest : List Symbol) → Good r → length (put r rest) ≤ most → item (put r rest) ≡ Ok (of r (put r rest), rest)
  pub sound : (ts : List Symbol) (x : A) (rest : List Symbol) → length ts ≤ most → item ts ≡ Ok (x, rest) → IsReadAt put of Good ts x rest
  pub grows : Grows put

module _ {R A : Type 0} (most : ℕ) (begins : List Symbol → Bool) (item : Parse A) (put : Put R) (of : R → List Symbol → A) (Good : R → Type 0) (laws : EachLaws most begins item put of Good) where
  few : (rs : List R) (rest : List Symbol) → length rs ≤ length (each_put put rs rest)
  few [] rest = omega arith
  few (r ∷ rs) rest = omega (arith, few rs rest, laws.grows r (each_put put rs rest))

  each_from-complete : (rs : List R) (n : ℕ) (before : List A) (rest : List Symbol) → AllOf Good rs → length (each_put put rs rest) ≤ most → length rs < n → begins rest ≡ false
      → each_from begins item n before (each_put put rs rest) ≡ Ok (before ++ each_text put of rs rest, rest)
  unfolding each_from
  each_from-complete rs zero before rest good fits h ends = absurd (omega arith)
  each_from-complete [] (suc n) before rest good fits h ends = rw (ends, append-nil before) refl
  each_from-complete (r ∷ rs) (suc n) before rest good fits h ends =
      let over = each_put put rs rest in
      let x = of r (put r over) in
      let less : length over ≤ most = omega (arith, laws.grows r over) in
      rw (
        laws.begin r over,
        laws.complete r over good.0 fits,
        each_from-complete rs n (before ++ x ∷ []) rest good.1 less (omega arith) ends,
        append_assoc before (x ∷ []) (each_text put of rs rest),
      ) refl

  pub each-complete : (rs : List R) (rest : List Symbol) → AllOf Good rs → length (each_put put rs rest) ≤ most → begins rest ≡ false
      → each_at begins item (each_put put rs rest) ≡ Ok (each_text put of rs rest, rest)
  each-complete rs rest good fits ends = each_from-complete rs (suc (length (each_put put rs rest))) [] rest good fits (omega (arith, few rs rest)) ends

  -- items were read behind others, and none begins with the rest
  pub record AreEach (ts : List Symbol) (before us : List A) (rest : List Symbol) : Type 0 where
    pub rules : List R
    pub reads : before ++ each_text put of rules rest ≡ us
    pub yields : ts ≡ each_put put rules rest
    pub good : AllOf Good rules
    pub ends : begins rest ≡ false

  one-more : (ts past : List Symbol) (before us : List A) (rest : List Symbol) (x : A) → IsReadAt put of Good ts x past → AreEach past (before ++ x ∷ []) us rest → AreEach ts before us rest
  one-more ts past before us rest x first others =
      let front : ts ≡ put first.rule (each_put put others.rules rest) = first.yields ∙ ap (put first.rule) others.yields in
      record {
        rules = first.rule ∷ others.rules;
        reads =
            ap (λ y. before ++ y ∷ each_text put of others.rules rest) (ap (of first.rule) (sym front) ∙ first.reads)
            ∙ sym (append_assoc before (x ∷ []) (each_text put of others.rules rest))
            ∙ others.reads;
        yields = front;
        good = (first.good, others.good);
        ends = others.ends;
      }

  fewer : (ts past : List Symbol) (x : A) → IsReadAt put of Good ts x past → length ts ≤ most → length past ≤ most
  fewer ts past x first fits = omega (arith, ap length first.yields, laws.grows first.rule past)

  pub each_from-sound : (n : ℕ) (ts : List Symbol) (before us : List A) (rest : List Symbol) → length ts ≤ most → each_from begins item n before ts ≡ Ok (us, rest) → AreEach ts before us rest
  unfolding each_from
  each_from-sound zero ts before us rest fits h = absurd cc
  each_from-sound (suc n) ts before us rest fits h = on (begins ts)
      (λ e. in_steps _ _ (us, rest) (rw e at h) (λ x past found went.
      let first = laws.sound ts x past fits found in
      one-more ts past before us rest x first (each_from-sound n past (before ++ x ∷ []) us rest (fewer ts past x first fits) went)))
      (λ e. let same = ok_same _ _ (rw e at h) in
      record { rules = []; reads = append-nil before ∙ ap (λ q. q.0) same; yields = ap (λ q. q.1) same; good = tt; ends = ap begins (sym (ap (λ q. q.1) same)) ∙ e })

  pub each-sound : (ts : List Symbol) (us : List A) (rest : List Symbol) → length ts ≤ most → each_at begins item ts ≡ Ok (us, rest) → AreEach ts [] us rest
  each-sound ts us rest fits h = each_from-sound (suc (length ts)) ts [] us rest fits h

  -- what holds of each fault of an item holds of a fault of items
  pub each-fault : (P : SyntaxFault → Type 0) → ((ts : List Symbol) (e : SyntaxFault) → item ts ≡ Err e → P e)
      → (n : ℕ) (ts : List Symbol) (before : List A) (e : SyntaxFault) → length ts ≤ most → length ts < n → each_from begins item n before ts ≡ Err e → P e
  unfolding each_from
  each-fault P holds zero ts before e fits few_turns h = absurd (omega arith)
  each-fault P holds (suc n) ts before e fits few_turns h = on (begins ts)
      (λ b. fault_steps _ _ e (rw b at h) (holds ts e) (λ x past found went.
      let first = laws.sound ts x past fits found in
      let less : length past < length ts = omega (arith, ap length first.yields, laws.grows first.rule past) in
      each-fault P holds n past (before ++ x ∷ []) e (omega arith) (omega arith) went))
      (λ b. let none = rw b at h in absurd cc)

-- an item that is read leaves one turn less
pub one-turn : {A : Type 0} (begins : List Symbol → Bool) (item : Parse A) (turns : ℕ) (before after : List A) (ts past : List Symbol) (x : A) (found : Found (List A))
    → begins ts ≡ true → item ts ≡ Ok (x, past) → after ≡ before ++ x ∷ [] → length past < length ts → length ts ≤ turns → found ≡ each_from begins item (suc turns) before ts
    → (n : ℕ) × (length past ≤ n) × (found ≡ each_from begins item (suc n) after past)
unfolding each_from
one-turn begins item zero before after ts past x found begun read pushed short few e = absurd (omega arith)
one-turn {A = A} begins item (suc k) before after ts past x found begun read pushed short few e =
    let go : List A → Found (List A) = λ b. each_from begins item (suc k) b past in
    (k, omega arith, e ∙ rw (begun, read) (ap go (sym pushed)))
