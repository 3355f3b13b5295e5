-- Laws of parsing in steps, of single signs, and of lists.
use Rattle.std.proofs.Common.{◌≡◌, ℕ, zero, suc, ◌<◌, ◌≤◌, Bool, true, false, ◌==◌, nat_lt, List, [], ◌∷◌, ◌++◌, length, Result, Ok, Err, IfOk, Option, Some, None, refl, sym, ap, subst, ◌∙◌, arith, append_assoc, append-nil}
use Rattle.std.proofs.lemmas.Bool.{eqb-true}
use Rattle.std.proofs.lemmas.Bool.Decides.{nat_tests}
use Rattle.mir_text.specs.declared.symbol.Symbol.{Symbol}
use Rattle.mir_text.specs.declared.symbol.Symbol.TheVariants as s
use Rattle.mir_text.specs.Grammar.{Put, Items, end, last, more, items_put, items_of, AllItems}
use Rattle.mir_tree.specs.declared.Items.{Items as ItemsText}
use Rattle.mir_tree.specs.Lists.{listed, items_rule}
use Rattle.mir_parse.specs.declared.list.Turn.{Turn}
use Rattle.mir_parse.specs.declared.list.Turn.TheVariants as turn
use Rattle.mir_parse.specs.declared.fault.ParseRefused.{ParseRefused}
use Rattle.mir_parse.specs.declared.fault.ParseRefused.TheVariants as refused
use Rattle.mir_parse.specs.Promises.{IsParsed, NoneStands}
use Rattle.mir_parse.specs.Parser.{Found, Parse, and_then, Gives}
use Rattle.mir_parse.specs.Signs.{comma, open_paren, close, open_brace, close_brace, open_bracket, close_bracket, semicolon, colon, colons, dot, equals, arrow, returns, otherwise, unwind, name, local, block, string, this_name, small_number}
use Rattle.mir_parse.specs.Lists.{Closing, closing_paren, closing_brace, after_by, after_item, turn_by, turn_of, goes_on, items_from}

-- a rule stands at the front of symbols, and its tree was found
pub record IsRead {R A : Type 0} (put : Put R) (of : R → A) (Good : R → Type 0) (ts : List Symbol) (x : A) (rest : List Symbol) : Type 0 where
  pub rule : R
  pub reads : of rule ≡ x
  pub yields : ts ≡ put rule rest
  pub good : Good rule

-- where a rule is that of its tree, what was read was parsed
pub parsed : {R A : Type 0} (put : Put R) (of : R → A) (rule : A → R) (Good : R → Type 0) → ((r : R) → rule (of r) ≡ r) → (ts : List Symbol) (x : A) (rest : List Symbol)
    → IsRead put of Good ts x rest → IsParsed put rule Good ts x rest
parsed put of rule Good back ts x rest read =
    let same : rule x ≡ read.rule = ap rule (sym read.reads) ∙ back read.rule in
    record { stands = read.yields ∙ ap (λ r. put r rest) (sym same); good = subst Good (sym same) read.good }

-- the promises of a parser, from its two laws
pub derives : {X R A : Type 0} (put : Put R) (of : R → A) (rule : A → R) (Good : R → Type 0) → ((r : R) → rule (of r) ≡ r) → (parse : Parse A)
    → ((ts : List Symbol) (x : A) (rest : List Symbol) → parse ts ≡ Ok (x, rest) → IsRead put of Good ts x rest)
    → (view : X → A × List Symbol) (ts : List Symbol) (result : Result X ParseRefused) → Gives view result (parse ts) → IfOk result (λ x. IsParsed put rule Good ts (view x).0 (view x).1)
derives put of rule Good back parse sound view ts (Ok x) h = parsed put of rule Good back ts (view x).0 (view x).1 (sound ts (view x).0 (view x).1 h)
derives put of rule Good back parse sound view ts (Err e) h = tt

pub refuses : {X R A : Type 0} (put : Put R) (of : R → A) (Good : R → Type 0) (Follows : List Symbol → Type 0) (parse : Parse A)
    → ((r : R) (rest : List Symbol) → Good r → Follows rest → parse (put r rest) ≡ Ok (of r, rest))
    → (view : X → A × List Symbol) (ts : List Symbol) (result : Result X ParseRefused) → Gives view result (parse ts) → NoneStands put Good Follows ts result
refuses put of Good Follows parse complete view ts (Ok x) h = tt
refuses put of Good Follows parse complete view ts (Err refused.OutOfMemory) h = tt
refuses put of Good Follows parse complete view ts (Err (refused.Fault e)) h = λ r rest good follows stands. let ok = ap parse stands ∙ complete r rest good follows in absurd cc

-- what was found in two steps was found in each
pub in_steps : {A B R : Type 0} (found : Found A) (f : A → Parse B) (y : B × List Symbol) → and_then found f ≡ Ok y → ((a : A) (rest : List Symbol) → found ≡ Ok (a, rest) → f a rest ≡ Ok y → R) → R
in_steps (Ok p) f y h k = k p.0 p.1 refl h
in_steps (Err e) f y h k = absurd cc

pub ok_same : {A : Type 0} (x y : A × List Symbol) → ◌≡◌ {A = Found A} (Ok x) (Ok y) → x ≡ y
ok_same x y h = cc

pub on : {R : Type 0} (c : Bool) → (c ≡ true → R) → (c ≡ false → R) → R
on true k_true k_false = k_true refl
on false k_true k_false = k_false refl

pub id_steps : {A : Type 0} (found : Found A) → and_then found (λ v ts. Ok (v, ts)) ≡ found
id_steps (Ok q) = refl
id_steps (Err e) = refl

-- ---- signs

pub comma-sound : (ts : List Symbol) (q : Unit {0} × List Symbol) → comma ts ≡ Ok q → ts ≡ s.Comma ∷ q.1
unfolding comma
comma-sound [] q h = absurd cc
comma-sound (s.Comma ∷ ts) q h = ap (λ q. s.Comma ∷ q.1) (ok_same _ _ h)
comma-sound (x ∷ ts) q h = absurd cc

pub open_paren-sound : (ts : List Symbol) (q : Unit {0} × List Symbol) → open_paren ts ≡ Ok q → ts ≡ s.Open ∷ q.1
unfolding open_paren
open_paren-sound [] q h = absurd cc
open_paren-sound (s.Open ∷ ts) q h = ap (λ q. s.Open ∷ q.1) (ok_same _ _ h)
open_paren-sound (x ∷ ts) q h = absurd cc

pub close-sound : (ts : List Symbol) (q : Unit {0} × List Symbol) → close ts ≡ Ok q → ts ≡ s.Close ∷ q.1
unfolding close
close-sound [] q h = absurd cc
close-sound (s.Close ∷ ts) q h = ap (λ q. s.Close ∷ q.1) (ok_same _ _ h)
close-sound (x ∷ ts) q h = absurd cc

pub open_brace-sound : (ts : List Symbol) (q : Unit {0} × List Symbol) → open_brace ts ≡ Ok q → ts ≡ s.OpenBrace ∷ q.1
unfolding open_brace
open_brace-sound [] q h = absurd cc
open_brace-sound (s.OpenBrace ∷ ts) q h = ap (λ q. s.OpenBrace ∷ q.1) (ok_same _ _ h)
open_brace-sound (x ∷ ts) q h = absurd cc

pub close_brace-sound : (ts : List Symbol) (q : Unit {0} × List Symbol) → close_brace ts ≡ Ok q → ts ≡ s.CloseBrace ∷ q.1
unfolding close_brace
close_brace-sound [] q h = absurd cc
close_brace-sound (s.CloseBrace ∷ ts) q h = ap (λ q. s.CloseBrace ∷ q.1) (ok_same _ _ h)
close_brace-sound (x ∷ ts) q h = absurd cc

pub open_bracket-sound : (ts : List Symbol) (q : Unit {0} × List Symbol) → open_bracket ts ≡ Ok q → ts ≡ s.OpenBracket ∷ q.1
unfolding open_bracket
open_bracket-sound [] q h = absurd cc
open_bracket-sound (s.OpenBracket ∷ ts) q h = ap (λ q. s.OpenBracket ∷ q.1) (ok_same _ _ h)
open_bracket-sound (x ∷ ts) q h = absurd cc

pub close_bracket-sound : (ts : List Symbol) (q : Unit {0} × List Symbol) → close_bracket ts ≡ Ok q → ts ≡ s.CloseBracket ∷ q.1
unfolding close_bracket
close_bracket-sound [] q h = absurd cc
close_bracket-sound (s.CloseBracket ∷ ts) q h = ap (λ q. s.CloseBracket ∷ q.1) (ok_same _ _ h)
close_bracket-sound (x ∷ ts) q h = absurd cc

pub semicolon-sound : (ts : List Symbol) (q : Unit {0} × List Symbol) → semicolon ts ≡ Ok q → ts ≡ s.Semicolon ∷ q.1
unfolding semicolon
semicolon-sound [] q h = absurd cc
semicolon-sound (s.Semicolon ∷ ts) q h = ap (λ q. s.Semicolon ∷ q.1) (ok_same _ _ h)
semicolon-sound (x ∷ ts) q h = absurd cc

pub colon-sound : (ts : List Symbol) (q : Unit {0} × List Symbol) → colon ts ≡ Ok q → ts ≡ s.Colon ∷ q.1
unfolding colon
colon-sound [] q h = absurd cc
colon-sound (s.Colon ∷ ts) q h = ap (λ q. s.Colon ∷ q.1) (ok_same _ _ h)
colon-sound (x ∷ ts) q h = absurd cc

pub colons-sound : (ts : List Symbol) (q : Unit {0} × List Symbol) → colons ts ≡ Ok q → ts ≡ s.Colons ∷ q.1
unfolding colons
colons-sound [] q h = absurd cc
colons-sound (s.Colons ∷ ts) q h = ap (λ q. s.Colons ∷ q.1) (ok_same _ _ h)
colons-sound (x ∷ ts) q h = absurd cc

pub dot-sound : (ts : List Symbol) (q : Unit {0} × List Symbol) → dot ts ≡ Ok q → ts ≡ s.Dot ∷ q.1
unfolding dot
dot-sound [] q h = absurd cc
dot-sound (s.Dot ∷ ts) q h = ap (λ q. s.Dot ∷ q.1) (ok_same _ _ h)
dot-sound (x ∷ ts) q h = absurd cc

pub equals-sound : (ts : List Symbol) (q : Unit {0} × List Symbol) → equals ts ≡ Ok q → ts ≡ s.Equals ∷ q.1
unfolding equals
equals-sound [] q h = absurd cc
equals-sound (s.Equals ∷ ts) q h = ap (λ q. s.Equals ∷ q.1) (ok_same _ _ h)
equals-sound (x ∷ ts) q h = absurd cc

pub arrow-sound : (ts : List Symbol) (q : Unit {0} × List Symbol) → arrow ts ≡ Ok q → ts ≡ s.Arrow ∷ q.1
unfolding arrow
arrow-sound [] q h = absurd cc
arrow-sound (s.Arrow ∷ ts) q h = ap (λ q. s.Arrow ∷ q.1) (ok_same _ _ h)
arrow-sound (x ∷ ts) q h = absurd cc

pub returns-sound : (ts : List Symbol) (q : Unit {0} × List Symbol) → returns ts ≡ Ok q → ts ≡ s.Return ∷ q.1
unfolding returns
returns-sound [] q h = absurd cc
returns-sound (s.Return ∷ ts) q h = ap (λ q. s.Return ∷ q.1) (ok_same _ _ h)
returns-sound (x ∷ ts) q h = absurd cc

pub otherwise-sound : (ts : List Symbol) (q : Unit {0} × List Symbol) → otherwise ts ≡ Ok q → ts ≡ s.Otherwise ∷ q.1
unfolding otherwise
otherwise-sound [] q h = absurd cc
otherwise-sound (s.Otherwise ∷ ts) q h = ap (λ q. s.Otherwise ∷ q.1) (ok_same _ _ h)
otherwise-sound (x ∷ ts) q h = absurd cc

pub unwind-sound : (ts : List Symbol) (q : Unit {0} × List Symbol) → unwind ts ≡ Ok q → ts ≡ s.Unwind ∷ q.1
unfolding unwind
unwind-sound [] q h = absurd cc
unwind-sound (s.Unwind ∷ ts) q h = ap (λ q. s.Unwind ∷ q.1) (ok_same _ _ h)
unwind-sound (x ∷ ts) q h = absurd cc

pub block-sound : (ts : List Symbol) (q : ℕ × List Symbol) → block ts ≡ Ok q → ts ≡ s.Block q.0 ∷ q.1
unfolding block
block-sound [] q h = absurd cc
block-sound (s.Block n ∷ ts) q h = ap (λ q. s.Block q.0 ∷ q.1) (ok_same _ _ h)
block-sound (x ∷ ts) q h = absurd cc

pub string-sound : (ts : List Symbol) (q : ℕ × List Symbol) → string ts ≡ Ok q → ts ≡ s.Text q.0 ∷ q.1
unfolding string
string-sound [] q h = absurd cc
string-sound (s.Text n ∷ ts) q h = ap (λ q. s.Text q.0 ∷ q.1) (ok_same _ _ h)
string-sound (x ∷ ts) q h = absurd cc

pub name-sound : (ts : List Symbol) (q : ℕ × List Symbol) → name ts ≡ Ok q → ts ≡ s.Name q.0 ∷ q.1
unfolding name
name-sound [] q h = absurd cc
name-sound (s.Name n ∷ ts) q h = ap (λ q. s.Name q.0 ∷ q.1) (ok_same _ _ h)
name-sound (x ∷ ts) q h = absurd cc

pub local-sound : (ts : List Symbol) (q : ℕ × List Symbol) → local ts ≡ Ok q → ts ≡ s.Local q.0 ∷ q.1
unfolding local
local-sound [] q h = absurd cc
local-sound (s.Local n ∷ ts) q h = ap (λ q. s.Local q.0 ∷ q.1) (ok_same _ _ h)
local-sound (x ∷ ts) q h = absurd cc

pub this_name-sound : (n : ℕ) (ts : List Symbol) (q : Unit {0} × List Symbol) → this_name n ts ≡ Ok q → ts ≡ s.Name n ∷ q.1
unfolding this_name
this_name-sound n [] q h = absurd cc
this_name-sound n (s.Name m ∷ ts) q h = on (m == n)
    (λ e. ap (λ x. s.Name x ∷ ts) (eqb-true m n e) ∙ ap (λ q. s.Name n ∷ q.1) (ok_same _ _ (rw e at h)))
    (λ e. let h1 = rw e at h in absurd cc)
this_name-sound n (x ∷ ts) q h = absurd cc

-- such a number is below 2^32
pub small_number-complete : (n : ℕ) (rest : List Symbol) → n ≤ 4294967295 → small_number (s.Number n ∷ rest) ≡ Ok (n, rest)
unfolding small_number
small_number-complete n rest h = let t : nat_lt 4294967295 n ≡ false = grind (arith, nat_tests) in rw t refl

pub small_number-sound : {R : Type 0} (ts : List Symbol) (q : ℕ × List Symbol) → small_number ts ≡ Ok q → (ts ≡ s.Number q.0 ∷ q.1 → q.0 ≤ 4294967295 → R) → R
unfolding small_number
small_number-sound [] q h k = absurd cc
small_number-sound (s.Number n ∷ ts) q h k = on (nat_lt 4294967295 n)
    (λ e. let h1 = rw e at h in absurd cc)
    (λ e. let small : n ≤ 4294967295 = grind (arith, nat_tests) in
    let same = ok_same _ _ (rw e at h) in
    k (ap (λ q. s.Number q.0 ∷ q.1) same) (subst (λ x. x ≤ 4294967295) (ap (λ q. q.0) same) small))
small_number-sound (x ∷ ts) q h k = absurd cc

-- ---- lists

-- a rule puts symbols
abbrev pub Grows : {R : Type 0} → Put R → Type 0
Grows {R} put = (r : R) (rest : List Symbol) → length rest < length (put r rest)

-- a sign closes a list: it is found where it comes next and nowhere else
pub record Closes (closing : Closing) (sign : Symbol) : Type 0 where
  pub here : (rest : List Symbol) → closing (sign ∷ rest) ≡ Some rest
  pub only : (ts rest : List Symbol) → closing ts ≡ Some rest → ts ≡ sign ∷ rest
  pub no_comma : (rest : List Symbol) → closing (s.Comma ∷ rest) ≡ None

paren_only : (ts rest : List Symbol) → closing_paren ts ≡ Some rest → ts ≡ s.Close ∷ rest
unfolding closing_paren
paren_only [] rest h = absurd cc
paren_only (s.Close ∷ ts) rest h = let same : ts ≡ rest = cc in ap (λ l. s.Close ∷ l) same
paren_only (x ∷ ts) rest h = absurd cc

pub paren_closes : Closes closing_paren s.Close
unfolding closing_paren
paren_closes = record { here = λ rest. refl; only = paren_only; no_comma = λ rest. refl }

brace_only : (ts rest : List Symbol) → closing_brace ts ≡ Some rest → ts ≡ s.CloseBrace ∷ rest
unfolding closing_brace
brace_only [] rest h = absurd cc
brace_only (s.CloseBrace ∷ ts) rest h = let same : ts ≡ rest = cc in ap (λ l. s.CloseBrace ∷ l) same
brace_only (x ∷ ts) rest h = absurd cc

pub brace_closes : Closes closing_brace s.CloseBrace
unfolding closing_brace
brace_closes = record { here = λ rest. refl; only = brace_only; no_comma = λ rest. refl }

-- an item's parser reads what its rule puts, and nothing else, and no item begins with the sign that closes the list
pub record ItemLaws {R A : Type 0} (closing : Closing) (item : Parse A) (put : Put R) (of : R → A) (Good : R → Type 0) (sign : Symbol) : Type 0 where
  pub closes : Closes closing sign
  pub no_item : (r : R) (rest : List Symbol) → closing (put r rest) ≡ None
  pub before_comma : (r : R) (rest : List Symbol) → Good r → item (put r (s.Comma ∷ rest)) ≡ Ok (of r, s.Comma ∷ rest)
  pub before_sign : (r : R) (rest : List Symbol) → Good r → item (put r (sign ∷ rest)) ≡ Ok (of r, sign ∷ rest)
  pub sound : (ts : List Symbol) (x : A) (rest : List Symbol) → item ts ≡ Ok (x, rest) → IsRead put of Good ts x rest
  pub grows : Grows put

abbrev pub count : {R : Type 0} → Items R → ℕ
count end = 0
count (last r) = 1
count (more r rs) = suc (count rs)

-- whether a comma stands after the last item
abbrev pub ends_in_comma : {R : Type 0} → Items R → Bool
ends_in_comma end = true
ends_in_comma (last r) = false
ends_in_comma (more r rs) = ends_in_comma rs

-- the tree of a list, behind items that were read before
abbrev pub items_behind : {R A : Type 0} → (R → A) → List A → Items R → ItemsText A
items_behind of before rs = record { items = before ++ items_of of rs; trailing = ends_in_comma rs }

abbrev pub items_text : {R A : Type 0} → (R → A) → Items R → ItemsText A
items_text of rs = record { items = items_of of rs; trailing = ends_in_comma rs }

-- a list is that of its tree
pub items-back : {R A : Type 0} (of : R → A) (rule : A → R) → ((r : R) → rule (of r) ≡ r) → (rs : Items R) → items_rule rule (items_text of rs) ≡ rs
items-back of rule back end = refl
items-back of rule back (last r) = ap last (back r)
items-back of rule back (more r end) = ap (λ x. more x end) (back r)
items-back of rule back (more r (last q)) = ap (λ x. more x (listed rule (of q ∷ []) false)) (back r) ∙ ap (more r) (items-back of rule back (last q))
items-back of rule back (more r (more q rs)) = ap (λ x. more x (listed rule (of q ∷ items_of of rs) (ends_in_comma rs))) (back r) ∙ ap (more r) (items-back of rule back (more q rs))

few_items : {R A : Type 0} (closing : Closing) (item : Parse A) (put : Put R) (of : R → A) (Good : R → Type 0) (sign : Symbol) → ItemLaws closing item put of Good sign
    → (rs : Items R) (rest : List Symbol) → count rs < suc (length (items_put put sign rs rest))
few_items closing item put of Good sign laws end rest = omega arith
few_items closing item put of Good sign laws (last r) rest = omega (arith, laws.grows r (sign ∷ rest))
few_items closing item put of Good sign laws (more r rs) rest = omega (arith, laws.grows r (s.Comma ∷ items_put put sign rs rest), few_items closing item put of Good sign laws rs rest)

items_from-complete : {R A : Type 0} (closing : Closing) (item : Parse A) (put : Put R) (of : R → A) (Good : R → Type 0) (sign : Symbol) → ItemLaws closing item put of Good sign
    → (rs : Items R) (n : ℕ) (before : List A) (rest : List Symbol) → AllItems Good rs → count rs < n → items_from closing item n before (items_put put sign rs rest) ≡ Ok (items_behind of before rs, rest)
unfolding items_from turn_of after_item comma
items_from-complete closing item put of Good sign laws rs zero before rest g h = absurd (omega arith)
items_from-complete closing item put of Good sign laws end (suc n) before rest g h = rw (laws.closes.here rest, append-nil before) refl
items_from-complete closing item put of Good sign laws (last r) (suc n) before rest g h =
    rw (laws.no_item r (sign ∷ rest), laws.before_sign r rest g, laws.closes.here rest) refl
items_from-complete closing item put of Good sign laws (more r rs) (suc n) before rest g h =
    let after = s.Comma ∷ items_put put sign rs rest in
    rw (
      laws.no_item r after,
      laws.before_comma r (items_put put sign rs rest) g.0,
      laws.closes.no_comma (items_put put sign rs rest),
      items_from-complete closing item put of Good sign laws rs n (before ++ of r ∷ []) rest g.1 (omega arith),
      append_assoc before (of r ∷ []) (items_of of rs),
    ) refl

pub items-complete : {R A : Type 0} (closing : Closing) (item : Parse A) (put : Put R) (of : R → A) (Good : R → Type 0) (sign : Symbol) → ItemLaws closing item put of Good sign
    → (rs : Items R) (rest : List Symbol) → AllItems Good rs → items_from closing item (suc (length (items_put put sign rs rest))) [] (items_put put sign rs rest) ≡ Ok (items_text of rs, rest)
items-complete closing item put of Good sign laws rs rest g = items_from-complete closing item put of Good sign laws rs _ [] rest g (few_items closing item put of Good sign laws rs rest)

pub record AreItems {R A : Type 0} (put : Put R) (of : R → A) (Good : R → Type 0) (sign : Symbol) (ts : List Symbol) (before : List A) (us : ItemsText A) (rest : List Symbol) : Type 0 where
  pub rule : Items R
  pub reads : items_behind of before rule ≡ us
  pub yields : ts ≡ items_put put sign rule rest
  pub good : AllItems Good rule

pub after-sound : {R : Type 0} (closing : Closing) (o : Option (List Symbol)) (ts : List Symbol) (t : Turn) (rest : List Symbol) → closing ts ≡ o → after_by o ts ≡ Ok (t, rest)
    → (closing ts ≡ Some rest → t ≡ turn.Ends false → R) → (ts ≡ s.Comma ∷ rest → t ≡ turn.More → R) → R
after-sound closing (Some past) ts t rest e h close_k comma_k = let same = ok_same _ _ h in close_k (e ∙ ap (λ q. Some q.1) same) (sym (ap (λ q. q.0) same))
after-sound closing None ts t rest e h close_k comma_k =
    in_steps _ _ (t, rest) h (λ nothing past is_comma went.
    let same = ok_same _ _ went in
    comma_k (comma-sound ts (nothing, past) is_comma ∙ ap (λ q. s.Comma ∷ q.1) same) (sym (ap (λ q. q.0) same)))

last-item : {R A : Type 0} (put : Put R) (of : R → A) (Good : R → Type 0) (sign : Symbol) (ts past rest : List Symbol) (before : List A) (us : ItemsText A) (x : A) → IsRead put of Good ts x past → past ≡ sign ∷ rest
    → ◌≡◌ {A = ItemsText A} (record { items = before ++ x ∷ []; trailing = false }) us → AreItems put of Good sign ts before us rest
last-item {A = A} put of Good sign ts past rest before us x first close_is e =
    let f : A → ItemsText A = λ y. record { items = before ++ y ∷ []; trailing = false } in
    record {
      rule = last first.rule;
      reads = ap f first.reads ∙ e;
      yields = first.yields ∙ ap (put first.rule) close_is;
      good = first.good;
    }

more-items : {R A : Type 0} (put : Put R) (of : R → A) (Good : R → Type 0) (sign : Symbol) (ts past after rest : List Symbol) (before : List A) (us : ItemsText A) (x : A) → IsRead put of Good ts x past → past ≡ s.Comma ∷ after
    → AreItems put of Good sign after (before ++ x ∷ []) us rest → AreItems put of Good sign ts before us rest
more-items {A = A} put of Good sign ts past after rest before us x first comma_is others =
    let f : List A → ItemsText A = λ ys. record { items = ys; trailing = ends_in_comma others.rule } in
    record {
      rule = more first.rule others.rule;
      reads = ap (λ y. f (before ++ y ∷ items_of of others.rule)) first.reads ∙ ap f (sym (append_assoc before (x ∷ []) (items_of of others.rule))) ∙ others.reads;
      yields = first.yields ∙ ap (put first.rule) (comma_is ∙ ap (λ l. s.Comma ∷ l) others.yields);
      good = (first.good, others.good);
    }

abbrev ItemsSound : {R A : Type 0} → Closing → Parse A → Put R → (R → A) → (R → Type 0) → Symbol → ℕ → Type 0
ItemsSound {R} {A} closing item put of Good sign n =
    (ts : List Symbol) (before : List A) (us : ItemsText A) (rest : List Symbol) → items_from closing item n before ts ≡ Ok (us, rest) → AreItems put of Good sign ts before us rest

items-first : {R A : Type 0} (closing : Closing) (item : Parse A) (put : Put R) (of : R → A) (Good : R → Type 0) (sign : Symbol) → ItemLaws closing item put of Good sign → (n : ℕ) → ItemsSound closing item put of Good sign n
    → (ts : List Symbol) (before : List A) (us : ItemsText A) (rest : List Symbol) (o : Option (List Symbol)) → closing ts ≡ o
    → and_then (turn_by o closing item before ts) (goes_on (items_from closing item n)) ≡ Ok (us, rest) → AreItems put of Good sign ts before us rest
unfolding after_item
items-first {A = A} closing item put of Good sign laws n more_sound ts before us rest (Some past) e h =
    let same = ok_same _ _ h in
    let f : List A → ItemsText A = λ ys. record { items = ys; trailing = true } in
    record { rule = end; reads = ap f (append-nil before) ∙ ap (λ q. q.0) same; yields = laws.closes.only ts past e ∙ ap (λ q. sign ∷ q.1) same; good = tt }
items-first closing item put of Good sign laws n more_sound ts before us rest None e h =
    in_steps _ _ (us, rest) h (λ q after found went.
    in_steps _ _ (q, after) found (λ x past first turned.
    in_steps _ _ (q, after) turned (λ t past2 is_after same.
    let e2 = ok_same _ _ same in
    let went2 = subst (λ (y : (Turn × List _) × List Symbol). goes_on (items_from closing item n) y.0 y.1 ≡ Ok (us, rest)) (sym e2) went in
    after-sound closing (closing past) past t past2 refl is_after
    (λ closed is. let e3 = ok_same _ _ (ap (λ c. goes_on (items_from closing item n) (c, before ++ x ∷ []) past2) (sym is) ∙ went2) in
    last-item put of Good sign ts past rest before us x (laws.sound ts x past first) (laws.closes.only past past2 closed ∙ ap (λ q. sign ∷ q.1) e3) (ap (λ q. q.0) e3))
    (λ comma_is is. more-items put of Good sign ts past past2 rest before us x (laws.sound ts x past first) comma_is
    (more_sound past2 (before ++ x ∷ []) us rest (ap (λ c. goes_on (items_from closing item n) (c, before ++ x ∷ []) past2) (sym is) ∙ went2))))))

items_from-sound : {R A : Type 0} (closing : Closing) (item : Parse A) (put : Put R) (of : R → A) (Good : R → Type 0) (sign : Symbol) → ItemLaws closing item put of Good sign → (n : ℕ) → ItemsSound closing item put of Good sign n
unfolding items_from turn_of
items_from-sound closing item put of Good sign laws zero ts before us rest h = absurd cc
items_from-sound closing item put of Good sign laws (suc n) ts before us rest h =
    items-first closing item put of Good sign laws n (items_from-sound closing item put of Good sign laws n) ts before us rest (closing ts) refl h

pub items-sound : {R A : Type 0} (closing : Closing) (item : Parse A) (put : Put R) (of : R → A) (Good : R → Type 0) (sign : Symbol) → ItemLaws closing item put of Good sign
    → (n : ℕ) (ts : List Symbol) (us : ItemsText A) (rest : List Symbol) → items_from closing item n [] ts ≡ Ok (us, rest) → IsRead (items_put put sign) (items_text of) (AllItems Good) ts us rest
items-sound closing item put of Good sign laws n ts us rest h =
    let found = items_from-sound closing item put of Good sign laws n ts [] us rest h in
    record { rule = found.rule; reads = found.reads; yields = found.yields; good = found.good }
