-- Parsing constants, operands and named operands is the grammar's rule, both ways.
use Rattle.std.proofs.Common.{◌≡◌, ℕ, ◌<◌, ◌==◌, Bool, true, false, List, [], ◌∷◌, length, Ok, None, refl, ap, ap₂, ◌∙◌, arith}
use Rattle.std.proofs.lemmas.Bool.{eqb-true}
use Rattle.mir_syntax.specs.declared.types.IntTy.{IntTy}
use Rattle.mir_text.specs.declared.symbol.Symbol.{Symbol}
use Rattle.mir_text.specs.declared.symbol.Symbol.TheVariants as s
use Rattle.mir_text.specs.Numbers.{fits}
use Rattle.mir_text.specs.Grammar.{Items, items_put, AllItems}
use Rattle.mir_text.specs.GrammarPlaces.{PlaceRule, local, deref, field, variant_field, place_put, ValueRule, number, boolean, unit, least, most, value_put, OperandRule, copy, move, bare, const, operand_put}
use Rattle.mir_text.specs.GrammarStatements.{NamedRule, named_put}
use Rattle.mir_text.specs.Nesting.{ValueFits, OperandGood, NamedGood}
use Rattle.mir_tree.specs.declared.Items.{Items as ItemsText}
use Rattle.mir_tree.specs.declared.operand.ValueText.{ValueText}
use Rattle.mir_tree.specs.declared.operand.ValueText.TheVariants as v
use Rattle.mir_tree.specs.declared.operand.OperandText.{OperandText}
use Rattle.mir_tree.specs.declared.operand.OperandText.TheVariants as o
use Rattle.mir_tree.specs.declared.rvalue.NamedText.{NamedText}
use Rattle.mir_tree.specs.Bodies.{value_rule, operand_rule, named_rule}
use Rattle.mir_parse.specs.Parser.{and_then}
use Rattle.mir_parse.specs.Signs.{close, colon, colons, name as name_at}
use Rattle.mir_parse.specs.Places.{place_at}
use Rattle.mir_parse.specs.Operands.{number as number_at, bound, bound_end, value, operand, named, operands_at, nameds_at}
use Rattle.mir_parse.specs.Lists.{closing_paren, closing_brace}
use Rattle.mir_parse.proofs.PlacesRead.{place_text, place-back, place-complete, place-sound, place_grows}
use Rattle.mir_parse.proofs.Laws.{in_steps, ok_same, on, IsRead, paren_closes, brace_closes, ItemLaws, items_text, items-complete, items-sound, close-sound, colon-sound, colons-sound, name-sound}

-- ---- the trees

abbrev pub value_text : ValueRule → ValueText
value_text (number negative n t) = v.Number negative t n
value_text (boolean x) = v.Bool x
value_text unit = v.Unit
value_text (least t) = v.Least t
value_text (most t) = v.Most t

abbrev pub operand_text : OperandRule → OperandText
operand_text (copy q) = o.Copy (place_text q)
operand_text (move q) = o.Move (place_text q)
operand_text (bare q) = o.Bare (place_text q)
operand_text (const x) = o.Const (value_text x)

abbrev pub named_text : NamedRule → NamedText
named_text x = record { name = x.0; operand = operand_text x.1 }

pub value-back : (x : ValueRule) → value_rule (value_text x) ≡ x
value-back (number negative n t) = refl
value-back (boolean x) = refl
value-back unit = refl
value-back (least t) = refl
value-back (most t) = refl

pub operand-back : (x : OperandRule) → operand_rule (operand_text x) ≡ x
operand-back (copy q) = ap copy (place-back q)
operand-back (move q) = ap move (place-back q)
operand-back (bare q) = ap bare (place-back q)
operand-back (const x) = ap const (value-back x)

pub named-back : (x : NamedRule) → named_rule (named_text x) ≡ x
named-back x = let f : OperandRule → NamedRule = λ y. (x.0, y) in ap f (operand-back x.1)

pub value_grows : (x : ValueRule) (rest : List Symbol) → length rest < length (value_put x rest)
value_grows (number true n t) rest = omega arith
value_grows (number false n t) rest = omega arith
value_grows (boolean x) rest = omega arith
value_grows unit rest = omega arith
value_grows (least t) rest = omega arith
value_grows (most t) rest = omega arith

pub operand_grows : (x : OperandRule) (rest : List Symbol) → length rest < length (operand_put x rest)
operand_grows (copy q) rest = omega (arith, place_grows q rest)
operand_grows (move q) rest = omega (arith, place_grows q rest)
operand_grows (bare q) rest = place_grows q rest
operand_grows (const x) rest = omega (arith, value_grows x rest)

named_grows : (x : NamedRule) (rest : List Symbol) → length rest < length (named_put x rest)
named_grows x rest = omega (arith, operand_grows x.1 rest)

-- ---- constants

pub value-complete : (x : ValueRule) (rest : List Symbol) → ValueFits x → value (value_put x rest) ≡ Ok (value_text x, rest)
unfolding value number_at bound bound_end colons close
value-complete (number true n t) rest h = rw h refl
value-complete (number false n t) rest h = rw h refl
value-complete (boolean true) rest h = refl
value-complete (boolean false) rest h = refl
value-complete unit rest h = refl
value-complete (least t) rest h = refl
value-complete (most t) rest h = refl

pub number-sound : {R : Type 0} (negative : Bool) (ts : List Symbol) (x : ValueText) (rest : List Symbol) → number_at negative ts ≡ Ok (x, rest)
    → ((n : ℕ) (t : IntTy) → v.Number negative t n ≡ x → ts ≡ s.Typed t n ∷ rest → fits negative n t ≡ true → R) → R
unfolding number_at
number-sound negative [] x rest h k = absurd cc
number-sound negative (s.Typed t n ∷ ts) x rest h k = on (fits negative n t)
    (λ e. let same = ok_same _ _ (rw e at h) in k n t (ap (λ q. q.0) same) (ap (λ q. s.Typed t n ∷ q.1) same) e)
    (λ e. let h1 = rw e at h in absurd cc)
number-sound negative (y ∷ ts) x rest h k = absurd cc

bound-sound : {R : Type 0} (t : IntTy) (ts : List Symbol) (x : ValueText) (rest : List Symbol) → bound t ts ≡ Ok (x, rest)
    → (v.Least t ≡ x → ts ≡ s.Name 5 ∷ rest → R) → (v.Most t ≡ x → ts ≡ s.Name 6 ∷ rest → R) → R
unfolding bound
bound-sound t [] x rest h least_k most_k = absurd cc
bound-sound t (s.Name n ∷ ts) x rest h least_k most_k = on (n == 5)
    (λ e. let same = ok_same _ _ (rw e at h) in least_k (ap (λ q. q.0) same) (ap₂ (λ m l. s.Name m ∷ l) (eqb-true n 5 e) (ap (λ q. q.1) same)))
    (λ e. let h1 = rw e at h in on (n == 6)
    (λ e1. let same = ok_same _ _ (rw e1 at h1) in most_k (ap (λ q. q.0) same) (ap₂ (λ m l. s.Name m ∷ l) (eqb-true n 6 e1) (ap (λ q. q.1) same)))
    (λ e1. let h2 = rw e1 at h1 in absurd cc))
bound-sound t (y ∷ ts) x rest h least_k most_k = absurd cc

abbrev IsValue : List Symbol → ValueText → List Symbol → Type 0
IsValue = IsRead value_put value_text ValueFits

number-first : (ts : List Symbol) (x : ValueText) (rest : List Symbol) → and_then (number_at false ts) (λ x ts. Ok (x, ts)) ≡ Ok (x, rest) → IsValue ts x rest
number-first ts x rest h =
    in_steps _ _ (x, rest) h (λ y past found same_h.
    let same = ok_same _ _ same_h in
    number-sound false ts y past found (λ n t is yields fit.
    record { rule = number false n t; reads = is ∙ ap (λ q. q.0) same; yields = yields ∙ ap (λ q. s.Typed t n ∷ q.1) same; good = fit }))

pub value-sound : (ts : List Symbol) (x : ValueText) (rest : List Symbol) → value ts ≡ Ok (x, rest) → IsValue ts x rest
unfolding value bound_end
value-sound [] x rest h = number-first [] x rest h
value-sound (s.Minus ∷ ts) x rest h =
    in_steps _ _ (x, rest) h (λ y past found same_h.
    let same = ok_same _ _ same_h in
    number-sound true ts y past found (λ n t is yields fit.
    record { rule = number true n t; reads = is ∙ ap (λ q. q.0) same; yields = ap (λ l. s.Minus ∷ l) (yields ∙ ap (λ q. s.Typed t n ∷ q.1) same); good = fit }))
value-sound (s.True ∷ ts) x rest h = let same = ok_same _ _ h in record { rule = boolean true; reads = ap (λ q. q.0) same; yields = ap (λ q. s.True ∷ q.1) same; good = tt }
value-sound (s.False ∷ ts) x rest h = let same = ok_same _ _ h in record { rule = boolean false; reads = ap (λ q. q.0) same; yields = ap (λ q. s.False ∷ q.1) same; good = tt }
value-sound (s.Open ∷ ts) x rest h =
    in_steps _ _ (x, rest) h (λ nothing past closed same_h.
    let same = ok_same _ _ same_h in
    record { rule = unit; reads = ap (λ q. q.0) same; yields = ap (λ l. s.Open ∷ l) (close-sound ts (nothing, past) closed ∙ ap (λ q. s.Close ∷ q.1) same); good = tt })
value-sound (s.Int t ∷ ts) x rest h =
    in_steps _ _ (x, rest) h (λ y past found same_h.
    in_steps _ _ (y, past) found (λ nothing past1 is_colons went.
    in_steps _ _ (y, past) went (λ z past2 bounded same_h2.
    let same = ok_same _ _ same_h2 ∙ ok_same _ _ same_h in
    bound-sound t past1 z past2 bounded
    (λ is yields. record { rule = least t; reads = is ∙ ap (λ q. q.0) same; yields = ap (λ l. s.Int t ∷ l) (colons-sound ts (nothing, past1) is_colons ∙ ap (λ l. s.Colons ∷ l) (yields ∙ ap (λ q. s.Name 5 ∷ q.1) same)); good = tt })
    (λ is yields. record { rule = most t; reads = is ∙ ap (λ q. q.0) same; yields = ap (λ l. s.Int t ∷ l) (colons-sound ts (nothing, past1) is_colons ∙ ap (λ l. s.Colons ∷ l) (yields ∙ ap (λ q. s.Name 6 ∷ q.1) same)); good = tt }))))
value-sound (y ∷ ts) x rest h = number-first (y ∷ ts) x rest h

-- ---- operands

operand-bare : (q : PlaceRule) (rest : List Symbol) → operand (place_put q rest) ≡ and_then (place_at 65 (place_put q rest)) (λ q ts. Ok (o.Bare q, ts))
unfolding operand
operand-bare (local n) rest = refl
operand-bare (deref q) rest = refl
operand-bare (field q n t) rest = refl
operand-bare (variant_field q name_no n t) rest = refl

pub operand-complete : (x : OperandRule) (rest : List Symbol) → OperandGood x → operand (operand_put x rest) ≡ Ok (operand_text x, rest)
unfolding operand
operand-complete (copy q) rest h = rw (place-complete q 65 rest h.0 h.1) refl
operand-complete (move q) rest h = rw (place-complete q 65 rest h.0 h.1) refl
operand-complete (bare q) rest h = rw (operand-bare q rest, place-complete q 65 rest h.0 h.1) refl
operand-complete (const x) rest h = rw (value-complete x rest h) refl

abbrev pub IsOperand : List Symbol → OperandText → List Symbol → Type 0
IsOperand = IsRead operand_put operand_text OperandGood

bare-first : (ts : List Symbol) (x : OperandText) (rest : List Symbol) → and_then (place_at 65 ts) (λ q ts. Ok (o.Bare q, ts)) ≡ Ok (x, rest) → IsOperand ts x rest
bare-first ts x rest h =
    in_steps _ _ (x, rest) h (λ q past found same_h.
    let same = ok_same _ _ same_h in
    let inner = place-sound 65 ts q past found in
    record { rule = bare inner.rule; reads = ap o.Bare inner.reads ∙ ap (λ y. y.0) same; yields = inner.yields ∙ ap (λ y. place_put inner.rule y.1) same; good = inner.good })

pub operand-sound : (ts : List Symbol) (x : OperandText) (rest : List Symbol) → operand ts ≡ Ok (x, rest) → IsOperand ts x rest
unfolding operand
operand-sound [] x rest h = bare-first [] x rest h
operand-sound (s.Copy ∷ ts) x rest h =
    in_steps _ _ (x, rest) h (λ q past found same_h.
    let same = ok_same _ _ same_h in
    let inner = place-sound 65 ts q past found in
    record { rule = copy inner.rule; reads = ap o.Copy inner.reads ∙ ap (λ y. y.0) same; yields = ap (λ l. s.Copy ∷ l) (inner.yields ∙ ap (λ y. place_put inner.rule y.1) same); good = inner.good })
operand-sound (s.Move ∷ ts) x rest h =
    in_steps _ _ (x, rest) h (λ q past found same_h.
    let same = ok_same _ _ same_h in
    let inner = place-sound 65 ts q past found in
    record { rule = move inner.rule; reads = ap o.Move inner.reads ∙ ap (λ y. y.0) same; yields = ap (λ l. s.Move ∷ l) (inner.yields ∙ ap (λ y. place_put inner.rule y.1) same); good = inner.good })
operand-sound (s.Const ∷ ts) x rest h =
    in_steps _ _ (x, rest) h (λ q past found same_h.
    let same = ok_same _ _ same_h in
    let inner = value-sound ts q past found in
    record { rule = const inner.rule; reads = ap o.Const inner.reads ∙ ap (λ y. y.0) same; yields = ap (λ l. s.Const ∷ l) (inner.yields ∙ ap (λ y. value_put inner.rule y.1) same); good = inner.good })
operand-sound (y ∷ ts) x rest h = bare-first (y ∷ ts) x rest h

no_paren : (x : OperandRule) (rest : List Symbol) → closing_paren (operand_put x rest) ≡ None
unfolding closing_paren
no_paren (copy q) rest = refl
no_paren (move q) rest = refl
no_paren (const x) rest = refl
no_paren (bare (local n)) rest = refl
no_paren (bare (deref q)) rest = refl
no_paren (bare (field q n t)) rest = refl
no_paren (bare (variant_field q name_no n t)) rest = refl

pub operand_laws : ItemLaws closing_paren operand operand_put operand_text OperandGood s.Close
operand_laws = record { closes = paren_closes; no_item = no_paren; before_comma = λ x rest h. operand-complete x (s.Comma ∷ rest) h; before_sign = λ x rest h. operand-complete x (s.Close ∷ rest) h; sound = operand-sound; grows = operand_grows }

-- ---- named operands

named-complete : (x : NamedRule) (rest : List Symbol) → NamedGood x → named (named_put x rest) ≡ Ok (named_text x, rest)
unfolding named name_at colon
named-complete x rest h = rw (operand-complete x.1 rest h) refl

named-sound : (ts : List Symbol) (x : NamedText) (rest : List Symbol) → named ts ≡ Ok (x, rest) → IsRead named_put named_text NamedGood ts x rest
unfolding named
named-sound ts x rest h =
    in_steps _ _ (x, rest) h (λ n past named_is went.
    in_steps _ _ (x, rest) went (λ nothing past2 is_colon went2.
    in_steps _ _ (x, rest) went2 (λ y past3 found same_h.
    let same = ok_same _ _ same_h in
    let inner = operand-sound past2 y past3 found in
    let f : OperandText → NamedText = λ z. record { name = n; operand = z } in
    record {
      rule = (n, inner.rule);
      reads = ap f inner.reads ∙ ap (λ q. q.0) same;
      yields = name-sound ts (n, past) named_is ∙ ap (λ l. s.Name n ∷ l) (colon-sound past (nothing, past2) is_colon ∙ ap (λ l. s.Colon ∷ l) (inner.yields ∙ ap (λ q. operand_put inner.rule q.1) same));
      good = inner.good;
    })))

no_brace : (x : NamedRule) (rest : List Symbol) → closing_brace (named_put x rest) ≡ None
unfolding closing_brace
no_brace x rest = refl

pub named_laws : ItemLaws closing_brace named named_put named_text NamedGood s.CloseBrace
named_laws = record { closes = brace_closes; no_item = no_brace; before_comma = λ x rest h. named-complete x (s.Comma ∷ rest) h; before_sign = λ x rest h. named-complete x (s.CloseBrace ∷ rest) h; sound = named-sound; grows = named_grows }

-- ---- lists of them

pub operands-complete : (xs : Items OperandRule) (rest : List Symbol) → AllItems OperandGood xs → operands_at (items_put operand_put s.Close xs rest) ≡ Ok (items_text operand_text xs, rest)
operands-complete xs rest g = items-complete closing_paren operand operand_put operand_text OperandGood s.Close operand_laws xs rest g

pub operands-sound : (ts : List Symbol) (xs : ItemsText OperandText) (rest : List Symbol) → operands_at ts ≡ Ok (xs, rest) → IsRead (items_put operand_put s.Close) (items_text operand_text) (AllItems OperandGood) ts xs rest
operands-sound ts xs rest h = items-sound closing_paren operand operand_put operand_text OperandGood s.Close operand_laws _ ts xs rest h

pub nameds-complete : (xs : Items NamedRule) (rest : List Symbol) → AllItems NamedGood xs → nameds_at (items_put named_put s.CloseBrace xs rest) ≡ Ok (items_text named_text xs, rest)
nameds-complete xs rest g = items-complete closing_brace named named_put named_text NamedGood s.CloseBrace named_laws xs rest g

pub nameds-sound : (ts : List Symbol) (xs : ItemsText NamedText) (rest : List Symbol) → nameds_at ts ≡ Ok (xs, rest) → IsRead (items_put named_put s.CloseBrace) (items_text named_text) (AllItems NamedGood) ts xs rest
nameds-sound ts xs rest h = items-sound closing_brace named named_put named_text NamedGood s.CloseBrace named_laws _ ts xs rest h
