-- None or more items with commas between, up to a sign that closes them, a comma after the last being allowed.
use Rattle.std.specs.Prelude.{ℕ, zero, suc, true, false, List, [], ◌∷◌, ◌++◌, length, Ok, Err, Option, Some, None}
use Rattle.mir_text.specs.declared.symbol.Symbol.{Symbol}
use Rattle.mir_text.specs.declared.symbol.Symbol.TheVariants as s
use Rattle.mir_tree.specs.declared.Items.{Items}
use Rattle.mir_parse.specs.declared.list.Bracket.{Bracket}
use Rattle.mir_parse.specs.declared.list.Bracket.TheVariants as bracket
use Rattle.mir_parse.specs.declared.list.Turn.{Turn}
use Rattle.mir_parse.specs.declared.list.Turn.TheVariants as turn
use Rattle.mir_parse.specs.Faults.{no_reading}
use Rattle.mir_parse.specs.Parser.{Parse, and_then}
use Rattle.mir_parse.specs.Signs.{comma}

-- what stands past the closing sign, where it comes next
abbrev pub Closing : Type 0
Closing = List Symbol → Option (List Symbol)

unfoldable pub closing_paren : Closing
closing_paren (s.Close ∷ ts) = Some ts
closing_paren ts = None

unfoldable pub closing_brace : Closing
closing_brace (s.CloseBrace ∷ ts) = Some ts
closing_brace ts = None

abbrev pub closing : Bracket → Closing
closing bracket.Paren = closing_paren
closing bracket.Brace = closing_brace

abbrev pub after_by : Option (List Symbol) → Parse Turn
after_by (Some past) ts = Ok (turn.Ends false, past)
after_by None ts = and_then (comma ts) (λ _ ts. Ok (turn.More, ts))

-- behind an item: whether the items end
unfoldable pub after_item : Closing → Parse Turn
after_item closing ts = after_by (closing ts) ts

abbrev pub turn_by : {A : Type 0} → Option (List Symbol) → Closing → Parse A → List A → Parse (Turn × List A)
turn_by (Some past) closing item before ts = Ok ((turn.Ends true, before), past)
turn_by None closing item before ts = and_then (item ts) (λ x ts. and_then (after_item closing ts) (λ t ts. Ok ((t, before ++ x ∷ []), ts)))

-- the closing sign, or the next item and what stands behind it
unfoldable pub turn_of : {A : Type 0} → Closing → Parse A → List A → Parse (Turn × List A)
turn_of closing item before ts = turn_by (closing ts) closing item before ts

abbrev pub goes_on : {A : Type 0} → (List A → Parse (Items A)) → Turn × List A → Parse (Items A)
goes_on more (turn.Ends trailing, xs) ts = Ok (record { items = xs; trailing = trailing }, ts)
goes_on more (turn.More, xs) ts = more xs ts

-- the number bounds the turns
unfoldable pub items_from : {A : Type 0} → Closing → Parse A → ℕ → List A → Parse (Items A)
items_from closing item zero before ts = Err (no_reading ts)
items_from closing item (suc n) before ts = and_then (turn_of closing item before ts) (goes_on (items_from closing item n))

abbrev pub items_at : {A : Type 0} → Closing → Parse A → Parse (Items A)
items_at closing item ts = items_from closing item (suc (length ts)) [] ts
