-- Parsing the parts of terminators.
use Rattle.std.specs.Prelude.{ℕ, zero, suc, Bool, true, false, List, [], ◌∷◌, ◌++◌, length, Ok, Err}
use Rattle.mir_text.specs.declared.symbol.Symbol.{Symbol}
use Rattle.mir_text.specs.declared.symbol.Symbol.TheVariants as s
use Rattle.mir_tree.specs.declared.operand.OperandText.{OperandText}
use Rattle.mir_tree.specs.declared.body.UnwindText.{UnwindText}
use Rattle.mir_tree.specs.declared.body.UnwindText.TheVariants as u
use Rattle.mir_tree.specs.declared.body.ArmText.{ArmText}
use Rattle.mir_tree.specs.declared.body.TermText.{TermText}
use Rattle.mir_tree.specs.declared.body.TermText.TheVariants as m
use Rattle.mir_parse.specs.Faults.{no_reading}
use Rattle.mir_parse.specs.Parser.{Parse, and_then}
use Rattle.mir_parse.specs.Signs.{comma, open_paren, close, open_bracket, close_bracket, colon, arrow, returns, otherwise, unwind, this_name, block, string}
use Rattle.mir_parse.specs.Operands.{operand}
use Rattle.mir_parse.specs.Rvalues.{single, place_single}

unfoldable pub action : Parse UnwindText
action (s.Continue ∷ ts) = Ok (u.Continue, ts)
action (s.Unreachable ∷ ts) = Ok (u.Unreachable, ts)
action ts = Err (no_reading ts)

-- : bb , unwind ]
unfoldable pub goes_end : Parse (ℕ × UnwindText)
goes_end ts =
    and_then (colon ts) (λ _ ts. and_then (block ts) (λ n ts. and_then (comma ts) (λ _ ts. and_then (unwind ts) (λ _ ts.
    and_then (action ts) (λ a ts. and_then (close_bracket ts) (λ _ ts. Ok ((n, a), ts)))))))

-- -> [ return : bb , unwind ]
unfoldable pub return_target : Parse (ℕ × UnwindText)
return_target ts = and_then (arrow ts) (λ _ ts. and_then (open_bracket ts) (λ _ ts. and_then (returns ts) (λ _ ts. and_then (goes_end ts) (λ g ts. Ok (g, ts)))))

-- -> [ success : bb , unwind ], which is name 4
unfoldable pub success_target : Parse (ℕ × UnwindText)
success_target ts = and_then (arrow ts) (λ _ ts. and_then (open_bracket ts) (λ _ ts. and_then (this_name 4 ts) (λ _ ts. and_then (goes_end ts) (λ g ts. Ok (g, ts)))))

-- -> bb
unfoldable pub goto_end : Parse TermText
goto_end ts = and_then (arrow ts) (λ _ ts. and_then (block ts) (λ n ts. Ok (m.Goto n, ts)))

-- ---- lists that end where no further item begins

-- whether they end, and the items so far
abbrev pub Turns : Type 0 → Type 0
Turns A = List A → Parse (Bool × List A)

abbrev pub each_goes_on : {A : Type 0} → (List A → Parse (List A)) → Bool × List A → Parse (List A)
each_goes_on more (true, xs) ts = Ok (xs, ts)
each_goes_on more (false, xs) ts = more xs ts

-- the number bounds the turns
unfoldable pub each_from : {A : Type 0} → Turns A → ℕ → List A → Parse (List A)
each_from turn zero before ts = Err (no_reading ts)
each_from turn (suc n) before ts = and_then (turn before ts) (each_goes_on (each_from turn n))

abbrev pub each_at : {A : Type 0} → Turns A → Parse (List A)
each_at turn ts = each_from turn (suc (length ts)) [] ts

-- ---- switchInt

-- : bb ,
unfoldable pub arm_end : Parse ℕ
arm_end ts = and_then (colon ts) (λ _ ts. and_then (block ts) (λ n ts. and_then (comma ts) (λ _ ts. Ok (n, ts))))

unfoldable pub arms_turn : Turns ArmText
arms_turn before (s.Number v ∷ ts) = and_then (arm_end ts) (λ n ts. Ok ((false, before ++ (record { value = v; block = n }) ∷ []), ts))
arms_turn before ts = Ok ((true, before), ts)

abbrev pub arms_at : Parse (List ArmText)
arms_at ts = each_at arms_turn ts

-- otherwise : bb ]
unfoldable pub otherwise_end : Parse ℕ
otherwise_end ts = and_then (otherwise ts) (λ _ ts. and_then (colon ts) (λ _ ts. and_then (block ts) (λ n ts. and_then (close_bracket ts) (λ _ ts. Ok (n, ts)))))

-- ( operand ) -> [ (number : bb ,)* otherwise : bb ]
unfoldable pub switch_end : Parse TermText
switch_end ts =
    and_then (single ts) (λ x ts. and_then (arrow ts) (λ _ ts. and_then (open_bracket ts) (λ _ ts. and_then (arms_at ts) (λ arms ts.
    and_then (otherwise_end ts) (λ n ts. Ok (m.Switch x arms n, ts))))))

-- ( place ) -> [ return : bb , unwind ]
unfoldable pub drop_end : Parse TermText
drop_end ts = and_then (place_single ts) (λ q ts. and_then (return_target ts) (λ g ts. Ok (m.Drop q g.0 g.1, ts)))

-- ---- assert

-- whether the condition is to be true: no `!`
unfoldable pub expected_at : List Symbol → Bool × List Symbol
expected_at (s.Exclamation ∷ ts) = (false, ts)
expected_at ts = (true, ts)

-- , operand
unfoldable pub values_turn : Turns OperandText
values_turn before (s.Comma ∷ ts) = and_then (operand ts) (λ x ts. Ok ((false, before ++ x ∷ []), ts))
values_turn before ts = Ok ((true, before), ts)

abbrev pub values_at : Parse (List OperandText)
values_at ts = each_at values_turn ts

-- operand , string
unfoldable pub condition : Parse (OperandText × ℕ)
condition ts = and_then (operand ts) (λ x ts. and_then (comma ts) (λ _ ts. and_then (string ts) (λ n ts. Ok ((x, n), ts))))

-- (, operand)* ) -> [ success : bb , unwind ], behind a condition
unfoldable pub asserted : Bool → OperandText → ℕ → Parse TermText
asserted expected x message ts =
    and_then (values_at ts) (λ xs ts. and_then (close ts) (λ _ ts. and_then (success_target ts) (λ g ts. Ok (m.Assert expected x message xs g.0 g.1, ts))))

-- ( "!"? operand , string (, operand)* ) -> [ success : bb , unwind ]
unfoldable pub assert_end : Parse TermText
assert_end ts =
    and_then (open_paren ts) (λ _ ts. and_then (condition (expected_at ts).1) (λ c rest. and_then (asserted (expected_at ts).0 c.0 c.1 rest) (λ x rest. Ok (x, rest))))
