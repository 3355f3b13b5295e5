-- Parsing the parts of terminators is the grammar's rule, both ways.
use Rattle.std.proofs.Common.{◌≡◌, ℕ, zero, suc, ◌<◌, Bool, true, false, List, [], ◌∷◌, ◌++◌, map, length, Ok, refl, sym, ap, ap₂, ◌∙◌, arith, append_assoc, append-nil}
use Rattle.mir_text.specs.declared.symbol.Symbol.{Symbol}
use Rattle.mir_text.specs.declared.symbol.Symbol.TheVariants as s
use Rattle.mir_text.specs.Symbols.{success_name}
use Rattle.mir_text.specs.Grammar.{Put, each_put, AllOf}
use Rattle.mir_text.specs.GrammarPlaces.{PlaceRule, local, deref, field, variant_field, place_put, OperandRule, copy, move, bare, const, operand_put}
use Rattle.mir_text.specs.GrammarTerms.{UnwindRule, continues, unreachable, unwind_put, ArmRule, arm_put, value_operand_put, expected_put, goes_put, TermRule, goto, returns, never, switch, call, drop, assert, term_put}
use Rattle.mir_text.specs.Nesting.{OperandGood, PlaceGood, TermGood}
use Rattle.mir_tree.specs.declared.operand.OperandText.{OperandText}
use Rattle.mir_tree.specs.declared.body.UnwindText.{UnwindText}
use Rattle.mir_tree.specs.declared.body.UnwindText.TheVariants as u
use Rattle.mir_tree.specs.declared.body.ArmText.{ArmText}
use Rattle.mir_tree.specs.declared.body.TermText.{TermText}
use Rattle.mir_tree.specs.declared.body.TermText.TheVariants as m
use Rattle.mir_tree.specs.Types.{path_text}
use Rattle.mir_tree.specs.Lists.{items_rule}
use Rattle.mir_tree.specs.Bodies.{operand_rule, unwind_rule, arm_rule, term_rule}
use Rattle.mir_tree.proofs.TypesBack.{path-back}
use Rattle.mir_parse.specs.Signs.{comma, open_paren, close, open_bracket, close_bracket, colon, arrow, returns as returns_at, otherwise, unwind, this_name, block, string}
use Rattle.mir_parse.specs.Rvalues.{single, place_single}
use Rattle.mir_parse.specs.Terms.{action, goes_end, return_target, success_target, goto_end, Turns, each_goes_on, each_from, arm_end, arms_turn, otherwise_end, switch_end, drop_end, expected_at, values_turn, condition, asserted, assert_end}
use Rattle.mir_parse.proofs.PlacesRead.{place_text, place-back, place-complete}
use Rattle.mir_parse.proofs.OperandsRead.{operand_text, operand-back, operand_grows, operand-complete, operand-sound}
use Rattle.mir_parse.proofs.RvaluesRead.{single-sound, place_single-sound}
use Rattle.mir_parse.proofs.Laws.{in_steps, id_steps, ok_same, IsRead, Grows, items_text, items-back, comma-sound, open_paren-sound, close-sound, open_bracket-sound, close_bracket-sound, colon-sound, arrow-sound, returns-sound, otherwise-sound, unwind-sound, this_name-sound, block-sound, string-sound}

-- ---- the trees

abbrev pub unwind_text : UnwindRule → UnwindText
unwind_text continues = u.Continue
unwind_text unreachable = u.Unreachable

abbrev pub arm_text : ArmRule → ArmText
arm_text a = record { value = a.0; block = a.1 }

abbrev pub term_text : TermRule → TermText
term_text (goto b) = m.Goto b
term_text returns = m.Return
term_text never = m.Unreachable
term_text (switch x arms b) = m.Switch (operand_text x) (map arm_text arms) b
term_text (call q path xs b w) = m.Call (place_text q) (path_text path) (items_text operand_text xs) b (unwind_text w)
term_text (drop q b w) = m.Drop (place_text q) b (unwind_text w)
term_text (assert expected x message xs b w) = m.Assert expected (operand_text x) message (map operand_text xs) b (unwind_text w)

unwind-back : (w : UnwindRule) → unwind_rule (unwind_text w) ≡ w
unwind-back continues = refl
unwind-back unreachable = refl

pub map-back : {R A : Type 0} (of : R → A) (rule : A → R) → ((r : R) → rule (of r) ≡ r) → (rs : List R) → map rule (map of rs) ≡ rs
map-back of rule back [] = refl
map-back of rule back (r ∷ rs) = ap₂ (λ x xs. x ∷ xs) (back r) (map-back of rule back rs)

arm-back : (a : ArmRule) → arm_rule (arm_text a) ≡ a
arm-back a = refl

pub term-back : (x : TermRule) → term_rule (term_text x) ≡ x
term-back (goto b) = refl
term-back returns = refl
term-back never = refl
term-back (switch x arms b) = ap₂ (λ y ys. switch y ys b) (operand-back x) (map-back arm_text arm_rule arm-back arms)
term-back (call q path xs b w) =
    ap₂ (λ y z. call y z (items_rule operand_rule (items_text operand_text xs)) b (unwind_rule (unwind_text w))) (place-back q) (path-back path)
    ∙ ap₂ (λ y z. call q path y b z) (items-back operand_text operand_rule operand-back xs) (unwind-back w)
term-back (drop q b w) = ap₂ (λ y z. drop y b z) (place-back q) (unwind-back w)
term-back (assert expected x message xs b w) =
    ap₂ (λ y z. assert expected y message z b (unwind_rule (unwind_text w))) (operand-back x) (map-back operand_text operand_rule operand-back xs) ∙ ap (λ z. assert expected x message xs b z) (unwind-back w)

-- ---- where it goes on

pub return_target-complete : (b : ℕ) (w : UnwindRule) (rest : List Symbol) → return_target (goes_put s.Return b w rest) ≡ Ok ((b, unwind_text w), rest)
unfolding return_target arrow open_bracket returns_at goes_end colon block comma unwind action close_bracket
return_target-complete b continues rest = refl
return_target-complete b unreachable rest = refl

success_target-complete : (b : ℕ) (w : UnwindRule) (rest : List Symbol) → success_target (goes_put success_name b w rest) ≡ Ok ((b, unwind_text w), rest)
unfolding success_target arrow open_bracket this_name goes_end colon block comma unwind action close_bracket
success_target-complete b continues rest = refl
success_target-complete b unreachable rest = refl

action-sound : {R : Type 0} (ts : List Symbol) (a : UnwindText) (rest : List Symbol) → action ts ≡ Ok (a, rest) → ((w : UnwindRule) → unwind_text w ≡ a → s.Unwind ∷ ts ≡ unwind_put w rest → R) → R
unfolding action
action-sound [] a rest h k = absurd cc
action-sound (s.Continue ∷ ts) a rest h k = let same = ok_same _ _ h in k continues (ap (λ y. y.0) same) (ap (λ y. s.Unwind ∷ s.Continue ∷ y.1) same)
action-sound (s.Unreachable ∷ ts) a rest h k = let same = ok_same _ _ h in k unreachable (ap (λ y. y.0) same) (ap (λ y. s.Unwind ∷ s.Unreachable ∷ y.1) same)
action-sound (x ∷ ts) a rest h k = absurd cc

goes_end-sound : {R : Type 0} (ts : List Symbol) (g : ℕ × UnwindText) (rest : List Symbol) → goes_end ts ≡ Ok (g, rest)
    → ((w : UnwindRule) → (g.0, unwind_text w) ≡ g → ts ≡ s.Colon ∷ s.Block g.0 ∷ s.Comma ∷ unwind_put w (s.CloseBracket ∷ rest) → R) → R
unfolding goes_end
goes_end-sound ts g rest h k =
    in_steps _ _ (g, rest) h (λ a past1 coloned h1.
    in_steps _ _ (g, rest) h1 (λ b past2 blocked h2.
    in_steps _ _ (g, rest) h2 (λ c past3 is_comma h3.
    in_steps _ _ (g, rest) h3 (λ d past4 unwinds h4.
    in_steps _ _ (g, rest) h4 (λ e past5 acts h5.
    in_steps _ _ (g, rest) h5 (λ f past6 closes same_h.
    let same = ok_same _ _ same_h in
    action-sound past4 e past5 acts (λ w is yields.
    let b_is : b ≡ g.0 = ap (λ y. y.0.0) same in
    let e_is : e ≡ g.1 = ap (λ y. y.0.1) same in
    let pair : UnwindText → ℕ × UnwindText = λ z. (g.0, z) in
    k w (ap pair (is ∙ e_is))
    (colon-sound ts (a, past1) coloned ∙ ap (λ l. s.Colon ∷ l) (block-sound past1 (b, past2) blocked ∙ ap₂ (λ n l. s.Block n ∷ l) b_is (comma-sound past2 (c, past3) is_comma
    ∙ ap (λ l. s.Comma ∷ l) (unwind-sound past3 (d, past4) unwinds ∙ yields ∙ ap (unwind_put w) (close_bracket-sound past5 (f, past6) closes ∙ ap (λ y. s.CloseBracket ∷ y.1) same))))))))))))

pub return_target-sound : {R : Type 0} (ts : List Symbol) (g : ℕ × UnwindText) (rest : List Symbol) → return_target ts ≡ Ok (g, rest)
    → ((w : UnwindRule) → (g.0, unwind_text w) ≡ g → ts ≡ goes_put s.Return g.0 w rest → R) → R
unfolding return_target
return_target-sound ts g rest h k =
    in_steps _ _ (g, rest) h (λ a past1 arrows h1.
    in_steps _ _ (g, rest) h1 (λ b past2 opens h2.
    in_steps _ _ (g, rest) h2 (λ c past3 is_return h3.
    goes_end-sound past3 g rest (sym (id_steps (goes_end past3)) ∙ h3) (λ w is yields.
    k w is (arrow-sound ts (a, past1) arrows ∙ ap (λ l. s.Arrow ∷ l) (open_bracket-sound past1 (b, past2) opens ∙ ap (λ l. s.OpenBracket ∷ l) (returns-sound past2 (c, past3) is_return ∙ ap (λ l. s.Return ∷ l) yields)))))))

success_target-sound : {R : Type 0} (ts : List Symbol) (g : ℕ × UnwindText) (rest : List Symbol) → success_target ts ≡ Ok (g, rest)
    → ((w : UnwindRule) → (g.0, unwind_text w) ≡ g → ts ≡ goes_put success_name g.0 w rest → R) → R
unfolding success_target
success_target-sound ts g rest h k =
    in_steps _ _ (g, rest) h (λ a past1 arrows h1.
    in_steps _ _ (g, rest) h1 (λ b past2 opens h2.
    in_steps _ _ (g, rest) h2 (λ c past3 is_name h3.
    goes_end-sound past3 g rest (sym (id_steps (goes_end past3)) ∙ h3) (λ w is yields.
    k w is (arrow-sound ts (a, past1) arrows ∙ ap (λ l. s.Arrow ∷ l) (open_bracket-sound past1 (b, past2) opens ∙ ap (λ l. s.OpenBracket ∷ l) (this_name-sound 4 past2 (c, past3) is_name ∙ ap (λ l. success_name ∷ l) yields)))))))

-- ---- lists that end where no further item begins

pub data Turned {R A : Type 0} (put : Put R) (of : R → A) (Good : R → Type 0) (before : List A) (ts : List Symbol) (q : Bool × List A) (rest : List Symbol) : Type 0 where
  ends : q ≡ (true, before) → ts ≡ rest → Turned put of Good before ts q rest
  goes : (x : A) → q ≡ (false, before ++ x ∷ []) → IsRead put of Good ts x rest → Turned put of Good before ts q rest

pub record EachLaws {R A : Type 0} (turn : Turns A) (put : Put R) (of : R → A) (Good : R → Type 0) : Type 0 where
  pub complete : (r : R) (before : List A) (rest : List Symbol) → Good r → turn before (put r rest) ≡ Ok ((false, before ++ of r ∷ []), rest)
  pub sound : (before : List A) (ts : List Symbol) (q : Bool × List A) (rest : List Symbol) → turn before ts ≡ Ok (q, rest) → Turned put of Good before ts q rest
  pub grows : Grows put

-- no item begins here
abbrev Stops : {A : Type 0} → Turns A → List Symbol → Type 0
Stops {A} turn rest = (before : List A) → turn before rest ≡ Ok ((true, before), rest)

few_items : {R A : Type 0} (turn : Turns A) (put : Put R) (of : R → A) (Good : R → Type 0) → EachLaws turn put of Good → (rs : List R) (rest : List Symbol) → length rs < suc (length (each_put put rs rest))
few_items turn put of Good laws [] rest = omega arith
few_items turn put of Good laws (r ∷ rs) rest = omega (arith, laws.grows r (each_put put rs rest), few_items turn put of Good laws rs rest)

each_from-complete : {R A : Type 0} (turn : Turns A) (put : Put R) (of : R → A) (Good : R → Type 0) → EachLaws turn put of Good
    → (rs : List R) (n : ℕ) (before : List A) (rest : List Symbol) → AllOf Good rs → Stops turn rest → length rs < n → each_from turn n before (each_put put rs rest) ≡ Ok (before ++ map of rs, rest)
unfolding each_from
each_from-complete turn put of Good laws rs zero before rest g stop h = absurd (omega arith)
each_from-complete turn put of Good laws [] (suc n) before rest g stop h = rw (stop before, append-nil before) refl
each_from-complete turn put of Good laws (r ∷ rs) (suc n) before rest g stop h =
    rw (
      laws.complete r before (each_put put rs rest) g.0,
      each_from-complete turn put of Good laws rs n (before ++ of r ∷ []) rest g.1 stop (omega arith),
      append_assoc before (of r ∷ []) (map of rs),
    ) refl

record AreEach {R A : Type 0} (put : Put R) (of : R → A) (Good : R → Type 0) (ts : List Symbol) (before xs : List A) (rest : List Symbol) : Type 0 where
  pub rule : List R
  pub reads : before ++ map of rule ≡ xs
  pub yields : ts ≡ each_put put rule rest
  pub good : AllOf Good rule

none_each : {R A : Type 0} (put : Put R) (of : R → A) (Good : R → Type 0) (ts rest : List Symbol) (before xs : List A) → before ≡ xs → ts ≡ rest → AreEach put of Good ts before xs rest
none_each put of Good ts rest before xs is yields = record { rule = []; reads = append-nil before ∙ is; yields = yields; good = tt }

one_each : {R A : Type 0} (put : Put R) (of : R → A) (Good : R → Type 0) (ts past rest : List Symbol) (before xs : List A) (x : A) → IsRead put of Good ts x past → AreEach put of Good past (before ++ x ∷ []) xs rest → AreEach put of Good ts before xs rest
one_each put of Good ts past rest before xs x first others =
    record {
      rule = first.rule ∷ others.rule;
      reads = ap (λ y. before ++ y ∷ map of others.rule) first.reads ∙ sym (append_assoc before (x ∷ []) (map of others.rule)) ∙ others.reads;
      yields = first.yields ∙ ap (put first.rule) others.yields;
      good = (first.good, others.good);
    }

each_by : {R A : Type 0} (turn : Turns A) (put : Put R) (of : R → A) (Good : R → Type 0) (n : ℕ)
    → ((ts : List Symbol) (before xs : List A) (rest : List Symbol) → each_from turn n before ts ≡ Ok (xs, rest) → AreEach put of Good ts before xs rest)
    → (ts past : List Symbol) (before xs : List A) (q : Bool × List A) (rest : List Symbol) → Turned put of Good before ts q past → each_goes_on (each_from turn n) q past ≡ Ok (xs, rest) → AreEach put of Good ts before xs rest
each_by turn put of Good n more_sound ts past before xs q rest (ends is yields) went =
    let same = ok_same _ _ (ap (λ y. each_goes_on (each_from turn n) y past) (sym is) ∙ went) in
    none_each put of Good ts rest before xs (ap (λ y. y.0) same) (yields ∙ ap (λ y. y.1) same)
each_by turn put of Good n more_sound ts past before xs q rest (goes x is first) went =
    one_each put of Good ts past rest before xs x first (more_sound past (before ++ x ∷ []) xs rest (ap (λ y. each_goes_on (each_from turn n) y past) (sym is) ∙ went))

each_from-sound : {R A : Type 0} (turn : Turns A) (put : Put R) (of : R → A) (Good : R → Type 0) → EachLaws turn put of Good
    → (n : ℕ) (ts : List Symbol) (before xs : List A) (rest : List Symbol) → each_from turn n before ts ≡ Ok (xs, rest) → AreEach put of Good ts before xs rest
unfolding each_from
each_from-sound turn put of Good laws zero ts before xs rest h = absurd cc
each_from-sound turn put of Good laws (suc n) ts before xs rest h =
    in_steps _ _ (xs, rest) h (λ q past turned went.
    each_by turn put of Good n (each_from-sound turn put of Good laws n) ts past before xs q rest (laws.sound before ts q past turned) went)

-- ---- arms

abbrev Free : ArmRule → Type 0
Free a = Unit {0}

all_free : (arms : List ArmRule) → AllOf Free arms
all_free [] = tt
all_free (a ∷ arms) = (tt, all_free arms)

arm-complete : (a : ArmRule) (before : List ArmText) (rest : List Symbol) → Free a → arms_turn before (arm_put a rest) ≡ Ok ((false, before ++ arm_text a ∷ []), rest)
unfolding arms_turn arm_end colon block comma
arm-complete a before rest g = refl

arm_end-sound : (ts : List Symbol) (n : ℕ) (rest : List Symbol) → arm_end ts ≡ Ok (n, rest) → ts ≡ s.Colon ∷ s.Block n ∷ s.Comma ∷ rest
unfolding arm_end
arm_end-sound ts n rest h =
    in_steps _ _ (n, rest) h (λ a past1 coloned h1.
    in_steps _ _ (n, rest) h1 (λ b past2 blocked h2.
    in_steps _ _ (n, rest) h2 (λ c past3 is_comma same_h.
    let same = ok_same _ _ same_h in
    colon-sound ts (a, past1) coloned ∙ ap (λ l. s.Colon ∷ l) (block-sound past1 (b, past2) blocked ∙ ap (λ l. s.Block b ∷ l) (comma-sound past2 (c, past3) is_comma)) ∙ ap (λ y. s.Colon ∷ s.Block y.0 ∷ s.Comma ∷ y.1) same)))

arm-sound : (before : List ArmText) (ts : List Symbol) (q : Bool × List ArmText) (rest : List Symbol) → arms_turn before ts ≡ Ok (q, rest) → Turned arm_put arm_text Free before ts q rest
unfolding arms_turn
arm-sound before [] q rest h = let same = ok_same _ _ h in ends (sym (ap (λ y. y.0) same)) (ap (λ y. y.1) same)
arm-sound before (s.Number v ∷ ts) q rest h =
    in_steps _ _ (q, rest) h (λ n past found same_h.
    let same = ok_same _ _ same_h in
    goes (arm_text (v, n)) (sym (ap (λ y. y.0) same)) (record { rule = (v, n); reads = refl; yields = ap (λ l. s.Number v ∷ l) (arm_end-sound ts n past found) ∙ ap (λ y. arm_put (v, n) y.1) same; good = tt }))
arm-sound before (x ∷ ts) q rest h = let same = ok_same _ _ h in ends (sym (ap (λ y. y.0) same)) (ap (λ y. y.1) same)

arm_grows : (a : ArmRule) (rest : List Symbol) → length rest < length (arm_put a rest)
arm_grows a rest = omega arith

arm_laws : EachLaws arms_turn arm_put arm_text Free
arm_laws = record { complete = arm-complete; sound = arm-sound; grows = arm_grows }

arms_stop : (rest : List Symbol) → Stops arms_turn (s.Otherwise ∷ rest)
unfolding arms_turn
arms_stop rest before = refl

-- ---- operands of a message

value-complete : (x : OperandRule) (before : List OperandText) (rest : List Symbol) → OperandGood x → values_turn before (value_operand_put x rest) ≡ Ok ((false, before ++ operand_text x ∷ []), rest)
unfolding values_turn
value-complete x before rest g = rw (operand-complete x rest g) refl

value-sound : (before : List OperandText) (ts : List Symbol) (q : Bool × List OperandText) (rest : List Symbol) → values_turn before ts ≡ Ok (q, rest) → Turned value_operand_put operand_text OperandGood before ts q rest
unfolding values_turn
value-sound before [] q rest h = let same = ok_same _ _ h in ends (sym (ap (λ y. y.0) same)) (ap (λ y. y.1) same)
value-sound before (s.Comma ∷ ts) q rest h =
    in_steps _ _ (q, rest) h (λ x past found same_h.
    let same = ok_same _ _ same_h in
    let inner = operand-sound ts x past found in
    goes x (sym (ap (λ y. y.0) same)) (record { rule = inner.rule; reads = inner.reads; yields = ap (λ l. s.Comma ∷ l) (inner.yields ∙ ap (λ y. operand_put inner.rule y.1) same); good = inner.good }))
value-sound before (x ∷ ts) q rest h = let same = ok_same _ _ h in ends (sym (ap (λ y. y.0) same)) (ap (λ y. y.1) same)

value_grows : (x : OperandRule) (rest : List Symbol) → length rest < length (value_operand_put x rest)
value_grows x rest = omega (arith, operand_grows x rest)

value_laws : EachLaws values_turn value_operand_put operand_text OperandGood
value_laws = record { complete = value-complete; sound = value-sound; grows = value_grows }

values_stop : (rest : List Symbol) → Stops values_turn (s.Close ∷ rest)
unfolding values_turn
values_stop rest before = refl

-- ---- terminators behind their words: what the grammar puts is read

pub goto-complete : (b : ℕ) (rest : List Symbol) → goto_end (s.Arrow ∷ s.Block b ∷ rest) ≡ Ok (m.Goto b, rest)
unfolding goto_end arrow block
goto-complete b rest = refl

abbrev switch_put : OperandRule → List ArmRule → ℕ → List Symbol → List Symbol
switch_put x arms b rest = s.Open ∷ operand_put x (s.Close ∷ s.Arrow ∷ s.OpenBracket ∷ each_put arm_put arms (s.Otherwise ∷ s.Colon ∷ s.Block b ∷ s.CloseBracket ∷ rest))

pub switch-complete : (x : OperandRule) (arms : List ArmRule) (b : ℕ) (rest : List Symbol) → OperandGood x → switch_end (switch_put x arms b rest) ≡ Ok (m.Switch (operand_text x) (map arm_text arms) b, rest)
unfolding switch_end single open_paren close arrow open_bracket otherwise_end otherwise colon block close_bracket
switch-complete x arms b rest g =
    let after = s.Otherwise ∷ s.Colon ∷ s.Block b ∷ s.CloseBracket ∷ rest in
    rw (
      operand-complete x (s.Close ∷ s.Arrow ∷ s.OpenBracket ∷ each_put arm_put arms after) g,
      each_from-complete arms_turn arm_put arm_text Free arm_laws arms (suc (length (each_put arm_put arms after))) [] after (all_free arms) (arms_stop (s.Colon ∷ s.Block b ∷ s.CloseBracket ∷ rest))
          (few_items arms_turn arm_put arm_text Free arm_laws arms after),
    ) refl

pub drop-complete : (q : PlaceRule) (b : ℕ) (w : UnwindRule) (rest : List Symbol) → PlaceGood 65 q
    → drop_end (s.Open ∷ place_put q (s.Close ∷ goes_put s.Return b w rest)) ≡ Ok (m.Drop (place_text q) b (unwind_text w), rest)
unfolding drop_end place_single open_paren close
drop-complete q b w rest g = rw (place-complete q 65 (s.Close ∷ goes_put s.Return b w rest) g.0 g.1, return_target-complete b w rest) refl

no_exclamation : (x : OperandRule) (rest : List Symbol) → expected_at (operand_put x rest) ≡ (true, operand_put x rest)
unfolding expected_at
no_exclamation (copy q) rest = refl
no_exclamation (move q) rest = refl
no_exclamation (const x) rest = refl
no_exclamation (bare (local n)) rest = refl
no_exclamation (bare (deref q)) rest = refl
no_exclamation (bare (field q n t)) rest = refl
no_exclamation (bare (variant_field q name_no n t)) rest = refl

expected-complete : (expected : Bool) (x : OperandRule) (rest : List Symbol) → expected_at (expected_put expected (operand_put x rest)) ≡ (expected, operand_put x rest)
unfolding expected_at
expected-complete true x rest = no_exclamation x rest
expected-complete false x rest = refl

abbrev assert_put : Bool → OperandRule → ℕ → List OperandRule → ℕ → UnwindRule → List Symbol → List Symbol
assert_put expected x message xs b w rest =
    s.Open ∷ expected_put expected (operand_put x (s.Comma ∷ s.Text message ∷ each_put value_operand_put xs (s.Close ∷ goes_put success_name b w rest)))

asserted-complete : (expected : Bool) (x : OperandText) (message : ℕ) (xs : List OperandRule) (b : ℕ) (w : UnwindRule) (rest : List Symbol) → AllOf OperandGood xs
    → asserted expected x message (each_put value_operand_put xs (s.Close ∷ goes_put success_name b w rest)) ≡ Ok (m.Assert expected x message (map operand_text xs) b (unwind_text w), rest)
unfolding asserted close
asserted-complete expected x message xs b w rest g =
    let after = s.Close ∷ goes_put success_name b w rest in
    rw (
      each_from-complete values_turn value_operand_put operand_text OperandGood value_laws xs (suc (length (each_put value_operand_put xs after))) [] after g (values_stop (goes_put success_name b w rest))
          (few_items values_turn value_operand_put operand_text OperandGood value_laws xs after),
      success_target-complete b w rest,
    ) refl

pub assert-complete : (expected : Bool) (x : OperandRule) (message : ℕ) (xs : List OperandRule) (b : ℕ) (w : UnwindRule) (rest : List Symbol) → OperandGood x → AllOf OperandGood xs
    → assert_end (assert_put expected x message xs b w rest) ≡ Ok (m.Assert expected (operand_text x) message (map operand_text xs) b (unwind_text w), rest)
unfolding assert_end open_paren condition comma string
assert-complete expected x message xs b w rest g gs =
    let values = each_put value_operand_put xs (s.Close ∷ goes_put success_name b w rest) in
    rw (
      expected-complete expected x (s.Comma ∷ s.Text message ∷ values),
      operand-complete x (s.Comma ∷ s.Text message ∷ values) g,
      asserted-complete expected (operand_text x) message xs b w rest gs,
    ) refl

-- ---- what is read is what the grammar puts

abbrev pub IsTerm : List Symbol → TermText → List Symbol → Type 0
IsTerm = IsRead term_put term_text TermGood

pub goto-sound : (ts : List Symbol) (x : TermText) (rest : List Symbol) → goto_end ts ≡ Ok (x, rest) → IsTerm (s.Goto ∷ ts) x rest
unfolding goto_end
goto-sound ts x rest h =
    in_steps _ _ (x, rest) h (λ a past1 arrows h1.
    in_steps _ _ (x, rest) h1 (λ b past2 blocked same_h.
    let same = ok_same _ _ same_h in
    record {
      rule = goto b;
      reads = ap (λ y. y.0) same;
      yields = ap (λ l. s.Goto ∷ l) (arrow-sound ts (a, past1) arrows ∙ ap (λ l. s.Arrow ∷ l) (block-sound past1 (b, past2) blocked)) ∙ ap (λ y. s.Goto ∷ s.Arrow ∷ s.Block b ∷ y.1) same;
      good = tt;
    }))

otherwise_end-sound : (ts : List Symbol) (n : ℕ) (rest : List Symbol) → otherwise_end ts ≡ Ok (n, rest) → ts ≡ s.Otherwise ∷ s.Colon ∷ s.Block n ∷ s.CloseBracket ∷ rest
unfolding otherwise_end
otherwise_end-sound ts n rest h =
    in_steps _ _ (n, rest) h (λ a past1 is_word h1.
    in_steps _ _ (n, rest) h1 (λ b past2 coloned h2.
    in_steps _ _ (n, rest) h2 (λ c past3 blocked h3.
    in_steps _ _ (n, rest) h3 (λ d past4 closes same_h.
    let same = ok_same _ _ same_h in
    otherwise-sound ts (a, past1) is_word ∙ ap (λ l. s.Otherwise ∷ l) (colon-sound past1 (b, past2) coloned ∙ ap (λ l. s.Colon ∷ l) (block-sound past2 (c, past3) blocked ∙ ap (λ l. s.Block c ∷ l) (close_bracket-sound past3 (d, past4) closes)))
    ∙ ap (λ y. s.Otherwise ∷ s.Colon ∷ s.Block y.0 ∷ s.CloseBracket ∷ y.1) same))))

pub switch-sound : (ts : List Symbol) (x : TermText) (rest : List Symbol) → switch_end ts ≡ Ok (x, rest) → IsTerm (s.SwitchInt ∷ ts) x rest
unfolding switch_end
switch-sound ts x rest h =
    in_steps _ _ (x, rest) h (λ y past1 found h1.
    in_steps _ _ (x, rest) h1 (λ a past2 arrows h2.
    in_steps _ _ (x, rest) h2 (λ b past3 opens h3.
    in_steps _ _ (x, rest) h3 (λ arms past4 found2 h4.
    in_steps _ _ (x, rest) h4 (λ n past5 found3 same_h.
    let same = ok_same _ _ same_h in
    single-sound ts y past1 found (λ o is yields good.
    let each = each_from-sound arms_turn arm_put arm_text Free arm_laws _ past3 [] arms past4 found2 in
    record {
      rule = switch o each.rule n;
      reads = ap₂ (λ p ps. m.Switch p ps n) is each.reads ∙ ap (λ y. y.0) same;
      yields = ap (λ l. s.SwitchInt ∷ l) (yields ∙ ap (λ l. s.Open ∷ operand_put o (s.Close ∷ l)) (arrow-sound past1 (a, past2) arrows ∙ ap (λ l. s.Arrow ∷ l) (open_bracket-sound past2 (b, past3) opens
          ∙ ap (λ l. s.OpenBracket ∷ l) (each.yields ∙ ap (each_put arm_put each.rule) (otherwise_end-sound past4 n past5 found3))))) ∙ ap (λ y. term_put (switch o each.rule n) y.1) same;
      good = good;
    }))))))

pub drop-sound : (ts : List Symbol) (x : TermText) (rest : List Symbol) → drop_end ts ≡ Ok (x, rest) → IsTerm (s.Drop ∷ ts) x rest
unfolding drop_end
drop-sound ts x rest h =
    in_steps _ _ (x, rest) h (λ y past1 found h1.
    in_steps _ _ (x, rest) h1 (λ g past2 found2 same_h.
    let same = ok_same _ _ same_h in
    place_single-sound ts y past1 found (λ q is yields good.
    return_target-sound past1 g past2 found2 (λ w w_is target.
    record {
      rule = drop q g.0 w;
      reads = ap₂ (λ p z. m.Drop p z.0 z.1) is w_is ∙ ap (λ y. y.0) same;
      yields = ap (λ l. s.Drop ∷ l) (yields ∙ ap (λ l. s.Open ∷ place_put q (s.Close ∷ l)) target) ∙ ap (λ y. term_put (drop q g.0 w) y.1) same;
      good = good;
    }))))

expected-put : (ts : List Symbol) → ts ≡ expected_put (expected_at ts).0 (expected_at ts).1
unfolding expected_at
expected-put [] = refl
expected-put (s.Exclamation ∷ ts) = refl
expected-put (x ∷ ts) = refl

condition-sound : {R : Type 0} (ts : List Symbol) (c : OperandText × ℕ) (rest : List Symbol) → condition ts ≡ Ok (c, rest)
    → ((x : OperandRule) → operand_text x ≡ c.0 → ts ≡ operand_put x (s.Comma ∷ s.Text c.1 ∷ rest) → OperandGood x → R) → R
unfolding condition
condition-sound ts c rest h k =
    in_steps _ _ (c, rest) h (λ x past1 found h1.
    in_steps _ _ (c, rest) h1 (λ a past2 is_comma h2.
    in_steps _ _ (c, rest) h2 (λ n past3 is_text same_h.
    let same = ok_same _ _ same_h in
    let inner = operand-sound ts x past1 found in
    k inner.rule (inner.reads ∙ ap (λ y. y.0.0) same)
    (inner.yields ∙ ap (operand_put inner.rule) (comma-sound past1 (a, past2) is_comma ∙ ap (λ l. s.Comma ∷ l) (string-sound past2 (n, past3) is_text ∙ ap (λ y. s.Text y.0.1 ∷ y.1) same)))
    inner.good)))

asserted-sound : {R : Type 0} (expected : Bool) (x : OperandText) (message : ℕ) (ts : List Symbol) (y : TermText) (rest : List Symbol) → asserted expected x message ts ≡ Ok (y, rest)
    → ((xs : List OperandRule) (b : ℕ) (w : UnwindRule) → m.Assert expected x message (map operand_text xs) b (unwind_text w) ≡ y → ts ≡ each_put value_operand_put xs (s.Close ∷ goes_put success_name b w rest) → AllOf OperandGood xs → R) → R
unfolding asserted
asserted-sound expected x message ts y rest h k =
    in_steps _ _ (y, rest) h (λ xs past1 found h1.
    in_steps _ _ (y, rest) h1 (λ a past2 closes h2.
    in_steps _ _ (y, rest) h2 (λ g past3 found2 same_h.
    let same = ok_same _ _ same_h in
    let each = each_from-sound values_turn value_operand_put operand_text OperandGood value_laws _ ts [] xs past1 found in
    success_target-sound past2 g past3 found2 (λ w w_is target.
    k each.rule g.0 w
    (ap₂ (λ ps z. m.Assert expected x message ps z.0 z.1) each.reads w_is ∙ ap (λ y. y.0) same)
    (each.yields ∙ ap (each_put value_operand_put each.rule) (close-sound past1 (a, past2) closes ∙ ap (λ l. s.Close ∷ l) target) ∙ ap (λ y. each_put value_operand_put each.rule (s.Close ∷ goes_put success_name g.0 w y.1)) same)
    each.good))))

pub assert-sound : (ts : List Symbol) (x : TermText) (rest : List Symbol) → assert_end ts ≡ Ok (x, rest) → IsTerm (s.Assert ∷ ts) x rest
unfolding assert_end
assert-sound ts x rest h =
    in_steps _ _ (x, rest) h (λ a past1 opens h1.
    in_steps _ _ (x, rest) h1 (λ c past2 found h2.
    let h3 = sym (id_steps (asserted (expected_at past1).0 c.0 c.1 past2)) ∙ h2 in
    condition-sound (expected_at past1).1 c past2 found (λ o is yields good.
    asserted-sound (expected_at past1).0 c.0 c.1 past2 x rest h3 (λ xs b w x_is values goods.
    record {
      rule = assert (expected_at past1).0 o c.1 xs b w;
      reads = ap (λ p. m.Assert (expected_at past1).0 p c.1 (map operand_text xs) b (unwind_text w)) is ∙ x_is;
      yields = ap (λ l. s.Assert ∷ l) (open_paren-sound ts (a, past1) opens ∙ ap (λ l. s.Open ∷ l) (expected-put past1
          ∙ ap (λ l. expected_put (expected_at past1).0 l) (yields ∙ ap (λ l. operand_put o (s.Comma ∷ s.Text c.1 ∷ l)) values)));
      good = (good, goods);
    }))))
