-- Terminators: the rule that writes one, its text, and back.
use Rattle.mir_round_trip.specs.Bodies.{IsArm, IsTerm, IsOperand}
use Rattle.std.proofs.Common.{◌≡◌, ◌<◌, ◌^◌, ℕ, Bool, true, false, List, [], ◌∷◌, ◌++◌, map, codes, refl, sym, ap, subst, append_assoc, decimal}
use Rattle.mir_syntax.specs.declared.body.Operand.{Operand}
use Rattle.mir_syntax.specs.declared.body.Arm.{Arm}
use Rattle.mir_syntax.specs.declared.body.Term.{Term}
use Rattle.mir_syntax.specs.declared.body.Term.TheVariants as term
use Rattle.mir_syntax.specs.Tree.{Tree}
use Rattle.mir_syntax.specs.Crate.{Crate}
use Rattle.mir_text.specs.declared.symbol.Symbol.TheVariants as s
use Rattle.mir_text.specs.Words.{word_place}
use Rattle.mir_text.specs.Symbols.{word_token, block_digits, number_in, success_name}
use Rattle.mir_text.specs.Grammar.{AllOf, each_put}
use Rattle.mir_text.specs.GrammarTerms as g
use Rattle.mir_text.specs.GrammarTerms.{ArmRule, TermRule, arm_put, goes_put, expected_put, value_operand_put, term_put}
use Rattle.mir_text.specs.Names.{Strings}
use Rattle.mir_text.specs.TypeText.{piece, more_items}
use Rattle.mir_text.specs.PlaceText.{operand_text}
use Rattle.mir_text.specs.TermText.{block_name, callee_path, return_text, success_text, arms_text, expected_text, term_text}
use Rattle.mir_round_trip.proofs.Spelling.{Puts, Spelt, after, and_then, alone, bare}
use Rattle.mir_round_trip.proofs.Atoms.{number_spelt, word_spelt, block_spelt, string_spelt}
use Rattle.mir_round_trip.proofs.Literals.{open_sign, close_sign, comma_space, colon_space, equals_sign, return_arrow, success_arrow, unwind_end, goto_arrow, switch_open, close_arrow, otherwise_colon, bracket, drop_open, assert_open, not_sign}
use Rattle.mir_round_trip.proofs.Paths.{path_rule, path_spelt}
use Rattle.mir_round_trip.proofs.Places.{place_rule, place_spelt}
use Rattle.mir_round_trip.proofs.Operands.{operand_rule, operand_spelt}
use Rattle.mir_round_trip.proofs.Lists.{Front, items_rule, more-front}
use Rattle.mir_round_trip.proofs.Builds.{operand-list}

-- ---- the rule

abbrev pub arm_rule : Arm → ArmRule
arm_rule a = (a.value, a.block)

unfoldable pub term_rule : Crate → Strings → List Tree → Term → TermRule
term_rule c strings locals (term.Goto b) = g.goto b
term_rule c strings locals (term.Switch x arms b) = g.switch (operand_rule c strings locals x) (map arm_rule arms) b
term_rule c strings locals term.Return = g.returns
term_rule c strings locals term.Unreachable = g.never
term_rule c strings locals (term.Drop q b) = g.drop (place_rule c strings locals q) b g.unreachable
term_rule c strings locals (term.Call q f xs b) =
    g.call (place_rule c strings locals q) (path_rule strings (callee_path c f)) (items_rule (operand_rule c strings locals) xs) b g.unreachable
term_rule c strings locals (term.Assert x expected message xs b) =
    g.assert expected (operand_rule c strings locals x) (number_in strings message) (map (operand_rule c strings locals) xs) b g.unreachable

-- the byte strings that a terminator carries itself
abbrev pub term_names : Term → List (List ℕ)
term_names (term.Assert x expected message xs b) = message ∷ []
term_names t = []

-- ---- terminators that a text writes

-- ---- its text

returns-spelt : (b : ℕ) → b < 2 ^ 32 → Spelt (return_text b) (λ strings. goes_put s.Return b g.unreachable) []
unfolding return_text piece
returns-spelt b h = after return_arrow (and_then (block_spelt b h) (λ left clear. refl) (alone unwind_end))

success-spelt : (b : ℕ) → b < 2 ^ 32 → Spelt (success_text b) (λ strings rest. s.Close ∷ goes_put success_name b g.unreachable rest) []
unfolding success_text piece
success-spelt b h = after success_arrow (and_then (block_spelt b h) (λ left clear. refl) (alone unwind_end))

-- arms, and what follows
arms-spelt : (n : ℕ) (arms : List Arm) → AllOf (IsArm n) arms → {u : List ℕ} {f : Puts} → Spelt u f [] → Spelt (arms_text arms ++ u) (λ strings rest. each_put arm_put (map arm_rule arms) (f strings rest)) []
unfolding arms_text piece
arms-spelt n [] h b = b
arms-spelt n (a ∷ others) h {u = u} {f = f} b =
    let rest = arms-spelt n others h.1 b in
    let first = and_then (number_spelt a.value h.0.value) (λ left clear. refl) (after colon_space (and_then (block_spelt a.block h.0.block.small) (λ left clear. refl) (after comma_space rest))) in
    let m = arms_text others in
    let is : decimal a.value ++ (codes ": " ++ (block_name a.block ++ (codes ", " ++ (m ++ u)))) ≡ (decimal a.value ++ (codes ": " ++ (block_name a.block ++ (codes ", " ++ m)))) ++ u = simp append_assoc in
    subst (λ l. Spelt l (λ strings rest. each_put arm_put (map arm_rule (a ∷ others)) (f strings rest)) []) is first

expected-spelt : (expected : Bool) {u : List ℕ} {f : Puts} {ms : List (List ℕ)} → Spelt u f ms → Spelt (expected_text expected ++ u) (λ strings rest. expected_put expected (f strings rest)) ms
unfolding expected_text piece
expected-spelt true a = a
expected-spelt false a = after not_sign a

-- operands with a comma before each, and what follows
args-spelt : (c : Crate) (locals : List Tree) (v : List ℕ) (f : Puts) → Front v → Spelt v f [] → (xs : List Operand) → AllOf (IsOperand c locals) xs
    → Spelt (more_items (operand_text c locals) xs ++ v) (λ strings rest. each_put value_operand_put (map (operand_rule c strings locals) xs) (f strings rest)) []
unfolding more_items piece
args-spelt c locals v f front b [] h = b
args-spelt c locals v f front b (x ∷ xs) h =
    let o = operand_text c locals x in
    let m = more_items (operand_text c locals) xs in
    let is : codes ", " ++ (o ++ (m ++ v)) ≡ (codes ", " ++ (o ++ m)) ++ v = ap (λ l. codes ", " ++ l) (sym (append_assoc o m v)) in
    subst (λ l. Spelt l (λ strings rest. each_put value_operand_put (map (operand_rule c strings locals) (x ∷ xs)) (f strings rest)) []) is
    (after comma_space (and_then (operand_spelt c locals x h.0) (more-front (operand_text c locals) v xs front) (args-spelt c locals v f front b xs h.1)))

success-front : (b : ℕ) → Front (success_text b)
unfolding success_text piece
success-front b = λ left clear. refl

return-word : Spelt (codes "return") (λ strings rest. s.Return ∷ rest) []
unfolding word_token block_digits word_place
return-word = word_spelt 114 (codes "eturn") s.Return refl refl refl

unreachable-word : Spelt (codes "unreachable") (λ strings rest. s.Unreachable ∷ rest) []
unfolding word_token block_digits word_place
unreachable-word = word_spelt 117 (codes "nreachable") s.Unreachable refl refl refl

pub term_spelt : (c : Crate) (locals : List Tree) (n : ℕ) (t : Term) → IsTerm c locals n t → Spelt (term_text c locals t) (λ strings. term_put (term_rule c strings locals t)) (term_names t)
unfolding term_text term_rule IsTerm return_text piece
term_spelt c locals n (term.Goto b) h = after goto_arrow (block_spelt b h.small)
term_spelt c locals n (term.Switch x arms b) h =
    let target = after otherwise_colon (and_then (block_spelt b h.2.small) (λ left clear. refl) (alone bracket)) in
    after switch_open (and_then (operand_spelt c locals x h.0) (λ left clear. refl) (after close_arrow (arms-spelt n arms h.1 target)))
term_spelt c locals n term.Return h = return-word
term_spelt c locals n term.Unreachable h = unreachable-word
term_spelt c locals n (term.Drop q b) h = after drop_open (and_then (place_spelt c locals q h.0) (λ left clear. refl) (after close_sign (returns-spelt b h.1.small)))
term_spelt c locals n (term.Call q f xs b) h =
    let args = operand-list c locals (codes ")" ++ return_text b) (λ strings. goes_put s.Return b g.unreachable) [] (λ left clear. refl) (after close_sign (returns-spelt b h.3.small)) xs h.2 in
    and_then (place_spelt c locals q h.0) (λ left clear. refl) (after equals_sign (bare (and_then (path_spelt (callee_path c f) h.1.path) (λ left clear. refl) (after open_sign args))))
term_spelt c locals n (term.Assert x expected message xs b) h =
    let args = args-spelt c locals (success_text b) (λ strings rest. s.Close ∷ goes_put success_name b g.unreachable rest) (success-front b) (success-spelt b h.3.small) xs h.2 in
    after assert_open (expected-spelt expected (and_then (operand_spelt c locals x h.0) (λ left clear. refl) (string_spelt message h.1 args)))
