-- What the rule of a terminator means: the terminator itself, with no fault.
use Rattle.std.proofs.Common.{◌≡◌, ◌<◌, ℕ, zero, suc, true, List, [], ◌∷◌, map, length, get_or, refl, ap, ◌∙◌, arith, Some, is_some}
use Rattle.std.proofs.lemmas.Simd.{map-map}
use Rattle.mir_syntax.specs.declared.body.Operand.{Operand}
use Rattle.mir_syntax.specs.declared.body.Callee.{Callee}
use Rattle.mir_syntax.specs.declared.body.Callee.TheVariants as callee
use Rattle.mir_syntax.specs.declared.body.Arm.{Arm}
use Rattle.mir_syntax.specs.declared.body.Term.{Term}
use Rattle.mir_syntax.specs.declared.body.Term.TheVariants as term
use Rattle.mir_syntax.specs.Tree.{Tree}
use Rattle.mir_syntax.specs.Crate.{Crate}
use Rattle.mir_rules.proofs.Lists.{append_empty}
use Rattle.mir_text.specs.Words.{place_in}
use Rattle.mir_text.specs.Grammar.{AllOf}
use Rattle.mir_text.specs.Names.{Strings}
use Rattle.mir_text.specs.NamedBodies.{Declared, operand_named, function_or, called_by, or_first_function, arm_named, term_named}
use Rattle.mir_text.specs.NameFaults.{concat, is_among, operand_codes, target_codes, arm_codes, term_codes}
use Rattle.mir_text.specs.Nesting.{OperandGood, TermGood}
use Rattle.mir_text.specs.TermText.{function_paths, outside_paths, callee_path}
use Rattle.mir_round_trip.specs.Bodies.{names_at, IsOperand, IsTarget, IsArm, IsFunction, IsCallee, IsTerm}
use Rattle.mir_round_trip.proofs.Spelling.{all-map}
use Rattle.mir_round_trip.proofs.Paths.{path_rule, path_names, Back, path_back}
use Rattle.mir_round_trip.proofs.Meaning.{Kept, met}
use Rattle.mir_round_trip.proofs.PlacesBack.{Setting, place_back, place_faultless, place_good}
use Rattle.mir_round_trip.proofs.Operands.{operand_rule, operand_back, operand_faultless, operand_good}
use Rattle.mir_round_trip.proofs.Lists.{items-all, each-item-none, concat-none, all-back, all-of-map}
use Rattle.mir_round_trip.proofs.BuildsBack.{operands-back, operands-faultless, operands-good}
use Rattle.mir_round_trip.proofs.Rvalues.{two-same}
use Rattle.mir_round_trip.proofs.Terms.{arm_rule, term_rule, term_names}

-- ---- what a call names

pub all-at : {A : Type 0} (P : A → Type 0) (other : A) (xs : List A) (n : ℕ) → AllOf P xs → n < length xs → P (get_or xs n other)
all-at P other [] n h k = absurd (omega arith)
all-at P other (x ∷ xs) zero h k = h.0
all-at P other (x ∷ xs) (suc n) h k = all-at P other xs n h.1 (omega arith)

-- the names of a callee's path are read back
callee-kept : (c : Crate) (strings : Strings) → Kept c strings → (f : Callee) → IsFunction c f → AllOf (Back strings) (path_names (callee_path c f))
unfolding callee_path
callee-kept c strings kept (callee.Local f) h = all-at (λ path. AllOf (Back strings) (path_names path)) [] (function_paths c.functions) f.0 kept.functions h.0
callee-kept c strings kept (callee.Outside o) h = all-at (λ path. AllOf (Back strings) (path_names path)) [] (outside_paths c.outsides) o.0 kept.outsides h.0

callee-found : (c : Crate) (f : Callee) → IsFunction c f → function_or (place_in (function_paths c.functions) (callee_path c f)) (place_in (outside_paths c.outsides) (callee_path c f)) ≡ Some f
callee-found c (callee.Local f) h = rw h.1 refl
callee-found c (callee.Outside o) h = rw (h.1, h.2) refl

called : (c : Crate) (strings : Strings) → Kept c strings → (f : Callee) → IsCallee c f → called_by (names_at c strings) (path_rule strings (callee_path c f)) ≡ Some f
called c strings kept f h =
    ap (λ l. function_or (place_in (function_paths c.functions) l) (place_in (outside_paths c.outsides) l)) (path_back strings (callee_path c f) h.path (callee-kept c strings kept f h.is))
    ∙ callee-found c f h.is

-- ---- back

arms-back : (arms : List Arm) → map arm_named (map arm_rule arms) ≡ arms
arms-back [] = refl
arms-back (a ∷ others) = ap (λ l. a ∷ l) (arms-back others)

args-back : (c : Crate) (strings : Strings) (L : Declared) (locals : List Tree) → Setting c strings L locals → (xs : List Operand) → AllOf (IsOperand c locals) xs
    → map (operand_named (names_at c strings) L) (map (operand_rule c strings locals) xs) ≡ xs
args-back c strings L locals set xs h =
    map-map (operand_named (names_at c strings) L) (operand_rule c strings locals) xs
    ∙ all-back (λ x. operand_named (names_at c strings) L (operand_rule c strings locals x)) xs (all-map (operand_back c strings L locals set) xs h)

three-same : {A B C D : Type 0} (f : A → B → C → D) {a x : A} {b y : B} {d z : C} → a ≡ x → b ≡ y → d ≡ z → f a b d ≡ f x y z
three-same f {x = x} {b = b} {y = y} {d = d} e h k = ap (λ w. f w b d) e ∙ ap (λ w. f x w d) h ∙ ap (f x y) k

pub term_back : (c : Crate) (strings : Strings) (L : Declared) (locals : List Tree) → Setting c strings L locals → (n : ℕ) (t : Term) → IsTerm c locals n t → AllOf (Back strings) (term_names t)
    → term_named (names_at c strings) L (term_rule c strings locals t) ≡ t
unfolding term_rule IsTerm
term_back c strings L locals set n (term.Goto b) h kept = refl
term_back c strings L locals set n (term.Switch x arms b) h kept = two-same (λ y as'. term.Switch y as' b) (operand_back c strings L locals set x h.0) (arms-back arms)
term_back c strings L locals set n term.Return h kept = refl
term_back c strings L locals set n term.Unreachable h kept = refl
term_back c strings L locals set n (term.Drop q b) h kept = ap (λ p. term.Drop p b) (place_back c strings L locals set q h.0)
term_back c strings L locals set n (term.Call q f xs b) h kept =
    three-same (λ p o ys. term.Call p (or_first_function o) ys b) (place_back c strings L locals set q h.0) (called c strings set.kept f h.1) (operands-back c strings L locals set xs h.2)
term_back c strings L locals set n (term.Assert x expected message xs b) h kept =
    three-same (λ y m ys. term.Assert y expected m ys b) (operand_back c strings L locals set x h.0) kept.0 (args-back c strings L locals set xs h.2)

-- ---- no fault

-- the numbers below this one are among the labels
abbrev pub HasLabels : List ℕ → ℕ → Type 0
HasLabels labels n = (b : ℕ) → b < n → is_among labels b ≡ true

target-faultless : (labels : List ℕ) (n b : ℕ) → HasLabels labels n → IsTarget n b → target_codes labels b ≡ []
target-faultless labels n b has h = met _ 15 (has b h.there)

arms-faultless : (labels : List ℕ) (n : ℕ) (arms : List Arm) → HasLabels labels n → AllOf (IsArm n) arms → AllOf (λ a. arm_codes labels (arm_rule a) ≡ []) arms
arms-faultless labels n arms has h = all-map (λ a is. target-faultless labels n a.block has is.block) arms h

pub term_faultless : (c : Crate) (strings : Strings) (L : Declared) (locals : List Tree) → Setting c strings L locals → (labels : List ℕ) (n : ℕ) → HasLabels labels n → (t : Term) → IsTerm c locals n t
    → term_codes (names_at c strings) L labels (term_rule c strings locals t) ≡ []
unfolding term_rule IsTerm
term_faultless c strings L locals set labels n has (term.Goto b) h = target-faultless labels n b has h
term_faultless c strings L locals set labels n has (term.Switch x arms b) h =
    append_empty _ _ (append_empty _ _ (operand_faultless c strings L locals set x h.0)
    (ap concat (map-map (arm_codes labels) arm_rule arms) ∙ concat-none (λ a. arm_codes labels (arm_rule a)) arms (arms-faultless labels n arms has h.1)))
    (target-faultless labels n b has h.2)
term_faultless c strings L locals set labels n has term.Return h = refl
term_faultless c strings L locals set labels n has term.Unreachable h = refl
term_faultless c strings L locals set labels n has (term.Drop q b) h = append_empty _ _ (place_faultless c strings L locals set q h.0) (target-faultless labels n b has h.1)
term_faultless c strings L locals set labels n has (term.Call q f xs b) h =
    append_empty _ _ (append_empty _ _ (append_empty _ _ (place_faultless c strings L locals set q h.0) (met _ 11 (ap is_some (called c strings set.kept f h.1))))
    (each-item-none (operand_codes (names_at c strings) L) (operand_rule c strings locals) xs (operands-faultless c strings L locals set xs h.2)))
    (target-faultless labels n b has h.3)
term_faultless c strings L locals set labels n has (term.Assert x expected message xs b) h =
    append_empty _ _ (append_empty _ _ (operand_faultless c strings L locals set x h.0)
    (ap concat (map-map (operand_codes (names_at c strings) L) (operand_rule c strings locals) xs)
    ∙ concat-none (λ y. operand_codes (names_at c strings) L (operand_rule c strings locals y)) xs (operands-faultless c strings L locals set xs h.2)))
    (target-faultless labels n b has h.3)

-- ---- good

pub term_good : (c : Crate) (strings : Strings) (locals : List Tree) (n : ℕ) (t : Term) → IsTerm c locals n t → TermGood (term_rule c strings locals t)
unfolding term_rule IsTerm
term_good c strings locals n (term.Goto b) h = tt
term_good c strings locals n (term.Switch x arms b) h = operand_good c strings locals x h.0
term_good c strings locals n term.Return h = tt
term_good c strings locals n term.Unreachable h = tt
term_good c strings locals n (term.Drop q b) h = place_good c strings locals q h.0
term_good c strings locals n (term.Call q f xs b) h = (place_good c strings locals q h.0, items-all OperandGood (operand_rule c strings locals) xs (operands-good c strings locals xs h.2))
term_good c strings locals n (term.Assert x expected message xs b) h =
    (operand_good c strings locals x h.0, all-of-map OperandGood (operand_rule c strings locals) xs (operands-good c strings locals xs h.2))
