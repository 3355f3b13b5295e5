-- What is answered of lines at which limits are passed.
use Rattle.std.proofs.Common.{◌≡◌, ℕ, ◌<◌, ◌≤◌, Bool, true, false, nat_lt, if◌then◌else◌, Option, Some, None, map, refl, sym, ap, ◌∙◌, arith, eq-eqb}
use Rattle.std.specs.Bool.{then_some}
use Rattle.std.specs.Option.{option_map, option_or}
use Rattle.std.proofs.lemmas.Bool.{lt-ltb, le-ltb, ne_eqb}
use Rattle.mir_syntax.specs.declared.lines.Lines.{Lines}
use Rattle.mir_text.specs.NameFaults.{comes_first, first_fault}
use Rattle.mir_rules.specs.Broken.{Spot, if_broken, at_spot}
use Rattle.mir_rules.specs.Faults.{line_at, by_code}
use Rattle.mir_limits.specs.declared.passed.Passed.{Passed}
use Rattle.mir_limits.specs.Answer.{answer_of, at_code, either}

-- ---- one limit

comes : (code a b : ℕ) → comes_first (code, b) (code, a) ≡ nat_lt b a
comes code a b = rw (le-ltb code code (omega arith), eq-eqb code code refl) refl

pub second_comes : (code a b : ℕ) → b < a → Some (code, b) ≡ either (Some (code, a)) (Some (code, b))
second_comes code a b h = rw (comes code a b, lt-ltb b a h) refl

pub first_comes : (code a b : ℕ) → a ≤ b → Some (code, a) ≡ either (Some (code, a)) (Some (code, b))
first_comes code a b h = rw (comes code a b, le-ltb b a h) refl

pub spot_passed : (lines : Lines) (spot : Spot) (line : ℕ) (b : Bool) (code : ℕ) → line_at lines spot ≡ line
    → option_map (at_code code) (then_some b line) ≡ first_fault (map (by_code lines) (map (at_spot spot) (if_broken b code)))
spot_passed lines spot line true code e = ap (λ n. Some (code, n)) (sym e)
spot_passed lines spot line false code e = refl

-- ---- limits in their order

-- a later limit, or none
abbrev Later : ℕ → Option (ℕ × ℕ) → Type 0
Later j None = Unit
Later j (Some a) = j < a.0

wins : (j line : ℕ) (o : Option (ℕ × ℕ)) → Later j o → either (Some (j, line)) o ≡ Some (j, line)
wins j line None h = refl
wins j line (Some a) h =
    rw (le-ltb a.0 j (omega arith), ne_eqb a.0 j (λ same. omega (arith, same, h))) refl

later_code : (j k : ℕ) (o : Option ℕ) → j < k → Later j (option_map (at_code k) o)
later_code j k None h = tt
later_code j k (Some line) h = h

later_both : (j : ℕ) (a b : Option (ℕ × ℕ)) → Later j a → Later j b → Later j (either a b)
later_both j None b h g = g
later_both j (Some a) None h g = h
later_both j (Some a) (Some b) h g = go (comes_first b a)
  where
    go : (c : Bool) → Later j (Some (if c then b else a))
    go true = g
    go false = h

abbrev pub on : ℕ → Option ℕ → Option (ℕ × ℕ)
on code line = option_map (at_code code) line

pub in_order : (a b c d e : Option ℕ) → option_or (option_or (option_or (option_or (on 2 a) (on 3 b)) (on 4 c)) (on 5 d)) (on 6 e) ≡ either (on 2 a) (either (on 3 b) (either (either (on 4 c) (on 5 d)) (on 6 e)))
in_order (Some a) b c d e =
    let bodies = either (on 4 c) (on 5 d) in
    sym (wins 2 a (either (on 3 b) (either bodies (on 6 e)))
    (later_both 2 (on 3 b) (either bodies (on 6 e)) (later_code 2 3 b (omega arith)) (later_both 2 bodies (on 6 e) (later_both 2 (on 4 c) (on 5 d) (later_code 2 4 c (omega arith)) (later_code 2 5 d (omega arith))) (later_code 2 6 e (omega arith)))))
in_order None (Some b) c d e =
    let bodies = either (on 4 c) (on 5 d) in
    sym (wins 3 b (either bodies (on 6 e)) (later_both 3 bodies (on 6 e) (later_both 3 (on 4 c) (on 5 d) (later_code 3 4 c (omega arith)) (later_code 3 5 d (omega arith))) (later_code 3 6 e (omega arith))))
in_order None None (Some c) d e =
    sym (ap (λ o. either o (on 6 e)) (wins 4 c (on 5 d) (later_code 4 5 d (omega arith))) ∙ wins 4 c (on 6 e) (later_code 4 6 e (omega arith)))
in_order None None None (Some d) e = sym (wins 5 d (on 6 e) (later_code 5 6 e (omega arith)))
in_order None None None None None = refl
in_order None None None None (Some e) = refl

pub or_answer : (a b : Option Passed) → option_map answer_of (option_or a b) ≡ option_or (option_map answer_of a) (option_map answer_of b)
or_answer None b = refl
or_answer (Some x) b = refl
