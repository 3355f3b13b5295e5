-- What is broken at a definition, an outside function or a header, on its line.
use Rattle.std.proofs.Common.{◌≡◌, ◌⊎◌, inl, inr, ℕ, Bool, true, false, ◌==◌, ◌&&◌, nat_lt, nat_le, nat_eq, List, ◌++◌, map, Option, Some, None, refl, sym, ap, ◌∙◌, arith, eqb-true, ltb-true}
use Rattle.std.specs.Prelude.{if◌then◌else◌}
use Rattle.std.proofs.lemmas.Bool.{false_from_ne_true, leb-true, or_cases}
use Rattle.mir_syntax.specs.declared.lines.Lines.{Lines}
use Rattle.mir_syntax.specs.Shapes.{Shape}
use Rattle.mir_syntax.specs.Crate.{TypedFunction}
use Rattle.mir_text.specs.NameFaults.{comes_first, first_fault}
use Rattle.mir_rules.specs.Broken.{Spot, if_broken, at_spot, header_broken}
use Rattle.mir_rules.specs.DefinitionRules.{breaks_v03, breaks_v04}
use Rattle.mir_rules.specs.Faults.{line_at, by_line}
use Rattle.mir_validate.specs.Codes.{first_code}
use Rattle.mir_validate.specs.Terms.{ascends}
use Rattle.mir_validate.specs.Walk.{is_found_by, on_line}
use Rattle.mir_limits.specs.Answer.{either}
use Rattle.mir_rules.proofs.Lists.{and_true-left, and_true-right}
use Rattle.mir_validate.proofs.Faulty.{line_first}
use Rattle.mir_validate.proofs.Located.{at_spots}

-- what is broken at one spot
pub spot_first : (lines : Lines) (spot : Spot) (line : ℕ) (codes : List ℕ) → line_at lines spot ≡ line → ascends codes ≡ true → on_line line (first_code codes) ≡ first_fault (map (by_line lines) (map (at_spot spot) codes))
spot_first lines spot line codes at up = line_first line codes up ∙ ap first_fault (sym (at_spots lines spot line codes at))

pub one_ascends : (b : Bool) (code : ℕ) → ascends (if_broken b code) ≡ true
one_ascends true code = refl
one_ascends false code = refl

pub header_ascends : (D : List Shape) (f : ℕ) (g : TypedFunction) → ascends (header_broken D f g) ≡ true
header_ascends D f g = go (breaks_v03 g) (breaks_v04 D f g)
  where
    go : (a b : Bool) → ascends (if_broken a 3 ++ if_broken b 4) ≡ true
    go true true = refl
    go true false = refl
    go false true = refl
    go false false = refl

-- behind a fault that is answered before it, it doesn't matter whether a first rule is broken
pub found_before : (found : Option (ℕ × ℕ)) (line : ℕ) (b : Bool) → is_found_by found line ≡ true → either found (on_line line None) ≡ either found (on_line line (first_code (if_broken b 1)))
found_before None line b h = absurd cc
found_before (Some f) line false h = refl
found_before (Some f) line true h = ap Some (sym (ap (λ b. if b then (line, 1) else f) (false_from_ne_true (comes_first (line, 1) f) later)))
  where
    apart : (nat_lt f.0 line ≡ true) ⊎ ((f.0 == line && nat_le f.1 1) ≡ true) → (nat_lt line f.0 ≡ true) ⊎ ((nat_eq line f.0 && nat_lt 1 f.1) ≡ true) → ⊥
    apart (inl a) (inl b) = absurd (omega (arith, ltb-true f.0 line a, ltb-true line f.0 b))
    apart (inl a) (inr b) = absurd (omega (arith, ltb-true f.0 line a, eqb-true line f.0 (and_true-left (nat_eq line f.0) (nat_lt 1 f.1) b)))
    apart (inr a) (inl b) = absurd (omega (arith, eqb-true f.0 line (and_true-left (f.0 == line) (nat_le f.1 1) a), ltb-true line f.0 b))
    apart (inr a) (inr b) = absurd (omega (arith, leb-true f.1 1 (and_true-right (f.0 == line) (nat_le f.1 1) a), ltb-true 1 f.1 (and_true-right (nat_eq line f.0) (nat_lt 1 f.1) b)))

    later : comes_first (line, 1) f ≡ true → ⊥
    later e = apart (or_cases (nat_lt f.0 line) (f.0 == line && nat_le f.1 1) h) (or_cases (nat_lt line f.0) (nat_eq line f.0 && nat_lt 1 f.1) e)
