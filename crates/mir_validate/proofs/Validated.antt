-- A crate of which no rule and no limit is answered breaks none and passes none.
use Rattle.std.proofs.Common.{◌≡◌, ℕ, List, [], ◌∷◌, ◌++◌, map, None, IsTrue, refl}
use Rattle.mir_syntax.specs.declared.lines.Lines.{Lines}
use Rattle.mir_syntax.specs.Crate.{Crate}
use Rattle.mir_text.specs.NameFaults.{first_fault}
use Rattle.mir_rules.specs.Broken.{broken}
use Rattle.mir_rules.specs.Formed.{is_formed}
use Rattle.mir_rules.specs.Limits.{passed}
use Rattle.mir_rules.specs.Valid.{Valid, Within}
use Rattle.mir_rules.specs.Faults.{wrong_field_fault, by_line, by_code, first_rule, first_limit}
use Rattle.mir_rules.proofs.Lists.{append_empty-right, map_empty-source}

nothing_first : (faults : List (ℕ × ℕ)) → first_fault faults ≡ None → faults ≡ []
nothing_first [] h = refl
nothing_first (a ∷ others) h = absurd cc

pub is_valid : (lines : Lines) (C : Crate) → IsTrue (is_formed C) → first_rule lines C ≡ None → Valid C
unfolding first_rule
is_valid lines C formed h =
    let written = wrong_field_fault lines.wrong_field in
    let found = map (by_line lines) (broken C) in
    record { formed = formed; rules = map_empty-source (by_line lines) (broken C) (append_empty-right written found (nothing_first (written ++ found) h)) }

pub is_within : (lines : Lines) (C : Crate) → first_limit lines C ≡ None → Within C
unfolding first_limit
is_within lines C h = record { limits = map_empty-source (by_code lines) (passed C) (nothing_first (map (by_code lines) (passed C)) h) }
