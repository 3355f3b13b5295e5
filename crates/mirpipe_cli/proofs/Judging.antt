-- Inputs that are accepted.
use Rattle.std.proofs.Common.{◌≡◌, refl, ap, ◌∙◌, ℕ, ◌+◌, List, ◌++◌, map, Option, Some, None}
use Rattle.mir_syntax.specs.declared.lines.Lines.{Lines}
use Rattle.mir_syntax.specs.Crate.{Crate}
use Rattle.mir_text.specs.NameFaults.{first_fault}
use Rattle.mir_rules.specs.Broken.{broken}
use Rattle.mir_rules.specs.Faults.{wrong_field_fault, by_line, first_rule}
use Rattle.mir_rules.specs.Valid.{Valid, Within}
use Rattle.mirpipe_cli.specs.Refused.{IsRead, IsAccepted}

wrong_none : (w : Option ℕ) (found : List (ℕ × ℕ)) → first_fault (wrong_field_fault w ++ found) ≡ None → w ≡ None
wrong_none None found e = refl
wrong_none (Some line) found e = absurd cc

no_wrong_field : (lines : Lines) (C : Crate) → first_rule lines C ≡ None → lines.wrong_field ≡ None
unfolding first_rule
no_wrong_field lines C e = wrong_none lines.wrong_field (map (by_line lines) (broken C)) e

-- a text that was read and breaks no rule and passes no limit is accepted
pub is_accepted : (input : List ℕ) (C : Crate) (lines : Lines) → IsRead input C lines → first_rule lines C ≡ None → Valid C → Within C → IsAccepted input C lines
is_accepted input C lines read rules valid within =
    record {
      read = read;
      accepted = record {
        reads = record { derivation = read.reads.derivation; named = read.reads.named };
        fields = ap (λ (l : Lines). l.wrong_field) read.reads.lined ∙ no_wrong_field lines C rules;
        valid = valid;
        within = within;
        short = read.short;
      };
    }
