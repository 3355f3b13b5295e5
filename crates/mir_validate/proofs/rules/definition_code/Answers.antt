use Rattle.std.proofs.Common.{sym, ap, ◌∙◌}
use Rattle.std.specs.Option.{option_map}
use Rattle.mir_rules.specs.Broken.{if_broken}
use Rattle.mir_rules.specs.DefinitionRules.{breaks_v01}
use Rattle.mir_limits.specs.Answer.{either}
use Rattle.mir_validate.specs.Codes.{first_code}
use Rattle.mir_validate.specs.Inside.{shapes}
use Rattle.mir_validate.specs.Walk.{place_of, on_line}
use Rattle.mir_validate.proofs.Gathering.{found_before}
use Rattle.mir_validate.proofs.rules.definition_code.Goals as goal

pub returns-then-is_found_by : goal.returns-then-is_found_by
returns-then-is_found_by c = found_before (option_map place_of c.args.found) c.args.line (breaks_v01 (shapes c.args.program.now) c.args.at) (sym c.is_found_by.ensures ∙ c.if-is_found_by.true)

pub returns : goal.returns
returns c = ap (λ o. either (option_map place_of c.args.found) (on_line c.args.line o)) (c.code_if.ensures ∙ ap (λ b. first_code (if_broken b 1)) c.in_ok-holds.ensures)
