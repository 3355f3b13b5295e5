use Rattle.std.proofs.Common.{map, ◌++◌, sym, ap₂, ◌∙◌}
use Rattle.mir_syntax.specs.Crate.{crate_of}
use Rattle.mir_rules.specs.Broken.{gather, definition_found, outside_found, function_found, broken}
use Rattle.mir_rules.specs.Faults.{by_line, wrong_field_fault, first_rule}
use Rattle.mir_rules.proofs.Least.{first_fault_append}
use Rattle.mir_validate.specs.Inside.{shapes}
use Rattle.mir_limits.specs.Answer.{either}
use Rattle.mir_limits.proofs.Gathered.{both_walks}
use Rattle.mir_validate.proofs.rules.first_rule.Goals as goal

pub returns : goal.returns
unfolding first_rule broken
returns c =
    let p = c.args.program.now in
    let lines = c.args.lines.now in
    let C = crate_of p in
    let defs = gather (definition_found (shapes p)) 0 C.defs in
    let outsides = gather outside_found 0 C.outsides in
    let functions = gather (function_found C (shapes p)) 0 C.functions in
    c.sooner-3.ensures ∙ (ap₂ either c.written_fault-written.ensures
    (c.sooner-2.ensures ∙ (ap₂ either c.in_ok-definitions.ensures (c.sooner.ensures ∙ (ap₂ either c.outsides_fault-outsides.ensures c.in_ok-functions.ensures ∙ both_walks (by_line lines) outsides functions))
    ∙ both_walks (by_line lines) defs (outsides ++ functions)))
    ∙ sym (first_fault_append (wrong_field_fault lines.wrong_field) (map (by_line lines) (defs ++ (outsides ++ functions)))))
