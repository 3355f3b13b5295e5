use Rattle.std.proofs.Common.{◌≡◌, map, take}
use Rattle.std.specs.Option.{option_map}
use Rattle.mir_syntax.specs.Crate.{crate_of}
use Rattle.mir_text.specs.NameFaults.{first_fault}
use Rattle.mir_rules.specs.Broken.{gather, function_found}
use Rattle.mir_rules.specs.Faults.{by_line}
use Rattle.mir_validate.specs.Inside.{shapes}
use Rattle.mir_validate.specs.Walk.{place_of}
use Rattle.mir_validate.proofs.rules.functions_fault.Given as goal

abbrev pub invariant-loop-at : goal.invariant-loop-at
invariant-loop-at l = option_map place_of l.found ≡ first_fault (map (by_line l.lines) (gather (function_found (crate_of l.program) (shapes l.program)) 0 (take l.at (crate_of l.program).functions)))
