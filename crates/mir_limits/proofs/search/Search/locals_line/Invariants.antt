use Rattle.std.proofs.Common.{◌≡◌, map, take}
use Rattle.std.specs.Option.{option_map}
use Rattle.mir_syntax.specs.Crate.{crate_of}
use Rattle.mir_syntax.specs.Shapes.{shapes_of}
use Rattle.mir_text.specs.NameFaults.{first_fault}
use Rattle.mir_rules.specs.Broken.{gather}
use Rattle.mir_rules.specs.Faults.{by_code}
use Rattle.mir_rules.specs.Limits.{locals_passed}
use Rattle.mir_limits.specs.Answer.{at_code}
use Rattle.mir_limits.proofs.search.Search.locals_line.Given as goal

abbrev pub invariant-loop-at : goal.invariant-loop-at
invariant-loop-at l =
    let p = l.self.program.now in
    let C = crate_of p in
    option_map (at_code 3) l.found ≡ first_fault (map (by_code l.self.lines.now) (gather (locals_passed (shapes_of C)) 0 (take l.at C.functions)))
