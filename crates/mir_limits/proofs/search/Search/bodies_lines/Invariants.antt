use Rattle.std.proofs.Common.{◌≡◌, map, take}
use Rattle.std.specs.Option.{option_map}
use Rattle.mir_syntax.specs.Crate.{crate_of}
use Rattle.mir_syntax.specs.Shapes.{shapes_of}
use Rattle.mir_text.specs.NameFaults.{first_fault}
use Rattle.mir_rules.specs.Broken.{gather}
use Rattle.mir_rules.specs.Faults.{by_code}
use Rattle.mir_rules.specs.Limits.{blocks_count, locals_count, count_passed}
use Rattle.mir_limits.specs.Answer.{at_code}
use Rattle.mir_limits.proofs.search.Search.bodies_lines.Given as goal

abbrev pub invariant-loop-at : goal.invariant-loop-at
invariant-loop-at l =
    let C = crate_of l.self.program.now in
    let D = shapes_of C in
    let told = by_code l.self.lines.now in
    (option_map (at_code 4) l.blocks ≡ first_fault (map told (gather (count_passed 4 (blocks_count D)) 0 (take l.at C.functions))))
    × (option_map (at_code 5) l.locals ≡ first_fault (map told (gather (count_passed 5 (locals_count D)) 0 (take l.at C.functions))))
