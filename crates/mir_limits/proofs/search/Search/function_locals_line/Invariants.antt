use Rattle.std.proofs.Common.{◌≡◌, map, take}
use Rattle.std.specs.Option.{option_map}
use Rattle.mir_syntax.specs.Tree.{at_id, trees_of}
use Rattle.mir_syntax.specs.Crate.{crate_of}
use Rattle.mir_syntax.specs.Shapes.{shapes_of}
use Rattle.mir_text.specs.NameFaults.{first_fault}
use Rattle.mir_rules.specs.Broken.{gather}
use Rattle.mir_rules.specs.Faults.{by_code}
use Rattle.mir_rules.specs.Limits.{local_passed}
use Rattle.mir_limits.specs.Answer.{at_code}
use Rattle.mir_limits.proofs.search.Search.function_locals_line.Given as goal

abbrev pub invariant-loop-x : goal.invariant-loop-x
invariant-loop-x l =
    let p = l.self.program.now in
    option_map (at_code 3) l.found ≡ first_fault (map (by_code l.self.lines.now) (gather (local_passed (shapes_of (crate_of p)) l.at) 0 (take l.x (map (at_id (trees_of p.types)) l.locals))))
