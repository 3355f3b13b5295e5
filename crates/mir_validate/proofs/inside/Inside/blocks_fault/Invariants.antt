use Rattle.std.proofs.Common.{◌≡◌, IsTrue, length}
use Rattle.std.specs.List.{list_all}
use Rattle.std.specs.Option.{option_map}
use Rattle.mir_syntax.specs.Tree.{trees_of}
use Rattle.mir_syntax.specs.Crate.{crate_of}
use Rattle.mir_text.specs.NameFaults.{first_fault}
use Rattle.mir_syntax.specs.Ids.{block_below}
use Rattle.mir_validate.specs.Terms.{block_ready}
use Rattle.mir_validate.specs.Inside.{shapes, local_types}
use Rattle.mir_validate.specs.Walk.{place_of, blocks_broken}
use Rattle.mir_limits.specs.Answer.{either}
use Rattle.mir_validate.proofs.inside.Inside.blocks_fault.Given as goal

abbrev pub invariant-walk : goal.invariant-walk
invariant-walk l =
    let p = l.self.program.now in
    let b = l.self.body.now in
    (first_fault (blocks_broken (crate_of p) (shapes p) b.args (local_types p b) (trees_of p.types) l.lines l.blocks) ≡ either (option_map place_of l.found) (first_fault (blocks_broken (crate_of p) (shapes p) b.args (local_types p b) (trees_of p.types) l.left l.rest)))
    × IsTrue (list_all (block_ready (crate_of p)) l.rest) × IsTrue (list_all (block_below (length p.types)) l.rest)

abbrev pub decreases-walk : goal.decreases-walk
decreases-walk l = length l.rest
