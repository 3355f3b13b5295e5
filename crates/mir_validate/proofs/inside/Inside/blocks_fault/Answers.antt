use Rattle.std.proofs.Common.{length, ap, ◌∙◌}
use Rattle.std.specs.List.{list_all}
use Rattle.std.specs.Option.{option_map}
use Rattle.mir_syntax.specs.Ids.{block_below}
use Rattle.mir_syntax.specs.Tree.{trees_of}
use Rattle.mir_syntax.specs.Crate.{crate_of}
use Rattle.mir_rules.proofs.Lists.{and_true-right}
use Rattle.mir_validate.specs.Inside.{shapes, local_types}
use Rattle.mir_validate.specs.Terms.{block_ready}
use Rattle.mir_validate.specs.Walk.{place_of, block_broken, blocks_broken}
use Rattle.mir_validate.proofs.Faulty.{one_more, no_blocks, ended}
use Rattle.mir_validate.proofs.inside.Inside.blocks_fault.Goals as goal

pub walk-preserved : goal.walk-preserved
walk-preserved c =
    let p = c.args.self.now.program.now in
    let b = c.args.self.now.body.now in
    let locals = local_types p b in
    let trees = trees_of p.types in
    let C = crate_of p in
    let line = c.in-Some-parted.line.now in
    let later = c.in-Some-parted.later.now in
    let k = c.in-Some.block.now in
    let others = c.in-Some.others.now in
    let split = rw (c.in-Some-parted.ensures, c.in-Some.ensures) at c.walk.invariant.0 in
    let all = blocks_broken C (shapes p) b.args locals trees c.args.lines.now c.args.blocks.now in
    let next = one_more (option_map place_of c.walk.found) (option_map place_of c.in_ok-fault.fault) (block_broken C (shapes p) b.args locals trees line k) (blocks_broken C (shapes p) b.args locals trees later others) all split c.in_ok-fault.ensures in
    let whole = rw c.in-Some.ensures at c.walk.invariant.1 in
    let below = rw c.in-Some.ensures at c.walk.invariant.2 in (
      rw c.sooner-found.ensures next,
      and_true-right (block_ready C k) (list_all (block_ready C) others) whole,
      and_true-right (block_below (length p.types) k) (list_all (block_below (length p.types)) others) below,
    )

pub returns : goal.returns
returns c =
    let p = c.args.self.now.program.now in
    let b = c.args.self.now.body.now in
    let locals = local_types p b in
    let trees = trees_of p.types in
    let left = c.walk.left.now in
    let all = blocks_broken (crate_of p) (shapes p) b.args locals trees c.args.lines.now c.args.blocks.now in
    ended all (option_map place_of c.walk.found) (blocks_broken (crate_of p) (shapes p) b.args locals trees left c.walk.rest.now) c.walk.invariant.0
    (ap (blocks_broken (crate_of p) (shapes p) b.args locals trees left) c.in_default.ensures ∙ no_blocks (crate_of p) (shapes p) b.args locals trees left)
