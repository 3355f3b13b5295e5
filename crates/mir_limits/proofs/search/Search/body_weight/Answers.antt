use Rattle.std.proofs.Common.{IsTrue, List, map, sum_by, subst, sym, arith}
use Rattle.std.specs.List.{list_all}
use Rattle.mir_syntax.specs.declared.body.Block.{Block}
use Rattle.mir_syntax.specs.Tree.{trees_of}
use Rattle.mir_syntax.specs.Crate.{crate_of, block_of, body_of}
use Rattle.mir_syntax.specs.Shapes.{shapes_of}
use Rattle.mir_rules.specs.Formed.{block_formed}
use Rattle.mir_rules.specs.Limits.{block_weight, body_weight}
use Rattle.type_sizes.proofs.Sums.{Summing}
use Rattle.mir_limits.proofs.Weighed.{formed_blocks, none_left}
use Rattle.mir_limits.proofs.search.Search.body_weight.Goals as goal

pub walk-init : goal.walk-init
walk-init c =
    let p = c.args.self.now.program.now in
    let C = crate_of p in
    let trees = trees_of p.types in
    let b = body_of trees c.args.body.now in
    let weight = block_weight (shapes_of C) b.locals in
    let all = sum_by weight b.blocks in
    let none : Summing 10001 0 all all = record { bounded = omega arith; below = omega arith; exact = λ h. omega arith } in (
      subst (λ (l : List Block). IsTrue (list_all (block_formed C b) (map (block_of trees) l))) (sym c.as_slice-rest.ensures) (formed_blocks C b c.requires.formed),
      subst (λ (l : List Block). Summing 10001 0 (sum_by weight (map (block_of trees) l)) all) (sym c.as_slice-rest.ensures) none,
    )

pub returns : goal.returns
unfolding body_weight
returns c =
    let p = c.args.self.now.program.now in
    let C = crate_of p in
    let trees = trees_of p.types in
    let b = body_of trees c.args.body.now in
    let weight = block_weight (shapes_of C) b.locals in
    none_left weight trees c.walk.total (sum_by weight b.blocks) c.walk.rest.now (omega (arith, c.in_default.len_below)) c.walk.invariant.1
