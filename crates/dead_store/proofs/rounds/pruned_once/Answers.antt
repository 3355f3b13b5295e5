use Rattle.std.proofs.Common.{sym, subst}
use Rattle.mir_syntax.specs.Tree.{trees_of}
use Rattle.mir_syntax.specs.Crate.{crate_of}
use Rattle.mir_syntax.specs.Shapes.{shapes_of}
use Rattle.bit_rows.specs.Rows.{row_at, HasSize}
use Rattle.dead_store.proofs.equal.Judged.{lent_size, once}
use Rattle.dead_store.proofs.equal.Ready.{still_ready}
use Rattle.dead_store.proofs.rounds.pruned_once.Goals as goal

pub pruned_blocks-requires-clause-lent_size : goal.pruned_blocks-requires-clause-lent_size
pruned_blocks-requires-clause-lent_size c =
    let p = c.args.program.now in
    subst (HasSize c.in_ok-lent.lent 1) (sym c.len.ensures) (lent_size (shapes_of (crate_of p)) (trees_of p.types) c.args.body c.in_ok-lent.lent c.in_ok-rows.rows.ends c.in_ok-lent.ensures c.in_ok-rows.ensures.ends_size c.in_ok-rows.ensures.ends)

pub returns-clause-pruned : goal.returns-clause-pruned
returns-clause-pruned c =
    let p = c.args.program.now in
    once (shapes_of (crate_of p)) (trees_of p.types) c.args.body c.in_ok-lent.lent c.in_ok-rows.rows.ends c.in_ok-lent.ensures c.in_ok-rows.ensures.ends_size c.in_ok-rows.ensures.ends c.in_ok-blocks.blocks c.requires.ready.sets c.in_ok-blocks.ensures.count c.in_ok-blocks.ensures.blocks

pub returns-clause-ready : goal.returns-clause-ready
returns-clause-ready c = still_ready c.args.program.now.types c.args.body (row_at c.in_ok-lent.lent 0) c.in_ok-rows.rows.ends c.in_ok-blocks.blocks c.requires.ready c.in_ok-blocks.ensures.count c.in_ok-blocks.ensures.blocks
