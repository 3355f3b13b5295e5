use Rattle.mir_syntax.specs.Tree.{trees_of}
use Rattle.mir_syntax.specs.Crate.{crate_of}
use Rattle.pass_order.proofs.Ready.{some_block, few_blocks, few_locals, closed, is_typed, ready}
use Rattle.pass_order.proofs.passes.Pass.run.Goals as goal

pub simple-requires-clause-some_block : goal.simple-requires-clause-some_block
simple-requires-clause-some_block c =
    let p = c.args.program.now in
    let (f, g, fits) = c.requires.fits in
    some_block (crate_of p) f g (trees_of p.types) c.args.body fits

pub simple-requires-clause-closed : goal.simple-requires-clause-closed
simple-requires-clause-closed c =
    let p = c.args.program.now in
    let (f, g, fits) = c.requires.fits in
    closed (crate_of p) f g (trees_of p.types) c.args.body fits

pub pruned-requires-clause-ready : goal.pruned-requires-clause-ready
pruned-requires-clause-ready c =
    let p = c.args.program.now in
    let (f, g, fits) = c.requires.fits in
    ready (crate_of p) f g (trees_of p.types) c.args.body fits p.types c.requires.body_ids

pub folded-requires-clause-some_block : goal.folded-requires-clause-some_block
folded-requires-clause-some_block c =
    let p = c.args.program.now in
    let (f, g, fits) = c.requires.fits in
    some_block (crate_of p) f g (trees_of p.types) c.args.body fits

pub folded-requires-clause-closed : goal.folded-requires-clause-closed
folded-requires-clause-closed c =
    let p = c.args.program.now in
    let (f, g, fits) = c.requires.fits in
    closed (crate_of p) f g (trees_of p.types) c.args.body fits

pub folded-requires-clause-few_blocks : goal.folded-requires-clause-few_blocks
folded-requires-clause-few_blocks c =
    let p = c.args.program.now in
    let (f, g, fits) = c.requires.fits in
    few_blocks (crate_of p) f g (trees_of p.types) c.args.body fits

pub folded-requires-clause-few_locals : goal.folded-requires-clause-few_locals
folded-requires-clause-few_locals c =
    let p = c.args.program.now in
    let (f, g, fits) = c.requires.fits in
    few_locals (crate_of p) f g (trees_of p.types) c.args.body fits

pub threaded-requires-clause-some_block : goal.threaded-requires-clause-some_block
threaded-requires-clause-some_block c =
    let p = c.args.program.now in
    let (f, g, fits) = c.requires.fits in
    some_block (crate_of p) f g (trees_of p.types) c.args.body fits

pub threaded-requires-clause-closed : goal.threaded-requires-clause-closed
threaded-requires-clause-closed c =
    let p = c.args.program.now in
    let (f, g, fits) = c.requires.fits in
    closed (crate_of p) f g (trees_of p.types) c.args.body fits

pub threaded-requires-clause-few_blocks : goal.threaded-requires-clause-few_blocks
threaded-requires-clause-few_blocks c =
    let p = c.args.program.now in
    let (f, g, fits) = c.requires.fits in
    few_blocks (crate_of p) f g (trees_of p.types) c.args.body fits

pub threaded-requires-clause-few_locals : goal.threaded-requires-clause-few_locals
threaded-requires-clause-few_locals c =
    let p = c.args.program.now in
    let (f, g, fits) = c.requires.fits in
    few_locals (crate_of p) f g (trees_of p.types) c.args.body fits

pub merged-requires-clause-some_block : goal.merged-requires-clause-some_block
merged-requires-clause-some_block c =
    let p = c.args.program.now in
    let (f, g, fits) = c.requires.fits in
    some_block (crate_of p) f g (trees_of p.types) c.args.body fits

pub merged-requires-clause-closed : goal.merged-requires-clause-closed
merged-requires-clause-closed c =
    let p = c.args.program.now in
    let (f, g, fits) = c.requires.fits in
    closed (crate_of p) f g (trees_of p.types) c.args.body fits

pub merged-requires-clause-few_blocks : goal.merged-requires-clause-few_blocks
merged-requires-clause-few_blocks c =
    let p = c.args.program.now in
    let (f, g, fits) = c.requires.fits in
    few_blocks (crate_of p) f g (trees_of p.types) c.args.body fits

pub merged-requires-clause-few_locals : goal.merged-requires-clause-few_locals
merged-requires-clause-few_locals c =
    let p = c.args.program.now in
    let (f, g, fits) = c.requires.fits in
    few_locals (crate_of p) f g (trees_of p.types) c.args.body fits

pub split-requires-clause-few_locals : goal.split-requires-clause-few_locals
split-requires-clause-few_locals c =
    let p = c.args.program.now in
    let (f, g, fits) = c.requires.fits in
    few_locals (crate_of p) f g (trees_of p.types) c.args.body fits

pub split-requires-clause-typed : goal.split-requires-clause-typed
split-requires-clause-typed c =
    let p = c.args.program.now in
    let (f, g, fits) = c.requires.fits in
    is_typed (crate_of p) f g (trees_of p.types) c.args.body fits
