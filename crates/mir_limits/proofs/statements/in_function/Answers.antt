use Rattle.std.proofs.Common.{◌≡◌, ◌<◌, ◌+◌, true, length, get_or, slice_get, Some, refl, ap, ◌∙◌, arith}
use Rattle.std.proofs.lemmas.List.{take_all}
use Rattle.std.proofs.lemmas.Option.{slice_get_read}
use Rattle.mir_rules.specs.Broken.{gather}
use Rattle.mir_rules.specs.Faults.{block_fits}
use Rattle.mir_rules.specs.Limits.{block_spots}
use Rattle.mir_rules.proofs.Terminators.{slice_get_there}
use Rattle.mir_limits.proofs.Counted.{reached, beyond}
use Rattle.mir_limits.proofs.Fitting.{alike_long, alike_at, blocks_fit}
use Rattle.mir_limits.proofs.statements.in_function.Goals as goal

pub returns-in-Line : goal.returns-in-Line
returns-in-Line c = λ all f typed is fits.
    let lines = c.args.lines.now in
    let at = c.loop-at.at in
    let k = c.index-as_slice-at.result in
    let below : at < length lines.blocks = omega (arith, c.len-at-end.ensures) in
    let found : slice_get lines.blocks at ≡ Some k = slice_get_read lines.blocks (length lines.blocks) at k refl below (c.index-as_slice-at.is ∙ ap (λ l. get_or l at k) c.as_slice.ensures) in
    let blocks = blocks_fit lines typed fits in
    let long = alike_long block_fits lines.blocks typed.body.blocks blocks in
    let (b, there) = slice_get_there typed.body.blocks at (omega (arith, below, long)) in
    let ok : block_fits k b ≡ true = alike_at block_fits lines.blocks typed.body.blocks at k b blocks found there in
    let item = c.in-Line.ensures all f at lines k b is found (ap (λ x. x.stmts) c.index-as_slice-at.is) ok in
    reached all (block_spots f) typed.body.blocks at b there c.args.start c.loop-at.left (c.loop-at.invariant all f typed is fits) c.in-Line.line item

pub loop-at-preserved : goal.loop-at-preserved
loop-at-preserved c = λ all f typed is fits.
    let lines = c.args.lines.now in
    let at = c.loop-at.at in
    let k = c.index-as_slice-at.result in
    let below : at < length lines.blocks = omega (arith, c.len-at-end.ensures) in
    let found : slice_get lines.blocks at ≡ Some k = slice_get_read lines.blocks (length lines.blocks) at k refl below (c.index-as_slice-at.is ∙ ap (λ l. get_or l at k) c.as_slice.ensures) in
    let blocks = blocks_fit lines typed fits in
    let long = alike_long block_fits lines.blocks typed.body.blocks blocks in
    let (b, there) = slice_get_there typed.body.blocks at (omega (arith, below, long)) in
    let ok : block_fits k b ≡ true = alike_at block_fits lines.blocks typed.body.blocks at k b blocks found there in
    let item = c.in-Beyond.ensures all f at lines k b is found (ap (λ x. x.stmts) c.index-as_slice-at.is) ok in
    beyond all (block_spots f) typed.body.blocks at b there c.args.start c.loop-at.left (c.loop-at.invariant all f typed is fits) c.in-Beyond.more item

pub returns : goal.returns
returns c = λ all f typed is fits.
    let lines = c.args.lines.now in
    let at = c.loop-at.at in
    let long = alike_long block_fits lines.blocks typed.body.blocks (blocks_fit lines typed fits) in
    let whole = take_all at typed.body.blocks (omega (arith, long, c.len-at-end.ensures)) in
    c.loop-at.invariant all f typed is fits ∙ ap (λ l. length (gather (block_spots f) 0 l) + c.loop-at.left) whole
