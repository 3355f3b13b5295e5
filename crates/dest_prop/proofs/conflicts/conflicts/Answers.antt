use Rattle.std.proofs.Common.{◌≡◌, ◌<◌, ◌||◌, List, [], length, sym, ap, ◌∙◌, subst, arith}
use Rattle.std.specs.List.{All}
use Rattle.mir_syntax.specs.declared.body.Block.{Block}
use Rattle.mir_syntax.specs.Tree.{trees_of}
use Rattle.mir_syntax.specs.Crate.{crate_of}
use Rattle.mir_syntax.specs.Shapes.{shapes_of}
use Rattle.mir_syntax.specs.Parts.{targets}
use Rattle.bit_rows.specs.Rows.{flag}
use Rattle.dest_prop.specs.Code.{Grows, blocks_hurt, argument_hurts}
use Rattle.dest_prop.proofs.equal.Grown.{grows_then}
use Rattle.dest_prop.proofs.equal.Conflicting.{all_next, hurts_are, no_mark}
use Rattle.dest_prop.proofs.conflicts.conflicts.Goals as goal

pub note_blocks-requires-clause-targets : goal.note_blocks-requires-clause-targets
note_blocks-requires-clause-targets c = subst (λ (ks : List Block). All (λ (k : Block). All (λ r. r < length ks) (targets k.term)) ks) (sym c.as_slice.ensures) (all_next c.args.body.now c.requires.closed)

pub note_arguments-requires-clause-size : goal.note_arguments-requires-clause-size
note_arguments-requires-clause-size c = (c.note_blocks.ensures []).size

pub returns-clause-hurts : goal.returns-clause-hurts
returns-clause-hurts c = λ x y l m.
    let p = c.args.program.now in
    let trees = trees_of p.types in
    let D = shapes_of (crate_of p) in
    let body = c.args.body.now in
    let n = c.len-locals.result in
    let long : n ≡ length body.locals = c.len-locals.ensures in
    let rows = c.in_ok-rows.rows in
    let low : x < n = omega arith in
    let low2 : y < n = omega arith in
    let f = blocks_hurt trees rows.starts rows.ends body.blocks in
    let g = argument_hurts rows.starts body.args in
    let first : Grows n f c.in_ok-hurts.hurts c.note_blocks.new.hurts = subst (λ (ks : List Block). Grows n (blocks_hurt trees rows.starts rows.ends ks) c.in_ok-hurts.hurts c.note_blocks.new.hurts) c.as_slice.ensures (c.note_blocks.ensures trees) in
    (grows_then n f g c.in_ok-hurts.hurts c.note_blocks.new.hurts c.note_arguments.new.hurts first c.note_arguments.ensures).each x y low low2
    ∙ ap (λ t. flag t x y || (f x y || g x y)) c.in_ok-hurts.ensures
    ∙ ap (λ b. b || (f x y || g x y)) (no_mark n x y low low2)
    ∙ hurts_are D trees body rows.starts rows.ends c.in_ok-rows.ensures.ends_size c.in_ok-rows.ensures.starts c.in_ok-rows.ensures.ends c.requires.closed c.requires.some_block x y m
