use Rattle.std.proofs.Common.{◌≡◌, ◌<◌, length, map, get_or, set, refl, ap, ◌∙◌, arith}
use Rattle.std.proofs.lemmas.Grind.{common_steps}
use Rattle.mir_syntax.specs.declared.body.Block.{Block}
use Rattle.mir_syntax.specs.declared.body.Term.{Term}
use Rattle.cfg_simplify.specs.Edges.{retarget}
use Rattle.cfg_simplify.specs.Simple.{numbers, landing}
use Rattle.cfg_simplify.specs.Code.{at, bare_goto, bare_hopped_block}
use Rattle.cfg_simplify.proofs.equal.Lists.{length-numbers, over-length, over-here, over-more}
use Rattle.cfg_simplify.proofs.equal.Terms.{block-closed}
use Rattle.cfg_simplify.proofs.equal.Landings.{hopped-is}
use Rattle.cfg_simplify.proofs.gotos.hopped.Goals as goal

pub retarget_in_place-requires : goal.retarget_in_place-requires
retarget_in_place-requires c =
    let blocks = c.args.blocks in
    let f = bare_hopped_block (at c.in_ok-landings.landings) in
    let items = c.loop-block.block-items in
    let i = c.loop-block.block-index in
    let item = c.block-item.result in
    let in-items : i < length items = omega arith in
    let here : get_or items i item ≡ get_or blocks i item = over-here f blocks items i c.loop-block.invariant item in-items in
    let in-blocks : i < length blocks = omega (arith, over-length f blocks items i c.loop-block.invariant, in-items) in
    let e : c.in_ok-landings.landings ≡ map (landing (map bare_goto blocks)) (numbers (length blocks)) = rw c.as_slice.ensures at c.in_ok-landings.ensures in
    let long : length c.as_slice-in-loop-block.result.now ≡ length blocks = ap length (c.as_slice-in-loop-block.ensures ∙ e) ∙ length-numbers (landing (map bare_goto blocks)) (length blocks) in
    rw (here, long) (block-closed blocks i item c.requires.closed in-blocks)

pub loop-block-preserved : goal.loop-block-preserved
loop-block-preserved c =
    let blocks = c.args.blocks in
    let landings = c.in_ok-landings.landings in
    let items = c.loop-block.block-items in
    let i = c.loop-block.block-index in
    let item = c.block-item.result in
    let in-items : i < length items = omega arith in
    let x : Block = get_or items i item in
    let term : c.retarget_in_place.new.term ≡ retarget (at landings) x.term = c.retarget_in_place.ensures ∙ ap (λ l. retarget (at l) x.term) c.as_slice-in-loop-block.ensures in
    ap (λ (t : Term). (let block : Block = record { stmts = x.stmts; term = t } in set items i block)) term
    ∙ over-more (bare_hopped_block (at landings)) blocks items i c.loop-block.invariant item x in-items refl

pub returns : goal.returns
returns c =
    let blocks = c.args.blocks in
    let landings = c.in_ok-landings.landings in
    let e : landings ≡ map (landing (map bare_goto blocks)) (numbers (length blocks)) = rw c.as_slice.ensures at c.in_ok-landings.ensures in
    let out : c.from_vec.result ≡ map (bare_hopped_block (at landings)) blocks = grind (arith, common_steps) in
    hopped-is blocks c.requires.closed landings c.from_vec.result e out
