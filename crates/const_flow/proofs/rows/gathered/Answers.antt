use Rattle.std.proofs.Common.{◌≡◌, ◌++◌, ◌∷◌, [], ◌+◌, ◌*◌, ◌<◌, Some, None, sym, ap, ◌∙◌, subst, length, get_or, take, map, arith}
use Rattle.std.proofs.lemmas.List.{take_more}
use Rattle.std.proofs.Math.Seq.{take-length}
use Rattle.const_flow.specs.Nodes.{at_starts, IsRow}
use Rattle.const_flow.specs.Cells.{reached_of}
use Rattle.const_flow.proofs.Numbering.{starts_item, starts_long}
use Rattle.const_flow.proofs.Gathering.{IsGathered, gathered_none, one_unreached, one_reached}
use Rattle.const_flow.proofs.rows.gathered.Goals as goal

pub loop-block-init : goal.loop-block-init
loop-block-init c =
    let ps = c.args.paths in
    subst (λ rows. IsGathered ps c.new-cells.result rows []) (sym c.in_ok-rows.ensures) (subst (λ ks. IsGathered ps ks [] []) (sym c.new-cells.ensures) (gathered_none ps))

pub loop-block-preserved-in_default : goal.loop-block-preserved-in_default
loop-block-preserved-in_default c =
    let ps = c.args.paths in
    let facts = at_starts c.args.facts.now in
    let i = c.loop-block.block in
    let rows = c.loop-block.rows in
    let cells = c.loop-block.cells in
    let item : get_or facts i c.index-facts-block.result ≡ None = starts_item c.args.facts.now c.args.blocks i c.index-facts-block.result c.requires.nodes (omega arith) c.index-facts-block.is ∙ c.in_default.is in
    let low : i < length facts = omega (arith, starts_long c.args.facts.now c.args.blocks c.requires.nodes) in
    let more : take (i + 1) facts ≡ take i facts ++ None ∷ [] = take_more facts i c.index-facts-block.result low ∙ ap (λ x. take i facts ++ x ∷ []) item in
    subst (λ rs. IsGathered ps cells rs (take (i + 1) facts)) (sym c.in_ok-push.ensures.ok) (subst (IsGathered ps cells (rows ++ None ∷ [])) (sym more) (one_unreached ps cells rows (take i facts) c.loop-block.invariant))

pub loop-block-preserved : goal.loop-block-preserved
loop-block-preserved c =
    let ps = c.args.paths in
    let facts = at_starts c.args.facts.now in
    let i = c.loop-block.block in
    let row = c.in-Some.row in
    let rows = c.loop-block.rows in
    let cells = c.loop-block.cells in
    let item : get_or facts i c.index-facts-block.result ≡ Some row = starts_item c.args.facts.now c.args.blocks i c.index-facts-block.result c.requires.nodes (omega arith) c.index-facts-block.is ∙ c.in-Some.is in
    let low : i < length facts = omega (arith, starts_long c.args.facts.now c.args.blocks c.requires.nodes) in
    let more : take (i + 1) facts ≡ take i facts ++ Some row ∷ [] = take_more facts i c.index-facts-block.result low ∙ ap (λ x. take i facts ++ x ∷ []) item in
    let long : IsRow ps (Some row) = subst (IsRow ps) (sym c.index-facts-block.is ∙ c.in-Some.is) (c.requires.rows (3 * i + 1) c.index-facts-block.result (omega arith)) in
    let rows2 : c.push-in-loop-block.new.self ≡ rows ++ Some (length cells) ∷ [] = c.in_ok-push-2.ensures.ok ∙ ap (λ n. rows ++ Some n ∷ []) c.len.ensures in
    let cells2 : c.extend.new.self ≡ cells ++ row = c.in_ok-extend.ensures.ok ∙ ap (λ ks. cells ++ ks) c.as_slice.ensures in
    subst (λ rs. IsGathered ps c.extend.new.self rs (take (i + 1) facts)) (sym rows2) (subst (λ ks. IsGathered ps ks (rows ++ Some (length cells) ∷ []) (take (i + 1) facts)) (sym cells2) (subst (IsGathered ps (cells ++ row) (rows ++ Some (length cells) ∷ [])) (sym more) (one_reached ps cells row rows (take i facts) long c.loop-block.invariant)))

pub invariant_of-result : goal.invariant_of-result
invariant_of-result c = c.loop-block.invariant.compact

pub returns : goal.returns
returns c =
    let facts = at_starts c.args.facts.now in
    let all : c.loop-block.block ≡ length facts = omega (arith, starts_long c.args.facts.now c.args.blocks c.requires.nodes) in
    c.loop-block.invariant.known ∙ ap (λ n. map (reached_of c.args.paths) (take n facts)) all ∙ ap (map (reached_of c.args.paths)) (take-length facts)
