use Rattle.std.proofs.Common.{◌≡◌, sym, ap, ◌∙◌, length, map, take, Some, arith}
use Rattle.std.proofs.Math.Seq.{take-length}
use Rattle.const_flow.specs.Nodes.{body_in}
use Rattle.const_flow.proofs.FlownRows.{first_cell, first_row}
use Rattle.const_flow.proofs.flow.first_cells.Goals as goal

pub returns : goal.returns
returns c =
    let ps = c.args.sight.paths.now in
    let b = body_in c.args.sight in
    let all : c.loop-place.place-index ≡ length ps = omega (arith, ap length c.places-places.ensures) in
    ap Some (c.loop-place.invariant ∙ ap (λ n. map (first_cell b) (take n ps)) all ∙ ap (map (first_cell b)) (take-length ps) ∙ sym (first_row b ps))
