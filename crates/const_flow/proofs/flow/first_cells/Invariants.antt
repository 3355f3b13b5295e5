use Rattle.std.proofs.Common.{◌≡◌, map, take}
use Rattle.const_flow.specs.Nodes.{body_in}
use Rattle.const_flow.proofs.FlownRows.{first_cell}
use Rattle.const_flow.proofs.flow.first_cells.Given as goal

abbrev pub invariant-loop-place : goal.invariant-loop-place
invariant-loop-place l = l.cells ≡ map (first_cell (body_in l.sight)) (take l.place-index l.sight.paths.now)
