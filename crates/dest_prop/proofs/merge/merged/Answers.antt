use Rattle.std.proofs.Common.{◌≡◌, ◌<◌, [], ◌∷◌, false, ℕ, List, length, map, replicate, refl, sym, ap, ◌∙◌, subst, arith}
use Rattle.std.specs.List.{All, flat_map, range_with_len}
use Rattle.std.proofs.lemmas.List.{length-map}
use Rattle.mir_syntax.specs.Tree.{at_id, trees_of}
use Rattle.mir_syntax.specs.Crate.{crate_of, body_of}
use Rattle.mir_syntax.specs.Shapes.{shapes_of}
use Rattle.bit_rows.specs.Rows.{row_at, marked}
use Rattle.dest_prop.specs.declared.candidates.LocalCopy.{LocalCopy}
use Rattle.dest_prop.specs.Merged.{home_of}
use Rattle.dest_prop.specs.Code.{home_in, shared_in, pair_of, marked_shared, bare_block_home}
use Rattle.dest_prop.proofs.equal.Fitting.{candidates_in}
use Rattle.dest_prop.proofs.equal.Sharing.{row_is}
use Rattle.dest_prop.proofs.equal.Written.{is_merged_by, merged_is, merged_ids}
use Rattle.dest_prop.proofs.merge.merged.Goals as goal

pub homes-requires-clause-within : goal.homes-requires-clause-within
homes-requires-clause-within c =
    let p = c.args.program.now in
    let trees = trees_of p.types in
    let body = c.args.body in
    let n = c.len-locals.result in
    subst (λ (cs : List LocalCopy). All (λ (d : LocalCopy). (d.into < n) × (d.from < n)) cs) (sym c.as_slice.ensures)
    (candidates_in (shapes_of (crate_of p)) (body_of trees body) c.in_ok-candidates.candidates n c.in_ok-candidates.ensures (length-map body.locals (at_id trees) ∙ sym c.len-locals.ensures))

pub returns-clause-merged : goal.returns-clause-merged
returns-clause-merged c =
    let p = c.args.program.now in
    let trees = trees_of p.types in
    let D = shapes_of (crate_of p) in
    let body = c.args.body in
    let b = body_of trees body in
    let n = c.len-locals.result in
    let count = c.len-locals.ensures in
    let homes = c.in_ok-homes.homes.items in
    let row = c.in_ok-shared.shared in
    let long : length b.locals ≡ n = length-map body.locals (at_id trees) ∙ sym count in
    let are : home_in homes ≡ home_of D b = c.in_ok-homes.ensures.homes D b refl long (λ x y l m. c.in_ok-hurts.ensures.hurts x y (omega (arith, l, count)) (omega (arith, m, count))) (ap (map pair_of) c.as_slice.ensures ∙ c.in_ok-candidates.ensures) in
    let marks : row ≡ marked (replicate (length homes) false) (flat_map (marked_shared homes) (range_with_len 0 (length homes))) ∷ [] = c.in_ok-shared.ensures ∙ ap (λ (hs : List ℕ). marked (replicate (length hs) false) (flat_map (marked_shared hs) (range_with_len 0 (length hs))) ∷ []) c.as_slice-2.ensures.value in
    is_merged_by (shared_in (row_at row 0)) (home_in homes) trees body c.in_ok-blocks.blocks (c.in_ok-blocks.ensures ∙ ap (λ (hs : List ℕ). map (bare_block_home (shared_in (row_at row 0)) (home_in hs)) body.blocks) c.as_slice-3.ensures.value)
    ∙ merged_is D b (shared_in (row_at row 0)) (home_in homes) (row_is D b homes row (c.in_ok-homes.ensures.long ∙ sym long) are marks) are

pub returns-clause-in_table : goal.returns-clause-in_table
returns-clause-in_table c = merged_ids (shared_in (row_at c.in_ok-shared.shared 0)) (home_in c.as_slice-3.result.now) (length c.args.program.now.types) c.args.body c.in_ok-blocks.blocks c.in_ok-blocks.ensures c.requires.body_ids
