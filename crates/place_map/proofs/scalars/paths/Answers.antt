use Rattle.std.proofs.Common.{◌≡◌, ◌<◌, ◌+◌, refl, ap, ◌∙◌, sym, subst, suc, List, [], ◌∷◌, map, drop, false, true, length, get_or, arith}
use Rattle.std.proofs.lemmas.List.{at_drop_more}
use Rattle.bit_rows.specs.Rows.{flag}
use Rattle.mir_syntax.specs.Tree.{at_id, trees_of}
use Rattle.mir_syntax.specs.Crate.{crate_of, body_of}
use Rattle.mir_syntax.specs.Shapes.{shapes_of}
use Rattle.mir_syntax.specs.declared.types.TyId.{TyId}
use Rattle.place_map.specs.declared.scalars.Found.{Found}
use Rattle.place_map.specs.Order.{IsOrdered}
use Rattle.place_map.specs.Tracked.{scalars, most_tracked}
use Rattle.place_map.specs.Finding.{Gathers}
use Rattle.place_map.proofs.Ordered.{tracked_ordered}
use Rattle.place_map.proofs.Gathering.{IsOnTheWay, way_taken, way_found, way_done, scalars_whole}
use Rattle.place_map.proofs.scalars.paths.Goals.{then-not-has+in_ok-find_scalars, else-not-has}
use Rattle.place_map.proofs.scalars.paths.Goals as goal

pub loop-local-preserved : goal.loop-local-preserved
loop-local-preserved c =
    let p = c.args.program.now in
    let D = shapes_of (crate_of p) in
    let trees = trees_of p.types in
    let locals = c.args.body.now.locals in
    let taken = flag c.args.taken.now 0 in
    let i = c.loop-local.local in
    let d : TyId = record { 0 = 0 } in
    let most = most_tracked (length c.args.body.now.blocks) in
    let s = c.loop-local.found in
    let next : suc i ≡ i + 1 = omega arith in
    let low : i < length locals = omega (arith, c.loop-local-test.true, ap length c.as_slice-id-items.ensures) in
    let left : map (at_id trees) (drop i locals) ≡ at_id trees (get_or locals i d) ∷ map (at_id trees) (drop (i + 1) locals) = at_drop_more (λ xs. map (at_id trees) xs) locals i d low in
    let w : IsOnTheWay D taken (map (at_id trees) locals) most s i (at_id trees (get_or locals i d) ∷ map (at_id trees) (drop (i + 1) locals)) = subst (λ ts. IsOnTheWay D taken (map (at_id trees) locals) most s i ts) left c.loop-local.invariant in
    let t = at_id trees (get_or locals i d) in
    let ts = map (at_id trees) (drop (i + 1) locals) in
    let here : Found = record { most = s.most; local = i; path = s.path; places = s.places } in
    subst (λ n. IsOnTheWay D taken (map (at_id trees) locals) most c.if-not-has.found n ts) next (elim c.if-not-has.branch [
      | then-not-has+in_ok-find_scalars v ↦ (let free : taken i ≡ false = sym c.has.ensures ∙ v.if-not-has.true in
          let whole = scalars_whole p (at_id trees (get_or c.as_slice-id-items.result.now i d)) v.len-then-not-has.result v.len-then-not-has.ensures ∙ ap (λ (ids : List TyId). scalars D (at_id trees (get_or ids i d))) c.as_slice-id-items.ensures in
          let found : Gathers here v.find_scalars.new.found [] (scalars D t) = subst (λ ws. Gathers here v.find_scalars.new.found [] ws) whole v.in_ok-find_scalars.ensures in
          subst (λ f. IsOnTheWay D taken (map (at_id trees) locals) most f (suc i) ts) (sym v.found-is) (way_found D taken (map (at_id trees) locals) most s here v.find_scalars.new.found i t ts w free refl refl refl refl found))
      | else-not-has v ↦ (let held : taken i ≡ true = sym c.has.ensures ∙ v.if-not-has.false in
          subst (λ f. IsOnTheWay D taken (map (at_id trees) locals) most f (suc i) ts) (sym v.found-is) (way_taken D taken (map (at_id trees) locals) most s here i t ts w held refl refl refl))
    ])

pub returns : goal.returns
returns c =
    let p = c.args.program.now in
    way_done (shapes_of (crate_of p)) (flag c.args.taken.now 0) (trees_of p.types) c.args.body.now c.loop-local.found c.loop-local.local c.loop-local.invariant (omega (arith, c.loop-local-test.false, ap length c.as_slice-id-items.ensures))

pub invariant_of-result : goal.invariant_of-result
invariant_of-result c =
    let p = c.args.program.now in
    let is = way_done (shapes_of (crate_of p)) (flag c.args.taken.now 0) (trees_of p.types) c.args.body.now c.loop-local.found c.loop-local.local c.loop-local.invariant (omega (arith, c.loop-local-test.false, ap length c.as_slice-id-items.ensures)) in
    subst IsOrdered (sym is) (tracked_ordered (shapes_of (crate_of p)) (flag c.args.taken.now 0) (body_of (trees_of p.types) c.args.body.now))
