use Rattle.std.proofs.Common.{◌≡◌, ◌<◌, ◌+◌, refl, ap, ◌∙◌, sym, subst, List, [], ◌∷◌, map, drop, length, get_or, arith}
use Rattle.std.proofs.lemmas.List.{at_drop_more}
use Rattle.std.proofs.lemmas.Option.{slice_get-get_or}
use Rattle.mir_syntax.specs.Tree.{Tree, at_id, trees_of}
use Rattle.mir_syntax.specs.Crate.{crate_of}
use Rattle.mir_syntax.specs.Shapes.{shapes_of}
use Rattle.mir_syntax.specs.declared.types.TyId.{TyId}
use Rattle.mir_syntax.proofs.InTable.{local-in-table}
use Rattle.mir_rules.specs.Weights.{units}
use Rattle.move_paths.specs.declared.search.Search.{Search}
use Rattle.move_paths.specs.declared.units.Span.{Span}
use Rattle.move_paths.specs.Finding.{Gathers}
use Rattle.move_paths.proofs.Listing.{Listed, listed_more, units_whole}
use Rattle.move_paths.proofs.units.units.Goals as goal

pub find_units-requires-clause-in_table : goal.find_units-requires-clause-in_table
find_units-requires-clause-in_table c =
    let p = c.args.program.now in
    let body = c.args.body.now in
    let i = c.loop-local.local in
    let d : TyId = record { 0 = 0 } in
    let low : i < length body.locals = omega (arith, c.loop-local-test.true, ap length c.as_slice-id-items.ensures) in
    subst (λ (xs : List TyId). (get_or xs i d).0 < length p.types) (sym c.as_slice-id-items.ensures) (local-in-table p.types body i (get_or body.locals i d) c.requires.body_ids (slice_get-get_or body.locals i d low))

pub loop-local-preserved : goal.loop-local-preserved
loop-local-preserved c =
    let p = c.args.program.now in
    let D = shapes_of (crate_of p) in
    let trees = trees_of p.types in
    let locals = c.args.body.now.locals in
    let i = c.loop-local.local in
    let d : TyId = record { 0 = 0 } in
    let s = c.loop-local.search in
    let new = c.find_units.new.search in
    let low : i < length locals = omega (arith, c.loop-local-test.true, ap length c.as_slice-id-items.ensures) in
    let left : map (at_id trees) (drop i locals) ≡ at_id trees (get_or locals i d) ∷ map (at_id trees) (drop (i + 1) locals) = at_drop_more (λ xs. map (at_id trees) xs) locals i d low in
    let t = at_id trees (get_or locals i d) in
    let ts = map (at_id trees) (drop (i + 1) locals) in
    let w : Listed D (map (at_id trees) locals) s c.loop-local.spans i (t ∷ ts) = subst (λ (ts : List Tree). Listed D (map (at_id trees) locals) s c.loop-local.spans i ts) left c.loop-local.invariant in
    let here : Search = record { local = i; path = s.path; places = s.places } in
    let whole = units_whole p (at_id trees (get_or c.as_slice-id-items.result.now i d)) c.len.result c.len.ensures ∙ ap (λ (ids : List TyId). units D (at_id trees (get_or ids i d))) c.as_slice-id-items.ensures in
    let found : Gathers here new [] (units D t) = subst (λ ws. Gathers here new [] ws) whole c.in_ok-find_units.ensures in
    let span : Span = record { from = c.len-from.result; to = c.len-to.result } in
    listed_more D (map (at_id trees) locals) s here new c.loop-local.spans c.push.new.self span i t ts w refl refl refl found c.in_ok-push.ensures.ok c.len-from.ensures c.len-to.ensures
