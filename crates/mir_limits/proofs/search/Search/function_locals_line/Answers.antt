use Rattle.std.proofs.Common.{◌≡◌, ◌<◌, ℕ, true, List, Some, length, get_or, slice_get, map, refl, sym, ap, ap₂, subst, ◌∙◌, arith}
use Rattle.std.specs.Bool.{then_some}
use Rattle.std.specs.List.{list_all}
use Rattle.std.specs.Option.{option_map}
use Rattle.std.proofs.lemmas.List.{length-map, take_all}
use Rattle.std.proofs.lemmas.Option.{slice_get_read, slice_get-get_or, slice_get-map}
use Rattle.mir_syntax.specs.declared.types.TyId.{TyId}
use Rattle.mir_syntax.specs.Tree.{at_id, trees_of}
use Rattle.mir_syntax.specs.Table.{all_below}
use Rattle.mir_syntax.specs.Ids.{block_below, function_below}
use Rattle.mir_syntax.specs.Crate.{crate_of, function_of}
use Rattle.mir_syntax.specs.Shapes.{shapes_of}
use Rattle.mir_rules.proofs.Lists.{and_true-left, list_all_true-at}
use Rattle.mir_text.specs.NameFaults.{first_fault}
use Rattle.mir_rules.specs.Broken.{local, gather}
use Rattle.mir_rules.specs.Faults.{by_code}
use Rattle.mir_rules.specs.Limits.{is_large_type, local_passed}
use Rattle.mir_limits.specs.Answer.{at_code, either}
use Rattle.mir_limits.proofs.Answered.{spot_passed}
use Rattle.mir_limits.proofs.Gathered.{gathered_more}
use Rattle.mir_syntax.proofs.Lists.{id_below}
use Rattle.mir_limits.proofs.Fitting.{functions_long, function_locals, local_line}
use Rattle.mir_limits.proofs.search.Search.function_locals_line.Goals as goal

pub bounds-as_slice-at-2 : goal.bounds-as_slice-at-2
bounds-as_slice-at-2 c =
    let s = c.args.self.now in
    let long = functions_long s.lines.now s.program.now s.fit in
    let same = ap length c.as_slice-2.ensures in
    omega (arith, long, same, c.requires.there)

pub is_large_type-is_large-requires-clause-in_table : goal.is_large_type-is_large-requires-clause-in_table
is_large_type-is_large-requires-clause-in_table c =
    let s = c.args.self.now in
    let p = s.program.now in
    let n = length p.types in
    let at = c.args.at in
    let x = c.loop-x.x in
    let f = c.index-as_slice-at.result in
    let none : TyId = record { 0 = 0 } in
    let found : slice_get p.functions at ≡ Some f = slice_get_read p.functions (length p.functions) at f refl c.requires.there (c.index-as_slice-at.is ∙ ap (λ l. get_or l at f) c.as_slice.ensures) in
    let same : c.as_slice-locals.result.now ≡ f.body.locals = c.as_slice-locals.ensures ∙ ap (λ h. h.body.locals) (sym c.index-as_slice-at.is) in
    let long = ap length same in
    let below : all_below n f.body.locals ≡ true = and_true-left (all_below n f.body.locals) (list_all (block_below n) f.body.blocks) (list_all_true-at (function_below n) p.functions at f s.ids.functions found) in
    subst (λ (ids : List TyId). (get_or ids x none).0 < n) (sym same) (id_below n f.body.locals x none below (omega (arith, long, c.loop-x-test.true)))

pub bounds-lines-x : goal.bounds-lines-x
bounds-lines-x c =
    let s = c.args.self.now in
    let p = s.program.now in
    let lines = s.lines.now in
    let C = crate_of p in
    let at = c.args.at in
    let f = c.index-as_slice-at.result in
    let fl = c.index-as_slice-at-2.result in
    let view = function_of (trees_of p.types) in
    let found : slice_get p.functions at ≡ Some f = slice_get_read p.functions (length p.functions) at f refl c.requires.there (c.index-as_slice-at.is ∙ ap (λ l. get_or l at f) c.as_slice.ensures) in
    let is : slice_get C.functions at ≡ Some (view f) = slice_get-map view p.functions at ∙ ap (option_map view) found in
    let within : at < length lines.functions = omega (arith, functions_long lines p s.fit, c.requires.there) in
    let there : slice_get lines.functions at ≡ Some fl = slice_get_read lines.functions (length lines.functions) at fl refl within (c.index-as_slice-at-2.is ∙ ap (λ l. get_or l at fl) c.as_slice-2.ensures) in
    let same = ap length (c.as_slice-locals.ensures ∙ ap (λ h. h.body.locals) (sym c.index-as_slice-at.is)) in
    let told = ap length (c.as_slice-lines.ensures ∙ ap (λ h. h.locals) (sym c.index-as_slice-at-2.is)) in
    let long = function_locals lines C s.fit at fl (view f) there is in
    let viewed = length-map f.body.locals (at_id (trees_of p.types)) in
    omega (arith, same, told, long, viewed, c.loop-x-test.true)

pub loop-x-preserved : goal.loop-x-preserved
loop-x-preserved c =
    let s = c.args.self.now in
    let p = s.program.now in
    let lines = s.lines.now in
    let C = crate_of p in
    let D = shapes_of C in
    let trees = trees_of p.types in
    let at = c.args.at in
    let x = c.loop-x.x in
    let f = c.index-as_slice-at.result in
    let fl = c.index-as_slice-at-2.result in
    let view = function_of trees in
    let none : TyId = record { 0 = 0 } in
    let ids = c.as_slice-locals.result.now in
    let id = get_or ids x none in
    let found : slice_get p.functions at ≡ Some f = slice_get_read p.functions (length p.functions) at f refl c.requires.there (c.index-as_slice-at.is ∙ ap (λ l. get_or l at f) c.as_slice.ensures) in
    let is : slice_get C.functions at ≡ Some (view f) = slice_get-map view p.functions at ∙ ap (option_map view) found in
    let within : at < length lines.functions = omega (arith, functions_long lines p s.fit, c.requires.there) in
    let there : slice_get lines.functions at ≡ Some fl = slice_get_read lines.functions (length lines.functions) at fl refl within (c.index-as_slice-at-2.is ∙ ap (λ l. get_or l at fl) c.as_slice-2.ensures) in
    let same = ap length (c.as_slice-locals.ensures ∙ ap (λ h. h.body.locals) (sym c.index-as_slice-at.is)) in
    let told : c.as_slice-lines.result.now ≡ fl.locals = c.as_slice-lines.ensures ∙ ap (λ h. h.locals) (sym c.index-as_slice-at-2.is) in
    let long = function_locals lines C s.fit at fl (view f) there is in
    let viewed = length-map f.body.locals (at_id trees) in
    let line : ℕ = get_or fl.locals x 0 in
    let on : slice_get fl.locals x ≡ Some line = slice_get-get_or fl.locals x 0 (omega (arith, same, long, viewed, c.loop-x-test.true)) in
    let of : slice_get (map (at_id trees) ids) x ≡ Some (at_id trees id) = slice_get-map (at_id trees) ids x ∙ ap (option_map (at_id trees)) (slice_get-get_or ids x none c.loop-x-test.true) in
    let item : option_map (at_code 3) c.then_some.result ≡ first_fault (map (by_code lines) (local_passed D at x (at_id trees id))) =
    ap (option_map (at_code 3)) (c.then_some.ensures ∙ ap₂ then_some c.is_large_type-is_large.ensures (ap (λ l. get_or l x 0) told))
    ∙ spot_passed lines (local at x) line (is_large_type D (at_id trees id)) 3 (local_line lines at x line fl there on) in
    c.earlier-found.ensures 3 ∙ (ap₂ either c.loop-x.invariant item ∙ gathered_more (by_code lines) (local_passed D at) (map (at_id trees) ids) x (at_id trees id) of)

pub returns : goal.returns
returns c = λ function chosen.
    let s = c.args.self.now in
    let p = s.program.now in
    let D = shapes_of (crate_of p) in
    let trees = trees_of p.types in
    let at = c.args.at in
    let x = c.loop-x.x in
    let f = c.index-as_slice-at.result in
    let ids = c.as_slice-locals.result.now in
    let found : slice_get p.functions at ≡ Some f = slice_get_read p.functions (length p.functions) at f refl c.requires.there (c.index-as_slice-at.is ∙ ap (λ l. get_or l at f) c.as_slice.ensures) in
    let one : f ≡ function = cc (found, chosen) in
    let same : ids ≡ function.body.locals = c.as_slice-locals.ensures ∙ ap (λ h. h.body.locals) (sym c.index-as_slice-at.is ∙ one) in
    let whole = take_all x (map (at_id trees) ids) (omega (arith, length-map ids (at_id trees), c.loop-x-test.false)) in
    c.loop-x.invariant ∙ ap (λ l. first_fault (map (by_code s.lines.now) (gather (local_passed D at) 0 l))) (whole ∙ ap (map (at_id trees)) same)
