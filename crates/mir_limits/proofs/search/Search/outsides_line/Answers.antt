use Rattle.std.proofs.Common.{◌≡◌, ◌<◌, ◌||◌, ℕ, Some, length, get_or, slice_get, map, ap, ap₂, ◌∙◌, arith}
use Rattle.std.specs.Bool.{then_some}
use Rattle.std.specs.List.{list_any}
use Rattle.std.specs.Option.{option_map}
use Rattle.std.proofs.lemmas.Option.{slice_get-get_or, slice_get-map}
use Rattle.mir_syntax.specs.Tree.{trees_of}
use Rattle.mir_syntax.specs.Crate.{crate_of, outside_of}
use Rattle.mir_syntax.specs.Shapes.{shapes_of}
use Rattle.mir_text.specs.NameFaults.{first_fault}
use Rattle.mir_rules.specs.Broken.{outside}
use Rattle.mir_rules.specs.Faults.{by_code}
use Rattle.mir_rules.specs.Limits.{is_large_type, outside_passed}
use Rattle.mir_rules.proofs.Terminators.{slice_get_there}
use Rattle.mir_limits.specs.Answer.{at_code, either}
use Rattle.mir_limits.proofs.Answered.{spot_passed}
use Rattle.mir_limits.proofs.Gathered.{gathered_more}
use Rattle.mir_limits.proofs.Fitting.{outsides_long, outside_line}
use Rattle.mir_limits.proofs.search.Search.outsides_line.Goals as goal

pub bounds-as_slice-at : goal.bounds-as_slice-at
bounds-as_slice-at c =
    let s = c.args.self.now in
    let long = outsides_long s.lines.now s.program.now s.fit in
    let same = ap length c.as_slice.ensures in
    omega (arith, long, same, c.len-at-end.ensures)

pub loop-at-preserved : goal.loop-at-preserved
loop-at-preserved c =
    let s = c.args.self.now in
    let p = s.program.now in
    let lines = s.lines.now in
    let C = crate_of p in
    let D = shapes_of C in
    let typed = outside_of (trees_of p.types) in
    let at = c.loop-at.at in
    let below : at < length p.outsides = omega (arith, c.len-at-end.ensures) in
    let line : ℕ = get_or lines.outsides at 0 in
    let there : slice_get lines.outsides at ≡ Some line = slice_get-get_or lines.outsides at 0 (omega (arith, below, outsides_long lines p s.fit)) in
    let (o, found) = slice_get_there p.outsides at below in
    let is : slice_get C.outsides at ≡ Some (typed o) = slice_get-map typed p.outsides at ∙ ap (option_map typed) found in
    let is_large = list_any (is_large_type D) (typed o).args || is_large_type D (typed o).result in
    let item : option_map (at_code 3) c.then_some.result ≡ first_fault (map (by_code lines) (outside_passed D at (typed o))) =
    ap (option_map (at_code 3)) (c.then_some.ensures ∙ ap₂ then_some (c.outside_is_large-is_large.ensures o found) (ap (λ l. get_or l at 0) c.as_slice.ensures))
    ∙ spot_passed lines (outside at) line is_large 3 (outside_line lines at line there) in
    c.earlier-found.ensures 3 ∙ (ap₂ either c.loop-at.invariant item ∙ gathered_more (by_code lines) (outside_passed D) C.outsides at (typed o) is)

pub offset_bounds-as_slice-at : goal.offset_bounds-as_slice-at
offset_bounds-as_slice-at c =
    let s = c.args.self.now in
    let long = outsides_long s.lines.now s.program.now s.fit in
    let same = ap length c.as_slice.ensures in
    omega (arith, long, same, c.len-at-end.ensures, c.as_slice.type_inv)
