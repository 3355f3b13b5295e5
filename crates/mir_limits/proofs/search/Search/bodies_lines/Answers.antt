use Rattle.std.proofs.Common.{◌≡◌, ◌<◌, Some, nat_lt, length, get_or, slice_get, map, refl, sym, ap, ap₂, ◌∙◌, arith}
use Rattle.std.specs.Bool.{then_some}
use Rattle.std.specs.Option.{option_map}
use Rattle.std.proofs.lemmas.Option.{slice_get_read, slice_get-map}
use Rattle.mir_syntax.specs.Tree.{trees_of}
use Rattle.mir_syntax.specs.Crate.{crate_of, function_of}
use Rattle.mir_syntax.specs.Shapes.{shapes_of}
use Rattle.mir_text.specs.NameFaults.{first_fault}
use Rattle.mir_rules.specs.Broken.{header}
use Rattle.mir_rules.specs.Faults.{by_code}
use Rattle.mir_rules.specs.Limits.{most_in_body, blocks_count, locals_count, count_passed}
use Rattle.mir_rules.proofs.Terminators.{slice_get_there}
use Rattle.mir_limits.specs.Answer.{at_code, either}
use Rattle.mir_limits.proofs.Answered.{spot_passed}
use Rattle.mir_limits.proofs.Gathered.{gathered_more}
use Rattle.mir_limits.proofs.Fitting.{functions_long, header_line}
use Rattle.mir_limits.proofs.search.Search.bodies_lines.Goals as goal

pub bounds-as_slice-at : goal.bounds-as_slice-at
bounds-as_slice-at c =
    let s = c.args.self.now in
    let long = functions_long s.lines.now s.program.now s.fit in
    let same = ap length c.as_slice.ensures in
    omega (arith, long, same, c.len-at-end.ensures)

pub offset_bounds-as_slice-at : goal.offset_bounds-as_slice-at
offset_bounds-as_slice-at c =
    let s = c.args.self.now in
    let long = functions_long s.lines.now s.program.now s.fit in
    let same = ap length c.as_slice.ensures in
    omega (arith, long, same, c.len-at-end.ensures, c.as_slice.type_inv)

pub bounds-as_slice-at-in-loop-at : goal.bounds-as_slice-at-in-loop-at
bounds-as_slice-at-in-loop-at c =
    let s = c.args.self.now in
    let long = functions_long s.lines.now s.program.now s.fit in
    let same = ap length c.as_slice.ensures in
    omega (arith, long, same, c.len-at-end.ensures)

pub loop-at-preserved : goal.loop-at-preserved
loop-at-preserved c =
    let s = c.args.self.now in
    let p = s.program.now in
    let lines = s.lines.now in
    let C = crate_of p in
    let D = shapes_of C in
    let view = function_of (trees_of p.types) in
    let at = c.loop-at.at in
    let l = c.index-as_slice-at.result in
    let below : at < length p.functions = omega (arith, c.len-at-end.ensures) in
    let within : at < length lines.functions = omega (arith, below, functions_long lines p s.fit) in
    let there : slice_get lines.functions at ≡ Some l = slice_get_read lines.functions (length lines.functions) at l refl within (c.index-as_slice-at.is ∙ ap (λ x. get_or x at l) c.as_slice.ensures) in
    let (f, found) = slice_get_there p.functions at below in
    let is : slice_get C.functions at ≡ Some (view f) = slice_get-map view p.functions at ∙ ap (option_map view) found in
    let head = header_line lines at l there in
    let blocks : option_map (at_code 4) c.then_some.result ≡ first_fault (map (by_code lines) (count_passed 4 (blocks_count D) at (view f))) =
    ap (option_map (at_code 4)) (c.then_some.ensures ∙ ap₂ then_some (c.too_many-many.ensures.blocks f found) (ap (λ x. x.head) (sym c.index-as_slice-at.is)))
    ∙ spot_passed lines (header at) l.head (nat_lt most_in_body (blocks_count D (view f).body)) 4 head in
    let locals : option_map (at_code 5) c.then_some-in-loop-at.result ≡ first_fault (map (by_code lines) (count_passed 5 (locals_count D) at (view f))) =
    ap (option_map (at_code 5)) (c.then_some-in-loop-at.ensures ∙ ap₂ then_some (c.too_many-many.ensures.locals f found) (ap (λ x. x.head) (sym c.index-as_slice-at.is)))
    ∙ spot_passed lines (header at) l.head (nat_lt most_in_body (locals_count D (view f).body)) 5 head in (
      c.earlier-blocks.ensures 4 ∙ (ap₂ either c.loop-at.invariant.0 blocks ∙ gathered_more (by_code lines) (count_passed 4 (blocks_count D)) C.functions at (view f) is),
      c.earlier-locals.ensures 5 ∙ (ap₂ either c.loop-at.invariant.1 locals ∙ gathered_more (by_code lines) (count_passed 5 (locals_count D)) C.functions at (view f) is),
    )
