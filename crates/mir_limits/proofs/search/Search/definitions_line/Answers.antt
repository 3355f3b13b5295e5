use Rattle.std.proofs.Common.{◌≡◌, ◌<◌, ℕ, Some, length, get_or, slice_get, map, ap, ap₂, ◌∙◌, arith}
use Rattle.std.specs.Bool.{then_some}
use Rattle.std.specs.Option.{option_map}
use Rattle.std.proofs.lemmas.List.{length-map}
use Rattle.std.proofs.lemmas.Option.{slice_get-get_or}
use Rattle.mir_syntax.specs.Tree.{named, trees_of}
use Rattle.mir_syntax.specs.Crate.{crate_of, def_of}
use Rattle.mir_syntax.specs.Shapes.{shapes_of}
use Rattle.mir_text.specs.NameFaults.{first_fault}
use Rattle.mir_rules.specs.Broken.{definition}
use Rattle.mir_rules.specs.Faults.{by_code}
use Rattle.mir_rules.specs.Limits.{is_large_type, definition_passed}
use Rattle.mir_rules.proofs.Terminators.{slice_get_there}
use Rattle.mir_limits.specs.Answer.{at_code, either}
use Rattle.mir_limits.proofs.Answered.{spot_passed}
use Rattle.mir_limits.proofs.Gathered.{gathered_more}
use Rattle.mir_limits.proofs.Fitting.{defs_long, definition_line}
use Rattle.mir_limits.proofs.search.Search.definitions_line.Goals as goal

pub bounds-as_slice-at : goal.bounds-as_slice-at
bounds-as_slice-at c =
    let s = c.args.self.now in
    let long = defs_long s.lines.now s.program.now s.fit in
    let same = ap length c.as_slice.ensures in
    omega (arith, long, same, c.len-at-end.ensures)

pub loop-at-preserved : goal.loop-at-preserved
loop-at-preserved c =
    let s = c.args.self.now in
    let p = s.program.now in
    let lines = s.lines.now in
    let C = crate_of p in
    let D = shapes_of C in
    let at = c.loop-at.at in
    let below : at < length p.defs = omega (arith, c.len-at-end.ensures) in
    let line : ℕ = get_or lines.defs at 0 in
    let there : slice_get lines.defs at ≡ Some line = slice_get-get_or lines.defs at 0 (omega (arith, below, defs_long lines p s.fit)) in
    let (def, is) = slice_get_there C.defs at (omega (arith, length-map p.defs (def_of (trees_of p.types)), below)) in
    let item : option_map (at_code 3) c.then_some.result ≡ first_fault (map (by_code lines) (definition_passed D at def)) =
    ap (option_map (at_code 3)) (c.then_some.ensures ∙ ap₂ then_some c.is_large_def-is_large.ensures (ap (λ l. get_or l at 0) c.as_slice.ensures))
    ∙ spot_passed lines (definition at) line (is_large_type D (named at)) 3 (definition_line lines at line there) in
    c.earlier-found.ensures 3 ∙ (ap₂ either c.loop-at.invariant item ∙ gathered_more (by_code lines) (definition_passed D) C.defs at def is)
