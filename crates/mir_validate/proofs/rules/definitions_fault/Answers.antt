use Rattle.std.proofs.Common.{◌≡◌, ◌<◌, ℕ, Some, length, get_or, slice_get, map, ap, ◌∙◌, arith}
use Rattle.std.specs.Option.{option_map}
use Rattle.std.proofs.lemmas.List.{length-map}
use Rattle.std.proofs.lemmas.Option.{slice_get-get_or}
use Rattle.mir_syntax.specs.Tree.{trees_of}
use Rattle.mir_syntax.specs.Crate.{crate_of, def_of}
use Rattle.mir_text.specs.NameFaults.{first_fault}
use Rattle.mir_rules.specs.DefinitionRules.{breaks_v01}
use Rattle.mir_rules.specs.Broken.{definition, if_broken, definition_found}
use Rattle.mir_rules.specs.Faults.{by_line}
use Rattle.mir_rules.proofs.Terminators.{slice_get_there}
use Rattle.mir_validate.specs.Codes.{first_code}
use Rattle.mir_validate.specs.Inside.{shapes}
use Rattle.mir_validate.specs.Walk.{place_of, on_line}
use Rattle.mir_limits.specs.Answer.{either}
use Rattle.mir_validate.proofs.Gathering.{spot_first, one_ascends}
use Rattle.mir_limits.proofs.Gathered.{gathered_more}
use Rattle.mir_limits.proofs.Fitting.{defs_long, definition_line}
use Rattle.mir_validate.proofs.rules.definitions_fault.Goals as goal

pub bounds-as_slice-at : goal.bounds-as_slice-at
bounds-as_slice-at c =
    let long = defs_long c.args.lines.now c.args.program.now c.requires.fit in
    let same = ap length c.as_slice.ensures in
    omega (arith, long, same, c.len-at-end.ensures)

pub loop-at-preserved : goal.loop-at-preserved
loop-at-preserved c =
    let p = c.args.program.now in
    let lines = c.args.lines.now in
    let D = shapes p in
    let C = crate_of p in
    let at = c.loop-at.at in
    let below : at < length p.defs = omega (arith, c.len-at-end.ensures) in
    let line : ℕ = get_or lines.defs at 0 in
    let there : slice_get lines.defs at ≡ Some line = slice_get-get_or lines.defs at 0 (omega (arith, below, defs_long lines p c.requires.fit)) in
    let (def, is) = slice_get_there C.defs at (omega (arith, length-map p.defs (def_of (trees_of p.types)), below)) in
    let codes = if_broken (breaks_v01 D at) 1 in
    let same : get_or c.as_slice.result.now at 0 ≡ line = ap (λ l. get_or l at 0) c.as_slice.ensures in
    let item : either (option_map place_of c.loop-at.found) (option_map place_of c.on_line.result) ≡ either (option_map place_of c.loop-at.found) (first_fault (map (by_line lines) (definition_found D at def))) =
    ap (either (option_map place_of c.loop-at.found)) c.on_line.ensures
    ∙ (c.in_ok-code.ensures ∙ ap (either (option_map place_of c.loop-at.found)) (ap (λ l. on_line l (first_code codes)) same ∙ spot_first lines (definition at) line codes (definition_line lines at line there) (one_ascends (breaks_v01 D at) 1))) in
    c.sooner-found.ensures ∙ (item ∙ (ap (λ x. either x (first_fault (map (by_line lines) (definition_found D at def)))) c.loop-at.invariant ∙ gathered_more (by_line lines) (definition_found D) C.defs at def is))
