use Rattle.std.proofs.Common.{◌≡◌, ◌<◌, ℕ, Some, length, get_or, slice_get, map, refl, ap, ap₂, ◌∙◌, arith}
use Rattle.std.specs.Option.{option_map}
use Rattle.std.proofs.lemmas.Option.{slice_get-get_or, slice_get_read, slice_get-map}
use Rattle.mir_syntax.specs.Tree.{trees_of}
use Rattle.mir_syntax.specs.Crate.{crate_of, outside_of}
use Rattle.mir_text.specs.NameFaults.{first_fault}
use Rattle.mir_rules.specs.DefinitionRules.{breaks_v02}
use Rattle.mir_rules.specs.Broken.{outside, if_broken, outside_found}
use Rattle.mir_rules.specs.Faults.{by_line}
use Rattle.mir_validate.specs.Codes.{first_code}
use Rattle.mir_validate.specs.Walk.{place_of, on_line}
use Rattle.mir_limits.specs.Answer.{either}
use Rattle.mir_validate.proofs.Gathering.{spot_first, one_ascends}
use Rattle.mir_limits.proofs.Gathered.{gathered_more}
use Rattle.mir_limits.proofs.Fitting.{outsides_long, outside_line}
use Rattle.mir_validate.proofs.rules.outsides_fault.Goals as goal

pub bounds-as_slice-at-in-loop-at : goal.bounds-as_slice-at-in-loop-at
bounds-as_slice-at-in-loop-at c =
    let long = outsides_long c.args.lines.now c.args.program.now c.requires.fit in
    let same = ap length c.as_slice-in-loop-at.ensures in
    omega (arith, long, same, c.len-at-end.ensures)

pub loop-at-preserved : goal.loop-at-preserved
loop-at-preserved c =
    let p = c.args.program.now in
    let lines = c.args.lines.now in
    let C = crate_of p in
    let typed = outside_of (trees_of p.types) in
    let at = c.loop-at.at in
    let o = c.index-as_slice-at.result in
    let below : at < length p.outsides = omega (arith, c.len-at-end.ensures) in
    let line : ℕ = get_or lines.outsides at 0 in
    let there : slice_get lines.outsides at ≡ Some line = slice_get-get_or lines.outsides at 0 (omega (arith, below, outsides_long lines p c.requires.fit)) in
    let found : slice_get p.outsides at ≡ Some o = slice_get_read p.outsides (length p.outsides) at o refl below (c.index-as_slice-at.is ∙ ap (λ l. get_or l at o) c.as_slice.ensures) in
    let is : slice_get C.outsides at ≡ Some (typed o) = slice_get-map typed p.outsides at ∙ ap (option_map typed) found in
    let codes = if_broken (breaks_v02 (typed o)) 2 in
    let code : c.code_if-code.result ≡ first_code codes = c.code_if-code.ensures ∙ ap (λ b. first_code (if_broken b 2)) c.breaks_v02.ensures in
    let item : option_map place_of c.on_line.result ≡ first_fault (map (by_line lines) (outside_found at (typed o))) =
    c.on_line.ensures ∙ (ap₂ on_line (ap (λ l. get_or l at 0) c.as_slice-in-loop-at.ensures) code ∙ spot_first lines (outside at) line codes (outside_line lines at line there) (one_ascends (breaks_v02 (typed o)) 2)) in
    c.sooner-found.ensures ∙ (ap₂ either c.loop-at.invariant item ∙ gathered_more (by_line lines) outside_found C.outsides at (typed o) is)
