use Rattle.std.proofs.Common.{◌≡◌, ◌<◌, Some, length, slice_get, ap, ap₂, ◌∙◌, arith}
use Rattle.std.specs.Option.{option_map}
use Rattle.std.proofs.lemmas.Option.{slice_get-map}
use Rattle.mir_syntax.specs.Tree.{trees_of}
use Rattle.mir_syntax.specs.Crate.{crate_of, function_of}
use Rattle.mir_rules.specs.Broken.{function_found}
use Rattle.mir_rules.specs.Faults.{by_line}
use Rattle.mir_rules.proofs.Terminators.{slice_get_there}
use Rattle.mir_validate.specs.Inside.{shapes}
use Rattle.mir_limits.specs.Answer.{either}
use Rattle.mir_limits.proofs.Gathered.{gathered_more}
use Rattle.mir_validate.proofs.rules.functions_fault.Goals as goal

pub loop-at-preserved : goal.loop-at-preserved
loop-at-preserved c =
    let p = c.args.program.now in
    let C = crate_of p in
    let view = function_of (trees_of p.types) in
    let at = c.loop-at.at in
    let below : at < length p.functions = omega (arith, c.len-at-end.ensures) in
    let (f, found) = slice_get_there p.functions at below in
    let is : slice_get C.functions at ≡ Some (view f) = slice_get-map view p.functions at ∙ ap (option_map view) found in
    c.sooner-found.ensures ∙ (ap₂ either c.loop-at.invariant (c.in_ok-fault.ensures f found) ∙ gathered_more (by_line c.args.lines.now) (function_found C (shapes p)) C.functions at (view f) is)
