use Rattle.std.proofs.Common.{◌≡◌, ◌<◌, ◌+◌, length, get_or, slice_get, Some, refl, ap, ◌∙◌, arith}
use Rattle.std.proofs.lemmas.List.{take_all}
use Rattle.std.proofs.lemmas.Option.{slice_get_read}
use Rattle.mir_rules.specs.Broken.{gather}
use Rattle.mir_rules.specs.Limits.{function_spots, statement_spots}
use Rattle.mir_rules.proofs.Terminators.{slice_get_there}
use Rattle.mir_limits.proofs.Counted.{reached, beyond}
use Rattle.mir_limits.proofs.Fitting.{functions_alike, function_fit}
use Rattle.mir_limits.proofs.statements.in_functions.Goals as goal

pub returns-in-Line : goal.returns-in-Line
unfolding statement_spots
returns-in-Line c = λ C fit.
    let lines = c.args.lines.now in
    let at = c.loop-at.at in
    let l = c.index-as_slice-at.result in
    let below : at < length lines.functions = omega (arith, c.len-at-end.ensures) in
    let found : slice_get lines.functions at ≡ Some l = slice_get_read lines.functions (length lines.functions) at l refl below (c.index-as_slice-at.is ∙ ap (λ x. get_or x at l) c.as_slice.ensures) in
    let (g, there) = slice_get_there C.functions at (omega (arith, below, functions_alike lines C fit)) in
    let item = c.in-Line.ensures lines at g found (function_fit lines C fit at l g found there) in
    reached lines function_spots C.functions at g there c.args.start c.loop-at.left (c.loop-at.invariant C fit) c.in-Line.line item

pub loop-at-preserved : goal.loop-at-preserved
loop-at-preserved c = λ C fit.
    let lines = c.args.lines.now in
    let at = c.loop-at.at in
    let l = c.index-as_slice-at.result in
    let below : at < length lines.functions = omega (arith, c.len-at-end.ensures) in
    let found : slice_get lines.functions at ≡ Some l = slice_get_read lines.functions (length lines.functions) at l refl below (c.index-as_slice-at.is ∙ ap (λ x. get_or x at l) c.as_slice.ensures) in
    let (g, there) = slice_get_there C.functions at (omega (arith, below, functions_alike lines C fit)) in
    let item = c.in-Beyond.ensures lines at g found (function_fit lines C fit at l g found there) in
    beyond lines function_spots C.functions at g there c.args.start c.loop-at.left (c.loop-at.invariant C fit) c.in-Beyond.more item

pub returns : goal.returns
unfolding statement_spots
returns c = λ C fit.
    let lines = c.args.lines.now in
    let at = c.loop-at.at in
    let whole = take_all at C.functions (omega (arith, functions_alike lines C fit, c.len-at-end.ensures)) in
    c.loop-at.invariant C fit ∙ ap (λ l. length (gather function_spots 0 l) + c.loop-at.left) whole
