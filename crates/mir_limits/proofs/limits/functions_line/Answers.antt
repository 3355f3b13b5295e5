use Rattle.std.proofs.Common.{◌≡◌, slice_get, Some, None, refl, sym, ap, ◌∙◌, arith}
use Rattle.std.specs.Option.{option_copied, option_map}
use Rattle.std.proofs.lemmas.Option.{slice_get_within}
use Rattle.mir_syntax.proofs.Lists.{slice_get-none}
use Rattle.mir_rules.specs.Broken.{header, gather}
use Rattle.mir_rules.specs.Limits.{header_spot, functions_passed}
use Rattle.mir_limits.specs.Answer.{at_code}
use Rattle.mir_limits.proofs.Counted.{single_at, single_long, told_past, none_past}
use Rattle.mir_limits.proofs.Fitting.{functions_alike, header_line}
use Rattle.mir_limits.proofs.limits.functions_line.Goals as goal

pub returns-in_err-get : goal.returns-in_err-get
unfolding functions_passed
returns-in_err-get c = λ C fit.
    let lines = c.args.lines.now in
    let none : slice_get lines.functions 10000 ≡ None = sym c.get.ensures ∙ ap option_copied c.in_err-get.was in
    let few = slice_get-none lines.functions 10000 none in
    let long = functions_alike lines C fit in
    let found = single_long header_spot header (λ i x. refl) C.functions in
    ap (option_map (at_code 2)) c.from_residual.ensures ∙ none_past lines 2 10000 (gather header_spot 0 C.functions) (omega (arith, few, long, found))

pub returns : goal.returns
unfolding functions_passed
returns c = λ C fit.
    let lines = c.args.lines.now in
    let l = c.in_ok-get.field-0.now in
    let there : slice_get lines.functions 10000 ≡ Some l = sym c.in_ok-get.ensures in
    let long = functions_alike lines C fit in
    let within = slice_get_within lines.functions 10000 l there in
    told_past lines 2 10000 l.head (gather header_spot 0 C.functions) (header 10000) (single_at header_spot header (λ i x. refl) C.functions 10000 (omega (arith, long, within))) (header_line lines 10000 l there)
