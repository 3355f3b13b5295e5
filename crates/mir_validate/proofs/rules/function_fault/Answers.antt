use Rattle.std.proofs.Common.{◌≡◌, ◌<◌, Some, length, get_or, slice_get, map, refl, ap, ap₂, ◌∙◌, arith}
use Rattle.std.specs.Option.{option_map}
use Rattle.std.proofs.lemmas.Option.{slice_get_read, slice_get-map}
use Rattle.mir_syntax.specs.Tree.{trees_of}
use Rattle.std.specs.List.{list_all}
use Rattle.std.proofs.Common.{◌&&◌}
use Rattle.mir_syntax.specs.Crate.{crate_of, function_of}
use Rattle.mir_text.specs.NameFaults.{first_fault}
use Rattle.mir_rules.specs.Formed.{is_formed, def_formed, outside_formed, function_formed}
use Rattle.mir_rules.specs.Broken.{header, header_broken, body_found, at_spot, function_found}
use Rattle.mir_rules.specs.Faults.{by_line}
use Rattle.mir_rules.proofs.Lists.{and_true-right, list_all_true-at}
use Rattle.mir_validate.specs.Inside.{shapes}
use Rattle.mir_validate.specs.Walk.{place_of, on_line}
use Rattle.mir_limits.specs.Answer.{either}
use Rattle.mir_validate.proofs.Gathering.{spot_first, header_ascends}
use Rattle.mir_limits.proofs.Gathered.{both_walks}
use Rattle.mir_limits.proofs.Fitting.{functions_long, function_blocks, header_line}
use Rattle.mir_validate.proofs.rules.function_fault.Goals as goal

pub bounds-as_slice-at-2 : goal.bounds-as_slice-at-2
bounds-as_slice-at-2 c =
    let long = functions_long c.args.lines.now c.args.program.now c.requires.fit in
    let same = ap length c.as_slice-2.ensures in
    omega (arith, long, same, c.requires.there)

pub body_fault-requires : goal.body_fault-requires
unfolding is_formed
body_fault-requires c =
    let p = c.args.program.now in
    let C = crate_of p in
    let f = c.index-as_slice-at.result in
    let view = function_of (trees_of p.types) in
    let found : slice_get p.functions c.args.at ≡ Some f = slice_get_read p.functions (length p.functions) c.args.at f refl c.requires.there (c.index-as_slice-at.is ∙ ap (λ l. get_or l c.args.at f) c.as_slice.ensures) in
    let is : slice_get C.functions c.args.at ≡ Some (view f) = slice_get-map view p.functions c.args.at ∙ ap (option_map view) found in
    let defs = list_all (def_formed C) C.defs in
    let outsides = list_all (outside_formed C) C.outsides in
    let functions = list_all (function_formed C) C.functions in
    record { formed = list_all_true-at (function_formed C) C.functions c.args.at (view f) (and_true-right outsides functions (and_true-right defs (outsides && functions) c.requires.formed)) is }

pub returns : goal.returns
returns c = λ function same.
    let p = c.args.program.now in
    let lines = c.args.lines.now in
    let C = crate_of p in
    let D = shapes p in
    let at = c.args.at in
    let f = c.index-as_slice-at.result in
    let fl = c.index-as_slice-at-2.result in
    let view = function_of (trees_of p.types) in
    let found : slice_get p.functions at ≡ Some f = slice_get_read p.functions (length p.functions) at f refl c.requires.there (c.index-as_slice-at.is ∙ ap (λ l. get_or l at f) c.as_slice.ensures) in
    let is : slice_get C.functions at ≡ Some (view f) = slice_get-map view p.functions at ∙ ap (option_map view) found in
    let one : f ≡ function = cc (found, same) in
    let below : at < length lines.functions = omega (arith, functions_long lines p c.requires.fit, c.requires.there) in
    let there : slice_get lines.functions at ≡ Some fl = slice_get_read lines.functions (length lines.functions) at fl refl below (c.index-as_slice-at-2.is ∙ ap (λ l. get_or l at fl) c.as_slice-2.ensures) in
    let codes = header_broken D at (view f) in
    let head : option_map place_of c.on_line-header.result ≡ first_fault (map (by_line lines) (map (at_spot (header at)) codes)) =
    c.on_line-header.ensures ∙ (ap (on_line fl.head) c.header_code.ensures ∙ spot_first lines (header at) fl.head codes (header_line lines at fl there) (header_ascends D at (view f))) in
    let body : option_map place_of c.in_ok-body.body ≡ first_fault (map (by_line lines) (body_found C D at (view f).body)) = c.in_ok-body.ensures lines at there (function_blocks lines C c.requires.fit at fl (view f) there is) in
    let all : option_map place_of c.sooner.result ≡ first_fault (map (by_line lines) (function_found C D at (view f))) =
    c.sooner.ensures ∙ (ap₂ either head body ∙ both_walks (by_line lines) (map (at_spot (header at)) codes) (body_found C D at (view f).body)) in
    all ∙ ap (λ g. first_fault (map (by_line lines) (function_found C D at (view g)))) one
