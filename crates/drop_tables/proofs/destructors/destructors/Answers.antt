use Rattle.std.proofs.Common.{◌≡◌, ◌-◌, ◌<◌, suc, refl, map, length, get_or, sym, ap, ◌∙◌, arith}
use Rattle.std.proofs.lemmas.List.{get_or-map, length-map}
use Rattle.std.specs.Option.{option_map}
use Rattle.mir_syntax.specs.declared.types.FnId.{FnId}
use Rattle.mir_syntax.specs.Tree.{trees_of}
use Rattle.mir_syntax.specs.Crate.{crate_of, function_of, def_of}
use Rattle.mir_syntax.specs.Drops.{fn_number}
use Rattle.drop_tables.proofs.Destroying.{one_before, all_found}
use Rattle.drop_tables.proofs.destructors.destructors.Goals as goal

pub functions-preserved : goal.functions-preserved
functions-preserved c =
    let p = c.args.program.now in
    let typed = function_of (trees_of p.types) in
    let f = c.index-functions-left.result in
    let before = c.functions.left - 1 in
    let id : FnId = record { 0 = before } in
    let next : suc before ≡ c.functions.left = omega arith in
    let inside : before < length p.functions = omega (arith, c.functions.invariant.1) in
    let long = length-map p.functions typed in
    let there : f ≡ get_or p.functions before f = c.index-functions-left.is ∙ ap (λ l. get_or l before f) c.as_slice-functions.ensures in
    let at : get_or (map typed p.functions) before (typed f) ≡ typed f = get_or-map typed p.functions before f (typed f) inside ∙ ap typed (sym there) in
    let step = one_before (map typed p.functions) c.functions.found.items c.note.new.found.items (length p.defs) c.functions.left before id (typed f) c.drop_of-def.result
    (c.functions.invariant.0, omega (arith, long, c.functions.invariant.1), c.functions.invariant.2) next refl at c.drop_of-def.ensures c.note.ensures in
    (step.0, omega (arith, inside), step.2)

pub returns : goal.returns
returns c =
    let p = c.args.program.now in
    let typed = function_of (trees_of p.types) in
    let long = length-map p.functions typed in
    ap (map (option_map fn_number)) c.from_vec.ensures
    ∙ all_found (crate_of p) c.functions.found.items (length p.defs) c.functions.left (c.functions.invariant.0, omega (arith, long, c.functions.invariant.1), c.functions.invariant.2)
    (sym (length-map p.defs (def_of (trees_of p.types)))) (omega arith)
