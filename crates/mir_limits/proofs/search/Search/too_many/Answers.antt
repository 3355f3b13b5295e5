use Rattle.std.proofs.Common.{◌≡◌, ◌+◌, ◌*◌, ◌&&◌, IsTrue, Some, nat_lt, length, map, get_or, slice_get, refl, sym, ap, ap₂, subst, ◌∙◌, arith}
use Rattle.std.specs.List.{list_all, count_by}
use Rattle.std.specs.Option.{option_map}
use Rattle.std.proofs.lemmas.List.{length-map}
use Rattle.std.proofs.lemmas.Option.{slice_get_read, slice_get-map}
use Rattle.mir_syntax.specs.declared.body.Function.{Function}
use Rattle.mir_syntax.specs.Tree.{trees_of, at_id}
use Rattle.mir_syntax.specs.Crate.{crate_of, block_of, body_of, function_of}
use Rattle.mir_syntax.specs.Shapes.{shapes_of}
use Rattle.mir_rules.specs.Formed.{is_formed, def_formed, outside_formed, function_formed, body_formed}
use Rattle.mir_rules.specs.Limits.{most_in_body, ends_in_call, body_weight, blocks_count, locals_count}
use Rattle.mir_rules.proofs.Lists.{and_true-right, list_all_true-at}
use Rattle.mir_limits.proofs.search.Search.too_many.Goals as goal

pub body_weight-weight-requires-clause-formed : goal.body_weight-weight-requires-clause-formed
unfolding is_formed
body_weight-weight-requires-clause-formed c =
    let s = c.args.self.now in
    let p = s.program.now in
    let C = crate_of p in
    let at = c.args.at in
    let f = c.index-as_slice-at.result in
    let view = function_of (trees_of p.types) in
    let found : slice_get p.functions at ≡ Some f = slice_get_read p.functions (length p.functions) at f refl c.requires.there (c.index-as_slice-at.is ∙ ap (λ l. get_or l at f) c.as_slice.ensures) in
    let is : slice_get C.functions at ≡ Some (view f) = slice_get-map view p.functions at ∙ ap (option_map view) found in
    let defs = list_all (def_formed C) C.defs in
    let outsides = list_all (outside_formed C) C.outsides in
    let functions = list_all (function_formed C) C.functions in
    let formed : IsTrue (body_formed C (view f).body) = list_all_true-at (function_formed C) C.functions at (view f) (and_true-right outsides functions (and_true-right defs (outsides && functions) s.formed)) is in
    subst (λ (g : Function). IsTrue (body_formed C (view g).body)) c.index-as_slice-at.is formed

pub returns-clause-blocks : goal.returns-clause-blocks
unfolding blocks_count
returns-clause-blocks c = λ function same.
    let p = c.args.self.now.program.now in
    let D = shapes_of (crate_of p) in
    let trees = trees_of p.types in
    let at = c.args.at in
    let f = c.index-as_slice-at.result in
    let g = get_or c.as_slice.result.now at f in
    let found : slice_get p.functions at ≡ Some f = slice_get_read p.functions (length p.functions) at f refl c.requires.there (c.index-as_slice-at.is ∙ ap (λ l. get_or l at f) c.as_slice.ensures) in
    let one : f ≡ function = cc (found, same) in
    let b = body_of trees g.body in
    let w = body_weight D b in
    let blocks : length c.as_slice-blocks.result.now ≡ length b.blocks = ap length c.as_slice-blocks.ensures ∙ sym (length-map g.body.blocks (block_of trees)) in
    let calls : c.calls.result ≡ count_by ends_in_call b.blocks = c.calls.ensures.counted trees ∙ ap (λ l. count_by ends_in_call (map (block_of trees) l)) c.as_slice-blocks.ensures in
    c.is_too_many.ensures w c.body_weight-weight.ensures ∙ (ap₂ (λ m n. nat_lt 10000 (m + n + 4 * w)) blocks calls
    ∙ ap (λ (h : Function). nat_lt most_in_body (blocks_count D (body_of trees h.body))) (sym c.index-as_slice-at.is ∙ one))

pub returns-clause-locals : goal.returns-clause-locals
unfolding locals_count
returns-clause-locals c = λ function same.
    let p = c.args.self.now.program.now in
    let D = shapes_of (crate_of p) in
    let trees = trees_of p.types in
    let at = c.args.at in
    let f = c.index-as_slice-at.result in
    let g = get_or c.as_slice.result.now at f in
    let found : slice_get p.functions at ≡ Some f = slice_get_read p.functions (length p.functions) at f refl c.requires.there (c.index-as_slice-at.is ∙ ap (λ l. get_or l at f) c.as_slice.ensures) in
    let one : f ≡ function = cc (found, same) in
    let b = body_of trees g.body in
    let w = body_weight D b in
    let locals : c.len.result + 0 + 4 * w ≡ length b.locals + 4 * w = omega (arith, c.len.ensures, length-map g.body.locals (at_id trees)) in
    c.is_too_many-2.ensures w c.body_weight-weight.ensures ∙ (ap (nat_lt 10000) locals
    ∙ ap (λ (h : Function). nat_lt most_in_body (locals_count D (body_of trees h.body))) (sym c.index-as_slice-at.is ∙ one))
