use Rattle.std.proofs.Common.{◌≡◌, true, false, List, Some, sym, ap, ap₂, ◌∙◌, subst, map, length, get_or, slice_get, arith}
use Rattle.std.specs.List.{Contains}
use Rattle.std.proofs.lemmas.List.{get_or-map}
use Rattle.std.proofs.lemmas.Result.{IfOk-weaker}
use Rattle.mir_syntax.specs.declared.body.Block.{Block}
use Rattle.mir_syntax.specs.declared.body.Term.{Term}
use Rattle.mir_syntax.specs.declared.body.Term.TheVariants.{Unreachable}
use Rattle.mir_syntax.specs.Crate.{TypedBlock, block_of}
use Rattle.mir_syntax.specs.Parts.{targets}
use Rattle.mir_cfg.specs.Paths.{block_term, terms_of}
use Rattle.const_flow.specs.declared.cell.Cell.{Cell}
use Rattle.const_flow.specs.Facts.{after_all}
use Rattle.const_flow.specs.Cells.{facts_of}
use Rattle.const_flow.specs.Nodes.{is_start, node_block, is_edge, block_at, no_block, sent_out, cells_of, row_of}
use Rattle.const_flow.specs.Sights.{text_in, trees_in}
use Rattle.const_flow.proofs.FlownRows.{sent_row, over_sent, out_sent, edge_within, end_leads}
use Rattle.const_flow.proofs.flow.ConstFlowAnalysis.flow.Goals as goal

pub bounds-blocks-edge : goal.bounds-blocks-edge
bounds-blocks-edge c =
    let a = c.args.self.now in
    let body = a.sight.body.now in
    let e = c.in-Some-Some.edge.now in
    let tested : is_edge (length body.blocks) (terms_of body) e ≡ true = a.all_edges c.args.edge e (sym c.in-Some-Some.ensures) in
    omega (arith, edge_within (length body.blocks) (terms_of body) e tested, ap length c.as_slice-blocks.ensures)

pub returns-then-edge-eq1 : goal.returns-then-edge-eq1
returns-then-edge-eq1 c =
    let a = c.args.self.now in
    let s = a.sight in
    let body = s.body.now in
    let ps = s.paths.now in
    let e = c.in-Some-Some.edge.now in
    let n = length body.blocks in
    let item = c.index-blocks-edge.result in
    let typed = map (block_of (trees_in s)) body.blocks in
    let at : slice_get a.edges c.args.edge ≡ Some e = sym c.in-Some-Some.ensures in
    let tested : is_edge n (terms_of body) e ≡ true = a.all_edges c.args.edge e at in
    let start : is_start e.from ≡ true = grind (arith, c.if-edge-eq1.true) in
    let here : item ≡ get_or body.blocks (node_block e.from) item = c.index-blocks-edge.is ∙ ap (λ (bs : List Block). get_or bs (node_block e.from) item) c.as_slice-blocks.ensures in
    let block : get_or typed (node_block e.from) no_block ≡ block_of (trees_in s) (get_or body.blocks (node_block e.from) item) = get_or-map (block_of (trees_in s)) body.blocks (node_block e.from) item no_block (edge_within n (terms_of body) e tested) in
    let same : block_of (trees_in s) item ≡ block_at typed (node_block e.from) = ap (block_of (trees_in s)) here ∙ sym block in
    ap Some (c.in_ok-end.ensures ∙ ap₂ (λ (k : TypedBlock) (ks : List Cell). cells_of (after_all (text_in s) k.stmts (facts_of ps ks))) same c.as_slice.ensures)
    ∙ over_sent (text_in s) typed a.edges ps c.args.edge e c.in-Some-Some.cells at start
    ∙ ap (sent_row (text_in s) typed a.edges ps c.args.edge) (sym c.in-Some-Some.is-1)

pub sent_out-requires-clause-target : goal.sent_out-requires-clause-target
sent_out-requires-clause-target c =
    let a = c.args.self.now in
    let body = a.sight.body.now in
    let e = c.in-Some-Some.edge.now in
    let n = length body.blocks in
    let item = c.index-blocks-edge.result in
    let tested : is_edge n (terms_of body) e ≡ true = a.all_edges c.args.edge e (sym c.in-Some-Some.ensures) in
    let end : is_start e.from ≡ false = grind (arith, c.if-edge-eq1.false) in
    let here : item ≡ get_or body.blocks (node_block e.from) item = c.index-blocks-edge.is ∙ ap (λ (bs : List Block). get_or bs (node_block e.from) item) c.as_slice-blocks.ensures in
    let term : get_or (map block_term body.blocks) (node_block e.from) Unreachable ≡ block_term (get_or body.blocks (node_block e.from) item) = get_or-map block_term body.blocks (node_block e.from) item Unreachable (edge_within n (terms_of body) e tested) in
    subst (λ (t : Term). Contains (targets t) (node_block e.to)) (term ∙ ap block_term (sym here)) (end_leads n (terms_of body) e tested end)

pub returns : goal.returns
returns c =
    let a = c.args.self.now in
    let s = a.sight in
    let body = s.body.now in
    let ps = s.paths.now in
    let e = c.in-Some-Some.edge.now in
    let n = length body.blocks in
    let item = c.index-blocks-edge.result in
    let typed = map (block_of (trees_in s)) body.blocks in
    let at : slice_get a.edges c.args.edge ≡ Some e = sym c.in-Some-Some.ensures in
    let tested : is_edge n (terms_of body) e ≡ true = a.all_edges c.args.edge e at in
    let end : is_start e.from ≡ false = grind (arith, c.if-edge-eq1.false) in
    let here : item ≡ get_or body.blocks (node_block e.from) item = c.index-blocks-edge.is ∙ ap (λ (bs : List Block). get_or bs (node_block e.from) item) c.as_slice-blocks.ensures in
    let block : get_or typed (node_block e.from) no_block ≡ block_of (trees_in s) (get_or body.blocks (node_block e.from) item) = get_or-map (block_of (trees_in s)) body.blocks (node_block e.from) item no_block (edge_within n (terms_of body) e tested) in
    let term : item.term ≡ (block_at typed (node_block e.from)).term = ap (λ (b : Block). b.term) here ∙ ap (λ (b : TypedBlock). b.term) (sym block) in
    let sent : row_of (sent_out item.term (node_block e.to) (Some (facts_of ps c.as_slice-2.result.now))) ≡ sent_row (text_in s) typed a.edges ps c.args.edge c.args.fact.now =
    ap₂ (λ (t : Term) (ks : List Cell). row_of (sent_out t (node_block e.to) (Some (facts_of ps ks)))) term c.as_slice-2.ensures
    ∙ out_sent (text_in s) typed a.edges ps c.args.edge e c.in-Some-Some.cells at end
    ∙ ap (sent_row (text_in s) typed a.edges ps c.args.edge) (sym c.in-Some-Some.is-1) in
    IfOk-weaker c.sent_out.result (λ made. made ≡ row_of (sent_out item.term (node_block e.to) (Some (facts_of ps c.as_slice-2.result.now)))) (λ made. made ≡ sent_row (text_in s) typed a.edges ps c.args.edge c.args.fact.now) (λ made q. q ∙ sent) c.sent_out.ensures
