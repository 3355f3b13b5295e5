use Rattle.std.proofs.Common.{◌≡◌, ◌+◌, ◌<◌, refl, length, get_or, take, set, sym, ap, ◌∙◌, subst, Some, slice_get, [], ◌∷◌, ◌++◌, rules, arith}
use Rattle.std.proofs.lemmas.List.{take_more, length-set}
use Rattle.std.proofs.lemmas.List.Elements.{Contains-get_or}
use Rattle.std.proofs.lemmas.Option.{slice_get_read, slice_get_within, get_or_from_slice_get}
use Rattle.flow_engine.specs.declared.edges.Edge.{Edge}
use Rattle.flow_engine.specs.Solving.{IsGoing}
use Rattle.flow_engine.specs.Flow.{problem}
use Rattle.flow_engine.proofs.Going.{Sent, sent_if, starts_count}
use Rattle.flow_engine.proofs.solver.send_all.Goals as goal

pub bounds-edges-edge : goal.bounds-edges-edge
bounds-edges-edge g c =
    let p = c.requires.leaves (get_or c.args.leaving.now c.loop-edge.edge-index 0) (Contains-get_or c.args.leaving.now c.loop-edge.edge-index 0 (omega arith)) in
    slice_get_within c.args.edges.now _ p.0 p.1

pub offset_bounds-edges-edge : goal.offset_bounds-edges-edge
offset_bounds-edges-edge g c =
    let p = c.requires.leaves (get_or c.args.leaving.now c.loop-edge.edge-index 0) (Contains-get_or c.args.leaving.now c.loop-edge.edge-index 0 (omega arith)) in
    let l : get_or c.args.leaving.now c.loop-edge.edge-index 0 < length c.args.edges.now = slice_get_within c.args.edges.now _ p.0 p.1 in
    first_of (search rules, grind arith)

pub flow-requires : goal.flow-requires
flow-requires g c =
    c.loop-edge.invariant.1.under.facts c.args.block c.index.result.now (slice_get_read c.loop-edge.facts.items (length c.loop-edge.facts.items) c.args.block c.index.result.now refl (let k = c.loop-edge.invariant.0 in omega (arith, k, c.requires.within)) c.index.ensures)

pub join-requires : goal.join-requires
join-requires g c =
    let law = g.met.A.Analysis.lawful c.args.analysis.now in
    let d : Edge = record { from = 0; to = 0 } in
    let i = get_or c.args.leaving.now c.loop-edge.edge-index 0 in
    let p = c.requires.leaves i (Contains-get_or c.args.leaving.now c.loop-edge.edge-index 0 (omega arith)) in
    let e = get_or c.args.edges.now i d in
    let inside = c.requires.inside i d (slice_get_within c.args.edges.now i p.0 p.1) in
    let xs = c.loop-edge.facts.items in
    let k : length xs ≡ length c.args.facts.now.items = c.loop-edge.invariant.0 in
    let at_from = slice_get_read xs (length xs) c.args.block c.index.result.now refl (omega (arith, k, c.requires.within)) c.index.ensures in
    let at_to = slice_get_read xs (length xs) e.to c.index_mut.result.now refl (omega (arith, k, inside.1)) c.index_mut.ensures.value in (
      c.loop-edge.invariant.1.under.facts e.to c.index_mut.result.now at_to,
      subst (g.A.Analysis.is_fact c.args.analysis.now) (sym c.in_ok-flown.ensures) (law.flow_ok i c.index.result.now (c.loop-edge.invariant.1.under.facts c.args.block c.index.result.now at_from)),
    )

pub add_if-requires : goal.add_if-requires
add_if-requires g c =
    let a = c.args.analysis.now in
    let m = g.A.Analysis in
    let law = g.met.A.Analysis.lawful c.args.analysis.now in
    let n = length c.args.facts.now.items in
    let es = c.args.edges.now in
    let d : Edge = record { from = 0; to = 0 } in
    let i = get_or c.args.leaving.now c.loop-edge.edge-index 0 in
    let p = c.requires.leaves i (Contains-get_or c.args.leaving.now c.loop-edge.edge-index 0 (omega arith)) in
    let e = get_or es i d in
    let inside = c.requires.inside i d (slice_get_within es i p.0 p.1) in
    omega (arith, inside.1, c.loop-edge.invariant.1.marked, starts_count (m.is_fact a) (m.below a) (m.rank a) (m.most a) (m.begun a) (m.joined a) (m.sent a) law n es)

pub loop-edge-preserved : goal.loop-edge-preserved
loop-edge-preserved g c =
    let a = c.args.analysis.now in
    let m = g.A.Analysis in
    let law = g.met.A.Analysis.lawful c.args.analysis.now in
    let n = length c.args.facts.now.items in
    let es = c.args.edges.now in
    let d : Edge = record { from = 0; to = 0 } in
    let i = get_or c.args.leaving.now c.loop-edge.edge-index 0 in
    let p = c.requires.leaves i (Contains-get_or c.args.leaving.now c.loop-edge.edge-index 0 (omega arith)) in
    let e = get_or es i d in
    let inside = c.requires.inside i d (slice_get_within es i p.0 p.1) in
    let xs = c.loop-edge.facts.items in
    let k : length xs ≡ n = c.loop-edge.invariant.0 in
    let x = c.index.result.now in
    let y = c.index_mut.result.now in
    let y2 = c.join.new.into in
    let at_from = slice_get_read xs (length xs) c.args.block x refl (omega (arith, k, c.requires.within)) c.index.ensures in
    let at_to = slice_get_read xs (length xs) e.to y refl (omega (arith, k, inside.1)) c.index_mut.ensures.value in
    let same : p.0 ≡ e = sym (get_or_from_slice_get es i p.0 d p.1) in
    let at : slice_get es i ≡ Some e = p.1 ∙ ap (λ (e : Edge). Some e) same in
    let from_is : e.from ≡ c.args.block = sym (ap (λ (e : Edge). e.from) same) ∙ p.2 in
    let is : y2 ≡ m.joined a y (m.sent a i x) = c.in_ok-changed.ensures.joined ∙ ap (m.joined a y) c.in_ok-flown.ensures in
    let sent = take c.loop-edge.edge-index c.args.leaving.now in
    let more : sent ++ i ∷ [] ≡ take (c.loop-edge.edge-index + 1) c.args.leaving.now = sym (take_more c.args.leaving.now c.loop-edge.edge-index 0 (omega arith)) in
    let r = sent_if (m.is_fact a) (m.below a) (m.rank a) (m.most a) (m.begun a) (m.joined a) (m.sent a) law n es xs c.loop-edge.work.waits.items c.args.block sent c.loop-edge.invariant.1 i e at from_is x y y2 at_from at_to is c.in_ok-changed.changed c.in_ok-changed.ensures.changed in
    let made : Sent (m.is_fact a) (m.below a) (m.rank a) (m.most a) (m.begun a) (m.joined a) (m.sent a) law n es xs (set xs e.to y2) c.loop-edge.work.waits.items c.add_if.new.self.waits.items c.args.block (sent ++ i ∷ []) = rw c.add_if.ensures r in (
      length-set xs e.to y2 ∙ k,
      subst (λ sent. IsGoing (m.is_fact a) (m.below a) (problem (m.joined a) (m.begun a) (m.sent a) n es) (set xs e.to y2) c.add_if.new.self.waits.items c.args.block sent) more made.going,
      omega (arith, made.climbs, c.loop-edge.invariant.2),
    )
