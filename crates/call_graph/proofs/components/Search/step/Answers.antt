use Rattle.std.proofs.Common.{◌∙◌, ap, subst, length, get_or, arith}
use Rattle.std.proofs.lemmas.Result.{on_ok_weaker}
use Rattle.call_graph.specs.Search.{state_of, LookedAt}
use Rattle.call_graph.proofs.Stepped.{at_place, has_start, node_in, left_now, target_in, looked_now}
use Rattle.call_graph.proofs.components.Search.step.Goals as goal

pub index-f-requires : goal.index-f-requires
index-f-requires g c =
    let s = c.args.self.now in
    let place = at_place g.T.Node.number c.args.targets.now (state_of s) c.requires.search c.requires.path c.len.result c.index-place.result.now (omega (arith, c.len.ensures, s.path.ok)) c.index-place.ensures in
    omega (arith, place, s.stack.ok)

pub bounds-targets-f : goal.bounds-targets-f
bounds-targets-f g c =
    let s = c.args.self.now in
    node_in g.T.Node.number c.args.targets.now (state_of s) c.requires.search c.requires.path c.len.result c.index-place.result.now (omega (arith, c.len.ensures, s.path.ok)) c.index-place.ensures c.index-f.result.now c.index-f.ensures

pub index-next-requires : goal.index-next-requires
index-next-requires g c =
    let s = c.args.self.now in
    let low = node_in g.T.Node.number c.args.targets.now (state_of s) c.requires.search c.requires.path c.len.result c.index-place.result.now (omega (arith, c.len.ensures, s.path.ok)) c.index-place.ensures c.index-f.result.now c.index-f.ensures in
    omega (arith, low, c.requires.search.sized.looked, s.looked.ok)

pub look_at-requires-clause-within : goal.look_at-requires-clause-within
look_at-requires-clause-within g c =
    let s = c.args.self.now in
    let low = node_in g.T.Node.number c.args.targets.now (state_of s) c.requires.search c.requires.path c.len.result c.index-place.result.now (omega (arith, c.len.ensures, s.path.ok)) c.index-place.ensures c.index-f.result.now c.index-f.ensures in
    omega (arith, low, c.requires.search.sized.looked)

pub look_at-requires-clause-first : goal.look_at-requires-clause-first
look_at-requires-clause-first g c =
    let s = c.args.self.now in
    let place = at_place g.T.Node.number c.args.targets.now (state_of s) c.requires.search c.requires.path c.len.result c.index-place.result.now (omega (arith, c.len.ensures, s.path.ok)) c.index-place.ensures in
    c.requires.search.path.first (omega (arith, place))

pub look_at-requires-clause-target : goal.look_at-requires-clause-target
look_at-requires-clause-target g c =
    let s = c.args.self.now in
    let x = c.index-targets-next.result in
    let low = target_in g.T.Node.number c.args.targets.now (state_of s) c.requires.search c.requires.path c.len.result c.index-place.result.now (omega (arith, c.len.ensures, s.path.ok)) c.index-place.ensures
    c.index-f.result.now c.index-f.ensures c.index-targets-f.result c.index-targets-f.is c.index-next.result.now c.index-next.ensures
    c.requires.inside (let long = ap length c.as_slice-targets.ensures in let less = c.if-next-targets.true in omega (arith, long, less))
    x (c.index-targets-next.is ∙ ap (λ xs. get_or xs c.index-next.result.now x) c.as_slice-targets.ensures) in
    omega (arith, low, c.number.ensures, c.requires.search.sized.marks)

pub returns-then-next-targets : goal.returns-then-next-targets
returns-then-next-targets g c =
    let s = c.args.self.now in
    let x = c.index-targets-next.result in
    let t = state_of c.look_at.new.self in
    on_ok_weaker c.look_at.result (λ how. looked_now g.T.Node.number c.args.targets.now (state_of s) c.requires.search c.requires.path c.len.result c.index-place.result.now (omega (arith, c.len.ensures, s.path.ok)) c.index-place.ensures
    c.index-f.result.now c.index-f.ensures c.index-targets-f.result c.index-targets-f.is c.index-next.result.now c.index-next.ensures
    c.requires.inside (let long = ap length c.as_slice-targets.ensures in let less = c.if-next-targets.true in omega (arith, long, less))
    x (c.index-targets-next.is ∙ ap (λ xs. get_or xs c.index-next.result.now x) c.as_slice-targets.ensures) t (subst (LookedAt (state_of s) t c.index-f.result.now) c.number.ensures how)) c.look_at.ensures

pub leave-requires-clause-place : goal.leave-requires-clause-place
leave-requires-clause-place g c =
    let s = c.args.self.now in
    let place = at_place g.T.Node.number c.args.targets.now (state_of s) c.requires.search c.requires.path c.len.result c.index-place.result.now (omega (arith, c.len.ensures, s.path.ok)) c.index-place.ensures in
    omega (arith, place)

pub leave-requires-clause-room : goal.leave-requires-clause-room
leave-requires-clause-room g c =
    let s = c.args.self.now in
    let place = at_place g.T.Node.number c.args.targets.now (state_of s) c.requires.search c.requires.path c.len.result c.index-place.result.now (omega (arith, c.len.ensures, s.path.ok)) c.index-place.ensures in
    omega (arith, place, c.requires.search.few, c.requires.few)

pub leave-requires-clause-starts : goal.leave-requires-clause-starts
leave-requires-clause-starts g c =
    let s = c.args.self.now in
    has_start g.T.Node.number c.args.targets.now (state_of s) c.requires.search c.requires.path c.len.result c.index-place.result.now (omega (arith, c.len.ensures, s.path.ok)) c.index-place.ensures

pub returns : goal.returns
returns g c =
    let s = c.args.self.now in
    left_now g.T.Node.number c.args.targets.now (state_of s) c.requires.search c.requires.path c.len.result c.index-place.result.now (omega (arith, c.len.ensures, s.path.ok)) c.index-place.ensures
    c.index-f.result.now c.index-f.ensures c.index-targets-f.result c.index-targets-f.is c.index-next.result.now c.index-next.ensures
    (let long = ap length c.as_slice-targets.ensures in let all = c.if-next-targets.false in omega (arith, long, all)) (state_of c.leave.new.self) c.leave.ensures
