use Rattle.std.proofs.Common.{◌≡◌, sym, ap, ◌∙◌, subst, ◌<◌, List, [], ◌∷◌, Bool, length, map, take, set, true, get_or, arith}
use Rattle.std.specs.List.{All}
use Rattle.std.proofs.lemmas.List.{take_all}
use Rattle.bit_rows.specs.Rows.{row_at, marked}
use Rattle.mir_syntax.specs.Drops.{fn_number}
use Rattle.mir_syntax.specs.declared.types.FnId.{FnId}
use Rattle.call_graph.proofs.Bits.{as_two, marked_long, known_more, rows_more, known_bit}
use Rattle.call_graph.proofs.reach.Reach.give.Goals as goal

pub loop-g-init : goal.loop-g-init
loop-g-init c = as_two c.take.new.self (row_at c.args.self.now 0) (set (row_at c.args.self.now 1) c.args.f.0 true) c.take.ensures

pub know-requires : goal.know-requires
know-requires c =
    let long = marked_long c.loop-g.self c.args.self.now c.take.new.self (map fn_number (take c.loop-g.g-index c.args.list.now)) (set (row_at c.args.self.now 1) c.args.f.0 true) (row_at c.take.new.self 1) c.take.ensures c.loop-g.invariant in
    let all : All (λ (g : FnId). g.0 < length (row_at c.args.self.now 0)) c.as_slice-g-items.result.now = subst (λ (xs : List FnId). All (λ (g : FnId). g.0 < length (row_at c.args.self.now 0)) xs) (sym c.as_slice-g-items.ensures) c.requires.callees in
    let low = all c.loop-g.g-index (record { 0 = 0 }) c.loop-g-test.true in
    omega (arith, low, long)

pub loop-g-preserved : goal.loop-g-preserved
loop-g-preserved c =
    let items = c.as_slice-g-items.result.now in
    let e : items ≡ c.args.list.now = c.as_slice-g-items.ensures in
    let long : length items ≡ length c.args.list.now = ap length e in
    known_more fn_number c.args.list.now c.loop-g.g-index (record { 0 = 0 }) (row_at c.take.new.self 0) (row_at c.take.new.self 1) c.loop-g.self c.know.new.self (let t = c.loop-g-test.true in omega (arith, t, long)) c.loop-g.invariant
    (c.know.ensures ∙ ap (λ (xs : List FnId). set c.loop-g.self 0 (set (row_at c.loop-g.self 0) (get_or xs c.loop-g.g-index (record { 0 = 0 })).0 true)) e)

pub returns-clause-rows : goal.returns-clause-rows
returns-clause-rows c =
    let items = c.as_slice-g-items.result.now in
    let long : length items ≡ length c.args.list.now = ap length c.as_slice-g-items.ensures in
    let all : take c.loop-g.g-index c.args.list.now ≡ c.args.list.now = take_all c.loop-g.g-index c.args.list.now (let t = c.loop-g-test.false in omega (arith, t, long)) in
    c.loop-g.invariant ∙ ap (λ xs. marked (row_at c.take.new.self 0) (map fn_number xs) ∷ row_at c.take.new.self 1 ∷ []) all ∙ ap (λ (rs : List (List Bool)). marked (row_at rs 0) (map fn_number c.args.list.now) ∷ row_at rs 1 ∷ []) c.take.ensures

pub returns-clause-grows : goal.returns-clause-grows
returns-clause-grows c = λ G g given e same.
    let lt = (known_bit G g given c.args.self.now c.args.f.0 e c.requires.within).1 in
    rows_more G g c.args.f.0 given lt c.args.self.now c.loop-g.self (map fn_number c.args.list.now) e same (returns-clause-rows c)
