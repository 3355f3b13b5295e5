use Rattle.std.proofs.Common.{◌≡◌, sym, ap, ◌∙◌, true, false, length, arith}
use Rattle.bit_rows.specs.Rows.{row_at}
use Rattle.call_graph.specs.Graph.{least}
use Rattle.call_graph.specs.Reaching.{is_waiting}
use Rattle.call_graph.proofs.Bits.{least_on, least_here, least_end, walk_all, next_of_rows}
use Rattle.call_graph.proofs.reach.Reach.next.Goals.{else-get-via-then-get+else-not-get, else-get-via-else-get}
use Rattle.call_graph.proofs.reach.Reach.next.Goals as goal

pub loop-h-preserved : goal.loop-h-preserved
loop-h-preserved c =
    let rows = c.self.inside.rows in
    let h = c.loop-h.h in
    let fails : is_waiting rows h ≡ false = elim c.else-get.branch [
      | else-get-via-then-get+else-not-get w ↦ (let a = c.get.ensures in let b = w.get-then-get.ensures in let d = w.if-not-get.false in let e = w.if-get.true in grind arith)
      | else-get-via-else-get w ↦ (let a = c.get.ensures in let e = w.if-get.false in grind arith)
    ] in
    sym (least_on (is_waiting rows) h c.self.inside.functions c.loop-h-test.true fails) ∙ c.loop-h.invariant

pub returns-then-not-get-clause-waiting : goal.returns-then-not-get-clause-waiting
returns-then-not-get-clause-waiting c =
    let rows = c.self.inside.rows in
    let h = c.loop-h.h in
    let passes : is_waiting rows h ≡ true = (let a = c.get.ensures in let b = c.get-then-get.ensures in let d = c.if-not-get.true in let e = c.if-get.true in grind arith) in
    sym (least_here (is_waiting rows) h c.self.inside.functions c.loop-h-test.true passes) ∙ c.loop-h.invariant ∙ walk_all rows c.args.self.now c.self.inside.functions c.self.inside.low c.self.invariant c.self.view_is

pub returns-then-not-get-clause-next : goal.returns-then-not-get-clause-next
returns-then-not-get-clause-next c = λ G g given e. returns-then-not-get-clause-waiting c ∙ ap (λ rs. least (is_waiting rs) 0 (length (row_at rs 0))) e ∙ next_of_rows G g given

pub returns-clause-waiting : goal.returns-clause-waiting
returns-clause-waiting c =
    let rows = c.self.inside.rows in
    sym (least_end (is_waiting rows) c.loop-h.h c.self.inside.functions c.loop-h-test.false) ∙ c.loop-h.invariant ∙ walk_all rows c.args.self.now c.self.inside.functions c.self.inside.low c.self.invariant c.self.view_is

pub returns-clause-next : goal.returns-clause-next
returns-clause-next c = λ G g given e. returns-clause-waiting c ∙ ap (λ rs. least (is_waiting rs) 0 (length (row_at rs 0))) e ∙ next_of_rows G g given
