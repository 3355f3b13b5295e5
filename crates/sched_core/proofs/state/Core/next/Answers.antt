use Rattle.std.proofs.Common.{◌≡◌, ℕ, ◌<◌, List, ◌∷◌, length, sym, ap, subst, ◌∙◌, arith, slice_index_or}
use Rattle.std.specs.Prelude.{Option, Some, None, slice_get, Vec}
use borrow.Author.Tests.{eqb-true, eqb-false}
use Rattle.sched_core.specs.declared.state.Standing.{Standing}
use Rattle.sched_core.specs.Plan.{Plan, next_need}
use Rattle.sched_core.specs.State.{Entry, next, next_of_top}
use Rattle.sched_core.specs.Shown.{state_of, stack_of, row_at}
use Rattle.sched_core.proofs.Listed.{item_at, item_or, next_empty, next_full, stack_full}
use Rattle.sched_core.proofs.state.Core.next.Goals as goal

-- at an empty row: the root
bare : {Z : Type 0} (p : Plan) (stacks : List (Vec Standing Z)) (roots : List (Option ℕ)) (w : ℕ) (row : Vec Standing Z) (x : Option ℕ) → w < length stacks → w < length roots
    → row ≡ slice_index_or stacks w row → x ≡ slice_index_or roots w x → length row.items ≡ 0 → x ≡ next_of_top p (stack_of (row_at (slice_get stacks w))) (slice_index_or roots w None)
bare {Z = Z} p stacks roots w row x lt lt' at at' none =
    let old : slice_get stacks w ≡ Some row = item_at stacks w row lt at in
    let root : slice_index_or roots w None ≡ x = item_or roots w x None (item_at roots w x lt' at') in
    sym (subst (λ (o : Option (Vec Standing Z)). next_of_top p (stack_of (row_at o)) (slice_index_or roots w None) ≡ x) (sym old) (next_empty p row.items (slice_index_or roots w None) none ∙ root))

-- at a row with a top: what was told
full : {Z : Type 0} (p : Plan) (stacks : List (Vec Standing Z)) (told : List (Option (Option ℕ))) (r : Option ℕ) (w : ℕ) (row : Vec Standing Z) (x : Option (Option ℕ)) → w < length stacks → w < length told
    → row ≡ slice_index_or stacks w row → x ≡ slice_index_or told w x → 0 < length row.items
    → ((e : Entry) (es : List Entry) → stack_of (row_at (slice_get stacks w)) ≡ e ∷ es → slice_index_or told w None ≡ Some (next_need (p.needs e.0) e.1))
    → x ≡ Some (next_of_top p (stack_of (row_at (slice_get stacks w))) r)
full {Z = Z} p stacks told r w row x lt lt' at at' some_top t =
    let old : slice_get stacks w ≡ Some row = item_at stacks w row lt at in
    let is_it : slice_index_or told w None ≡ x = item_or told w x None (item_at told w x lt' at') in
    let k = stack_full row.items some_top in
    sym is_it ∙ next_full p (stack_of (row_at (slice_get stacks w))) r (slice_index_or told w None) (k.0, k.1, ap (λ (o : Option (Vec Standing Z)). stack_of (row_at o)) old ∙ k.2) t

pub returns-then-is_empty : goal.returns-then-is_empty
returns-then-is_empty g c =
    bare (g.J.Jobs.plan c.args.jobs.now) c.args.self.now.stacks.items c.args.self.now.root.items c.args.w c.index.result.now c.index-then-is_empty.result.now (omega arith) (omega arith)
    c.index.ensures c.index-then-is_empty.ensures (sym c.index.result.now.ok.0 ∙ eqb-true _ _ (sym c.is_empty.ensures ∙ c.if-is_empty.true))

pub returns-in-Some : goal.returns-in-Some
returns-in-Some g c =
    let ne = eqb-false _ _ (sym c.is_empty.ensures ∙ c.if-is_empty.false) in
    let len = c.index.result.now.ok.0 in
    let k = full (g.J.Jobs.plan c.args.jobs.now) c.args.self.now.stacks.items c.args.self.now.told.items (slice_index_or c.args.self.now.root.items c.args.w None) c.args.w c.index.result.now c.index-else-is_empty.result.now
    (omega arith) (omega arith) c.index.ensures c.index-else-is_empty.ensures (omega arith) c.requires.told in
    let same : Some c.in-Some.need ≡ Some (next (g.J.Jobs.plan c.args.jobs.now) (state_of c.args.self.now) c.args.w) = sym c.in-Some.is ∙ k in
    cc

pub returns-in-None : goal.returns-in-None
returns-in-None g c =
    let ne = eqb-false _ _ (sym c.is_empty.ensures ∙ c.if-is_empty.false) in
    let len = c.index.result.now.ok.0 in
    let k = full (g.J.Jobs.plan c.args.jobs.now) c.args.self.now.stacks.items c.args.self.now.told.items (slice_index_or c.args.self.now.root.items c.args.w None) c.args.w c.index.result.now c.index-else-is_empty.result.now
    (omega arith) (omega arith) c.index.ensures c.index-else-is_empty.ensures (omega arith) c.requires.told in
    let same : None ≡ Some (next (g.J.Jobs.plan c.args.jobs.now) (state_of c.args.self.now) c.args.w) = sym c.in-None.is ∙ k in
    absurd (cc)
