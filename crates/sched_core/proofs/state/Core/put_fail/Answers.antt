use Rattle.std.proofs.Common.{◌≡◌, ◌<◌, true, false, ℕ, List, ◌∷◌, length, sym, ap, ◌∙◌, subst, arith, slice_index_or, Bool}
use Rattle.std.specs.Prelude.{Some, None, slice_get}
use Rattle.sched_core.specs.declared.Status.TheVariants.{Unclaimed, Failed}
use Rattle.sched_core.specs.State.{upd, Entry, below_top, on_top, failed_by}
use Rattle.sched_core.specs.Plan.{next_need}
use Rattle.sched_core.specs.Shown.{state_of, stack_of, row_at, Ready}
use Rattle.sched_core.proofs.Listed.{index_shown, set_length, get_shown, item_at}
use Rattle.sched_core.proofs.Fields.{moved, pair_else, pair_put, rows_long, ready_empty}
use Rattle.sched_core.proofs.state.Core.put_fail.Goals as goal

pub returns : goal.returns
returns c = λ p given es top.
    let s = c.args.self.now in
    let inside : c.args.w < length s.gone.items = omega arith in
    let old : slice_get s.gone.items c.args.w ≡ Some c.index_mut-5.result.now = item_at s.gone.items c.args.w c.index_mut-5.result.now inside c.index_mut-5.ensures.value in
    let row : length c.index_mut-5.result.now.items ≡ length (row_at (slice_get s.gone.items c.args.w)) = ap (λ o. length (row_at o)) (sym old) in
    let fits : c.args.q < length c.index_mut-5.result.now.items = omega arith in
    let long : length c.mark.new.row.items ≡ length (row_at (slice_get s.gone.items c.args.w)) = ap length c.mark.ensures.row ∙ (set_length c.index_mut-5.result.now.items c.args.q true ∙ row) in
    let marked : ◌≡◌ {A = ℕ → Bool} (λ q. slice_index_or c.mark.new.row.items q false) (upd (λ q. slice_index_or (row_at (slice_get s.gone.items c.args.w)) q false) c.args.q true) = (λ j q. slice_index_or (c.mark.ensures.row j) q false) ∙ (index_shown c.index_mut-5.result.now.items c.args.q true false fits ∙ (λ j. upd (λ q. slice_index_or (row_at (sym old j)) q false) c.args.q true)) in
    let in_stacks : c.args.w < length s.stacks.items = omega arith in
    let old_row : slice_get s.stacks.items c.args.w ≡ Some c.index_mut-4.result.now = item_at s.stacks.items c.args.w c.index_mut-4.result.now in_stacks c.index_mut-4.ensures.value in
    let below : stack_of c.pop_top.new.row.items ≡ below_top (stack_of (row_at (slice_get s.stacks.items c.args.w))) = c.pop_top.ensures.stack ∙ ap (λ o. below_top (stack_of (row_at o))) (sym old_row) in
    record {
      state = (λ i. record {
        workers = length s.borrow.items;
        status = index_shown s.status.items c.args.q (Failed) Unclaimed c.requires.query.0 i;
        stack = (get_shown (λ o. stack_of (row_at o)) s.stacks.items c.args.w c.pop_top.new.row in_stacks ∙ ap (upd (λ v. stack_of (row_at (slice_get s.stacks.items v))) c.args.w) below) i;
        borrow = λ v. slice_index_or s.borrow.items v None;
        seen = λ v q. slice_index_or (row_at (slice_get s.seen.items v)) q false;
        gone = (get_shown (λ o q. slice_index_or (row_at o) q false) s.gone.items c.args.w c.mark.new.row inside ∙ ap (upd (λ v q. slice_index_or (row_at (slice_get s.gone.items v)) q false) c.args.w) marked) i;
        wait = index_shown s.wait.items c.args.w None None (omega arith) i;
        root = λ v. slice_index_or s.root.items v None;
        drawn = s.drawn;
      }) ∙ sym (ap (λ (xs : List Entry). on_top (state_of s) xs (λ d q. failed_by d c.args.w q)) top);
      sized = λ h. record {
        few = h.few;
        status = set_length s.status.items c.args.q (Failed) ∙ h.status;
        stacks = set_length s.stacks.items c.args.w (c.pop_top.new.row) ∙ h.stacks;
        seen = h.seen;
        gone = set_length s.gone.items c.args.w (c.mark.new.row) ∙ h.gone;
        wait = set_length s.wait.items c.args.w (None) ∙ h.wait;
        root = h.root;
        told = set_length s.told.items c.args.w (None) ∙ h.told;
        seen_rows = h.seen_rows;
        gone_rows = rows_long s.gone.items c.args.w c.mark.new.row _ _ (omega arith) (long ∙ h.gone_rows c.args.w (let e = h.gone in omega arith)) h.gone_rows;
      };
      rows = λ h. pair_put (Ready p) None s.told.items s.stacks.items c.args.w None c.pop_top.new.row (omega arith) (omega arith) h (λ e. c.pop_top.ensures.room (ready_empty p _ c.index_mut-4.result.now (subst (λ o. Ready p (slice_index_or s.told.items c.args.w None) o) old_row (h c.args.w))));
      told = λ v k. pair_else (λ told row. (e : Entry) (es : List Entry) → stack_of (row_at row) ≡ e ∷ es → told ≡ Some (next_need (p.needs e.0) e.1)) None s.told.items s.stacks.items c.args.w None c.pop_top.new.row v (moved v c.args.w k);
    }
