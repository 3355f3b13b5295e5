use Rattle.std.proofs.Common.{◌≡◌, ◌<◌, true, false, ℕ, length, sym, ap, ◌∙◌, arith, slice_index_or, Bool}
use Rattle.std.specs.Prelude.{Some, None, slice_get}
use Rattle.sched_core.specs.declared.Status.TheVariants.{Unclaimed}
use Rattle.sched_core.specs.State.{upd}
use Rattle.sched_core.specs.Shown.{state_of, stack_of, row_at}
use Rattle.sched_core.proofs.Listed.{index_shown, set_length, get_shown, item_at}
use Rattle.sched_core.proofs.Fields.{rows_long, saw_settled}
use Rattle.sched_core.proofs.state.Core.put_seen.Goals as goal

pub returns : goal.returns
returns c = λ p is.
    let s = c.args.self.now in
    let inside : c.args.w < length s.seen.items = omega arith in
    let old : slice_get s.seen.items c.args.w ≡ Some c.index_mut-2.result.now = item_at s.seen.items c.args.w c.index_mut-2.result.now inside c.index_mut-2.ensures.value in
    let row : length c.index_mut-2.result.now.items ≡ length (row_at (slice_get s.seen.items c.args.w)) = ap (λ o. length (row_at o)) (sym old) in
    let fits : c.args.q < length c.index_mut-2.result.now.items = omega arith in
    let long : length c.mark.new.row.items ≡ length (row_at (slice_get s.seen.items c.args.w)) = ap length c.mark.ensures.row ∙ (set_length c.index_mut-2.result.now.items c.args.q true ∙ row) in
    let marked : ◌≡◌ {A = ℕ → Bool} (λ q. slice_index_or c.mark.new.row.items q false) (upd (λ q. slice_index_or (row_at (slice_get s.seen.items c.args.w)) q false) c.args.q true) = (λ j q. slice_index_or (c.mark.ensures.row j) q false) ∙ (index_shown c.index_mut-2.result.now.items c.args.q true false fits ∙ (λ j. upd (λ q. slice_index_or (row_at (sym old j)) q false) c.args.q true)) in
    record {
      state = (λ i. record {
        workers = length s.borrow.items;
        status = λ q. slice_index_or s.status.items q Unclaimed;
        stack = λ v. stack_of (row_at (slice_get s.stacks.items v));
        borrow = λ v. slice_index_or s.borrow.items v None;
        seen = (get_shown (λ o q. slice_index_or (row_at o) q false) s.seen.items c.args.w c.mark.new.row inside ∙ ap (upd (λ v q. slice_index_or (row_at (slice_get s.seen.items v)) q false) c.args.w) marked) i;
        gone = λ v q. slice_index_or (row_at (slice_get s.gone.items v)) q false;
        wait = index_shown s.wait.items c.args.w None None (omega arith) i;
        root = λ v. slice_index_or s.root.items v None;
        drawn = s.drawn;
      }) ∙ sym (saw_settled (state_of s) c.args.w c.args.q ((state_of s).status c.args.q) is);
      sized = λ h. record {
        few = h.few;
        status = h.status;
        stacks = h.stacks;
        seen = set_length s.seen.items c.args.w (c.mark.new.row) ∙ h.seen;
        gone = h.gone;
        wait = set_length s.wait.items c.args.w (None) ∙ h.wait;
        root = h.root;
        told = h.told;
        seen_rows = rows_long s.seen.items c.args.w c.mark.new.row _ _ (omega arith) (long ∙ h.seen_rows c.args.w (let e = h.seen in omega arith)) h.seen_rows;
        gone_rows = h.gone_rows;
      };
      rows = λ h. h;
      told = λ v k h. h;
    }
