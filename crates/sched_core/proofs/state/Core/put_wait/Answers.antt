use Rattle.std.proofs.Common.{false, length, sym, ◌∙◌, arith, slice_index_or}
use Rattle.std.specs.Prelude.{Some, None, slice_get}
use Rattle.sched_core.specs.declared.Status.TheVariants.{Unclaimed}
use Rattle.sched_core.specs.Shown.{state_of, stack_of, row_at}
use Rattle.sched_core.proofs.Listed.{index_shown, set_length}
use Rattle.sched_core.proofs.Fields.{saw_waits}
use Rattle.sched_core.proofs.state.Core.put_wait.Goals as goal

pub returns : goal.returns
returns c = λ p unsettled clean.
    let s = c.args.self.now in
    record {
      state = (λ i. record {
        workers = length s.borrow.items;
        status = λ q. slice_index_or s.status.items q Unclaimed;
        stack = λ v. stack_of (row_at (slice_get s.stacks.items v));
        borrow = λ v. slice_index_or s.borrow.items v None;
        seen = λ v q. slice_index_or (row_at (slice_get s.seen.items v)) q false;
        gone = λ v q. slice_index_or (row_at (slice_get s.gone.items v)) q false;
        wait = index_shown s.wait.items c.args.w (Some c.args.q) None (omega arith) i;
        root = λ v. slice_index_or s.root.items v None;
        drawn = s.drawn;
      }) ∙ sym (saw_waits (state_of s) c.args.w c.args.q ((state_of s).status c.args.q) unsettled clean);
      sized = λ h. record {
        few = h.few;
        status = h.status;
        stacks = h.stacks;
        seen = h.seen;
        gone = h.gone;
        wait = set_length s.wait.items c.args.w (Some c.args.q) ∙ h.wait;
        root = h.root;
        told = h.told;
        seen_rows = h.seen_rows;
        gone_rows = h.gone_rows;
      };
      rows = λ h. h;
      told = λ v k h. h;
    }
