use Rattle.std.proofs.Common.{false, length, ◌∙◌, arith, slice_index_or}
use Rattle.std.specs.Prelude.{None, slice_get}
use Rattle.sched_core.specs.declared.Status.TheVariants.{Unclaimed, Stolen}
use Rattle.sched_core.specs.Shown.{stack_of, row_at}
use Rattle.sched_core.proofs.Listed.{index_shown, set_length}
use Rattle.sched_core.proofs.state.Core.put_steal.Goals as goal

pub returns : goal.returns
returns c = λ p.
    let s = c.args.self.now in
    record {
      state = λ i. record {
        workers = length s.borrow.items;
        status = index_shown s.status.items c.args.s (Stolen) Unclaimed c.requires.query i;
        stack = λ v. stack_of (row_at (slice_get s.stacks.items v));
        borrow = λ v. slice_index_or s.borrow.items v None;
        seen = λ v q. slice_index_or (row_at (slice_get s.seen.items v)) q false;
        gone = λ v q. slice_index_or (row_at (slice_get s.gone.items v)) q false;
        wait = index_shown s.wait.items c.args.w None None (omega arith) i;
        root = λ v. slice_index_or s.root.items v None;
        drawn = s.drawn;
      };
      sized = λ h. record {
        few = h.few;
        status = set_length s.status.items c.args.s (Stolen) ∙ h.status;
        stacks = h.stacks;
        seen = h.seen;
        gone = h.gone;
        wait = set_length s.wait.items c.args.w (None) ∙ h.wait;
        root = h.root;
        told = h.told;
        seen_rows = h.seen_rows;
        gone_rows = h.gone_rows;
      };
      rows = λ h. h;
      told = λ v k h. h;
    }
