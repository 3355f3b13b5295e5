use Rattle.std.proofs.Common.{◌≡◌, false, sym, ap, ◌∙◌, arith, slice_index_or}
use Rattle.std.specs.Prelude.{Some, None, slice_get}
use Rattle.sched_core.specs.declared.Status.TheVariants.{Unclaimed, Done}
use Rattle.sched_core.specs.State.{upd, borrowed_more}
use Rattle.sched_core.specs.Shown.{stack_of, row_at}
use Rattle.sched_core.proofs.Listed.{index_shown, set_length}
use Rattle.sched_core.proofs.state.Core.put_borrow.Goals as goal

pub returns : goal.returns
returns c = λ p b status count.
    let s = c.args.self.now in
    let done : Done c.args.count ≡ borrowed_more (slice_index_or s.status.items c.args.s Unclaimed) = ap Done count ∙ sym (ap borrowed_more status) in
    record {
      state = λ i. record {
        workers = set_length s.borrow.items c.args.w (Some c.args.s) i;
        status = (index_shown s.status.items c.args.s (Done c.args.count) Unclaimed c.requires.query ∙ ap (upd (λ q. slice_index_or s.status.items q Unclaimed) c.args.s) done) i;
        stack = λ v. stack_of (row_at (slice_get s.stacks.items v));
        borrow = index_shown s.borrow.items c.args.w (Some c.args.s) None (omega arith) i;
        seen = λ v q. slice_index_or (row_at (slice_get s.seen.items v)) q false;
        gone = λ v q. slice_index_or (row_at (slice_get s.gone.items v)) q false;
        wait = index_shown s.wait.items c.args.w None None (omega arith) i;
        root = λ v. slice_index_or s.root.items v None;
        drawn = s.drawn;
      };
      sized = λ h. record {
        few = let e = set_length s.borrow.items c.args.w (Some c.args.s) in let k = h.few in omega arith;
        status = set_length s.status.items c.args.s (Done c.args.count) ∙ h.status;
        stacks = h.stacks ∙ sym (set_length s.borrow.items c.args.w (Some c.args.s));
        seen = h.seen ∙ sym (set_length s.borrow.items c.args.w (Some c.args.s));
        gone = h.gone ∙ sym (set_length s.borrow.items c.args.w (Some c.args.s));
        wait = set_length s.wait.items c.args.w (None) ∙ h.wait ∙ sym (set_length s.borrow.items c.args.w (Some c.args.s));
        root = h.root ∙ sym (set_length s.borrow.items c.args.w (Some c.args.s));
        told = h.told ∙ sym (set_length s.borrow.items c.args.w (Some c.args.s));
        seen_rows = λ v lt. h.seen_rows v (let e = set_length s.borrow.items c.args.w (Some c.args.s) in omega arith);
        gone_rows = λ v lt. h.gone_rows v (let e = set_length s.borrow.items c.args.w (Some c.args.s) in omega arith);
      };
      rows = λ h. h;
      told = λ v k h. h;
    }
