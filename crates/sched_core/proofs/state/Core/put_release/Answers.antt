use Rattle.std.proofs.Common.{◌≡◌, ◌<◌, false, List, ◌∷◌, length, sym, ap, ◌∙◌, subst, arith, slice_index_or}
use Rattle.std.specs.Prelude.{Some, None, slice_get}
use Rattle.sched_core.specs.declared.Status.TheVariants.{Unclaimed, Done}
use Rattle.sched_core.specs.State.{upd, Entry, give, borrowed_less}
use Rattle.sched_core.specs.Plan.{next_need}
use Rattle.sched_core.specs.Shown.{stack_of, row_at, Ready}
use Rattle.sched_core.proofs.Listed.{index_shown, set_length, get_shown, item_at}
use Rattle.sched_core.proofs.Fields.{moved, pair_else, pair_put, ready_empty}
use Rattle.sched_core.proofs.state.Core.put_release.Goals as goal

pub returns : goal.returns
returns c = λ p b status count.
    let s = c.args.self.now in
    let done : Done c.args.count ≡ borrowed_less (slice_index_or s.status.items c.args.s Unclaimed) = ap Done count ∙ sym (ap borrowed_less status) in
    let in_stacks : c.args.w < length s.stacks.items = omega arith in
    let old_row : slice_get s.stacks.items c.args.w ≡ Some c.index_mut-5.result.now = item_at s.stacks.items c.args.w c.index_mut-5.result.now in_stacks c.index_mut-5.ensures.value in
    let top : stack_of c.give_top.new.row.items ≡ give c.args.s (stack_of (row_at (slice_get s.stacks.items c.args.w))) = c.give_top.ensures.stack ∙ ap (λ o. give c.args.s (stack_of (row_at o))) (sym old_row) in
    record {
      state = λ i. record {
        workers = set_length s.borrow.items c.args.w None i;
        status = (index_shown s.status.items c.args.s (Done c.args.count) Unclaimed c.requires.query ∙ ap (upd (λ q. slice_index_or s.status.items q Unclaimed) c.args.s) done) i;
        stack = (get_shown (λ o. stack_of (row_at o)) s.stacks.items c.args.w c.give_top.new.row in_stacks ∙ ap (upd (λ v. stack_of (row_at (slice_get s.stacks.items v))) c.args.w) top) i;
        borrow = index_shown s.borrow.items c.args.w None None (omega arith) i;
        seen = λ v q. slice_index_or (row_at (slice_get s.seen.items v)) q false;
        gone = λ v q. slice_index_or (row_at (slice_get s.gone.items v)) q false;
        wait = index_shown s.wait.items c.args.w None None (omega arith) i;
        root = λ v. slice_index_or s.root.items v None;
        drawn = s.drawn;
      };
      sized = λ h. record {
        few = let e = set_length s.borrow.items c.args.w (None) in let k = h.few in omega arith;
        status = set_length s.status.items c.args.s (Done c.args.count) ∙ h.status;
        stacks = set_length s.stacks.items c.args.w (c.give_top.new.row) ∙ h.stacks ∙ sym (set_length s.borrow.items c.args.w (None));
        seen = h.seen ∙ sym (set_length s.borrow.items c.args.w (None));
        gone = h.gone ∙ sym (set_length s.borrow.items c.args.w (None));
        wait = set_length s.wait.items c.args.w (None) ∙ h.wait ∙ sym (set_length s.borrow.items c.args.w (None));
        root = h.root ∙ sym (set_length s.borrow.items c.args.w (None));
        told = set_length s.told.items c.args.w (None) ∙ h.told ∙ sym (set_length s.borrow.items c.args.w (None));
        seen_rows = λ v lt. h.seen_rows v (let e = set_length s.borrow.items c.args.w (None) in omega arith);
        gone_rows = λ v lt. h.gone_rows v (let e = set_length s.borrow.items c.args.w (None) in omega arith);
      };
      rows = λ h. pair_put (Ready p) None s.told.items s.stacks.items c.args.w None c.give_top.new.row (omega arith) (omega arith) h (λ e. let k = c.give_top.ensures.room in let r = ready_empty p _ c.index_mut-5.result.now (subst (λ o. Ready p (slice_index_or s.told.items c.args.w None) o) old_row (h c.args.w)) (omega (arith, k.0)) in omega (arith, k.0, k.1));
      told = λ v k. pair_else (λ told row. (e : Entry) (es : List Entry) → stack_of (row_at row) ≡ e ∷ es → told ≡ Some (next_need (p.needs e.0) e.1)) None s.told.items s.stacks.items c.args.w None c.give_top.new.row v (moved v c.args.w k);
    }
