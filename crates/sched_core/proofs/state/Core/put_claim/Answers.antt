use Rattle.std.proofs.Common.{◌≡◌, ◌<◌, false, List, [], ◌∷◌, length, sym, ap, ◌∙◌, arith, slice_index_or}
use Rattle.std.specs.Prelude.{Some, None, slice_get}
use Rattle.sched_core.specs.declared.Status.TheVariants.{Unclaimed, Claimed}
use Rattle.sched_core.specs.State.{upd, Entry}
use Rattle.sched_core.specs.Plan.{next_need}
use Rattle.sched_core.specs.Shown.{stack_of, row_at, Ready}
use Rattle.sched_core.proofs.Listed.{index_shown, set_length, get_shown, item_at, stack_push}
use Rattle.sched_core.proofs.Fields.{moved, pair_else, pair_put}
use Rattle.sched_core.proofs.state.Core.put_claim.Goals as goal

pub returns : goal.returns
returns c = λ p.
    let s = c.args.self.now in
    let room : c.args.w < length s.stacks.items = omega arith in
    let old : slice_get s.stacks.items c.args.w ≡ Some c.index_mut-4.result.now = item_at s.stacks.items c.args.w c.index_mut-4.result.now room c.index_mut-4.ensures.value in
    let top : stack_of c.push_reserved.new.self.items ≡ (c.args.q, []) ∷ stack_of (row_at (slice_get s.stacks.items c.args.w)) = ap stack_of c.push_reserved.ensures.items ∙ (stack_push c.index_mut-4.result.now.items (record { query = c.args.q; given = c.new.result }) ∙ (λ i. (c.args.q, c.new.ensures.items i) ∷ stack_of (row_at (sym old i)))) in
    record {
      state = λ i. record {
        workers = length s.borrow.items;
        status = index_shown s.status.items c.args.q (Claimed c.args.w) Unclaimed c.requires.query i;
        stack = (get_shown (λ o. stack_of (row_at o)) s.stacks.items c.args.w c.push_reserved.new.self room ∙ ap (upd (λ v. stack_of (row_at (slice_get s.stacks.items v))) c.args.w) top) i;
        borrow = λ v. slice_index_or s.borrow.items v None;
        seen = λ v q. slice_index_or (row_at (slice_get s.seen.items v)) q false;
        gone = λ v q. slice_index_or (row_at (slice_get s.gone.items v)) q false;
        wait = index_shown s.wait.items c.args.w None None (omega arith) i;
        root = λ v. slice_index_or s.root.items v None;
        drawn = s.drawn;
      };
      sized = λ h. record {
        few = h.few;
        status = set_length s.status.items c.args.q (Claimed c.args.w) ∙ h.status;
        stacks = set_length s.stacks.items c.args.w (c.push_reserved.new.self) ∙ h.stacks;
        seen = h.seen;
        gone = h.gone;
        wait = set_length s.wait.items c.args.w (None) ∙ h.wait;
        root = h.root;
        told = set_length s.told.items c.args.w (None) ∙ h.told;
        seen_rows = h.seen_rows;
        gone_rows = h.gone_rows;
      };
      rows = λ h. pair_put (Ready p) None s.told.items s.stacks.items c.args.w None c.push_reserved.new.self (omega arith) (omega arith) h (λ e. let k = c.push_reserved.ensures.len in absurd (omega arith));
      told = λ v k. pair_else (λ told row. (e : Entry) (es : List Entry) → stack_of (row_at row) ≡ e ∷ es → told ≡ Some (next_need (p.needs e.0) e.1)) None s.told.items s.stacks.items c.args.w None c.push_reserved.new.self v (moved v c.args.w k);
    }
