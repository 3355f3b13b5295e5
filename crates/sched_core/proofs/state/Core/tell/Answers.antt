use Rattle.std.proofs.Common.{◌≡◌, ℕ, ◌<◌, List, ◌∷◌, length, sym, subst, ap, ◌∙◌, arith, slice_index_or, slice_set, Vec, Global}
use Rattle.std.specs.Prelude.{Option, Some, None, slice_get}
use Rattle.sched_core.specs.declared.state.Standing.{Standing}
use Rattle.sched_core.specs.declared.state.Core.{Core}
use Rattle.sched_core.specs.Plan.{Plan}
use Rattle.sched_core.specs.State.{Entry, next, next_of_top}
use Rattle.sched_core.specs.Good.{Good}
use Rattle.sched_core.specs.Shown.{state_of, stack_of, row_at, Ready}
use Rattle.sched_core.proofs.Listed.{item_at, set_length, get_kept, index_same, index_else}
use Rattle.sched_core.proofs.Fields.{pair_put, row_put, says_of}
use Rattle.sched_core.proofs.state.Core.tell.Goals as goal

module _ (s : Core) (w : ℕ) (row : Vec Standing Global) (lt : w < length s.stacks.items) (old : Vec Standing Global) (at : old ≡ slice_index_or s.stacks.items w old) (same : stack_of row.items ≡ stack_of old.items) where
  here : slice_get s.stacks.items w ≡ Some old
  here = item_at s.stacks.items w old lt at

  stacks_same : ◌≡◌ {A = ℕ → List Entry} (λ v. stack_of (row_at (slice_get (slice_set s.stacks.items w row) v))) (λ v. stack_of (row_at (slice_get s.stacks.items v)))
  stacks_same = get_kept (λ o. stack_of (row_at o)) s.stacks.items w row lt (same ∙ ap (λ o. stack_of (row_at o)) (sym here))

  same_state : record (state_of s) { stack = λ v. stack_of (row_at (slice_get (slice_set s.stacks.items w row) v)) } ≡ state_of s
  same_state = λ i. record (state_of s) { stack = stacks_same i }

  back : (v : ℕ) (e : Entry) (es : List Entry) → stack_of (row_at (slice_get (slice_set s.stacks.items w row) v)) ≡ e ∷ es → stack_of (row_at (slice_get s.stacks.items v)) ≡ e ∷ es
  back v e es top = sym (λ i. stacks_same i v) ∙ top

  -- the same rows, with more room
  ready_still : (p : Plan) → ((told : Option (Option ℕ)) → Ready p told (Some old) → Ready p told (Some row)) → ((v : ℕ) → Ready p (slice_index_or s.told.items v None) (slice_get s.stacks.items v))
      → (v : ℕ) → Ready p (slice_index_or s.told.items v None) (slice_get (slice_set s.stacks.items w row) v)
  ready_still p kept h v = row_put (λ v o. Ready p (slice_index_or s.told.items v None) o) s.stacks.items w row lt h
      (kept (slice_index_or s.told.items w None) (subst (λ o. Ready p (slice_index_or s.told.items w None) o) here (h w))) v

  need_is : (p : Plan) (need : Option ℕ) → need ≡ next p (state_of s) w → need ≡ next_of_top p (stack_of row.items) (slice_index_or s.root.items w None)
  need_is p need h = h ∙ (ap (λ o. next_of_top p (stack_of (row_at o)) (slice_index_or s.root.items w None)) here ∙ ap (λ es. next_of_top p es (slice_index_or s.root.items w None)) (sym same))

pub returns-in-Err-clause-state : goal.returns-in-Err-clause-state
returns-in-Err-clause-state c = same_state c.args.self.now c.args.worker c.make_room.new.row (omega arith) c.index_mut.result.now c.index_mut.ensures.value c.make_room.ensures.stack

pub returns-in-Err-clause-others : goal.returns-in-Err-clause-others
returns-in-Err-clause-others c = λ p v ne h e es top.
    let s = c.args.self.now in
    h e es (back s c.args.worker c.make_room.new.row (omega arith) c.index_mut.result.now c.index_mut.ensures.value c.make_room.ensures.stack v e es top)

pub returns-in-Err-clause-err : goal.returns-in-Err-clause-err
returns-in-Err-clause-err c = λ p.
    let s = c.args.self.now in
    let lt : c.args.worker < length s.stacks.items = omega arith in
    let stacks = stacks_same s c.args.worker c.make_room.new.row lt c.index_mut.result.now c.index_mut.ensures.value c.make_room.ensures.stack in (
      λ g. record {
        lawful = g.lawful;
        sized = record {
          few = g.sized.few;
          status = g.sized.status;
          stacks = set_length s.stacks.items c.args.worker c.make_room.new.row ∙ g.sized.stacks;
          seen = g.sized.seen;
          gone = g.sized.gone;
          wait = g.sized.wait;
          root = g.sized.root;
          told = g.sized.told;
          seen_rows = g.sized.seen_rows;
          gone_rows = g.sized.gone_rows;
        };
        rows = ready_still s c.args.worker c.make_room.new.row lt c.index_mut.result.now c.index_mut.ensures.value c.make_room.ensures.stack p (c.make_room.ensures.kept p) g.rows;
        good = subst (λ (f : ℕ → List Entry). Good p (record (state_of s) { stack = f })) (sym stacks) g.good;
      },
      λ h e es top. h e es (back s c.args.worker c.make_room.new.row lt c.index_mut.result.now c.index_mut.ensures.value c.make_room.ensures.stack c.args.worker e es top),
    )

pub returns-in-Ok-clause-state : goal.returns-in-Ok-clause-state
returns-in-Ok-clause-state c = same_state c.args.self.now c.args.worker c.make_room.new.row (omega arith) c.index_mut.result.now c.index_mut.ensures.value c.make_room.ensures.stack

pub returns-in-Ok-clause-core : goal.returns-in-Ok-clause-core
returns-in-Ok-clause-core c = λ p n g.
    let s = c.args.self.now in
    let lt : c.args.worker < length s.stacks.items = omega arith in
    let stacks = stacks_same s c.args.worker c.make_room.new.row lt c.index_mut.result.now c.index_mut.ensures.value c.make_room.ensures.stack in
    let need = need_is s c.args.worker c.make_room.new.row lt c.index_mut.result.now c.index_mut.ensures.value c.make_room.ensures.stack p c.args.need n in
    record {
      lawful = g.lawful;
      sized = record {
        few = g.sized.few;
        status = g.sized.status;
        stacks = set_length s.stacks.items c.args.worker c.make_room.new.row ∙ g.sized.stacks;
        seen = g.sized.seen;
        gone = g.sized.gone;
        wait = g.sized.wait;
        root = g.sized.root;
        told = set_length s.told.items c.args.worker (Some c.args.need) ∙ g.sized.told;
        seen_rows = g.sized.seen_rows;
        gone_rows = g.sized.gone_rows;
      };
      rows = pair_put (Ready p) None s.told.items s.stacks.items c.args.worker (Some c.args.need) c.make_room.new.row (omega arith) lt g.rows
          (c.in-Ok.ensures.room.0, c.in-Ok.ensures.room.1, says_of p c.args.need (slice_index_or s.root.items c.args.worker None) (stack_of c.make_room.new.row.items) need);
      good = subst (λ (f : ℕ → List Entry). Good p (record (state_of s) { stack = f })) (sym stacks) g.good;
    }

pub returns-in-Ok-clause-told : goal.returns-in-Ok-clause-told
returns-in-Ok-clause-told c = λ p n e es top.
    let s = c.args.self.now in
    let lt : c.args.worker < length s.stacks.items = omega arith in
    let old = back s c.args.worker c.make_room.new.row lt c.index_mut.result.now c.index_mut.ensures.value c.make_room.ensures.stack c.args.worker e es top in
    index_same s.told.items c.args.worker (Some c.args.need) None (omega arith) ∙ ap Some (n ∙ ap (λ xs. next_of_top p xs (slice_index_or s.root.items c.args.worker None)) old)

pub returns-in-Ok-clause-others : goal.returns-in-Ok-clause-others
returns-in-Ok-clause-others c = λ p v ne h e es top.
    let s = c.args.self.now in
    let old = back s c.args.worker c.make_room.new.row (omega arith) c.index_mut.result.now c.index_mut.ensures.value c.make_room.ensures.stack v e es top in
    index_else s.told.items c.args.worker v (Some c.args.need) None ne ∙ h e es old
