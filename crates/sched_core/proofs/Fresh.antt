-- A core that was just made.
use Rattle.std.proofs.Common.{◌≡◌, ℕ, zero, suc, ◌<◌, ◌≤◌, Bool, false, List, [], ◌∷◌, length, refl, sym, subst, ap, ◌∙◌, arith, slice_index_or}
use Rattle.std.specs.Prelude.{Option, Some, None, slice_get, replicate, Vec}
use Rattle.sched_core.specs.declared.Status.TheVariants.{Unclaimed}
use Rattle.sched_core.specs.declared.state.Standing.{Standing}
use Rattle.sched_core.specs.declared.state.Core.{Core}
use Rattle.sched_core.specs.Plan.{Plan, IsLawful}
use Rattle.sched_core.specs.State.{start}
use Rattle.sched_core.specs.Good.{Good}
use Rattle.sched_core.specs.Shown.{state_of, stack_of, row_at, Ready, IsBlank, IsEmptyRow, GoodFor}
use Rattle.sched_core.proofs.Listed.{all_alike, alike_long}
use Rattle.sched_core.proofs.Start.{start_good}

empty_stack : {Z : Type 0} (o : Option (Vec Standing Z)) → IsEmptyRow o → stack_of (row_at o) ≡ []
empty_stack None h = refl
empty_stack (Some row) h = ap stack_of h.0

empty_ready : {Z : Type 0} (p : Plan) (o : Option (Vec Standing Z)) → IsEmptyRow o → Ready p None o
empty_ready p None h = tt
empty_ready p (Some row) h = λ e. h.1

blank : {Z : Type 0} (m : ℕ) (o : Option (Vec Bool Z)) → IsBlank m o → (q : ℕ) → slice_index_or (row_at o) q false ≡ false
blank m None h q = refl
blank m (Some row) h q = ap (λ (xs : List Bool). slice_index_or xs q false) h ∙ all_alike m false q

row_long : {Z : Type 0} (m : ℕ) (rows : List (Vec Bool Z)) (w : ℕ) → w < length rows → IsBlank m (slice_get rows w) → length (row_at (slice_get rows w)) ≡ m
row_long m [] w lt h = absurd (omega arith)
row_long m (x ∷ xs) zero lt h = ap length h ∙ alike_long m false
row_long m (x ∷ xs) (suc w) lt h = row_long m xs w (omega arith) h

module _ (p : Plan) (lawful : IsLawful p) (c : Core) (n m : ℕ) (few : n ≤ 64) (queries : m ≡ p.queries)
    (status : c.status.items ≡ replicate m Unclaimed) (stacks : (length c.stacks.items ≡ n) × ((w : ℕ) → IsEmptyRow (slice_get c.stacks.items w)))
    (borrow : c.borrow.items ≡ replicate n None) (seen : (length c.seen.items ≡ n) × ((w : ℕ) → IsBlank m (slice_get c.seen.items w)))
    (gone : (length c.gone.items ≡ n) × ((w : ℕ) → IsBlank m (slice_get c.gone.items w)))
    (wait : c.wait.items ≡ replicate n None) (root : c.root.items ≡ replicate n None) (told : c.told.items ≡ replicate n None) (drawn : c.drawn ≡ 0) where
  workers : length c.borrow.items ≡ n
  workers = ap length borrow ∙ alike_long n None

  pub fresh_state : state_of c ≡ start n
  fresh_state = λ i. record {
    workers = workers i;
    status = λ q. (ap (λ xs. slice_index_or xs q Unclaimed) status ∙ all_alike m Unclaimed q) i;
    stack = λ w. empty_stack (slice_get c.stacks.items w) (stacks.1 w) i;
    borrow = λ w. (ap (λ xs. slice_index_or xs w None) borrow ∙ all_alike n None w) i;
    seen = λ w q. blank m (slice_get c.seen.items w) (seen.1 w) q i;
    gone = λ w q. blank m (slice_get c.gone.items w) (gone.1 w) q i;
    wait = λ w. (ap (λ xs. slice_index_or xs w None) wait ∙ all_alike n None w) i;
    root = λ w. (ap (λ xs. slice_index_or xs w None) root ∙ all_alike n None w) i;
    drawn = drawn i;
  }

  pub fresh_good : GoodFor p c
  fresh_good = record {
    lawful = lawful;
    sized = record {
      few = omega (arith, workers, few);
      status = ap length status ∙ (alike_long m Unclaimed ∙ queries);
      stacks = stacks.0 ∙ sym workers;
      seen = seen.0 ∙ sym workers;
      gone = gone.0 ∙ sym workers;
      wait = ap length wait ∙ (alike_long n None ∙ sym workers);
      root = ap length root ∙ (alike_long n None ∙ sym workers);
      told = ap length told ∙ (alike_long n None ∙ sym workers);
      seen_rows = λ w lt. row_long m c.seen.items w (let k = seen.0 in omega (arith, lt, workers, k)) (seen.1 w) ∙ queries;
      gone_rows = λ w lt. row_long m c.gone.items w (let k = gone.0 in omega (arith, lt, workers, k)) (gone.1 w) ∙ queries;
    };
    rows = λ w. subst (λ t. Ready p t (slice_get c.stacks.items w)) (sym (ap (λ xs. slice_index_or xs w None) told ∙ all_alike n None w)) (empty_ready p (slice_get c.stacks.items w) (stacks.1 w));
    good = subst (Good p) (sym fresh_state) (start_good p n);
  }
