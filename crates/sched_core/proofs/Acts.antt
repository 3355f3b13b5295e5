-- A legal event can be done on the fields of a core.
use Rattle.std.proofs.Common.{◌≡◌, ℕ, zero, suc, ◌<◌, ◌≤◌, Bool, true, false, List, [], ◌∷◌, length, inl, inr, sym, subst, ap, ◌∙◌, arith, slice_index_or}
use Rattle.std.specs.Prelude.{Option, Some, None, slice_get, Vec, IfSome, if◌then◌else◌}
use Rattle.sched_core.specs.declared.Status.{Status}
use Rattle.sched_core.specs.declared.Status.TheVariants.{Unclaimed, Done}
use Rattle.sched_core.specs.declared.Event.{Event}
use Rattle.sched_core.specs.declared.state.Standing.{Standing}
use Rattle.sched_core.specs.declared.state.Core.{Core}
use Rattle.sched_core.specs.Plan.{Plan, IsLawful, next_need}
use Rattle.sched_core.specs.State.{State, Entry, Legal, after, is, borrowers}
use Rattle.sched_core.specs.Good.{Good}
use Rattle.sched_core.specs.Shown.{state_of, stack_of, row_at, Ready, has_room, has_given_room, GoodFor, Happens}
use Rattle.sched_core.proofs.Lists.{nat_cases, borrowers_some}
use Rattle.sched_core.proofs.Listed.{item_at, item_or, stack_full}
use Rattle.sched_core.proofs.Keeps.{legal_keeps}

pub status_at : (xs : List Status) (q : ℕ) (x st : Status) → q < length xs → x ≡ slice_index_or xs q x → x ≡ st → slice_index_or xs q Unclaimed ≡ st
status_at xs q x st lt e k = item_or xs q x Unclaimed (item_at xs q x lt e) ∙ k

-- the row of w shows its stack
pub stack_at : {Z : Type 0} (stacks : List (Vec Standing Z)) (w : ℕ) (row : Vec Standing Z) (es : List Entry) → w < length stacks → row ≡ slice_index_or stacks w row → stack_of row.items ≡ es → stack_of (row_at (slice_get stacks w)) ≡ es
stack_at stacks w row es lt at h = ap (λ o. stack_of (row_at o)) (item_at stacks w row lt at) ∙ h

-- what was told, of a row with a top
abbrev pub Told : {Z : Type 0} → Plan → Option (Option ℕ) → Option (Vec Standing Z) → Type 0
Told p told row = (e : Entry) (es : List Entry) → stack_of (row_at row) ≡ e ∷ es → told ≡ Some (next_need (p.needs e.0) e.1)

pub claim_room : {Z : Type 0} (p : Plan) (told : Option (Option ℕ)) (row : Option (Vec Standing Z)) → Ready p told row → Told p told row → has_room row
claim_room p told None h t = tt
claim_room p (Some need) (Some row) h t = h.0
claim_room p None (Some row) h t = elim (nat_cases row.len 0) [
  | inl e ↦ h e
  | inr ne ↦ let s = stack_full row.items (let k = row.ok.0 in omega arith) in absurd (let x = t s.0 s.1 s.2 in (cc))
]

given_none : (xs : List Standing) → length xs ≡ 0 → has_given_room xs
given_none [] e = tt
given_none (x ∷ xs) e = absurd (omega arith)

pub release_room : {Z : Type 0} (p : Plan) (told : Option (Option ℕ)) (row : Option (Vec Standing Z)) → Ready p told row → Told p told row → has_given_room (row_at row)
release_room p told None h t = tt
release_room p (Some need) (Some row) h t = h.1
release_room p None (Some row) h t = elim (nat_cases (length row.items) 0) [
  | inl e ↦ given_none row.items e
  | inr ne ↦ let s = stack_full row.items (omega arith) in absurd (let x = t s.0 s.1 s.2 in (cc))
]

one_most : (b : Bool) → (if◌then◌else◌ {A = ℕ} b 1 0) ≤ 1
one_most true = omega arith
one_most false = omega arith

pub borrowers_most : (f : ℕ → Option ℕ) (n s : ℕ) → borrowers f n s ≤ n
borrowers_most f zero s = omega arith
borrowers_most f (suc n) s =
    let x : ℕ = if◌then◌else◌ {A = ℕ} (is (f n) s) 1 0 in
    let small : x ≤ 1 = one_most (is (f n) s) in
    let rest = borrowers_most f n s in
    omega arith

module _ (p : Plan) (c : State) (g : Good p c) where
  pub count_most : (s b : ℕ) → c.status s ≡ Done b → b ≤ c.workers
  count_most s b e = subst (λ (x : ℕ). x ≤ c.workers) (sym (g.counted s b e)) (borrowers_most c.borrow c.workers s)

  pub lent : (w s : ℕ) → c.borrow w ≡ Some s → (b : ℕ) × (c.status s ≡ Done b) × (1 ≤ b)
  lent w s e =
      let h = g.borrowed w s e in
      let some = borrowers_some c.borrow s w c.workers h.worker e in
      let count = g.counted s h.count h.done in
      (h.count, h.done, omega (arith, some, count))

  pub kept_good : (l : IsLawful p) (e : Event) (d : State) → Legal p c e → d ≡ after p c e → Good p d
  kept_good l e d m k = subst (Good p) (sym k) (legal_keeps p c e l g m)

-- the core that is left is good too
pub happens_good : (p : Plan) (l : IsLawful p) (c d : Core) (e : Event) → GoodFor p c → Legal p (state_of c) e → Happens p c d e → GoodFor p d
happens_good p l c d e g m h = record { lawful = l; sized = h.sized g.sized; rows = h.rows g.rows; good = kept_good p (state_of c) g.good l e (state_of d) m h.state }

pub root_below : (p : Plan) (c : State) → IsLawful p → Good p c → (w : ℕ) (o : Option ℕ) → c.root w ≡ o → IfSome o (λ r. r < p.queries)
root_below p c l g w None e = tt
root_below p c l g w (Some r) e = let i = g.rooted w r e in let lt = i.1 in let most = g.limit in subst (λ (x : ℕ). x < p.queries) i.2 (l.roots_below i.0 (omega (arith, lt, most)))

pub no_top : (es : List Entry) (e : Entry) (fs : List Entry) → es ≡ [] → es ≡ e ∷ fs → ⊥
no_top es e fs h k = (cc)
