-- The reasons as the code finds them.
use Rattle.std.proofs.Common.{refl, ◌≡◌, ℕ, ◌<◌, Bool, true, false, List, ◌∷◌, sym, ap, ◌∙◌, arith, ◌&&◌}
use Rattle.std.specs.Prelude.{Option, Some, None, IfSome, if◌then◌else◌, unwrap_or}
use Rattle.sched_core.specs.declared.Why.{Why}
use Rattle.sched_core.specs.declared.Why.TheVariants as w
use Rattle.sched_core.specs.Plan.{Plan, IsLawful, next_need}
use Rattle.sched_core.specs.State.{State, Entry, is, next, next_of_top, done}
use Rattle.sched_core.specs.Good.{Good}
use Rattle.sched_core.specs.Turn.{ripe}
use Rattle.sched_core.specs.Table.{or_else, unless, holds_none, taken, need_or, is_free, why_publish, why_borrow, why_steal}
use Rattle.sched_core.proofs.Lists.{next_in, stolen_in}
use Rattle.sched_core.proofs.Ripe.{ripe_is}
use Rattle.sched_core.proofs.Turns.{top_below}

module _ (p : Plan) (c : State) (l : IsLawful p) (g : Good p c) (v q : ℕ) (given : List ℕ) (es : List Entry) (top : c.stack v ≡ (q, given) ∷ es) where
  next_is : next p c v ≡ next_need (p.needs q) given
  next_is = ap (λ xs. next_of_top p xs (c.root v)) top

  pub publish_reason : why_publish p c v (c.stack v) ≡ or_else (unless (ripe (next p c v) (p.steals q) (c.seen v)) (w.Unseen (need_or (next p c v)))) (or_else (holds_none (c.borrow v)) (taken c (p.steals q)))
  publish_reason =
      ap (why_publish p c v) top
      ∙ ((λ i. or_else (unless (ripe_is p c l g v (q, given) es top i) (w.Unseen (need_or (next_need (p.needs q) given)))) (or_else (holds_none (c.borrow v)) (taken c (p.steals q))))
      ∙ (λ i. or_else (unless (ripe (sym next_is i) (p.steals q) (c.seen v)) (w.Unseen (need_or (sym next_is i)))) (or_else (holds_none (c.borrow v)) (taken c (p.steals q)))))

  module _ (need steals : Option ℕ) (n : need ≡ next p c v) (s : steals ≡ p.steals q) where
    reason : why_publish p c v (c.stack v) ≡ or_else (unless (ripe need steals (c.seen v)) (w.Unseen (need_or need))) (or_else (holds_none (c.borrow v)) (taken c steals))
    reason = publish_reason ∙ (λ i. or_else (unless (ripe (sym n i) (sym s i) (c.seen v)) (w.Unseen (need_or (sym n i)))) (or_else (holds_none (c.borrow v)) (taken c (sym s i))))

    pub not_ripe : ripe need steals (c.seen v) ≡ false → Some (w.Unseen (need_or need)) ≡ why_publish p c v (c.stack v)
    not_ripe h = sym (reason ∙ ap (λ b. or_else (unless b (w.Unseen (need_or need))) (or_else (holds_none (c.borrow v)) (taken c steals))) h)

    pub is_held : (y : Why) → ripe need steals (c.seen v) ≡ true → Some y ≡ holds_none (c.borrow v) → Some y ≡ why_publish p c v (c.stack v)
    is_held y h k = sym (reason ∙ (ap (λ b. or_else (unless b (w.Unseen (need_or need))) (or_else (holds_none (c.borrow v)) (taken c steals))) h ∙ ap (λ o. or_else o (taken c steals)) (sym k)))

    pub at_last : ripe need steals (c.seen v) ≡ true → None ≡ holds_none (c.borrow v) → taken c steals ≡ why_publish p c v (c.stack v)
    at_last h k = sym (reason ∙ (ap (λ b. or_else (unless b (w.Unseen (need_or need))) (or_else (holds_none (c.borrow v)) (taken c steals))) h ∙ ap (λ o. or_else o (taken c steals)) (sym k)))

  module _ (need steals : Option ℕ) (n : need ≡ next p c v) (st : steals ≡ p.steals q) (s : ℕ) where
    abbrev pub later : Option Why
    later = or_else (unless (c.seen v s) (w.Unseen s)) (or_else (holds_none (c.borrow v)) (unless (done (c.status s)) (w.Status (c.status s))))

    borrow_reason : why_borrow p c v s (c.stack v) ≡ or_else (unless (is need s && (if◌then◌else◌ {A = Bool} (is steals s) false true)) (w.NotTop s)) later
    borrow_reason =
        ap (why_borrow p c v s) top
        ∙ (λ i. or_else (unless (is ((sym next_is ∙ sym n) i) s && (if◌then◌else◌ {A = Bool} (is (sym st i) s) false true)) (w.NotTop s)) later)

    pub may_lend : (is need s ≡ true) → (is steals s ≡ false) → later ≡ why_borrow p c v s (c.stack v)
    may_lend a b = sym (borrow_reason ∙ (λ i. or_else (unless (a i && (if◌then◌else◌ {A = Bool} (b i) false true)) (w.NotTop s)) later))

    pub may_not_lend : ((is need s && (if◌then◌else◌ {A = Bool} (is steals s) false true)) ≡ false) → Some (w.NotTop s) ≡ why_borrow p c v s (c.stack v)
    may_not_lend h = sym (borrow_reason ∙ ap (λ b. or_else (unless b (w.NotTop s)) later) h)

    abbrev free : Option Why
    free = unless (is_free (c.status s)) (w.Status (c.status s))

    steal_reason : why_steal p c v s (c.stack v) ≡ or_else (unless (is steals s) (w.NotTop s)) (or_else (unless (ripe need steals (c.seen v)) (w.Unseen (need_or need))) free)
    steal_reason =
        ap (why_steal p c v s) top
        ∙ ((λ i. or_else (unless (is (p.steals q) s) (w.NotTop s)) (or_else (unless (ripe_is p c l g v (q, given) es top i) (w.Unseen (need_or (next_need (p.needs q) given)))) free))
        ∙ (λ i. or_else (unless (is (sym st i) s) (w.NotTop s)) (or_else (unless (ripe ((sym next_is ∙ sym n) i) (sym st i) (c.seen v)) (w.Unseen (need_or ((sym next_is ∙ sym n) i)))) free)))

    pub steals_other : is steals s ≡ false → Some (w.NotTop s) ≡ why_steal p c v s (c.stack v)
    steals_other h = sym (steal_reason ∙ ap (λ b. or_else (unless b (w.NotTop s)) (or_else (unless (ripe need steals (c.seen v)) (w.Unseen (need_or need))) free)) h)

    pub steals_unripe : is steals s ≡ true → ripe need steals (c.seen v) ≡ false → Some (w.Unseen (need_or need)) ≡ why_steal p c v s (c.stack v)
    steals_unripe h k = sym (steal_reason ∙ (λ i. or_else (unless (h i) (w.NotTop s)) (or_else (unless (k i) (w.Unseen (need_or need))) free)))

    pub steals_ripe : is steals s ≡ true → ripe need steals (c.seen v) ≡ true → free ≡ why_steal p c v s (c.stack v)
    steals_ripe h k = sym (steal_reason ∙ (λ i. or_else (unless (h i) (w.NotTop s)) (or_else (unless (k i) (w.Unseen (need_or need))) free)))

  module _ (lt : v < c.workers) where
    pub query_below : q < p.queries
    query_below = top_below p c l g v lt (q, given) es top

    pub need_below : (need : Option ℕ) → need ≡ next p c v → (m : ℕ) → m ≡ p.queries → IfSome need (λ n. n < m)
    need_below None e m k = tt
    need_below (Some n) e m k = let i = next_in (p.needs q) given n (sym next_is ∙ sym e) in let b = l.needs_below q n query_below i in omega arith

    pub steals_below : (steals : Option ℕ) → steals ≡ p.steals q → (m : ℕ) → m ≡ p.queries → IfSome steals (λ s. s < m)
    steals_below None e m k = tt
    steals_below (Some s) e m k =
        let b = l.needs_below q s query_below (stolen_in p l q s (sym e)) in omega arith

-- a need, or 0
pub or_need : (o : Option ℕ) → unwrap_or o 0 ≡ need_or o
or_need None = refl
or_need (Some n) = refl
