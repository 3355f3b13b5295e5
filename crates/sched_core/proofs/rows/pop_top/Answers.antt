use Rattle.std.proofs.Common.{◌≡◌, ℕ, sym, ◌∙◌}
use Rattle.std.specs.Prelude.{Option, Some, None, MatchOption}
use Rattle.sched_core.specs.declared.state.Standing.{Standing}
use Rattle.sched_core.proofs.Listed.{popped}
use Rattle.sched_core.proofs.rows.pop_top.Goals as goal

empty_if : (o : Option Standing) (n m : ℕ) (P : Standing → Type 0) (k : ℕ) → MatchOption o ((n ≡ 0) × (m ≡ 0)) P → n ≡ k → MatchOption o (k ≡ 0) (λ _. Unit {0})
empty_if None n m P k h e = sym e ∙ h.0
empty_if (Some x) n m P k h e = tt

pub returns-clause-stack : goal.returns-clause-stack
returns-clause-stack c = popped c.pop.new.self.items c.args.row.now.items c.pop.result c.pop.ensures.items (empty_if c.pop.result _ _ _ _ c.pop.ensures.cases c.args.row.now.ok.0)
