use Rattle.std.proofs.Common.{◌≡◌, true, false, sym, ◌∙◌, inl, inr}
use Rattle.std.specs.Prelude.{if◌then◌else◌, ◌&&◌, ◌⊎◌, Bool}
use Rattle.sched_core.specs.Shown.{state_of}
use Rattle.sched_core.proofs.Whys.{may_lend, may_not_lend, query_below}
use Rattle.sched_core.proofs.state.Core.why_borrow.Goals as goal

neither : (x y a b : Bool) → x ≡ a → y ≡ b → ((x ≡ true) × (y ≡ true)) ⊎ (x ≡ false) → (a && (if◌then◌else◌ {A = Bool} b false true)) ≡ false
neither x y a b e f h = elim h [
  | inl k ↦ (λ i. (sym e ∙ k.0) i && (if◌then◌else◌ {A = Bool} ((sym f ∙ k.1) i) false true))
  | inr k ↦ (λ i. (sym e ∙ k) i && (if◌then◌else◌ {A = Bool} b false true))
]

pub steals-requires : goal.steals-requires
steals-requires g c =
    let e = c.in-Some.ensures in
    query_below (g.J.Jobs.plan c.args.jobs.now) (state_of c.args.self.now) c.requires.core.lawful c.requires.core.good c.args.w c.in-Some.q e.0 e.1 e.2 c.requires.worker

pub returns-then-not-is_stolen : goal.returns-then-not-is_stolen
returns-then-not-is_stolen g c =
    let e = c.in-Some.ensures in
    c.why_lent.ensures ∙ may_lend (g.J.Jobs.plan c.args.jobs.now) (state_of c.args.self.now) c.requires.core.lawful c.requires.core.good c.args.w c.in-Some.q e.0 e.1 e.2 c.next.result c.steals.result c.next.ensures c.steals.ensures c.args.s (sym c.is_some_of-is_next.ensures ∙ c.if-is_next.true) (sym c.is_some_of-is_stolen.ensures ∙ c.if-not-is_stolen.true)

pub returns-else-is_next : goal.returns-else-is_next
returns-else-is_next g c =
    let e = c.in-Some.ensures in
    may_not_lend (g.J.Jobs.plan c.args.jobs.now) (state_of c.args.self.now) c.requires.core.lawful c.requires.core.good c.args.w c.in-Some.q e.0 e.1 e.2 c.next.result c.steals.result c.next.ensures c.steals.ensures c.args.s (neither c.is_some_of-is_next.result c.is_some_of-is_stolen.result _ _ c.is_some_of-is_next.ensures c.is_some_of-is_stolen.ensures c.else-is_next.either)
