use Rattle.std.proofs.Common.{◌≡◌, ◌≢◌, ℕ, false, ap, arith}
use Rattle.sched_core.specs.declared.Status.{Status}
use Rattle.sched_core.specs.declared.Status.TheVariants.{Unclaimed, Claimed, Failed}
use Rattle.sched_core.specs.State.{settled}
use Rattle.sched_core.proofs.Acts.{status_at}
use Rattle.sched_core.proofs.state.Core.put_look.Goals as goal

free_waits : (s : Status) → s ≡ Unclaimed → (settled s ≡ false) × (s ≢ Failed)
free_waits s e = (ap settled e, λ f. absurd (cc))

claimed_waits : (s : Status) (v : ℕ) → s ≡ Claimed v → (settled s ≡ false) × (s ≢ Failed)
claimed_waits s v e = (ap settled e, λ f. absurd (cc))

pub returns-in-Done : goal.returns-in-Done
returns-in-Done c = λ p. c.put_seen.ensures p (ap settled (status_at c.args.self.now.status.items c.args.q c.index.result.now _ (omega arith) c.index.ensures c.in-Done.is))

pub returns-in-Stolen : goal.returns-in-Stolen
returns-in-Stolen c = λ p. c.put_seen-in-Stolen.ensures p (ap settled (status_at c.args.self.now.status.items c.args.q c.index.result.now _ (omega arith) c.index.ensures c.in-Stolen.is))

pub returns-in-Failed : goal.returns-in-Failed
returns-in-Failed c = λ p. c.put_gone.ensures p (status_at c.args.self.now.status.items c.args.q c.index.result.now _ (omega arith) c.index.ensures c.in-Failed.is)

pub returns-in-Unclaimed : goal.returns-in-Unclaimed
returns-in-Unclaimed c =
    let waits = free_waits _ (status_at c.args.self.now.status.items c.args.q c.index.result.now _ (omega arith) c.index.ensures c.in-Unclaimed.is) in
    λ p. c.put_wait.ensures p waits.0 waits.1

pub returns-in-Claimed : goal.returns-in-Claimed
returns-in-Claimed c =
    let waits = claimed_waits _ c.in-Claimed.field-0 (status_at c.args.self.now.status.items c.args.q c.index.result.now _ (omega arith) c.index.ensures c.in-Claimed.is) in
    λ p. c.put_wait-in-Claimed.ensures p waits.0 waits.1
