use Rattle.std.proofs.Common.{◌≡◌, ◌<◌, length, sym, subst, ap, ◌∙◌}
use Rattle.std.specs.Prelude.{Some}
use Rattle.sched_core.specs.declared.state.Core.{Core}
use Rattle.sched_core.specs.State.{State, Legal, after}
use Rattle.sched_core.specs.Turn.{turn}
use Rattle.sched_core.specs.Shown.{state_of, IsTold, worker_of}
use Rattle.sched_core.proofs.Turns.{turn_legal}
use Rattle.sched_core.proofs.Weaving.{step_weaves}
use Rattle.sched_core.proofs.Rounds.{AreTurns, is_turn, not_fail, turn_worker}
use Rattle.sched_core.proofs.loom.Loom.turn.Goals as goal

pub returns-in_default-clause-event : goal.returns-in_default-clause-event
returns-in_default-clause-event g c =
    let p = g.J.Jobs.plan c.args.jobs.now in
    let laws = c.requires.loom.good.lawful in
    let w = c.args.w in
    let told = c.tell.new.self.core in
    let same = c.in_ok-tell.ensures.state in
    (sym c.in_default.is ∙ (c.turn.ensures ∙ ap (λ (st : State). turn p st w) same), same)

pub carry-requires-clause-legal : goal.carry-requires-clause-legal
carry-requires-clause-legal g c κs within =
    let p = g.J.Jobs.plan c.args.jobs.now in
    let laws = c.requires.loom.good.lawful in
    let w = c.args.w in
    let told = c.tell.new.self.core in
    let same = c.in_ok-tell.ensures.state in
    let e = c.in-Some.event in
    let is : turn p (state_of told) w ≡ Some e = sym c.turn.ensures ∙ c.in-Some.is in
    let lt : w < length told.borrow.items = subst (λ (st : State). w < st.workers) (sym same) c.requires.worker in
    let legal = turn_legal p (state_of told) laws c.in_ok-tell.ensures.loom.good.good w lt e is in
    let ours = subst (AreTurns (state_of told) w) is (is_turn p (state_of told) w) in
    (legal, not_fail (state_of told) w e ours)

pub act-requires-clause-told : goal.act-requires-clause-told
act-requires-clause-told g c κs within =
    let p = g.J.Jobs.plan c.args.jobs.now in
    let laws = c.requires.loom.good.lawful in
    let w = c.args.w in
    let told = c.tell.new.self.core in
    let same = c.in_ok-tell.ensures.state in
    let e = c.in-Some.event in
    let is : turn p (state_of told) w ≡ Some e = sym c.turn.ensures ∙ c.in-Some.is in
    let lt : w < length told.borrow.items = subst (λ (st : State). w < st.workers) (sym same) c.requires.worker in
    let legal = turn_legal p (state_of told) laws c.in_ok-tell.ensures.loom.good.good w lt e is in
    let ours = subst (AreTurns (state_of told) w) is (is_turn p (state_of told) w) in
    subst (λ (k : Core). IsTold p k (worker_of e)) (sym c.in_ok-carry.ensures.core) (subst (IsTold p told) (sym (turn_worker (state_of told) w e ours)) c.in_ok-tell.ensures.told)

pub act-requires-clause-legal : goal.act-requires-clause-legal
act-requires-clause-legal g c κs within =
    let p = g.J.Jobs.plan c.args.jobs.now in
    let laws = c.requires.loom.good.lawful in
    let w = c.args.w in
    let told = c.tell.new.self.core in
    let same = c.in_ok-tell.ensures.state in
    let e = c.in-Some.event in
    let is : turn p (state_of told) w ≡ Some e = sym c.turn.ensures ∙ c.in-Some.is in
    let lt : w < length told.borrow.items = subst (λ (st : State). w < st.workers) (sym same) c.requires.worker in
    let legal = turn_legal p (state_of told) laws c.in_ok-tell.ensures.loom.good.good w lt e is in
    let ours = subst (AreTurns (state_of told) w) is (is_turn p (state_of told) w) in
    subst (λ (k : Core). Legal p (state_of k) e) (sym c.in_ok-carry.ensures.core) legal

pub returns-clause-loom : goal.returns-clause-loom
returns-clause-loom g c =
    let p = g.J.Jobs.plan c.args.jobs.now in
    let laws = c.requires.loom.good.lawful in
    let w = c.args.w in
    let told = c.tell.new.self.core in
    let same = c.in_ok-tell.ensures.state in
    let e = c.in-Some.event in
    let is : turn p (state_of told) w ≡ Some e = sym c.turn.ensures ∙ c.in-Some.is in
    let lt : w < length told.borrow.items = subst (λ (st : State). w < st.workers) (sym same) c.requires.worker in
    let legal = turn_legal p (state_of told) laws c.in_ok-tell.ensures.loom.good.good w lt e is in
    let works = c.carry.new.self.works.items in
    let answers = c.carry.new.self.answers.items in
    step_weaves (g.J.Jobs.is_work c.args.jobs.now) (g.J.Jobs.given c.args.jobs.now) (g.J.Jobs.out c.args.jobs.now) p told c.carry.new.self.core c.act.new.self e works answers c.in_ok-carry.ensures.core
    c.in_ok-tell.ensures.loom.good legal c.act.ensures c.in_ok-carry.ensures.holds

pub returns-clause-event : goal.returns-clause-event
returns-clause-event g c =
    let p = g.J.Jobs.plan c.args.jobs.now in
    let laws = c.requires.loom.good.lawful in
    let w = c.args.w in
    let told = c.tell.new.self.core in
    let same = c.in_ok-tell.ensures.state in
    let e = c.in-Some.event in
    let is : turn p (state_of told) w ≡ Some e = sym c.turn.ensures ∙ c.in-Some.is in
    let lt : w < length told.borrow.items = subst (λ (st : State). w < st.workers) (sym same) c.requires.worker in
    let legal = turn_legal p (state_of told) laws c.in_ok-tell.ensures.loom.good.good w lt e is in
    let ours = subst (AreTurns (state_of told) w) is (is_turn p (state_of told) w) in (
      sym c.in-Some.is ∙ (c.turn.ensures ∙ ap (λ (st : State). turn p st w) same),
      c.act.ensures.state ∙ (ap (λ (k : Core). after p (state_of k) e) c.in_ok-carry.ensures.core ∙ ap (λ (st : State). after p st e) same),
    )
