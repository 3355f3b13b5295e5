use Rattle.std.proofs.Common.{◌≡◌, subst, ap, ◌∙◌}
use Rattle.std.specs.Prelude.{Some, slice_get}
use Rattle.sched_core.specs.Shown.{state_of}
use Rattle.sched_core.proofs.Listed.{item_at}
use Rattle.sched_core.proofs.Weaving.{next_is, told_weaves, told_told}
use Rattle.sched_core.proofs.loom.Loom.tell.Goals as goal

pub returns-clause-loom : goal.returns-clause-loom
returns-clause-loom g c =
    let e = c.in-Some.ensures in
    let work : slice_get c.args.self.now.works.items c.in-Some.q ≡ Some (Some c.in-Some-Some.work) =
    subst (λ xs. slice_get xs c.in-Some.q ≡ Some (Some c.in-Some-Some.work)) c.deref.ensures.value (item_at c.deref.result.now c.in-Some.q c.in-Some-Some.field-0.now c.in-Some-Some.ensures.lookup.3.0 c.in-Some-Some.ensures.lookup.1 ∙ ap Some c.in-Some-Some.field-0-is) in
    let need = c.next.ensures ∙ (next_is c.requires.loom c.args.w c.in-Some.q e.0 e.1 e.2 c.in-Some-Some.work work).1 in
    told_weaves _ _ _ (g.J.Jobs.plan c.args.jobs.now) c.args.self.now.core c.tell.new.self c.args.self.now.works.items c.args.self.now.answers.items c.requires.loom c.tell.ensures.state c.args.w c.next.result c.tell.result c.tell.ensures.core need

pub returns-clause-told : goal.returns-clause-told
returns-clause-told g c =
    let e = c.in-Some.ensures in
    let work : slice_get c.args.self.now.works.items c.in-Some.q ≡ Some (Some c.in-Some-Some.work) =
    subst (λ xs. slice_get xs c.in-Some.q ≡ Some (Some c.in-Some-Some.work)) c.deref.ensures.value (item_at c.deref.result.now c.in-Some.q c.in-Some-Some.field-0.now c.in-Some-Some.ensures.lookup.3.0 c.in-Some-Some.ensures.lookup.1 ∙ ap Some c.in-Some-Some.field-0-is) in
    let need = c.next.ensures ∙ (next_is c.requires.loom c.args.w c.in-Some.q e.0 e.1 e.2 c.in-Some-Some.work work).1 in
    told_told (g.J.Jobs.plan c.args.jobs.now) (state_of c.args.self.now.core) c.tell.new.self c.args.w c.next.result c.tell.result c.tell.ensures.told need
