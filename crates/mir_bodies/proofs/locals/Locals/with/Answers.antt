use Rattle.std.proofs.Common.{sym, ◌∙◌}
use Rattle.mir_bodies.proofs.FirstTypes.{first_of_new, first_of_old}
use Rattle.mir_bodies.proofs.locals.Locals.with.Goals as goal
use Rattle.mir_bodies.proofs.locals.Locals.with.Goals.{then-not-contains_key+in_ok-insert, else-not-contains_key}

pub invariant_of-result : goal.invariant_of-result
invariant_of-result c =
    let ds = c.self.inside.declared in
    let m = c.self.inside.firsts in
    rw c.in_ok-push.ensures.ok
    (elim c.if-not-contains_key.branch [
      | then-not-contains_key+in_ok-insert w ↦
          rw w.firsts-is
          (first_of_new ds c.args.local c.args.ty m w.insert.new.self c.self.invariant (sym c.contains_key.ensures ∙ w.if-not-contains_key.true) w.in_ok-insert.ensures.updates.0)
      | else-not-contains_key w ↦
          rw w.firsts-is (first_of_old ds c.args.local c.args.ty m c.self.invariant (sym c.contains_key.ensures ∙ w.if-not-contains_key.false))
    ])
