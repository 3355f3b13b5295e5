use Rattle.std.proofs.Common.{◌≡◌}
use Rattle.query_table.specs.Chain.{Matches, ClaimedAs, IsGivingUp}
use Rattle.query_table.proofs.table.QueryTable.fail_all.Given as goal

abbrev pub invariant-loop-held : goal.invariant-loop-held
invariant-loop-held g l = record {
  seat : IsGivingUp l.self.0 l.q l.seat;
  chain : Matches (λ h e. ClaimedAs l.self.0 (g.J.Jobs.plan l.self.1).queries h.claim e) l.seat.token.me.0.stack l.chain.items;
  drawn : l.seat.token.me.0.drawn ≡ l.initial.seat.token.me.0.drawn;
}

abbrev pub decreases-loop-held : goal.decreases-loop-held
decreases-loop-held g l = goal.left-loop-held g l
