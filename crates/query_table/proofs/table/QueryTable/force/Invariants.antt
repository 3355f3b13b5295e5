use Rattle.std.proofs.Common.{◌≡◌}
use Rattle.query_table.specs.Chain.{Matches, HeldAs, IsForcing}
use Rattle.query_table.proofs.table.QueryTable.force.Given as goal

abbrev pub invariant-loop : goal.invariant-loop
invariant-loop g l = record {
  next : (goal.iterator-loop g).can_next l.iterator';
  finite : (goal.iterator-loop g).is_finite l.iterator';
  seat : IsForcing (g.J.Jobs.plan l.self.1) l.self.0 l.q l.seat;
  chain : Matches (λ h e. HeldAs {W = g.row.J-Work.Denot} (g.J.Jobs.plan l.self.1) (g.J.Jobs.is_work l.self.1) (g.J.Jobs.given l.self.1) l.self.0 h.claim h.work e) l.seat.token.me.0.stack l.chain.items;
  drawn : l.seat.token.me.0.drawn ≡ l.initial.seat.token.me.0.drawn;
}
