use Rattle.std.proofs.Common.{◌≡◌, sym, subst, ◌<◌, length}
use Rattle.std.specs.Prelude.{Some}
use Rattle.bit_rows.specs.Rows.{row_at}
use Rattle.call_graph.specs.Graph.{least}
use Rattle.call_graph.specs.Reaching.{is_waiting}
use Rattle.call_graph.proofs.Bits.{taken_low, taken_rows}
use Rattle.call_graph.proofs.reach.Reach.take.Goals as goal

pub invariant_of-self : goal.invariant_of-self
invariant_of-self c =
    taken_low c.self.inside.rows c.set.new.self c.self.inside.functions c.self.inside.low c.args.h c.self.invariant c.set.ensures
    (subst (λ rows. least (is_waiting rows) 0 (length (row_at rows 0)) ≡ Some c.args.h) (sym c.self.view_is) c.requires.next)
    (subst (λ rows. c.args.h < length (row_at rows 0)) (sym c.self.view_is) c.requires.within)

pub returns : goal.returns
returns c = taken_rows c.self.inside.rows c.set.new.self c.args.self.now c.self.inside.functions c.self.inside.low c.args.h c.self.invariant c.self.view_is c.set.ensures
