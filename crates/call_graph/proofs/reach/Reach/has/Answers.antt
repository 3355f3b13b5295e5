use Rattle.std.proofs.Common.{sym, ap, ◌∙◌, subst, ◌↔◌}
use Rattle.std.specs.Prelude.{IsTrue}
use Rattle.bit_rows.specs.Rows.{flag}
use Rattle.call_graph.specs.Graph.{Reaches}
use Rattle.call_graph.proofs.Bits.{known_bit, ended_bit, ended_chain}
use Rattle.call_graph.proofs.reach.Reach.has.Goals as goal

pub returns-clause-known : goal.returns-clause-known
returns-clause-known c = λ G g given e. c.get.ensures ∙ ap (λ rs. flag rs 0 c.args.f.0) c.self.view_is ∙ (known_bit G g given c.args.self.now c.args.f.0 e c.requires).0

pub returns-clause-finished : goal.returns-clause-finished
returns-clause-finished c = λ G g l here e. c.get.ensures ∙ ap (λ rs. flag rs 0 c.args.f.0) c.self.view_is ∙ ended_bit G g c.args.self.now c.args.f.0 l here e c.requires

pub returns-clause-chains : goal.returns-clause-chains
returns-clause-chains c = λ G g l here e.
    let same = c.get.ensures ∙ ap (λ rs. flag rs 0 c.args.f.0) c.self.view_is ∙ ended_bit G g c.args.self.now c.args.f.0 l here e c.requires in
    subst (λ b. IsTrue b ↔ Reaches G g c.args.f.0) (sym same) (ended_chain G g c.args.f.0 l here)
