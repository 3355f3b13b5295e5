-- Whom a function asks for comes before it in the order, so its body can be made of bodies that are done.
use Rattle.std.proofs.Common.{◌≡◌, ◌⊎◌, inl, inr, sym, ◌∙◌, ℕ, ◌<◌, true, arith}
use Rattle.call_graph.specs.Graph.{Graph, IsGraph, IsComponents, asks}
use Rattle.call_graph.proofs.Reached.{reach_all}
use Rattle.call_graph.proofs.Falls.{asked_below, f_reaches, lower}
use Rattle.call_graph.proofs.Told.{reaches_earlier}
use Rattle.query_plan.specs.Queries.{Pipeline, graph, cands, optimised, opt}
use Rattle.query_plan.specs.Order.{IsOrder, DoneBefore}
use Rattle.query_plan.proofs.Outs.{optimised_same, cands_same, opt_is}

pub asked_before : (G : Graph) (component place : ℕ → ℕ) → IsGraph G → IsComponents G component → IsOrder G component place → (f g : ℕ) → f < G.functions → asks G f g ≡ true → place g < place f
asked_before G component place l c o f g lt a =
    let b = asked_below G l f g a in
    let r = reaches_earlier G l component c f g lt (f_reaches G l f g a) in
    elim (let d : (component g < component f) ⊎ (component f ≡ component g) = grind arith in d) [
      | inl d ↦ o.components f g lt b d
      | inr d ↦ o.paths_fall f g lt b d (lower G l f g a (reach_all G l g b f (c.both g f b lt (sym d))))
    ]

pub next_is : {B : Type 0} (P : Pipeline B) (component place : ℕ → ℕ) (bodies : ℕ → B) → IsGraph (graph P) → IsComponents (graph P) component → IsOrder (graph P) component place → (f : ℕ) → f < P.functions → DoneBefore P place (place f) bodies → (optimised P bodies f ≡ opt P f) × (cands P bodies f ≡ cands P (opt P) f)
next_is P component place bodies l c o f lt done =
    let same : (g : ℕ) → asks (graph P) f g ≡ true → bodies g ≡ opt P g = λ g a. done g (asked_below (graph P) l f g a) (asked_before (graph P) component place l c o f g lt a) in
    (optimised_same P bodies (opt P) f same ∙ sym (opt_is P l f lt), cands_same P bodies (opt P) f same)
