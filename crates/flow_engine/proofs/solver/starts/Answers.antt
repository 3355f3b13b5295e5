use Rattle.std.proofs.Common.{◌≡◌, ℕ, suc, ◌+◌, List, [], ◌∷◌, ◌++◌, sym, ap, ap₂, ◌∙◌, arith}
use Rattle.flow_engine.specs.Flow.{starts_to}
use Rattle.flow_engine.proofs.Lists.{starts_more}
use Rattle.flow_engine.proofs.solver.starts.Goals as goal

step : {A : Type 0} (start : ℕ → A) (facts facts2 : List A) (n : ℕ) (x : A) → facts ≡ starts_to start 0 n → facts2 ≡ facts ++ x ∷ [] → x ≡ start n → facts2 ≡ starts_to start 0 (n + 1)
step start facts facts2 n x e f g =
    f ∙ ap₂ (λ xs y. xs ++ y ∷ []) e (g ∙ ap start (let z : n ≡ 0 + n = omega arith in z)) ∙ sym (starts_more start 0 n) ∙ ap (starts_to start 0) (let z : suc n ≡ n + 1 = omega arith in z)

pub loop-block-preserved : goal.loop-block-preserved
loop-block-preserved g c = step (g.A.Analysis.begun c.args.analysis.now) c.loop-block.facts.items c.push.new.self.items c.loop-block.block c.in_ok-start.field-0 c.loop-block.invariant c.in_ok-push.ensures.items c.in_ok-start.ensures
