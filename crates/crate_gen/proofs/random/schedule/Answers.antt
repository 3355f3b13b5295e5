use Rattle.std.proofs.Common.{◌≡◌, ◌<◌, ◌≤◌, ◌+◌, ◌-◌, ◌++◌, ◌∷◌, sym, ap, ap₂, ◌∙◌, arith}
use Rattle.std.proofs.lemmas.List.{append-nil}
use Rattle.crate_gen.specs.Draws.{draws}
use Rattle.crate_gen.proofs.Loops.{one_made, draws_more, draws_none}
use Rattle.crate_gen.proofs.random.schedule.Goals as goal

pub loop-preserved : goal.loop-preserved
loop-preserved c =
    let b = c.args.workers in
    let x = c.loop.random.state in
    let i = c.loop.counter in
    let turns = c.loop.turns in
    let rest = draws b (4096 - (i + 1)) c.draw.new.self.state in
    let low : i < 4096 = omega arith in
    let first : draws b (4096 - i) x ≡ c.draw.result ∷ rest = draws_more b 4096 i x low ∙ ap₂ (λ d y. d ∷ draws b (4096 - (i + 1)) y) (sym c.draw.ensures.drawn) (sym c.draw.ensures.next) in
    ap (λ ts. ts ++ rest) c.in_ok-push.ensures.ok ∙ one_made turns c.draw.result rest (draws b 4096 c.args.start) (ap (λ ys. turns ++ ys) (sym first) ∙ c.loop.invariant)

pub returns : goal.returns
returns c =
    let turns = c.loop.turns in
    let end : 4096 ≤ c.loop.counter = omega arith in
    sym (append-nil turns) ∙ ap (λ ys. turns ++ ys) (sym (draws_none c.args.workers 4096 c.loop.counter c.loop.random.state end)) ∙ c.loop.invariant
