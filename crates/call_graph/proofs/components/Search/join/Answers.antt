use Rattle.std.proofs.Common.{◌≡◌, ◌-◌, refl, sym, ap, ◌∙◌, length, get_or, Some, arith}
use Rattle.std.proofs.lemmas.List.{get_or_default}
use Rattle.call_graph.specs.Search.{State, state_of}
use Rattle.call_graph.proofs.Rising.{joins_less, some_there, popped_last}
use Rattle.call_graph.proofs.Joining.{joins_end}
use Rattle.call_graph.proofs.components.Search.join.Goals as goal

pub parts-init : goal.parts-init
parts-init c = record { rest = refl; joins = record { rises = c.requires.rising; first = c.requires.first; kept = λ p e l. e; were = λ p e. e } }

pub parts-preserved : goal.parts-preserved
parts-preserved c =
    let now = c.parts.self.starts in
    let last = c.index.result.now in
    let some = some_there 0 now.items c.parts.invariant.joins.first in
    let is_last = c.index.ensures ∙ ap (λ n. get_or now.items (n - 1) last) c.len.ensures in
    let cut = popped_last now.items c.pop.new.self.items c.pop.result last c.pop.ensures.items (c.pop.ensures.value last (omega (arith, some, now.ok)) ∙ ap Some (sym is_last)) in
    record {
      rest = ap (λ (s : State). record s { starts = c.pop.new.self.items }) c.parts.invariant.rest;
      joins = joins_less c.args.self.now.starts.items now.items c.pop.new.self.items last c.args.place cut c.parts-test.true c.parts.invariant.joins;
    }

pub returns : goal.returns
returns c =
    let now = c.parts.self.starts in
    let last = c.index.result.now in
    let some = some_there 0 now.items c.parts.invariant.joins.first in
    let at_end : c.len.result ≡ length now.items = omega (arith, c.len.ensures, now.ok) in
    let is_last = c.index.ensures ∙ ap (λ n. get_or now.items (n - 1) last) at_end ∙ get_or_default now.items (length now.items - 1) last 0 (omega (arith, some)) in
    joins_end (state_of c.args.self.now) (state_of c.parts.self) c.args.place (length now.items - 1) c.parts.invariant.rest c.parts.invariant.joins (omega (arith, some)) (let low = c.parts-test.false in omega (arith, is_last, low))
