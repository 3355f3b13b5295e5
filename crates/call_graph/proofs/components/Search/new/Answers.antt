use Rattle.std.proofs.Common.{refl}
use Rattle.call_graph.specs.Search.{state_of}
use Rattle.call_graph.proofs.Begun.{begun_at}
use Rattle.call_graph.proofs.components.Search.new.Goals as goal

pub returns-clause-search : goal.returns-clause-search
returns-clause-search c = λ G e.
    begun_at G c.args.nodes
    (state_of (record { marks = c.in_ok-vec.field-0; looked = c.in_ok-vec-2.field-0; component = c.in_ok-vec-3.field-0; closed = 0; stack = c.new.result; starts = c.new-2.result; path = c.new-3.result })) e
    (c.in_ok-vec.ensures.items_if_clones_equal (λ y h. h)) (c.in_ok-vec-2.ensures.items_if_clones_equal (λ y h. h)) (c.in_ok-vec-3.ensures.items_if_clones_equal (λ y h. h)) refl
    c.new.ensures.items c.new-2.ensures.items c.new-3.ensures.items
