use Rattle.std.proofs.Common.{◌≡◌, ◌++◌}
use Rattle.call_graph.specs.Walk.{variant_types}
use Rattle.call_graph.proofs.Opened.{opened}
use Rattle.call_graph.proofs.parts.open_variants.Given as goal

abbrev pub invariant-loop-done : goal.invariant-loop-done
invariant-loop-done l = l.stack.items ≡ l.fn.stack.items ++ opened variant_types l.depth l.variants l.done
