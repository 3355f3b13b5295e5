use Rattle.std.proofs.Common.{◌≡◌, ◌++◌, ◌∷◌, []}
use Rattle.call_graph.proofs.Opened.{opened}
use Rattle.call_graph.proofs.parts.open_types.Given as goal

abbrev pub invariant-loop-done : goal.invariant-loop-done
invariant-loop-done l = l.stack.items ≡ l.fn.stack.items ++ opened (λ id. id ∷ []) l.depth l.types l.done
