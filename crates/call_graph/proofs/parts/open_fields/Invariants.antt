use Rattle.std.proofs.Common.{◌≡◌, ◌++◌, ◌∷◌, []}
use Rattle.mir_syntax.specs.Shapes.{field_id}
use Rattle.call_graph.proofs.Opened.{opened}
use Rattle.call_graph.proofs.parts.open_fields.Given as goal

abbrev pub invariant-loop-done : goal.invariant-loop-done
invariant-loop-done l = l.stack.items ≡ l.fn.stack.items ++ opened (λ f. field_id f ∷ []) l.depth l.fields l.done
