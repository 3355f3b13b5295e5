use Rattle.std.proofs.Common.{refl, sym, ap, ◌∙◌, append-nil, ◌-◌, ◌++◌, ◌∷◌, [], length, map}
use Rattle.mir_syntax.specs.declared.types.Field.{Field}
use Rattle.mir_syntax.specs.Shapes.{field_id}
use Rattle.call_graph.specs.Walk.{part_at, reversed}
use Rattle.call_graph.proofs.Opened.{opened_none, opened_all, opened_more, one_each}
use Rattle.call_graph.proofs.parts.open_fields.Goals as goal

pub loop-done-init : goal.loop-done-init
loop-done-init c = sym (append-nil c.args.stack.now.items) ∙ ap (λ xs. c.args.stack.now.items ++ xs) (sym (opened_none (λ (f : Field). field_id f ∷ []) c.args.depth c.args.fields.now))

pub loop-done-preserved : goal.loop-done-preserved
loop-done-preserved c =
    opened_more (λ (f : Field). field_id f ∷ []) c.args.depth c.args.fields.now c.loop-done.done (length c.args.fields.now - 1 - c.loop-done.done) c.index-fields-fields.result c.args.stack.now.items c.loop-done.stack.items c.push.new.self.items c.loop-done-test.true refl c.loop-done.invariant
    (c.in_ok-push.ensures.items)

pub returns : goal.returns
returns c = c.loop-done.invariant ∙ ap (λ xs. c.args.stack.now.items ++ xs) (opened_all (λ (f : Field). field_id f ∷ []) c.args.depth c.args.fields.now c.loop-done.done c.loop-done-test.false ∙ ap (λ xs. reversed (map (part_at c.args.depth) xs)) (one_each field_id c.args.fields.now))
