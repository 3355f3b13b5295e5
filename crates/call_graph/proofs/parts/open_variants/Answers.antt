use Rattle.std.proofs.Common.{refl, sym, ap, ◌∙◌, append-nil, ◌-◌, ◌++◌, length, map}
use Rattle.mir_syntax.specs.declared.types.Variant.{Variant}
use Rattle.mir_syntax.specs.Shapes.{field_id}
use Rattle.call_graph.specs.Walk.{part_at, reversed, variant_types}
use Rattle.call_graph.proofs.Opened.{opened_none, opened_all, opened_more}
use Rattle.call_graph.proofs.parts.open_variants.Goals as goal

pub loop-done-init : goal.loop-done-init
loop-done-init c = sym (append-nil c.args.stack.now.items) ∙ ap (λ xs. c.args.stack.now.items ++ xs) (sym (opened_none variant_types c.args.depth c.args.variants.now))

pub loop-done-preserved : goal.loop-done-preserved
loop-done-preserved c =
    opened_more variant_types c.args.depth c.args.variants.now c.loop-done.done (length c.args.variants.now - 1 - c.loop-done.done) c.index-variants-variants.result c.args.stack.now.items c.loop-done.stack.items c.open_fields.new.stack.items c.loop-done-test.true refl c.loop-done.invariant
    (c.in_ok-open_fields.ensures ∙ ap (λ xs. c.loop-done.stack.items ++ reversed (map (part_at c.args.depth) (map field_id xs))) c.as_slice.ensures ∙ ap (λ (v : Variant). c.loop-done.stack.items ++ reversed (map (part_at c.args.depth) (map field_id v.fields))) c.index-variants-variants.is)

pub returns : goal.returns
returns c = c.loop-done.invariant ∙ ap (λ xs. c.args.stack.now.items ++ xs) (opened_all variant_types c.args.depth c.args.variants.now c.loop-done.done c.loop-done-test.false)
