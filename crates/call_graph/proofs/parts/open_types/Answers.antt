use Rattle.std.proofs.Common.{refl, sym, ap, ◌∙◌, append-nil, ◌-◌, ◌++◌, ◌∷◌, [], length, map}
use Rattle.mir_syntax.specs.declared.types.TyId.{TyId}
use Rattle.call_graph.specs.Walk.{part_at, reversed}
use Rattle.call_graph.proofs.Opened.{opened_none, opened_all, opened_more, one_each, same_ids}
use Rattle.call_graph.proofs.parts.open_types.Goals as goal

pub loop-done-init : goal.loop-done-init
loop-done-init c = sym (append-nil c.args.stack.now.items) ∙ ap (λ xs. c.args.stack.now.items ++ xs) (sym (opened_none (λ (id : TyId). id ∷ []) c.args.depth c.args.types.now))

pub loop-done-preserved : goal.loop-done-preserved
loop-done-preserved c =
    opened_more (λ (id : TyId). id ∷ []) c.args.depth c.args.types.now c.loop-done.done (length c.args.types.now - 1 - c.loop-done.done) (record { 0 = 0 }) c.args.stack.now.items c.loop-done.stack.items c.push.new.self.items c.loop-done-test.true refl c.loop-done.invariant
    (c.in_ok-push.ensures.items)

pub returns : goal.returns
returns c = c.loop-done.invariant ∙ ap (λ xs. c.args.stack.now.items ++ xs) (opened_all (λ (id : TyId). id ∷ []) c.args.depth c.args.types.now c.loop-done.done c.loop-done-test.false ∙ ap (λ xs. reversed (map (part_at c.args.depth) xs)) (one_each (λ (id : TyId). id) c.args.types.now) ∙ ap (λ xs. reversed (map (part_at c.args.depth) xs)) (same_ids c.args.types.now))
