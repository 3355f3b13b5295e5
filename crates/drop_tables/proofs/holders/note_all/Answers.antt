use Rattle.std.proofs.Common.{◌≡◌, ◌++◌, ◌∙◌, sym, ap, subst}
use Rattle.mir_syntax.specs.Tree.{at_id, at_ids, named, node, trees_of}
use Rattle.mir_syntax.specs.Shapes.{needs_by}
use Rattle.drop_tables.proofs.Noting.{Noting, fewer_parts, noting_tuple, noting_named, noting_none, other_none}
use Rattle.drop_tables.proofs.holders.note_all.Goals as goal

pub ids-preserved-in_default-ty_at : goal.ids-preserved-in_default-ty_at
ids-preserved-in_default-ty_at c =
    let trees = trees_of c.args.program.now.types in
    noting_none trees c.args.ids.now.items c.args.from c.args.holders.now.items c.ids.holders.items c.ids.ids.items c.pop.new.self.items c.in-Some.id c.ids.invariant c.in-Some.ensures.items
    (λ f. ap (needs_by f) c.in_default-ty_at.ensures.stands)

pub ids-smaller-in-Continue-1 : goal.ids-smaller-in-Continue-1
ids-smaller-in-Continue-1 c =
    let trees = trees_of c.args.program.now.types in
    let made : c.extend_from_slice.new.self.items ≡ c.pop.new.self.items ++ c.in-Tuple.parts = c.in_ok-extend_from_slice-in-Tuple.ensures.items ∙ ap (λ l. c.pop.new.self.items ++ l) c.as_slice.ensures in
    let is : at_id trees c.in-Some.id ≡ at_ids trees c.in-Tuple.parts = c.in-Some-ty_at.ensures.stands ∙ ap (node trees) c.in-Tuple.is in
    rw made (fewer_parts trees c.ids.ids.items c.pop.new.self.items c.in-Tuple.parts c.in-Some.id c.in-Some.ensures.items is)

pub ids-preserved-in-Continue-1 : goal.ids-preserved-in-Continue-1
ids-preserved-in-Continue-1 c =
    let trees = trees_of c.args.program.now.types in
    let made : c.extend_from_slice.new.self.items ≡ c.pop.new.self.items ++ c.in-Tuple.parts = c.in_ok-extend_from_slice-in-Tuple.ensures.items ∙ ap (λ l. c.pop.new.self.items ++ l) c.as_slice.ensures in
    let is : at_id trees c.in-Some.id ≡ at_ids trees c.in-Tuple.parts = c.in-Some-ty_at.ensures.stands ∙ ap (node trees) c.in-Tuple.is in
    subst (Noting trees c.args.ids.now.items c.args.from c.args.holders.now.items c.ids.holders.items) (sym made)
    (noting_tuple trees c.args.ids.now.items c.args.from c.args.holders.now.items c.ids.holders.items c.ids.ids.items c.pop.new.self.items c.in-Some.id c.ids.invariant c.in-Some.ensures.items c.in-Tuple.parts is)

pub ids-preserved-in-Continue-branch-2 : goal.ids-preserved-in-Continue-branch-2
ids-preserved-in-Continue-branch-2 c =
    let trees = trees_of c.args.program.now.types in
    let is : at_id trees c.in-Some.id ≡ named c.in-Named.def = c.in-Some-ty_at.ensures.stands ∙ ap (node trees) c.in-Named.is in
    subst (λ h. Noting trees c.args.ids.now.items c.args.from c.args.holders.now.items h c.pop.new.self.items) (sym c.in_ok-note-in-Named.ensures)
    (noting_named trees c.args.ids.now.items c.args.from c.args.holders.now.items c.ids.holders.items c.ids.ids.items c.pop.new.self.items c.in-Some.id c.ids.invariant c.in-Some.ensures.items c.in-Named.def is)

pub ids-preserved : goal.ids-preserved
ids-preserved c =
    let trees = trees_of c.args.program.now.types in
    noting_none trees c.args.ids.now.items c.args.from c.args.holders.now.items c.ids.holders.items c.ids.ids.items c.pop.new.self.items c.in-Some.id c.ids.invariant c.in-Some.ensures.items
    (λ f. ap (needs_by f) c.in-Some-ty_at.ensures.stands ∙ other_none trees c.in-Some-ty_at.ty.now c.in_default-ty.not-Tuple c.in_default-ty.not-Named f)
