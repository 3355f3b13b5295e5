use Rattle.std.proofs.Common.{◌∷◌, ◌∙◌, IsTrue, [], length, ap, ap₂, rules}
use Rattle.std.specs.List.{list_all}
use Rattle.mir_syntax.specs.Tree.{trees_of}
use Rattle.mir_syntax.proofs.Growth.{length-extends}
use Rattle.mir_resolve.specs.declared.types.ReadTy.{ReadTy}
use Rattle.mir_resolve.specs.Types.{read_below, stack_in}
use Rattle.mir_resolve.proofs.TypeSteps.{piled-push, piled-extends, all-joined, all-more}
use Rattle.mir_resolve.proofs.types.push.Goals as goal

pub returns-clause-read : goal.returns-clause-read
returns-clause-read c =
    let old = c.args.program.now.types in
    let new = c.intern.new.program.types in
    let read : ReadTy = record { id = c.in_ok-id.id; known = c.args.known } in
    ap (stack_in (trees_of new)) c.in_ok-push.ensures.ok
    ∙ piled-push (trees_of new) c.args.stack.now read []
    ∙ ap₂ (λ t s. (t, c.args.known) ∷ s) c.in_ok-id.ensures.stands (piled-extends old new c.in_ok-id.ensures.grown.types c.args.stack.now [] c.requires.inside)

pub returns-clause-inside : goal.returns-clause-inside
returns-clause-inside c =
    let old = c.args.program.now.types in
    let new = c.intern.new.program.types in
    let read : ReadTy = record { id = c.in_ok-id.id; known = c.args.known } in
    let wide = all-more (length old) (length new) (length-extends old new c.in_ok-id.ensures.grown.types) c.args.stack.now c.requires.inside in
    let last : IsTrue (list_all (read_below (length new)) (read ∷ [])) = search (rules, c.in_ok-id.ensures.inside) in
    rw c.in_ok-push.ensures.ok (all-joined (length new) c.args.stack.now (read ∷ []) wide last)
