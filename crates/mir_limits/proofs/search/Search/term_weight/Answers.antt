use Rattle.std.proofs.Common.{◌≡◌, true, Option, Some, None, sym, subst, ◌∙◌, arith}
use Rattle.mir_syntax.specs.declared.body.Term.{Term}
use Rattle.mir_syntax.specs.Tree.{Tree, at_id, trees_of}
use Rattle.mir_syntax.specs.Crate.{crate_of, body_of}
use Rattle.mir_syntax.specs.Shapes.{shapes_of, place_ty}
use Rattle.mir_syntax.specs.Parts.{path_formed}
use Rattle.mir_rules.specs.Formed.{term_formed}
use Rattle.mir_rules.specs.Limits.{weight_of, term_weight}
use Rattle.type_sizes.specs.UpTo.{Tells}
use Rattle.mir_rules.proofs.Whole.{whole_place}
use Rattle.mir_limits.proofs.Weighed.{drop_whole}
use Rattle.mir_limits.proofs.search.Search.term_weight.Goals as goal

pub returns-in-Some : goal.returns-in-Some
returns-in-Some c =
    let p = c.args.self.now.program.now in
    let C = crate_of p in
    let D = shapes_of C in
    let b = body_of (trees_of p.types) c.args.body.now in
    let place = c.in-Drop.place in
    let t = at_id (trees_of p.types) c.in-Some.id in
    let formed : path_formed place.proj ≡ true = drop_whole C b place c.in-Drop.field-1 (subst (λ (u : Term). term_formed C b u ≡ true) c.in-Drop.is c.requires.formed) in
    let ty : Some t ≡ place_ty D b.locals place = c.in-Some.ensures.ty ∙ whole_place D b.locals place formed in
    subst (λ (u : Term). Tells 10001 c.drop_weight.result (term_weight D b.locals u)) (sym c.in-Drop.is)
    (subst (λ (o : Option Tree). Tells 10001 c.drop_weight.result (weight_of D o)) ty c.drop_weight.ensures)

pub returns-in-None : goal.returns-in-None
returns-in-None c =
    let p = c.args.self.now.program.now in
    let C = crate_of p in
    let D = shapes_of C in
    let b = body_of (trees_of p.types) c.args.body.now in
    let place = c.in-Drop.place in
    let formed : path_formed place.proj ≡ true = drop_whole C b place c.in-Drop.field-1 (subst (λ (u : Term). term_formed C b u ≡ true) c.in-Drop.is c.requires.formed) in
    let ty : None ≡ place_ty D b.locals place = c.in-None.ensures.ty ∙ whole_place D b.locals place formed in
    let zero : Tells 10001 0 0 = record { bounded = omega arith; below = omega arith; exact = λ h. omega arith } in
    subst (λ (u : Term). Tells 10001 0 (term_weight D b.locals u)) (sym c.in-Drop.is)
    (subst (λ (o : Option Tree). Tells 10001 0 (weight_of D o)) ty zero)
