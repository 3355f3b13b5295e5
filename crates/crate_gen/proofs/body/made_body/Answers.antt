use Rattle.std.proofs.Common.{◌≡◌, ◌∷◌, [], map, true, refl, sym, ap, ap₂, subst, ◌∙◌}
use Rattle.std.specs.List.{list_all}
use Rattle.std.proofs.lemmas.Bool.{and_from}
use Rattle.mir_syntax.specs.Tree.{at_id}
use Rattle.mir_syntax.specs.Crate.{block_of}
use Rattle.mir_syntax.specs.Table.{all_below}
use Rattle.mir_syntax.specs.Ids.{block_below}
use Rattle.crate_gen.specs.Made.{number_ty, bool_ty, comparing, calling, returning}
use Rattle.crate_gen.proofs.Loops.{four_pushed}
use Rattle.crate_gen.proofs.body.made_body.Goals as goal

pub returns-clause-made : goal.returns-clause-made
returns-clause-made c = λ trees numbers flags.
    let d = c.args.choice in
    let last = c.returning.result in
    let all = four_pushed c.in_ok-comparing.field-0 c.in_ok-calling.field-0 c.in_ok-calling-2.field-0 last c.in_ok-blocks.blocks c.push.new.self c.push-2.new.self c.push-3.new.self c.push-4.new.self c.in_ok-blocks.ensures c.in_ok-push.ensures.ok c.in_ok-push-2.ensures.ok c.in_ok-push-3.ensures.ok c.in_ok-push-4.ensures.ok in
    let blocks : map (block_of trees) c.push-4.new.self ≡ comparing d ∷ calling d.below 4 2 ∷ calling d.otherwise 2 4 ∷ returning ∷ [] =
    ap (map (block_of trees)) all
    ∙ ap₂ (λ a b. a ∷ block_of trees c.in_ok-calling.field-0 ∷ block_of trees c.in_ok-calling-2.field-0 ∷ b ∷ []) (c.in_ok-comparing.ensures.made trees) (c.returning.ensures.made trees)
    ∙ ap₂ (λ a b. comparing d ∷ a ∷ b ∷ returning ∷ []) (c.in_ok-calling.ensures.made trees) (c.in_ok-calling-2.ensures.made trees) in
    let locals : map (at_id trees) c.in_ok-locals.field-0 ≡ number_ty ∷ number_ty ∷ number_ty ∷ number_ty ∷ number_ty ∷ bool_ty ∷ [] =
    c.in_ok-locals.ensures.made trees numbers ∙ ap (λ t. number_ty ∷ number_ty ∷ number_ty ∷ number_ty ∷ number_ty ∷ t ∷ []) flags in
    ap₂ (λ ls bs. record { args = 2; locals = ls; blocks = bs }) locals blocks

pub returns-clause-ids : goal.returns-clause-ids
returns-clause-ids c = λ n number flag.
    let first = c.in_ok-comparing.field-0 in
    let second = c.in_ok-calling.field-0 in
    let third = c.in_ok-calling-2.field-0 in
    let last = c.returning.result in
    let all = four_pushed first second third last c.in_ok-blocks.blocks c.push.new.self c.push-2.new.self c.push-3.new.self c.push-4.new.self c.in_ok-blocks.ensures c.in_ok-push.ensures.ok c.in_ok-push-2.ensures.ok c.in_ok-push-3.ensures.ok c.in_ok-push-4.ensures.ok in
    let below = list_all (block_below n) in
    let rest = third ∷ last ∷ [] in
    let blocks : below (first ∷ second ∷ rest) ≡ true =
    and_from (block_below n first) (below (second ∷ rest)) (c.in_ok-comparing.ensures.ids n) (and_from (block_below n second) (below rest) (c.in_ok-calling.ensures.ids n) (and_from (block_below n third) (below (last ∷ [])) (c.in_ok-calling-2.ensures.ids n) (and_from (block_below n last) true (c.returning.ensures.ids n) refl))) in
    and_from (all_below n c.in_ok-locals.field-0) (below c.push-4.new.self) (c.in_ok-locals.ensures.ids n number flag) (subst (λ bs. below bs ≡ true) (sym all) blocks)
