use Rattle.std.proofs.Common.{◌≡◌, ◌∙◌, ◌<◌, ◌^◌, ◌++◌, ◌∷◌, [], ap, ap₂, arith, length}
use Rattle.mir_text.specs.NameFaults.{stands_in}
use Rattle.mir_resolve.specs.Index.{texts_of}
use Rattle.mir_resolve.proofs.FirstPlaces.{fresh_view, fresh_index, fresh_stood, again_view, again_index, again_stood}
use Rattle.mir_resolve.proofs.index.PathIndex.with.Goals as goal

pub invariant_of-index : goal.invariant_of-index
invariant_of-index c =
    let d = c.self.inside.different in
    let f = c.self.inside.firsts in
    let ns = c.self.inside.numbers in
    let t = c.args.text.now in
    let few : length ns < 2 ^ 30 = omega arith in
    rw (c.in-Ok.ensures.appended, c.in_ok-push-in-Ok.ensures.ok, c.in_ok-push-in-Ok-2.ensures.ok, c.in-Ok.ensures.number, c.len-place.ensures)
    (fresh_index d f ns t c.self.invariant c.in-Ok.ensures.twice few)

pub invariant_of-index-in-Err-Twice : goal.invariant_of-index-in-Err-Twice
invariant_of-index-in-Err-Twice c =
    let d = c.self.inside.different in
    let f = c.self.inside.firsts in
    let ns = c.self.inside.numbers in
    let t = c.args.text.now in
    let few : length ns < 2 ^ 30 = omega arith in
    rw (c.in-Err-Twice.ensures.unchanged, c.in_ok-push-in-Err-Twice.ensures.ok)
    (again_index d f ns t c.in-Err-Twice.number c.self.invariant (rw c.in-Err-Twice.field-0-is at c.in-Err-Twice.ensures.twice) few)

pub returns-in_ok-push-in-Ok-2-clause-index : goal.returns-in_ok-push-in-Ok-2-clause-index
returns-in_ok-push-in-Ok-2-clause-index c =
    let d = c.self.inside.different in
    let f = c.self.inside.firsts in
    let ns = c.self.inside.numbers in
    let t = c.args.text.now in
    let view : texts_of d ns ≡ c.args.self = cc c.self.view_is in
    ap₂ texts_of c.in-Ok.ensures.appended (c.in_ok-push-in-Ok-2.ensures.ok ∙ ap (λ n. ns ++ n ∷ []) c.in-Ok.ensures.number)
    ∙ fresh_view d f ns t c.self.invariant ∙ ap (λ l. l ++ t ∷ []) view

pub returns-in_ok-push-in-Ok-2-clause-stood : goal.returns-in_ok-push-in-Ok-2-clause-stood
returns-in_ok-push-in-Ok-2-clause-stood c =
    let d = c.self.inside.different in
    let f = c.self.inside.firsts in
    let ns = c.self.inside.numbers in
    let t = c.args.text.now in
    let view : texts_of d ns ≡ c.args.self = cc c.self.view_is in
    fresh_stood d f ns t c.self.invariant c.in-Ok.ensures.twice ∙ ap (λ l. stands_in l t) view

pub returns-in_ok-push-in-Err-Twice-clause-index : goal.returns-in_ok-push-in-Err-Twice-clause-index
returns-in_ok-push-in-Err-Twice-clause-index c =
    let d = c.self.inside.different in
    let ns = c.self.inside.numbers in
    let t = c.args.text.now in
    let view : texts_of d ns ≡ c.args.self = cc c.self.view_is in
    ap₂ texts_of c.in-Err-Twice.ensures.unchanged c.in_ok-push-in-Err-Twice.ensures.ok
    ∙ again_view d ns t c.in-Err-Twice.number (rw c.in-Err-Twice.field-0-is at c.in-Err-Twice.ensures.twice) ∙ ap (λ l. l ++ t ∷ []) view

pub returns-in_ok-push-in-Err-Twice-clause-stood : goal.returns-in_ok-push-in-Err-Twice-clause-stood
returns-in_ok-push-in-Err-Twice-clause-stood c =
    let d = c.self.inside.different in
    let f = c.self.inside.firsts in
    let ns = c.self.inside.numbers in
    let t = c.args.text.now in
    let view : texts_of d ns ≡ c.args.self = cc c.self.view_is in
    again_stood d f ns t c.in-Err-Twice.number c.self.invariant (rw c.in-Err-Twice.field-0-is at c.in-Err-Twice.ensures.twice) ∙ ap (λ l. stands_in l t) view
