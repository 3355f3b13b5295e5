use Rattle.std.proofs.Common.{◌≡◌, ◌∙◌, ap, slice_get}
use Rattle.mir_text.specs.Words.{place_in}
use Rattle.mir_resolve.specs.Index.{texts_of}
use Rattle.mir_resolve.proofs.FirstPlaces.{find_some, find_none}
use Rattle.mir_resolve.proofs.index.PathIndex.find.Goals as goal

pub returns-in-Some : goal.returns-in-Some
returns-in-Some c =
    let d = c.self.inside.different in
    let f = c.self.inside.firsts in
    let ns = c.self.inside.numbers in
    let t = c.args.text.now in
    let view : texts_of d ns ≡ c.args.self.now = cc c.self.view_is in
    c.first_of.ensures ∙ ap (λ l. slice_get l c.in-Some.number) c.as_slice.ensures ∙ find_some d f ns t c.in-Some.number c.self.invariant c.in-Some.ensures.place ∙ ap (λ l. place_in l t) view

pub returns-in-None : goal.returns-in-None
returns-in-None c =
    let d = c.self.inside.different in
    let f = c.self.inside.firsts in
    let ns = c.self.inside.numbers in
    let t = c.args.text.now in
    let view : texts_of d ns ≡ c.args.self.now = cc c.self.view_is in
    find_none d f ns t c.self.invariant c.in-None.ensures.place ∙ ap (λ l. place_in l t) view
