use Rattle.std.proofs.Common.{◌<◌, length, refl, ap, ◌∙◌, arith}
use Rattle.std.proofs.lemmas.Option.{slice_get_read}
use Rattle.query_table.proofs.slots.Slots.show.Goals as goal

pub returns : goal.returns
returns g c =
    let s = c.self.inside in
    let q = c.args.q in
    let lt = c.requires in
    let same = ap (λ j. (g.J.Jobs.plan j).queries) c.self.view_is in
    let len = c.self.invariant.0 in
    let ok = s.slots.ok.0 in
    let lt' : q < length s.slots.items = omega arith in
    let i = c.self.invariant.1 q c.index.result.now (slice_get_read s.slots.items (length s.slots.items) q c.index.result.now refl lt' c.index.ensures) in
    (ap (λ t. t.query) c.show.ensures ∙ i.0, ap (λ t. t.jobs.value) c.show.ensures ∙ (i.1 ∙ c.self.view_is))
