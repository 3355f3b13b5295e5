use Rattle.std.proofs.Common.{◌-◌, ◌+◌, length, take, ap, sym, ◌∙◌}
use Rattle.mir_text.specs.Names.{string_at}
use Rattle.mir_bodies.proofs.Building.{single_none, last_built}
use Rattle.mir_bodies.proofs.build.variant_by_last.Goals as goal

pub returns-in_ok-built-in-Some : goal.returns-in_ok-built-in-Some
returns-in_ok-built-in-Some g c =
    let path = c.args.path.now in
    let whole = c.args.whole.now in
    last_built g.sense.names path.first path.rest c.in-Some.field-0-1.now c.in-Some.last.now whole c.without_last-front.result.now _
    (sym c.as_slice.ensures ∙ c.in-Some.ensures.cases.0) c.requires.1
    (c.without_last-front.ensures
    ∙ ap (λ l. take (length whole - (length l + 2)) whole) (c.string_of.ensures ∙ ap (λ s. string_at s c.in-Some.last.now) (sym c.requires.0.strings)))
    c.in_ok-built-in-Some.ensures

pub returns-in-None : goal.returns-in-None
returns-in-None g c =
    single_none g.sense.names c.args.path.now.first c.args.path.now.rest (ap length (sym c.as_slice.ensures) ∙ c.in-None.ensures.cases)
