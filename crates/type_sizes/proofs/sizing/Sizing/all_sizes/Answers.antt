use Rattle.std.proofs.Common.{◌≡◌, ◌≤◌, length, slice_get, sym, subst, ◌∙◌, arith}
use Rattle.mir_syntax.specs.Tree.{named}
use Rattle.mir_syntax.specs.Crate.{crate_of}
use Rattle.mir_syntax.specs.Shapes.{shapes_of, needs_drop}
use Rattle.type_sizes.specs.Measures.{whole, Told}
use Rattle.type_sizes.proofs.Told.{settled}
use Rattle.type_sizes.proofs.sizing.Sizing.all_sizes.Goals as goal

pub returns-then-same-clause-tells : goal.returns-then-same-clause-tells
returns-then-same-clause-tells c =
    let p = c.args.self.now.program.now in
    let m = c.args.self.now.measure in
    let D = shapes_of (crate_of p) in
    let sizes = c.loop-round.sizes in
    let same : c.in_ok-next.next ≡ sizes = sym c.as_slice-in-loop-round.ensures ∙ (c.same.ensures.0 c.if-same.true ∙ c.as_slice-in-loop-round-2.ensures) in
    let before : c.as_slice.result.now ≡ sizes = c.as_slice.ensures in
    let round : c.loop-round.round ≤ length p.defs = omega arith in
    settled D m sizes
    (λ g t. subst (λ l. Told m l (λ d. whole D m g (needs_drop D (named d)) (slice_get D d))) same (c.in_ok-next.ensures.tells g (subst (λ l. Told m l g) (sym before) t)))
    c.loop-round.round (length p.defs) round c.loop-round.invariant.1
