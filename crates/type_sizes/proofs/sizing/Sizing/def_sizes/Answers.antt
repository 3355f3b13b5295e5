use Rattle.std.proofs.Common.{◌≡◌, List, ℕ, ◌+◌, ◌<◌, ◌≤◌, Some, None, Option, length, map, refl, slice_get, sym, ap, ap₂, subst, ◌∙◌, arith}
use Rattle.std.proofs.lemmas.Option.{slice_get_read, slice_get_within}
use Rattle.std.proofs.lemmas.List.{length-append}
use Rattle.mir_syntax.specs.declared.types.Def.{Def}
use Rattle.mir_syntax.specs.declared.program.Program.{Program}
use Rattle.type_sizes.specs.declared.measure.Measure.{Measure}
use Rattle.mir_syntax.specs.Tree.{named, trees_of}
use Rattle.mir_syntax.specs.Crate.{crate_of, variant_of}
use Rattle.mir_syntax.specs.Shapes.{shapes_of, fields_tuple, needs_drop}
use Rattle.mir_syntax.proofs.Places.{shape-at, shape-past}
use Rattle.mir_syntax.proofs.Lists.{slice_get-none}
use Rattle.drop_tables.specs.Marks.{own_of}
use Rattle.type_sizes.specs.UpTo.{Tells}
use Rattle.type_sizes.specs.Measures.{most, told, whole, shape_size, with_destructor, Told, TypesTold}
use Rattle.type_sizes.proofs.Told.{bounded_more, one_more, told_past, leaf_told}
use Rattle.type_sizes.proofs.sizing.Sizing.def_sizes.Goals as goal

pub loop-at-preserved : goal.loop-at-preserved
loop-at-preserved c =
    let p = c.args.self.now.program.now in
    let m = c.args.self.now.measure in
    let D = shapes_of (crate_of p) in
    let at = c.loop-at.at in
    let def = c.index-all-at.result in
    let all = c.as_slice-all.result.now in
    let inside : at < length all = omega arith in
    let there : slice_get p.defs at ≡ Some def = ap (λ l. slice_get l at) (sym c.as_slice-all.ensures) ∙ slice_get_read all (length all) at def refl inside c.index-all-at.is in
    let shape = shape-at p at def there in
    let variants = map fields_tuple (map (variant_of (trees_of p.types)) def.variants) in
    let size : (g : ℕ → ℕ) → Told m c.args.defs.now g → Tells (most m) c.def_size.result (whole D m g (needs_drop D (named at)) (slice_get D at)) =
    λ g t.
    let known : TypesTold D (trees_of p.types) m c.as_slice.result.now g = rw c.as_slice.ensures (c.in_ok-known.ensures.tells g t) in
    let is : whole D m g (needs_drop D (named at)) (slice_get D at) ≡ with_destructor m c.is_marked-has.result (shape_size D m g c.is_marked-needs.result def.is_enum variants) =
    ap (whole D m g (needs_drop D (named at))) shape
    ∙ ap₂ (λ a b. with_destructor m a (shape_size D m g b def.is_enum variants)) (sym (c.is_marked-has.ensures ∙ (c.requires.has_is at ∙ ap own_of shape))) (sym (c.is_marked-needs.ensures ∙ c.requires.needs_is at)) in
    subst (λ n. Tells (most m) c.def_size.result n) (sym is) (c.def_size.ensures.tells g known) in
    let long : length c.push.new.self ≡ at + 1 = ap length c.in_ok-push.ensures.ok ∙ (length-append c.loop-at.sizes _ ∙ ap (λ n. n + 1) c.loop-at.invariant.0) in (
      long,
      λ k. subst (λ l. told m l k ≤ most m) (sym c.in_ok-push.ensures.ok) (bounded_more m c.loop-at.sizes c.def_size.result c.loop-at.invariant.1 c.def_size.ensures.bounded k),
      λ g t. one_more m c.loop-at.sizes c.push.new.self at c.def_size.result c.in_ok-push.ensures.ok c.loop-at.invariant.0 (λ d. whole D m g (needs_drop D (named d)) (slice_get D d)) (c.loop-at.invariant.2 g t) (size g t),
    )

pub returns-clause-tells : goal.returns-clause-tells
returns-clause-tells c = λ g t d.
    let p = c.args.self.now.program.now in
    let m = c.args.self.now.measure in
    let D = shapes_of (crate_of p) in
    let same = ap length c.as_slice-all.ensures in
    let long : length c.loop-at.sizes ≡ length p.defs = omega (arith, c.loop-at.invariant.0, same) in
    let inside = c.loop-at.invariant.2 g t d in
    go p m g c.loop-at.sizes d (slice_get p.defs d) refl long (λ h. inside (omega (arith, long, c.loop-at.invariant.0, h)))
  where
    go : (p : Program) (m : Measure) (g : ℕ → ℕ) (sizes : List ℕ) (d : ℕ) (o : Option Def) → slice_get p.defs d ≡ o → length sizes ≡ length p.defs
        → (d < length p.defs → Tells (most m) (told m sizes d) (whole (shapes_of (crate_of p)) m g (needs_drop (shapes_of (crate_of p)) (named d)) (slice_get (shapes_of (crate_of p)) d)))
        → Tells (most m) (told m sizes d) (whole (shapes_of (crate_of p)) m g (needs_drop (shapes_of (crate_of p)) (named d)) (slice_get (shapes_of (crate_of p)) d))
    go p m g sizes d None e long inside =
        rw (shape-past p d e, told_past m sizes d (omega (arith, long, slice_get-none p.defs d e))) (leaf_told m)
    go p m g sizes d (Some def) e long inside = inside (slice_get_within p.defs d def e)
