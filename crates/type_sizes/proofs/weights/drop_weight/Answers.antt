use Rattle.std.proofs.Common.{◌≡◌, true, false, length, sym, ap, ap₂, subst, ◌∙◌, arith}
use Rattle.mir_syntax.specs.Tree.{at_id, trees_of}
use Rattle.mir_syntax.specs.Crate.{crate_of}
use Rattle.mir_syntax.specs.Shapes.{shapes_of, needs_drop}
use Rattle.mir_rules.specs.Weights.{counted, inside_by, inside_def, drop_weight}
use Rattle.type_sizes.specs.declared.measure.Measure.TheVariants.{Inside}
use Rattle.type_sizes.specs.UpTo.{Tells}
use Rattle.type_sizes.specs.Measures.{told, level, size_by}
use Rattle.type_sizes.proofs.Large.{inside}
use Rattle.type_sizes.proofs.weights.drop_weight.Goals as goal

pub returns-then-needs_drop : goal.returns-then-needs_drop
unfolding drop_weight
returns-then-needs_drop c =
    let p = c.args.program.now in
    let s = c.requires.sized in
    let id = c.args.id in
    let t = at_id (trees_of p.types) id in
    let D = shapes_of (crate_of p) in
    let n = size_by D Inside (level D Inside (length p.defs)) t in
    let found : Tells 10001 c.told-inside.result n =
    subst (λ v. Tells 10001 v n) (sym (c.told-inside.ensures ∙ ap (λ l. told Inside l id.0) c.as_slice.ensures)) (s.inside.types id (omega (arith, s.inside.long, c.requires.in_table))) in
    let needs : needs_drop D t ≡ true = sym c.needs_drop.ensures ∙ c.if-needs_drop.true in
    subst (λ k. Tells 10001 c.one_more.result k) (sym (ap₂ counted needs (sym (inside p t)))) (c.one_more.ensures n found)

pub returns-else-needs_drop : goal.returns-else-needs_drop
unfolding drop_weight
returns-else-needs_drop c =
    let p = c.args.program.now in
    let t = at_id (trees_of p.types) c.args.id in
    let D = shapes_of (crate_of p) in
    let needs : needs_drop D t ≡ false = sym c.needs_drop.ensures ∙ c.if-needs_drop.false in
    subst (λ k. Tells 10001 0 k) (sym (ap (λ b. counted b (inside_by D (inside_def D (length D)) t)) needs)) (record { bounded = omega arith; below = omega arith; exact = λ h. omega arith })
