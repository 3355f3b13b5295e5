use Rattle.std.proofs.Common.{◌≡◌, ℕ, Bool, map, length, ap, ◌∙◌}
use Rattle.std.proofs.Math.Path.{fun_ext}
use Rattle.mir_syntax.specs.Tree.{trees_of}
use Rattle.mir_syntax.specs.Crate.{crate_of}
use Rattle.mir_syntax.specs.Shapes.{shapes_of, needs_def, needs_by, needs_drop}
use Rattle.drop_tables.specs.Marks.{is_marked}
use Rattle.drop_tables.proofs.facts.drop_facts.Goals as goal

pub returns-clause-needs : goal.returns-clause-needs
unfolding needs_drop
returns-clause-needs c =
    let p = c.args.program.now in
    let D = shapes_of (crate_of p) in
    let marks : is_marked c.as_slice.result.now ≡ needs_def D (length D) = fun_ext (λ d. ap (λ l. is_marked l d) c.as_slice.ensures ∙ c.in_ok-drops.ensures.needs d) in
    c.in_ok-needs_drop.ensures ∙ ap (λ (f : ℕ → Bool). map (needs_by f) (trees_of p.types)) marks
