use Rattle.std.proofs.Common.{length, sym, ap, subst, ◌∙◌}
use Rattle.mir_syntax.specs.Tree.{named}
use Rattle.mir_syntax.specs.Crate.{crate_of}
use Rattle.mir_syntax.specs.Shapes.{shapes_of}
use Rattle.type_sizes.specs.declared.measure.Measure.TheVariants.{Nodes, Units}
use Rattle.type_sizes.specs.UpTo.{Tells}
use Rattle.type_sizes.specs.Measures.{told, level}
use Rattle.type_sizes.proofs.Large.{large}
use Rattle.type_sizes.proofs.weights.is_large_def.Goals as goal

pub returns : goal.returns
returns c =
    let p = c.args.program.now in
    let d = c.args.def in
    let D = shapes_of (crate_of p) in
    let n = level D Nodes (length p.defs) d in
    let u = level D Units (length p.defs) d in
    let nodes : Tells 1025 c.told-nodes.result n = subst (λ v. Tells 1025 v n) (sym (c.told-nodes.ensures ∙ ap (λ l. told Nodes l d) c.as_slice.ensures)) (c.requires.sized.nodes.defs d) in
    let units : Tells 17 c.told-units.result u = subst (λ v. Tells 17 v u) (sym (c.told-units.ensures ∙ ap (λ l. told Units l d) c.as_slice-2.ensures)) (c.requires.sized.units.defs d) in
    c.is_large.ensures n u nodes units ∙ large p (named d) c.told-nodes.result c.told-units.result nodes units
