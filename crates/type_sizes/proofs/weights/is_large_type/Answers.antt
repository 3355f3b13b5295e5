use Rattle.std.proofs.Common.{length, sym, ap, subst, ◌∙◌, arith}
use Rattle.mir_syntax.specs.Tree.{at_id, trees_of}
use Rattle.mir_syntax.specs.Crate.{crate_of}
use Rattle.mir_syntax.specs.Shapes.{shapes_of}
use Rattle.type_sizes.specs.declared.measure.Measure.TheVariants.{Nodes, Units}
use Rattle.type_sizes.specs.UpTo.{Tells}
use Rattle.type_sizes.specs.Measures.{told, level, size_by}
use Rattle.type_sizes.proofs.Large.{large}
use Rattle.type_sizes.proofs.weights.is_large_type.Goals as goal

pub returns : goal.returns
returns c =
    let p = c.args.program.now in
    let s = c.requires.sized in
    let id = c.args.id in
    let t = at_id (trees_of p.types) id in
    let D = shapes_of (crate_of p) in
    let n = size_by D Nodes (level D Nodes (length p.defs)) t in
    let u = size_by D Units (level D Units (length p.defs)) t in
    let nodes : Tells 1025 c.told-nodes.result n = subst (λ v. Tells 1025 v n) (sym (c.told-nodes.ensures ∙ ap (λ l. told Nodes l id.0) c.as_slice.ensures)) (s.nodes.types id (omega (arith, s.nodes.long, c.requires.in_table))) in
    let units : Tells 17 c.told-units.result u = subst (λ v. Tells 17 v u) (sym (c.told-units.ensures ∙ ap (λ l. told Units l id.0) c.as_slice-2.ensures)) (s.units.types id (omega (arith, s.units.long, c.requires.in_table))) in
    c.is_large.ensures n u nodes units ∙ large p t c.told-nodes.result c.told-units.result nodes units
