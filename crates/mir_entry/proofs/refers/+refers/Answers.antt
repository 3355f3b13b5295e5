use Rattle.std.proofs.Common.{◌∙◌, ◌-◌, sym, ap, map, arith}
use Rattle.mir_syntax.specs.Tree.{trees_of}
use Rattle.mir_syntax.specs.Crate.{variant_of}
use Rattle.mir_syntax.specs.Shapes.{fields_tuple}
use Rattle.mir_semantics.specs.Entry.{refers_def, any_refers}
use Rattle.mir_meaning.specs.Programs.{shapes_in}
use Rattle.mir_syntax.proofs.Lists.{id_below}
use Rattle.mir_entry.proofs.Referring.{refers_at, refers_past}
use Rattle.mir_entry.proofs.refers.+refers.Goals as goal

pub types_refer-refers_within-requires : goal.types_refer-refers_within-requires
types_refer-refers_within-requires t c =
    (omega (arith, c.decreases, c.loop-id-test.true, id_below c.args.bound c.args.ids.now c.loop-id.id-index (record { 0 = 0 }) c.requires c.loop-id-test.true), tt)

pub def_refers-returns-in-Some : goal.def_refers-returns-in-Some
def_refers-returns-in-Some t c = c.variants_refer.ensures ∙ ap (λ vs. any_refers (refers_def (shapes_in c.args.program.now) (c.args.depth - 1)) (map fields_tuple (map (variant_of (trees_of c.args.program.now.types)) vs))) c.as_slice.ensures ∙ refers_at c.args.program.now c.args.depth c.args.def c.in-Some.def.now c.if-depth-eq0.false (sym c.in-Some.ensures)

pub def_refers-returns-in-None : goal.def_refers-returns-in-None
def_refers-returns-in-None t c = refers_past c.args.program.now c.args.depth c.args.def (sym c.in-None.ensures)
