use Rattle.std.proofs.Common.{◌∙◌, sym, ap, not}
use Rattle.mir_syntax.specs.Tree.{trees_of}
use Rattle.mir_semantics.specs.Values.{full_def}
use Rattle.mir_meaning.specs.Programs.{shapes_in, type_in}
use Rattle.mir_meaning.specs.Views.{part_of}
use Rattle.mir_meaning.proofs.Fulls.{no_ids, no_fields, full_unit}
use Rattle.mir_meaning.proofs.full.+full.Goals as goal

pub def_full-returns-in_default : goal.def_full-returns-in_default
def_full-returns-in_default t c =
    ap not c.is_hole.ensures ∙ full_unit (shapes_in c.args.program.now) c.args.depth c.args.def (type_in c.args.program.now c.args.id) (part_of c.args.part) c.if-depth-eq0.false c.requires.named (sym c.needs_drop.ensures ∙ c.if-not-needs_drop.false) c.in_default.ensures

pub struct_full-returns-in_default : goal.struct_full-returns-in_default
struct_full-returns-in_default t c = no_fields (full_def (shapes_in c.args.program.now) c.args.depth) (trees_of c.args.program.now.types) c.args.fields.now (part_of c.args.part) c.is_empty.result c.is_empty.ensures c.if-is_empty.false c.in_default.ensures

pub tuple_full-returns-in_default : goal.tuple_full-returns-in_default
tuple_full-returns-in_default t c = no_ids (full_def (shapes_in c.args.program.now) c.args.depth) (trees_of c.args.program.now.types) c.args.ids.now (part_of c.args.part) c.is_empty.result c.is_empty.ensures c.if-is_empty.false c.in_default.ensures
