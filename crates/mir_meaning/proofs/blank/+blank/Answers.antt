use Rattle.std.proofs.Common.{map, arith}
use Rattle.mir_syntax.specs.Tree.{trees_of}
use Rattle.mir_semantics.specs.Values.{blank_def}
use Rattle.mir_meaning.specs.Programs.{shapes_in}
use Rattle.mir_meaning.specs.Views.{value_of}
use Rattle.mir_syntax.proofs.Lists.{id_below}
use Rattle.mir_meaning.proofs.Blanks.{made_ids, made_fields}
use Rattle.mir_meaning.proofs.blank.+blank.Goals as goal

pub tuple_blank-blank_within-requires : goal.tuple_blank-blank_within-requires
tuple_blank-blank_within-requires t c =
    (omega (arith, c.decreases, c.loop-part-test.true, id_below c.args.bound c.args.ids.now c.loop-part.part-index (record { 0 = 0 }) c.requires.below c.loop-part-test.true), c.requires.knows)

pub tuple_blank-returns : goal.tuple_blank-returns
tuple_blank-returns t c =
    made_ids (blank_def (shapes_in c.args.program.now) c.args.depth) (trees_of c.args.program.now.types) c.args.ids.now c.loop-part.part-index (map value_of c.loop-part.parts) c.loop-part.invariant (omega (arith, c.loop-part-test.false))

pub fields_blank-blank_within-requires : goal.fields_blank-blank_within-requires
fields_blank-blank_within-requires t c = (omega (arith, c.decreases), c.requires)

pub fields_blank-returns : goal.fields_blank-returns
fields_blank-returns t c =
    made_fields (blank_def (shapes_in c.args.program.now) c.args.depth) (trees_of c.args.program.now.types) c.args.fields.now c.loop-field.field-index (map value_of c.loop-field.parts) c.loop-field.invariant (omega (arith, c.loop-field-test.false))
