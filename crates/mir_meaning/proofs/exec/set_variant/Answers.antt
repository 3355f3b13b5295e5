use Rattle.std.proofs.Common.{◌∙◌, sym, ap}
use Rattle.mir_meaning.specs.Programs.{type_in}
use Rattle.mir_meaning.specs.Spots.{spot_of}
use Rattle.mir_meaning.specs.Views.{memory_of, part_of}
use Rattle.mir_meaning.specs.Sight.{here_of}
use Rattle.mir_meaning.proofs.Values.{view_variant}
use Rattle.mir_semantics.specs.Values.{variant}
use Rattle.mir_meaning.proofs.Execs.{set_missed, set_untyped, set_nowhere, set_same, set_new}
use Rattle.mir_meaning.proofs.exec.set_variant.Goals as goal

pub returns-in_default : goal.returns-in_default
returns-in_default c = set_missed (here_of c.args.here) (memory_of c.args.memory.now) c.args.place.now c.args.variant c.in_default.ensures.place

pub returns-in_default-type_of : goal.returns-in_default-type_of
returns-in_default-type_of c = set_untyped (here_of c.args.here) (memory_of c.args.memory.now) c.args.place.now c.args.variant (spot_of c.in-Some.spot) (part_of c.in-Some.old) c.in-Some.ensures.place (sym c.in_default-type_of.ensures)

pub returns-in_default-variant_fields : goal.returns-in_default-variant_fields
returns-in_default-variant_fields c =
    set_nowhere (here_of c.args.here) (memory_of c.args.memory.now) c.args.place.now c.args.variant (spot_of c.in-Some.spot) (part_of c.in-Some.old) (type_in c.args.here.program.now c.in-Some-type_of.ty) c.in-Some.ensures.place (sym c.in-Some-type_of.ensures) (sym c.in_default-variant_fields.ensures.fields)

pub returns-then-is_variant : goal.returns-then-is_variant
returns-then-is_variant c =
    set_same (here_of c.args.here) (memory_of c.args.memory.now) c.args.place.now c.args.variant (spot_of c.in-Some.spot) (part_of c.in-Some.old) (type_in c.args.here.program.now c.in-Some-type_of.ty) _ c.is_variant.result c.in-Some.ensures.place (sym c.in-Some-type_of.ensures) (sym c.in-Some-variant_fields.ensures.fields) c.is_variant.ensures c.if-is_variant.true

pub returns : goal.returns
returns c =
    set_new (here_of c.args.here) (memory_of c.args.memory.now) (memory_of c.put_at.new.self) c.args.place.now c.args.variant (spot_of c.in-Some.spot) _ (part_of c.in-Some.old) _ (type_in c.args.here.program.now c.in-Some-type_of.ty) _ c.is_variant.result c.in-Some.ensures.place (sym c.in-Some-type_of.ensures) (sym c.in-Some-variant_fields.ensures.fields) c.is_variant.ensures c.if-is_variant.false
    c.in_ok-target.ensures (view_variant c.args.variant c.in_ok-blanks.blanks ∙ ap (variant c.args.variant) c.in_ok-blanks.ensures) c.put_at.ensures
