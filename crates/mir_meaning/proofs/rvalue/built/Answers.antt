use Rattle.std.proofs.Common.{◌∙◌, sym}
use Rattle.mir_meaning.specs.Views.{fields_of}
use Rattle.mir_meaning.proofs.Values.{view_parts, view_variant, view_hole}
use Rattle.mir_meaning.proofs.Evals.{built_nothing, built_enum, built_struct}
use Rattle.mir_meaning.proofs.rvalue.built.Goals as goal

pub returns-in_default : goal.returns-in_default
returns-in_default c = view_hole ∙ built_nothing c.args.program.now c.args.def c.args.variant (fields_of c.args.fields) (sym c.in_default.ensures)

pub returns-then-def : goal.returns-then-def
returns-then-def c = view_variant c.args.variant c.args.fields ∙ built_enum c.args.program.now c.args.def c.args.variant (fields_of c.args.fields) c.in-Some.def.now (sym c.in-Some.ensures) c.if-def.true

pub returns-else-def : goal.returns-else-def
returns-else-def c = view_parts c.args.fields ∙ built_struct c.args.program.now c.args.def c.args.variant (fields_of c.args.fields) c.in-Some.def.now (sym c.in-Some.ensures) c.if-def.false
