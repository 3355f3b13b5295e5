use Rattle.std.proofs.Common.{refl, sym, ap, ◌∙◌}
use Rattle.mir_syntax.specs.Tree.{trees_of, node}
use Rattle.mir_syntax.specs.Crate.{crate_of}
use Rattle.mir_syntax.specs.Shapes.{shapes_of}
use Rattle.mir_syntax.proofs.Places.{other-variant, variant-none, variant-struct, variant-fields}
use Rattle.mir_syntax.proofs.InTable.{variant-in-table}
use Rattle.mir_syntax.proofs.program.Program.variant_fields.Goals as goal

pub returns-in_default-clause-fields : goal.returns-in_default-clause-fields
returns-in_default-clause-fields c =
    rw c.in_ok-def.ensures.stands (sym (other-variant (shapes_of (crate_of c.args.self.now)) (trees_of c.args.self.now.types) c.in_ok-def.field-0.now c.args.variant c.in_default.not-Named))

pub returns-in_err-def-2-clause-fields : goal.returns-in_err-def-2-clause-fields
returns-in_err-def-2-clause-fields c =
    rw (c.from_residual-in_err-def-2.ensures, (c.in_ok-def.ensures.stands ∙ ap (node (trees_of c.args.self.now.types)) c.in-Named.is)) (sym (variant-none c.args.self.now c.in-Named.def c.args.variant (sym c.in_err-def-2.ensures)))

pub returns-then-not-def-clause-fields : goal.returns-then-not-def-clause-fields
returns-then-not-def-clause-fields c =
    rw (c.in_ok-def.ensures.stands ∙ ap (node (trees_of c.args.self.now.types)) c.in-Named.is) (sym (variant-struct c.args.self.now c.in-Named.def c.args.variant c.in_ok-def-2.def.now (sym c.in_ok-def-2.ensures) c.if-not-def.true))

pub returns-in_err-variant-clause-fields : goal.returns-in_err-variant-clause-fields
returns-in_err-variant-clause-fields c =
    rw (c.from_residual-in_err-variant.ensures, (c.in_ok-def.ensures.stands ∙ ap (node (trees_of c.args.self.now.types)) c.in-Named.is), variant-fields c.args.self.now c.in-Named.def c.args.variant c.in_ok-def-2.def.now (sym c.in_ok-def-2.ensures) c.if-not-def.false, sym c.in_err-variant.ensures) refl

pub returns-clause-fields : goal.returns-clause-fields
returns-clause-fields c =
    rw (c.as_slice.ensures, (c.in_ok-def.ensures.stands ∙ ap (node (trees_of c.args.self.now.types)) c.in-Named.is), variant-fields c.args.self.now c.in-Named.def c.args.variant c.in_ok-def-2.def.now (sym c.in_ok-def-2.ensures) c.if-not-def.false, sym c.in_ok-variant.ensures) refl

pub returns-clause-in_table : goal.returns-clause-in_table
returns-clause-in_table c =
    λ h. rw c.as_slice.ensures (variant-in-table c.args.self.now c.in-Named.def c.args.variant c.in_ok-def-2.def.now c.in_ok-variant.variant.now h (sym c.in_ok-def-2.ensures) (sym c.in_ok-variant.ensures))
