use Rattle.std.proofs.Common.{sym, ◌∙◌}
use Rattle.mir_syntax.specs.Tree.{trees_of, at_id}
use Rattle.drop_tables.proofs.HeadersOf.{scalar_or_unit}
use Rattle.drop_tables.proofs.header.is_scalar_or_unit.Goals as goal

pub returns-then-is_scalar : goal.returns-then-is_scalar
returns-then-is_scalar c =
    rw (scalar_or_unit (at_id (trees_of c.args.program.now.types) c.args.id), sym c.is_scalar.ensures ∙ c.if-is_scalar.true) c.if-is_scalar.true

pub returns-else-is_scalar : goal.returns-else-is_scalar
returns-else-is_scalar c =
    rw (scalar_or_unit (at_id (trees_of c.args.program.now.types) c.args.id), sym c.is_scalar.ensures ∙ c.if-is_scalar.false) c.is_unit.ensures
