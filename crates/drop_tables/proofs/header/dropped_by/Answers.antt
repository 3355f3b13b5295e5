use Rattle.std.proofs.Common.{◌≡◌, sym, arith, ◌∙◌}
use Rattle.mir_syntax.specs.Tree.{trees_of}
use Rattle.mir_syntax.proofs.InTable.{local-in-table}
use Rattle.drop_tables.proofs.HeadersOf.{unit_header, other_header}
use Rattle.drop_tables.proofs.header.dropped_by.Goals as goal

pub is_unit-requires : goal.is_unit-requires
is_unit-requires c = record {
  in_table = local-in-table c.args.program.now.types c.args.body.now 0 c.in_ok-first.first.now c.requires.in_table (sym c.in_ok-first.ensures);
}

pub referred_definition-requires : goal.referred_definition-requires
referred_definition-requires c = record {
  in_table = local-in-table c.args.program.now.types c.args.body.now 1 c.in_ok-arg.arg.now c.requires.in_table (sym c.in_ok-arg.ensures);
}

pub returns-then-is_unit : goal.returns-then-is_unit
returns-then-is_unit c =
    let trees = trees_of c.args.program.now.types in
    let one : c.args.body.now.args ≡ 1 = omega arith in
    rw one (c.referred_definition.ensures ∙ unit_header trees c.args.body.now.locals c.in_ok-first.first.now c.in_ok-arg.arg.now c.in_ok-first.ensures c.in_ok-arg.ensures (sym c.is_unit.ensures ∙ c.if-is_unit.true))

pub returns-else-is_unit : goal.returns-else-is_unit
returns-else-is_unit c =
    let trees = trees_of c.args.program.now.types in
    let one : c.args.body.now.args ≡ 1 = omega arith in
    rw one (other_header trees c.args.body.now.locals c.in_ok-first.first.now c.in_ok-first.ensures (sym c.is_unit.ensures ∙ c.if-is_unit.false))
