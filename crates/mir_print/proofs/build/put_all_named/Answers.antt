use Rattle.std.proofs.Common.{map, arith}
use Rattle.mir_print.specs.Seen.{crate_in}
use Rattle.mir_syntax.specs.Tree.{at_id, trees_of}
use Rattle.mir_syntax.specs.Crate.{field_of}
use Rattle.mir_text.specs.StatementText.{named_text}
use Rattle.mir_print.proofs.Texts.{opened}
use Rattle.mir_print.proofs.build.put_all_named.Goals as goal

pub returns-in-len1-up : goal.returns-in-len1-up
returns-in-len1-up g c =
    opened (λ fs. named_text (crate_in c.args.program.now) (map (at_id (trees_of c.args.program.now.types)) c.args.locals.now) (map (field_of (trees_of c.args.program.now.types)) fs) c.args.operands.now)
    c.args.fields.now c.field-item.result (omega (arith, c.in-len1-up.len_at_least)) c.field-item.is c.put_some_named.ensures
