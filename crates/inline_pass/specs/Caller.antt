-- A body of which calls are replaced, as the code holds it.
use Rattle.std.specs.Prelude.{◌≡◌, ◌<◌, ◌^◌, length, sum_by}
use Rattle.mir_syntax.specs.declared.program.Program.{Program}
use Rattle.mir_syntax.specs.Ids.{BodyInTable}
use Rattle.mir_syntax.specs.Tree.{trees_of}
use Rattle.mir_syntax.specs.Crate.{body_of}
use Rattle.inline_pass.specs.declared.splice.Caller.{Caller}
use Rattle.inline_pass.specs.Spliced.{stmts_in}
use Rattle.inline_pass.specs.Code.{capped}

-- its statements are counted, its ids lie in the table, and its numbers have room
pub record IsCaller (p : Program) (c : Caller) : Type 0 where
  pub counted : c.stmts ≡ capped (sum_by stmts_in (body_of (trees_of p.types) c.body).blocks)
  pub in_table : BodyInTable p.types c.body
  pub few_blocks : length c.body.blocks < 2 ^ 30
  pub few_locals : length c.body.locals < 2 ^ 30
