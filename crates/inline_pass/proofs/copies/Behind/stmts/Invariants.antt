use Rattle.std.proofs.Common.{◌≡◌, map, take}
use Rattle.trim_locals.specs.Code.{bare_renamed_stmt}
use Rattle.inline_pass.specs.Code.{shifted}
use Rattle.inline_pass.proofs.copies.Behind.stmts.Given as goal

abbrev pub invariant-loop-stmt : goal.invariant-loop-stmt
invariant-loop-stmt l = l.copies ≡ map (bare_renamed_stmt (shifted l.self.locals)) (take l.stmt-index l.stmts)
