use Rattle.std.proofs.Common.{◌∙◌}
use Rattle.const_rewrite.specs.Points.{here, trees_in}
use Rattle.const_rewrite.proofs.equal.Found.{value_binary}
use Rattle.const_rewrite.proofs.point.Text.value.Goals as goal

pub returns-in-Binary : goal.returns-in-Binary
returns-in-Binary c = c.number.ensures ∙ value_binary (trees_in c.args.self) (here c.args.self) c.args.facts.now c.args.rvalue.now _ _ _ c.binary_result-ty.result c.in-Binary.is c.binary_result-ty.ensures
