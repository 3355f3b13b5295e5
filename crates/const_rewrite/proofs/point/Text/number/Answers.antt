use Rattle.std.proofs.Common.{◌∙◌, ap, []}
use Rattle.std.specs.Option.{option_map}
use Rattle.mir_syntax.specs.Crate.{rvalue_of}
use Rattle.const_flow.specs.Facts.{value_known}
use Rattle.const_rewrite.specs.Points.{here, trees_in, literal_told, number_value}
use Rattle.const_rewrite.proofs.equal.Found.{told_literal}
use Rattle.const_rewrite.proofs.point.Text.number.Goals as goal

pub returns : goal.returns
returns c = c.number_or_operands.ensures ∙ ap number_value (c.literal_of.ensures ∙ ap (literal_told c.args.ty) c.scalar-known.ensures ∙ told_literal c.args.ty (option_map (λ fs. value_known (here c.args.self) fs (rvalue_of (trees_in c.args.self) c.args.rvalue.now) []) c.args.facts.now))
