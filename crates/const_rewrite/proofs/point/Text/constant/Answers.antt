use Rattle.std.proofs.Common.{◌∙◌, ap₂}
use Rattle.std.specs.Option.{option_map}
use Rattle.mir_semantics.specs.Step.{scalar_ty_of}
use Rattle.const_flow.specs.Facts.{known}
use Rattle.const_rewrite.specs.Points.{here, literal_told}
use Rattle.const_rewrite.proofs.equal.Found.{told_literal}
use Rattle.const_rewrite.proofs.point.Text.constant.Goals as goal

pub returns : goal.returns
returns c = c.literal_of.ensures ∙ ap₂ literal_told c.scalar_ty-ty.ensures c.operand.ensures ∙ told_literal (scalar_ty_of (here c.args.self) c.args.operand.now) (option_map (λ fs. known fs c.args.operand.now) c.args.facts.now)
