use Rattle.std.proofs.Common.{◌∙◌, ap, ap₂, Some, [], ◌∷◌}
use Rattle.mir_syntax.specs.declared.types.ScalarTy.TheVariants as scalar_ty
use Rattle.std.specs.Option.{option_map}
use Rattle.mir_syntax.specs.declared.body.Proj.TheVariants.{Field}
use Rattle.mir_syntax.specs.Crate.{rvalue_of}
use Rattle.const_flow.specs.Facts.{value_known}
use Rattle.const_rewrite.specs.Points.{here, trees_in, literal_told, pair_value}
use Rattle.const_rewrite.proofs.equal.Found.{told_literal}
use Rattle.const_rewrite.proofs.point.Text.pair.Goals as goal

pub returns : goal.returns
returns c =
    c.pair_or_operands.ensures
    ∙ ap₂ pair_value (c.literal_of.ensures ∙ ap (literal_told c.args.ty) c.pair-bits.ensures.first ∙ told_literal c.args.ty (option_map (λ fs. value_known (here c.args.self) fs (rvalue_of (trees_in c.args.self) c.args.rvalue.now) (Field 0 ∷ [])) c.args.facts.now))
    (c.literal_of-2.ensures ∙ ap (literal_told (Some scalar_ty.Bool)) c.pair-bits.ensures.second ∙ told_literal (Some scalar_ty.Bool) (option_map (λ fs. value_known (here c.args.self) fs (rvalue_of (trees_in c.args.self) c.args.rvalue.now) (Field 1 ∷ [])) c.args.facts.now))
