use Rattle.std.proofs.Common.{◌∙◌, sym, ap, [], ◌∷◌}
use Rattle.mir_syntax.specs.declared.body.Rvalue.{Rvalue}
use Rattle.mir_syntax.specs.declared.body.Proj.TheVariants.{Field}
use Rattle.mir_syntax.specs.Crate.{rvalue_of}
use Rattle.const_flow.specs.Facts.{value_known}
use Rattle.const_flow.specs.Sights.{text_in, trees_in, facts_in}
use Rattle.const_flow.proofs.sight.Sight.pair.Goals as goal

pub returns-in-Overflow-clause-first : goal.returns-in-Overflow-clause-first
unfolding value_known
returns-in-Overflow-clause-first c =
    c.overflow.ensures.wrapped ∙ sym (ap (λ (x : Rvalue). value_known (text_in c.args.self) (facts_in c.args.self c.args.cells.now) (rvalue_of (trees_in c.args.self) x) (Field 0 ∷ [])) c.in-Overflow.is)

pub returns-in-Overflow-clause-second : goal.returns-in-Overflow-clause-second
unfolding value_known
returns-in-Overflow-clause-second c =
    c.overflow.ensures.over ∙ sym (ap (λ (x : Rvalue). value_known (text_in c.args.self) (facts_in c.args.self c.args.cells.now) (rvalue_of (trees_in c.args.self) x) (Field 1 ∷ [])) c.in-Overflow.is)
