use Rattle.std.proofs.Common.{◌∙◌, sym, ap}
use Rattle.mir_syntax.specs.declared.body.Rvalue.{Rvalue}
use Rattle.mir_syntax.specs.Crate.{rvalue_of}
use Rattle.const_flow.specs.Facts.{value_known}
use Rattle.const_flow.specs.Sights.{text_in, trees_in, facts_in}
use Rattle.const_flow.proofs.Valued.{no_part}
use Rattle.const_flow.proofs.sight.Sight.value.Goals as goal

pub returns-in-Use : goal.returns-in-Use
unfolding value_known
returns-in-Use c = c.part_known.ensures ∙ sym (ap (λ (x : Rvalue). value_known (text_in c.args.self) (facts_in c.args.self c.args.cells.now) (rvalue_of (trees_in c.args.self) x) c.args.way.now) c.in-Use.is)

pub returns-in_default-2 : goal.returns-in_default-2
returns-in_default-2 c =
    no_part (text_in c.args.self) (facts_in c.args.self c.args.cells.now) (trees_in c.args.self) c.args.rvalue.now c.args.way.now (sym c.is_empty.ensures ∙ c.if-is_empty.false)
    c.in_default-2.not-Use c.in_default-2.not-Tuple c.in_default-2.not-Build c.in_default-2.not-Overflow
