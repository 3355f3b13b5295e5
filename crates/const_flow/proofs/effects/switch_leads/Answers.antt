use Rattle.std.proofs.Common.{◌∙◌, sym, ap}
use Rattle.const_flow.specs.Facts.{switch_to}
use Rattle.const_flow.specs.declared.cell.Cell.{Cell}
use Rattle.const_flow.proofs.Leading.{any_target}
use Rattle.const_flow.proofs.effects.switch_leads.Goals as goal

pub returns-in-Many : goal.returns-in-Many
returns-in-Many c = any_target c.args.arms.now c.args.other c.args.to c.requires ∙ sym (ap (λ (k : Cell). switch_to c.args.to k c.args.arms.now c.args.other) c.in-Many.is)
