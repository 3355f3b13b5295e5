use Rattle.std.proofs.Common.{◌≡◌, ◌&&◌, sym, ap, ◌∙◌, List, nat_lt}
use Rattle.std.specs.List.{list_all}
use Rattle.mir_syntax.specs.declared.body.Arm.{Arm}
use Rattle.mir_syntax.specs.declared.body.Term.{Term}
use Rattle.mir_syntax.specs.Parts.{targets}
use Rattle.flow_rows.specs.Ready.{are_below, arm_fits}
use Rattle.flow_rows.proofs.Fits.{arms_below}
use Rattle.flow_rows.proofs.ready.edges_fit.Goals as goal

pub returns-in-Switch : goal.returns-in-Switch
returns-in-Switch c =
    let n = c.args.blocks in
    let other = c.in-Switch.other in
    ap (λ b. b && nat_lt other n) (c.arms_fit.ensures ∙ ap (λ (arms : List Arm). list_all (arm_fits n) arms) c.as_slice.ensures)
    ∙ arms_below n c.in-Switch.arms other
    ∙ ap (λ (t : Term). are_below n (targets t)) (sym c.in-Switch.is)
