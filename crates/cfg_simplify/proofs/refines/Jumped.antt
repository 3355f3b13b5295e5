-- A crate of which one body has the same statements under other jumps refines it: over the layer.
use Rattle.std.proofs.Common.{◌≡◌, refl, ap, ℕ, suc, take, Some, slice_get}
use Rattle.mir_syntax.specs.Crate.{TypedBody, TypedFunction, Crate}
use Rattle.mir_rules.specs.Valid.{Valid, with_body, at_function}
use Rattle.mir_rules.proofs.Bodies.{Alike}
use Rattle.mir_rules.proofs.Fixed.{apart_in}
use Rattle.mir_semantics.specs.Step.{code_of}
use Rattle.mir_semantics.specs.Refines.{Refines}
use Rattle.cfg_simplify.proofs.refines.Jumps.{BodyJumps}
use Rattle.valid_runs.proofs.Codes.{valid_code}
use Rattle.valid_runs.proofs.Shown.{step_flat, step_known}
use Rattle.mir_relate.proofs.Replaced.{change, valids, Runs, replaced}
use Rattle.mir_relate.proofs.Mirror.{Positions, pass}
use Rattle.mir_relate.proofs.MirrorSteps.{laws}
use Rattle.cfg_simplify.proofs.refines.Mirrored.{mirrors}

pub jumped_refines : (C : Crate) → Valid C → (f : ℕ) (g : TypedFunction) → slice_get C.functions f ≡ Some g → (b : TypedBody) → b.args ≡ g.body.args → b.locals ≡ g.body.locals → (Place : Positions) → BodyJumps b g.body Place → Valid (at_function C f g b) → Refines (at_function C f g b) C
jumped_refines C valid f g there b args locals Place jumps valid2 =
    let alike : Alike (with_body g b) g = record { is_drop = refl; args = args; start = ap (λ ts. take (suc g.body.args) ts) locals } in
    let X = change C valid f g there b alike valid2 in
    let V = valids C valid f g there b alike valid2 in
    let apart = apart_in C valid in
    replaced C valid f g there b alike valid2 (pass X Some Place)
    (laws (mirrors X locals Place jumps) V (Runs C valid f g there b alike valid2) (step_known (code_of C) apart (valid_code C valid)) (λ s x i e. step_flat (code_of C) apart (valid_code C valid) s x i e))
