-- A crate with a trimmed body refines the crate.
use Rattle.std.proofs.Common.{◌≡◌, refl, sym, ◌∙◌, subst, ℕ, Some, slice_get, arith}
use Rattle.std.proofs.lemmas.List.{set-set}
use Rattle.mir_syntax.specs.Crate.{TypedBody, TypedFunction, Crate}
use Rattle.mir_rules.specs.Valid.{Valid, with_body, at_function, ValidAt}
use Rattle.mir_rules.proofs.Bodies.{Alike}
use Rattle.mir_rules.proofs.Fixed.{apart_in}
use Rattle.mir_rules.proofs.ValidCrates.{body_formed_at, holds_body}
use Rattle.mir_semantics.specs.Step.{code_of}
use Rattle.mir_semantics.specs.Refines.{Refines}
use Rattle.valid_runs.proofs.Codes.{valid_code}
use Rattle.valid_runs.proofs.Shown.{step_flat, step_known}
use Rattle.mir_relate.proofs.Mirror.{pass}
use Rattle.mir_relate.proofs.MirrorSteps.{laws}
use Rattle.mir_relate.proofs.Replaced.{change, valids, Runs, replaced}
use Rattle.trim_locals.specs.Trimmed.{used_marks, trimmed}
use Rattle.trim_locals.proofs.Numbers.{ahead, ahead_behind}
use Rattle.trim_locals.proofs.Renumbered.{trimmed_same, start_stays}
use Rattle.trim_locals.proofs.valid.Stays.{trimmed_valid}
use Rattle.trim_locals.proofs.refines.Mirrored.{InBlock, mirrors}

pub trimmed_refines : (C : Crate) → Valid C → (f : ℕ) (g : TypedFunction) → slice_get C.functions f ≡ Some g → Refines (at_function C f g (trimmed g.body)) C
trimmed_refines C valid f g there =
    let formed = body_formed_at C valid f g there in
    let marks = used_marks g.body in
    let alike : Alike (with_body g (trimmed g.body)) g = record { is_drop = refl; args = refl; start = start_stays C g.body formed } in
    let valid2 = trimmed_valid C valid f g there in
    let once : (x x' y : ℕ) → ahead marks x ≡ Some y → ahead marks x' ≡ Some y → x ≡ x' = λ x x' y e e'. (let z : Some x ≡ Some x' = sym (ahead_behind marks x y e) ∙ ahead_behind marks x' y e' in grind arith) in
    let same = trimmed_same C g.body formed in
    let X = change C valid f g there (trimmed g.body) alike valid2 in
    let V = valids C valid f g there (trimmed g.body) alike valid2 in
    let apart = apart_in C valid in
    replaced C valid f g there (trimmed g.body) alike valid2 (pass X (ahead marks) (InBlock X (ahead marks) same))
    (laws (mirrors X (ahead marks) same once) V (Runs C valid f g there (trimmed g.body) alike valid2) (step_known (code_of C) apart (valid_code C valid)) (λ s x i e. step_flat (code_of C) apart (valid_code C valid) s x i e))

pub trimmed_refines_in_place : (C : Crate) (f : ℕ) (b : TypedBody) (v : ValidAt C f b) → Refines (at_function C f v.function (trimmed b)) (at_function C f v.function b)
trimmed_refines_in_place C f b v =
    let C2 = at_function C f v.function b in
    subst (λ fs. Refines (record C { functions = fs }) C2) (set-set C.functions f (with_body v.function b) (with_body v.function (trimmed b)))
    (trimmed_refines C2 v.valid f (with_body v.function b) (holds_body C f b v))
