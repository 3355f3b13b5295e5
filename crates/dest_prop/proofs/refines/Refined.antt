-- A crate with a merged body refines the crate.
use Rattle.std.proofs.Common.{◌≡◌, refl, subst, ℕ, Some, slice_get}
use Rattle.std.proofs.lemmas.List.{set-set}
use Rattle.mir_syntax.specs.Crate.{TypedBody, TypedFunction, Crate}
use Rattle.mir_syntax.specs.Shapes.{shapes_of}
use Rattle.mir_rules.specs.Drops.{NoDrops}
use Rattle.mir_rules.specs.Valid.{Valid, with_body, at_function, ValidAt}
use Rattle.mir_rules.proofs.Fixed.{apart_in}
use Rattle.mir_rules.proofs.ValidCrates.{holds_body}
use Rattle.mir_semantics.specs.Step.{code_of}
use Rattle.mir_semantics.specs.Refines.{Refines}
use Rattle.valid_runs.proofs.Codes.{valid_code}
use Rattle.valid_runs.proofs.Shown.{step_flat, step_known}
use Rattle.mir_relate.proofs.Replaced.{change, valids, Runs, replaced}
use Rattle.dest_prop.specs.Merged.{merged}
use Rattle.dest_prop.proofs.valid.Stays.{alike, merged_valid}
use Rattle.dest_prop.proofs.refines.Frames.{pass}
use Rattle.dest_prop.proofs.refines.Steps.{laws}

pub of_a_crate : (C : Crate) → Valid C → (f : ℕ) (g : TypedFunction) → slice_get C.functions f ≡ Some g → NoDrops g.body → Refines (at_function C f g (merged (shapes_of C) g.body)) C
unfolding merged
of_a_crate C valid f g there no_drops =
    let b2 = merged (shapes_of C) g.body in
    let same = alike (shapes_of C) g in
    let valid2 = merged_valid C valid f g there in
    let X = change C valid f g there b2 same valid2 in
    let V = valids C valid f g there b2 same valid2 in
    let I = Runs C valid f g there b2 same valid2 in
    let apart = apart_in C valid in
    replaced C valid f g there b2 same valid2 (pass X refl)
    (laws X refl no_drops V I (step_known (code_of C) apart (valid_code C valid), λ s x i e. step_flat (code_of C) apart (valid_code C valid) s x i e))

pub in_its_place : (C : Crate) (f : ℕ) (b : TypedBody) (v : ValidAt C f b) → NoDrops b → Refines (at_function C f v.function (merged (shapes_of (at_function C f v.function b)) b)) (at_function C f v.function b)
in_its_place C f b v n =
    let C2 = at_function C f v.function b in
    subst (λ fs. Refines (record C { functions = fs }) C2) (set-set C.functions f (with_body v.function b) (with_body v.function (merged (shapes_of C2) b)))
    (of_a_crate C2 v.valid f (with_body v.function b) (holds_body C f b v) n)
