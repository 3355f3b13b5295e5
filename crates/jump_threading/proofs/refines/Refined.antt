-- A crate with a threaded body refines the crate.
use Rattle.std.proofs.Common.{◌≡◌, subst, ℕ, List, Some, slice_get}
use Rattle.std.proofs.lemmas.List.{set-set}
use Rattle.mir_syntax.specs.Crate.{TypedBody, TypedFunction, Crate}
use Rattle.mir_syntax.specs.Shapes.{shapes_of}
use Rattle.mir_rules.specs.Drops.{NoDrops}
use Rattle.mir_rules.specs.Valid.{Valid, with_body, at_function, ValidAt}
use Rattle.mir_rules.proofs.Fixed.{apart_in}
use Rattle.mir_rules.proofs.ValidCrates.{body_formed_at, holds_body}
use Rattle.mir_semantics.specs.Step.{code_of}
use Rattle.mir_semantics.specs.Refines.{Refines}
use Rattle.valid_runs.proofs.Codes.{valid_code}
use Rattle.valid_runs.proofs.Shown.{step_flat, step_known}
use Rattle.mir_relate.proofs.Replaced.{change, valids, Runs, replaced}
use Rattle.const_flow.specs.ConstAt.{Reached, const_at}
use Rattle.const_flow.specs.Holding.{IsSound}
use Rattle.const_flow.proofs.sound.Along.{formed_sound}
use Rattle.jump_threading.specs.Threaded.{threaded_by, threaded}
use Rattle.jump_threading.proofs.Blocks.{block_there, same_locals}
use Rattle.jump_threading.proofs.valid.Kept.{alike_by, valid_by, threaded_is}
use Rattle.jump_threading.proofs.refines.Where.{Threads}
use Rattle.jump_threading.proofs.refines.Steps.{pass, laws}

-- by any facts that hold along the edges
pub sound_refines : (C : Crate) → Valid C → (f : ℕ) (g : TypedFunction) → slice_get C.functions f ≡ Some g → NoDrops g.body → (xs : List Reached) → IsSound (shapes_of C) g.body xs → Refines (at_function C f g (threaded_by (shapes_of C) xs g.body)) C
sound_refines C valid f g there no_drops xs sound =
    let D = shapes_of C in
    let b2 = threaded_by D xs g.body in
    let alike = alike_by D xs g in
    let valid2 = valid_by C valid f g there xs in
    let X = change C valid f g there b2 alike valid2 in
    let V = valids C valid f g there b2 alike valid2 in
    let apart = apart_in C valid in
    let threads : Threads X xs = record { same_locals = same_locals D xs g.body; blocks = block_there D xs g.body; sound = sound } in
    replaced C valid f g there b2 alike valid2 (pass X xs threads no_drops V (Runs C valid f g there b2 alike valid2))
    (laws X xs threads no_drops V (Runs C valid f g there b2 alike valid2) (step_known (code_of C) apart (valid_code C valid), λ s x i e. step_flat (code_of C) apart (valid_code C valid) s x i e))

-- by what is known in the body
pub of_a_crate : (C : Crate) → Valid C → (f : ℕ) (g : TypedFunction) → slice_get C.functions f ≡ Some g → NoDrops g.body → Refines (at_function C f g (threaded (shapes_of C) g.body)) C
of_a_crate C valid f g there no_drops =
    let D = shapes_of C in
    subst (λ b. Refines (at_function C f g b) C) (threaded_is D g.body) (sound_refines C valid f g there no_drops (const_at D g.body) (formed_sound C D g.body (body_formed_at C valid f g there)))

pub in_its_place : (C : Crate) (f : ℕ) (b : TypedBody) (v : ValidAt C f b) → NoDrops b → Refines (at_function C f v.function (threaded (shapes_of (at_function C f v.function b)) b)) (at_function C f v.function b)
in_its_place C f b v n =
    let C2 = at_function C f v.function b in
    subst (λ fs. Refines (record C { functions = fs }) C2) (set-set C.functions f (with_body v.function b) (with_body v.function (threaded (shapes_of C2) b)))
    (of_a_crate C2 v.valid f (with_body v.function b) (holds_body C f b v) n)
