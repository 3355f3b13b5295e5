-- A crate with a pruned body refines the crate: round by round.
use Rattle.std.proofs.Common.{◌≡◌, refl, ap, subst, ℕ, suc, set, take, Some, slice_get}
use Rattle.std.proofs.lemmas.List.{set-set}
use Rattle.mir_syntax.proofs.Lists.{set_there}
use Rattle.mir_syntax.specs.Crate.{TypedBody, TypedFunction, Crate}
use Rattle.mir_syntax.specs.Shapes.{shapes_of}
use Rattle.mir_rules.specs.Drops.{NoDrops}
use Rattle.mir_rules.specs.Valid.{Valid, with_body, at_function, ValidAt}
use Rattle.mir_rules.proofs.Bodies.{Alike, set_alike, shapes_alike}
use Rattle.mir_rules.proofs.Fixed.{apart_in}
use Rattle.mir_rules.proofs.ValidCrates.{body_formed_at, keeps, valid_put, holds_body}
use Rattle.mir_semantics.specs.Step.{code_of}
use Rattle.mir_semantics.specs.Refines.{Refines}
use Rattle.valid_runs.proofs.Codes.{valid_code}
use Rattle.valid_runs.proofs.Shown.{step_flat, step_known}
use Rattle.mir_relate.proofs.Refine.{refines_trans}
use Rattle.mir_relate.proofs.Replaced.{change, valids, Runs, replaced}
use Rattle.dead_store.specs.Pruned.{pruned_once, pruned}
use Rattle.dead_store.proofs.valid.Rules.{drops_left}
use Rattle.dead_store.proofs.valid.Same.{Same, once_same, twice_same}
use Rattle.dead_store.proofs.refines.Frames.{pass}
use Rattle.dead_store.proofs.refines.Steps.{laws}

once_refines : (C : Crate) → Valid C → (f : ℕ) (g : TypedFunction) → slice_get C.functions f ≡ Some g → NoDrops g.body → Refines (at_function C f g (pruned_once (shapes_of C) g.body)) C
once_refines C valid f g there no_drops =
    let b2 = pruned_once (shapes_of C) g.body in
    let s = once_same C (shapes_of C) g.body in
    let alike : Alike (with_body g b2) g = record { is_drop = refl; args = refl; start = refl } in
    let valid2 = valid_put C f g b2 valid there alike (s.formed (body_formed_at C valid f g there)) (s.kept ((keeps C valid).bodies f g there)) in
    let X = change C valid f g there b2 alike valid2 in
    let V = valids C valid f g there b2 alike valid2 in
    let I = Runs C valid f g there b2 alike valid2 in
    let apart = apart_in C valid in
    replaced C valid f g there b2 alike valid2 (pass X refl)
    (laws X refl no_drops V I (step_known (code_of C) apart (valid_code C valid), λ s x i e. step_flat (code_of C) apart (valid_code C valid) s x i e))

module _ (C : Crate) (valid : Valid C) (f : ℕ) (g : TypedFunction) (there : slice_get C.functions f ≡ Some g) (no_drops : NoDrops g.body) where
  -- one round more, of a body that some rounds left
  then_refines : (b : TypedBody) → Same C b g.body → NoDrops b → Refines (at_function C f g b) C → Refines (at_function C f g (pruned_once (shapes_of C) b)) C
  then_refines b s n r =
      let C1 = at_function C f g b in
      let alike : Alike (with_body g b) g = record { is_drop = refl; args = s.args; start = ap (λ ts. take (suc g.body.args) ts) s.locals } in
      let v1 = valid_put C f g b valid there alike (s.formed (body_formed_at C valid f g there)) (s.kept ((keeps C valid).bodies f g there)) in
      let at : slice_get C1.functions f ≡ Some (with_body g b) = set_there C.functions f (with_body g b) g there in
      let D1 : shapes_of C1 ≡ shapes_of C = shapes_alike C (set C.functions f (with_body g b)) (set_alike C.functions f g (with_body g b) there alike) in
      let step = subst (λ D. Refines (at_function C1 f (with_body g b) (pruned_once D b)) C1) D1 (once_refines C1 v1 f (with_body g b) at n) in
      let b2 = pruned_once (shapes_of C) b in
      let again : Refines (at_function C f g b2) C1 = subst (λ fs. Refines (record C { functions = fs }) C1) (set-set C.functions f (with_body g b) (with_body g b2)) step in
      refines_trans (at_function C f g b2) C1 C again r

  three_refine : Refines (at_function C f g (pruned (shapes_of C) g.body)) C
  unfolding pruned
  three_refine =
      let D = shapes_of C in
      let r1 = once_refines C valid f g there no_drops in
      let n1 = drops_left D g.body no_drops in
      let r2 = then_refines (pruned_once D g.body) (once_same C D g.body) n1 r1 in
      then_refines (pruned_once D (pruned_once D g.body)) (twice_same C D g.body) (drops_left D (pruned_once D g.body) n1) r2

pub of_a_crate : (C : Crate) → Valid C → (f : ℕ) (g : TypedFunction) → slice_get C.functions f ≡ Some g → NoDrops g.body → Refines (at_function C f g (pruned (shapes_of C) g.body)) C
of_a_crate C v f g e n = three_refine C v f g e n

pub in_its_place : (C : Crate) (f : ℕ) (b : TypedBody) (v : ValidAt C f b) → NoDrops b → Refines (at_function C f v.function (pruned (shapes_of (at_function C f v.function b)) b)) (at_function C f v.function b)
in_its_place C f b v n =
    let C2 = at_function C f v.function b in
    subst (λ fs. Refines (record C { functions = fs }) C2) (set-set C.functions f (with_body v.function b) (with_body v.function (pruned (shapes_of C2) b)))
    (of_a_crate C2 v.valid f (with_body v.function b) (holds_body C f b v) n)
