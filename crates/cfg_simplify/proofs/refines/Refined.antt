-- A crate with a cleaned body refines the crate with the body: over the layer.
use Rattle.std.proofs.Common.{◌≡◌, refl, sym, ap, subst, ℕ, true, Some, slice_get}
use Rattle.std.proofs.lemmas.List.{set-set}
use Rattle.mir_syntax.proofs.Lists.{set_there}
use Rattle.mir_syntax.specs.Crate.{TypedBody, TypedFunction, Crate}
use Rattle.mir_rules.specs.Formed.{body_formed}
use Rattle.mir_rules.specs.Valid.{Valid, with_body, at_function, ValidAt}
use Rattle.mir_rules.proofs.Bodies.{Alike}
use Rattle.mir_rules.proofs.Keeps.{BodyKeeps}
use Rattle.mir_rules.proofs.ValidCrates.{body_formed_at, keeps, holds_body, valid_put}
use Rattle.mir_semantics.specs.Refines.{Refines}
use Rattle.mir_relate.proofs.Refine.{refines_trans}
use Rattle.cfg_simplify.proofs.refines.Lines.{body_jumps}
use Rattle.cfg_simplify.proofs.refines.Lines as joined
use Rattle.cfg_simplify.specs.Simple.{simple}
use Rattle.cfg_simplify.proofs.refines.Hopped.{hopped_body, hopped_hops}
use Rattle.cfg_simplify.proofs.refines.Regrouped.{lines, joins}
use Rattle.cfg_simplify.proofs.valid.Kept.{some_block, leads, closed, hopped_formed, hopped_keeps, simple_formed, simple_keeps}
use Rattle.cfg_simplify.proofs.refines.Hops.{Place, body_hops}
use Rattle.cfg_simplify.proofs.refines.Jumped.{jumped_refines}

module _ (C : Crate) (valid : Valid C) (f : ℕ) (g : TypedFunction) (there : slice_get C.functions f ≡ Some g) where
  abbrev first : TypedBody
  first = hopped_body g.body

  formed : body_formed C g.body ≡ true
  formed = body_formed_at C valid f g there

  kept : BodyKeeps C g.body
  kept = (keeps C valid).bodies f g there

  abbrev C1 : Crate
  C1 = at_function C f g (hopped_body g.body)

  alike1 : Alike (with_body g first) g
  alike1 = record { is_drop = refl; args = refl; start = refl }

  valid1 : Valid C1
  valid1 = valid_put C f g first valid there alike1 (hopped_formed C g.body formed kept) (hopped_keeps C g.body formed kept)

  first_refines : Refines C1 C
  first_refines = jumped_refines C valid f g there first refl refl (Place first g.body (hopped_hops g.body)) (body_hops first g.body (hopped_hops g.body)) valid1

  alike2 : Alike (with_body g (simple g.body)) g
  alike2 = record { is_drop = refl; args = refl; start = refl }

  valid2 : Valid (at_function C f g (simple g.body))
  valid2 = valid_put C f g (simple g.body) valid there alike2 (simple_formed C g.body formed kept) (simple_keeps C g.body formed kept)

  again : (b : TypedBody) → at_function C1 f (with_body g first) b ≡ at_function C f g b
  again b = ap (λ fs. record C { functions = fs }) (set-set C.functions f (with_body g first) (with_body g b))

  pub both_refine : Refines (at_function C f g (simple g.body)) C
  both_refine =
      let h1 = hopped_formed C g.body formed kept in
      let h2 = hopped_keeps C g.body formed kept in
      let all = closed first (leads C first h1 h2) in
      let some = some_block C first h1 in
      let at : slice_get C1.functions f ≡ Some (with_body g first) = set_there C.functions f (with_body g first) g there in
      let b = simple g.body in
      let jumps = body_jumps b first (lines first all some) (joins first all some) in
      let second : Refines (at_function C1 f (with_body g first) b) C1 = jumped_refines C1 valid1 f (with_body g first) at b refl refl (joined.Place b first (lines first all some) (joins first all some)) jumps (subst Valid (sym_again b) valid2) in
      refines_trans (at_function C f g b) C1 C (subst (λ c. Refines c C1) (again b) second) first_refines
    where
      sym_again : (b : TypedBody) → at_function C f g b ≡ at_function C1 f (with_body g first) b
      sym_again b = sym (again b)

pub of_a_crate : (C : Crate) → Valid C → (f : ℕ) (g : TypedFunction) → slice_get C.functions f ≡ Some g → Refines (at_function C f g (simple g.body)) C
of_a_crate = both_refine

pub in_its_place : (C : Crate) (f : ℕ) (b : TypedBody) (v : ValidAt C f b) → Refines (at_function C f v.function (simple b)) (at_function C f v.function b)
in_its_place C f b v =
    let C2 = at_function C f v.function b in
    subst (λ fns. Refines (record C { functions = fns }) C2) (set-set C.functions f (with_body v.function b) (with_body v.function (simple b)))
    (both_refine C2 v.valid f (with_body v.function b) (holds_body C f b v))
