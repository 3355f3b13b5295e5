-- An elaborated body in a crate, and in the place of a body that is valid there.
use Rattle.std.proofs.Common.{◌≡◌, sym, ap, ◌∙◌, subst, ℕ, ◌≤◌, length, Some, slice_get, arith, true}
use Rattle.mir_rules.proofs.Keeps.{BodyKeeps}
use Rattle.mir_rules.specs.Formed.{body_formed}
use Rattle.std.proofs.lemmas.List.{set-set}
use Rattle.mir_syntax.specs.declared.body.Place.{Place}
use Rattle.mir_syntax.specs.declared.body.Term.TheVariants.{Drop}
use Rattle.mir_syntax.specs.Crate.{TypedBlock, TypedBody, TypedFunction, Crate}
use Rattle.mir_syntax.specs.Shapes.{shapes_of, place_ty, path_through}
use Rattle.mir_syntax.proofs.Binds.{bind_some}
use Rattle.mir_rules.specs.Limits.{most_in_body, blocks_count, locals_count}
use Rattle.mir_rules.specs.Valid.{Valid, with_body, at_function, ValidAt, Elaborable}
use Rattle.mir_rules.proofs.Bodies.{Alike}
use Rattle.mir_rules.proofs.Terminators.{OwnTyped}
use Rattle.mir_rules.proofs.ValidCrates.{term_at, holds_body, valid_again}
use Rattle.mir_semantics.specs.Refines.{Refines}
use Rattle.mir_rules.proofs.Fixed.{apart_in}
use Rattle.drop_elab.specs.Destructors.{AddsDestructors}
use Rattle.drop_elab.specs.Elab.{IsElab}
use Rattle.drop_elab.specs.Tupled.{TypesTupled, FewVariants}
use Rattle.drop_elab.proofs.refines.Refined.{proper_shapes, refines}
use Rattle.drop_elab.proofs.valid.Calls.{adds_destructors}
use Rattle.drop_elab.proofs.valid.Few.{DropFine, few_by}
use Rattle.drop_elab.proofs.valid.Fine.{Each, each_from}
use Rattle.drop_elab.proofs.valid.Stays.{formed_by, keeps_by, alike_by, valid_by}

alike : (C : Crate) (valid : Valid C) (f : ℕ) (g : TypedFunction) (there : slice_get C.functions f ≡ Some g) (tu : TypesTupled (shapes_of C) g.body) (few : FewVariants (shapes_of C)) (e : TypedBody) → IsElab (shapes_of C) g.body e → Alike (with_body g e) g
alike C valid f g there tu few e is = subst (λ e. Alike (with_body g e) g) (sym is.is) (alike_by C valid f g there tu few is.inits)

pub valid_crate : (C : Crate) → Valid C → (f : ℕ) (g : TypedFunction) → slice_get C.functions f ≡ Some g → TypesTupled (shapes_of C) g.body → FewVariants (shapes_of C) → (e : TypedBody) → IsElab (shapes_of C) g.body e → Valid (at_function C f g e)
valid_crate C valid f g there tu few e is = subst (λ e. Valid (at_function C f g e)) (sym is.is) (valid_by C valid f g there tu few is.inits)

pub refines_crate : (C : Crate) → Valid C → (f : ℕ) (g : TypedFunction) → slice_get C.functions f ≡ Some g → TypesTupled (shapes_of C) g.body → FewVariants (shapes_of C) → (e : TypedBody) → IsElab (shapes_of C) g.body e → Refines (at_function C f g e) C
refines_crate C valid f g there tu few e is = refines C valid f g there tu e is (alike C valid f g there tu few e is) (valid_crate C valid f g there tu few e is)

pub refines_in_place : (C : Crate) (f : ℕ) (b : TypedBody) (valid : ValidAt C f b) → TypesTupled (shapes_of (at_function C f valid.function b)) b → FewVariants (shapes_of (at_function C f valid.function b)) → (e : TypedBody) → IsElab (shapes_of (at_function C f valid.function b)) b e → Refines (at_function C f valid.function e) (at_function C f valid.function b)
refines_in_place C f b v tu few e is =
    let C2 = at_function C f v.function b in
    subst (λ fs. Refines (record C { functions = fs }) C2) (set-set C.functions f (with_body v.function b) (with_body v.function e))
    (refines_crate C2 v.valid f (with_body v.function b) (holds_body C f b v) tu few e is)

pub valid_in_place : (C : Crate) (f : ℕ) (b : TypedBody) (valid : ValidAt C f b) → TypesTupled (shapes_of (at_function C f valid.function b)) b → FewVariants (shapes_of (at_function C f valid.function b)) → (e : TypedBody) → IsElab (shapes_of (at_function C f valid.function b)) b e → length e.blocks ≤ most_in_body → length e.locals ≤ most_in_body → ValidAt C f e
valid_in_place C f b v tu few e is blocks locals =
    let C2 = at_function C f v.function b in
    let g = with_body v.function b in
    let there = holds_body C f b v in
    let al = alike C2 v.valid f g there tu few e is in
    valid_again C f b e v al.args al.start (subst (λ e. body_formed C2 e ≡ true) (sym is.is) (formed_by C2 v.valid f g there tu few is.inits)) (subst (BodyKeeps C2) (sym is.is) (keeps_by C2 v.valid f g there tu few is.inits)) blocks locals

pub calls_in_place : (C : Crate) (f : ℕ) (b : TypedBody) (valid : ValidAt C f b) → TypesTupled (shapes_of (at_function C f valid.function b)) b → (e : TypedBody) → IsElab (shapes_of (at_function C f valid.function b)) b e → AddsDestructors (shapes_of (at_function C f valid.function b)) e b
calls_in_place C f b v tu e is = (let C2 = at_function C f v.function b in adds_destructors (shapes_of C2) (proper_shapes C2 b tu) (apart_in C2 v.valid) b e tu.locals is)

-- drops keep the rules, so what they become is counted
drops_fine : (C : Crate) (valid : Valid C) (f : ℕ) (g : TypedFunction) (there : slice_get C.functions f ≡ Some g) (tu : TypesTupled (shapes_of C) g.body) → Each (λ (k : TypedBlock). (p : Place) (u : ℕ) → k.term ≡ Drop p u → DropFine (shapes_of C) (apart_in C valid) (proper_shapes C g.body tu) g.body tu.locals p) g.body.blocks
unfolding place_ty
drops_fine C valid f g there tu = each_from (λ (k : TypedBlock). (p : Place) (u : ℕ) → k.term ≡ Drop p u → DropFine (shapes_of C) (apart_in C valid) (proper_shapes C g.body tu) g.body tu.locals p) g.body.blocks (λ i k q p u term. (
    let d = subst (OwnTyped C (shapes_of C) g.body.locals) term (term_at C valid f i g k there q).own in
    let (lt, e1, e2) = bind_some d.place in
    record { local = lt; is = e1; ty = d.ty; path = e2; direct = d.direct; outside = ap (λ o. path_through (shapes_of C) o p.proj) (sym e1) ∙ d.outside }))

counted : (C : Crate) → Valid C → (f : ℕ) (g : TypedFunction) → slice_get C.functions f ≡ Some g → TypesTupled (shapes_of C) g.body → (e : TypedBody) → IsElab (shapes_of C) g.body e → (length e.blocks ≤ blocks_count (shapes_of C) g.body) × (length e.locals ≤ locals_count (shapes_of C) g.body)
counted C valid f g there tu e is = subst (λ (e : TypedBody). (length e.blocks ≤ blocks_count (shapes_of C) g.body) × (length e.locals ≤ locals_count (shapes_of C) g.body)) (sym is.is) (few_by (shapes_of C) (apart_in C valid) (proper_shapes C g.body tu) g.body tu.locals is.inits (drops_fine C valid f g there tu))

pub blocks_counted : (C : Crate) → Valid C → (f : ℕ) (g : TypedFunction) → slice_get C.functions f ≡ Some g → TypesTupled (shapes_of C) g.body → (e : TypedBody) → IsElab (shapes_of C) g.body e → length e.blocks ≤ blocks_count (shapes_of C) g.body
blocks_counted C valid f g there tu e is = (counted C valid f g there tu e is).0

pub locals_counted : (C : Crate) → Valid C → (f : ℕ) (g : TypedFunction) → slice_get C.functions f ≡ Some g → TypesTupled (shapes_of C) g.body → (e : TypedBody) → IsElab (shapes_of C) g.body e → length e.locals ≤ locals_count (shapes_of C) g.body
locals_counted C valid f g there tu e is = (counted C valid f g there tu e is).1

pub valid_where_few : (C : Crate) → Valid C → (f : ℕ) (g : TypedFunction) → slice_get C.functions f ≡ Some g → TypesTupled (shapes_of C) g.body → FewVariants (shapes_of C) → Elaborable C g.body → (e : TypedBody) → IsElab (shapes_of C) g.body e → ValidAt C f e
valid_where_few C valid f g there tu few may e is = record {
  function = g;
  is = there;
  valid = valid_crate C valid f g there tu few e is;
  blocks = (let x = blocks_counted C valid f g there tu e is in let y = may.blocks in omega (arith, x, y));
  locals = (let x = locals_counted C valid f g there tu e is in let y = may.locals in omega (arith, x, y));
}
