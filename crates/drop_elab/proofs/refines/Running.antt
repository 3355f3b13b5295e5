-- A step of a drop in a frame of the elaborated function, over the layer.
use Rattle.std.proofs.Common.{◌≡◌, ◌⊎◌, inl, inr, refl, sym, ap, ap₂, ◌∙◌, subst, ℕ, ◌+◌, ◌<◌, Bool, true, false, List, [], ◌++◌, length, Option, Some, None, slice_get, arith}
use Rattle.mir_syntax.specs.declared.body.Place.{Place}
use Rattle.mir_syntax.specs.declared.body.Term.TheVariants.{Drop}
use Rattle.mir_syntax.specs.Tree.{Tree}
use Rattle.mir_syntax.specs.Crate.{TypedBlock, TypedBody}
use Rattle.mir_syntax.specs.Shapes.{Shape, path_ty, needs_drop}
use Rattle.mir_rules.specs.DefinitionRules.{holds}
use Rattle.mir_semantics.specs.Values.{Value, is_hole, at_path}
use Rattle.mir_semantics.specs.Memory.{Memory, local_at, value_at}
use Rattle.mir_semantics.specs.Step.{Visit, Dropping, Control, State, Next, on, stop, fail, Here, work_off, begun, finish, perform, step}
use Rattle.mir_renaming.specs.Renaming.{Renaming}
use Rattle.mir_syntax.proofs.Binds.{bind_some, some_bind}
use Rattle.mir_renaming.proofs.Statements.{Linked}
use Rattle.mir_renaming.proofs.Types.{TypeMap, HasTy, AddrTy, MemTy, some_eq, value_at_ty}
use Rattle.mir_relate.specs.Simulation.{moves}
use Rattle.drop_elab.specs.Elab.{Inits}
use Rattle.mir_relate.specs.Frames.{Change, target, Pass}
use Rattle.mir_relate.specs.Pass.{Answers}
use Rattle.mir_relate.proofs.Leaves.{some_val}
use Rattle.drop_elab.proofs.refines.Runs.{moves_then}
use Rattle.drop_elab.proofs.refines.Items.{Proper, ProperShapes}
use Rattle.drop_elab.proofs.refines.Near.{Over, Near}
use Rattle.drop_elab.proofs.refines.Puts.{hole_at}
use Rattle.drop_elab.proofs.refines.Visits as visits
use Rattle.drop_elab.proofs.refines.Held.{unit_hole}
use Rattle.drop_elab.proofs.refines.Deep.{Loose}
use Rattle.drop_elab.proofs.refines.Solid.{unit_of_local, solid}
use Rattle.drop_elab.proofs.refines.Stand as stand
use Rattle.drop_elab.proofs.refines.Stand.{held_in, held}

-- an answer after some moves
pub answers_after : (X : Change) (P : Pass) (n k : ℕ) (s2 s : State) (x : Next) → moves (target X) k s2 ≡ Some s → s.trace ≡ s2.trace → Answers X P n s x → Answers X P n s2 x
answers_after X P n k s2 s (stop y) mv tr (j, s', m, e, t) = (k + j, s', moves_then (target X) k j s2 s _ mv m, e, t ∙ tr)
answers_after X P n k s2 s (fail t) mv tr h = tt
answers_after X P n k s2 s (on s1) mv tr (j, n', s', m, c, less) = (k + j, n', s', moves_then (target X) k j s2 s _ mv m, c, go less)
  where
    go : (0 < j) ⊎ (n' < n) → (0 < k + j) ⊎ (n' < n)
    go (inl lt) = inl (omega (arith, lt))
    go (inr lt) = inr lt

module _ (X : Change) (inits : Inits) (apart : (d : ℕ) → holds X.source.shapes (length X.source.shapes) d d ≡ false) (proper : ProperShapes X.source.shapes) (proper_locals : (x : ℕ) (t : Tree) → slice_get X.body1.locals x ≡ Some t → Proper t) where
  abbrev D : List Shape
  D = X.source.shapes

  abbrev E : TypedBody
  E = stand.E X inits apart proper

  abbrev low : ℕ
  low = stand.low X inits apart proper

  abbrev Frame : Renaming → Control → Control → Memory → Memory → Type 0
  Frame = stand.Frame X inits apart proper

  -- ---- what the drop machine asks of two frames

  abbrev pub over : Renaming → Control → Over
  over j c1 = record { lent = j; frame = c1.frame }

  pub near_by : (j : Renaming) (c2 c1 : Control) (m2 m1 : Memory) → Frame j c2 c1 m2 m1 → Linked j j m2 m1 → Near (over j c1) c2.frame m2 m1
  near_by j c2 c1 m2 m1 f l = record { at = λ x v e. go x v e (slice_get X.body1.locals x) refl }
    where
      go : (x : ℕ) (v : Value) → local_at m1 c1.frame x ≡ Some v → (o : Option Tree) → slice_get X.body1.locals x ≡ o → (w : Value) × (local_at m2 c2.frame x ≡ Some w) × Rattle.mir_renaming.specs.Renaming.ValueRel j v w
      go x v e None q = absurd (let z : None ≡ Some v = sym (f.absent x q) ∙ e in grind arith)
      go x v e (Some t) q = l.mem.at c1.frame x c2.frame x (f.roots x t q) v e

  pub slots_by : (j : Renaming) (c2 c1 : Control) (m2 m1 : Memory) → Frame j c2 c1 m2 m1 → Linked j j m2 m1 → visits.Slots low X.source X.bodies E apart proper c2.frame m2
  slots_by j c2 c1 m2 m1 f l y u e = go (slice_get X.body1.locals y) refl
    where
      go : (o : Option Tree) → slice_get X.body1.locals y ≡ o → (w : Value) × (local_at m2 c2.frame y ≡ Some w)
      go None q = f.slots y u e q
      go (Some t) q =
          let (v, ev, lo) = f.there y t q in
          let (w, ew, r) = l.mem.at c1.frame y c2.frame y (f.roots y t q) v ev in
          (w, ew)

  -- ---- an item inside a unit is no hole

  held_solid : (o : Option Bool) → held_in o ≡ true → o ≡ Some false
  held_solid None e = absurd (grind arith)
  held_solid (Some true) e = absurd (grind arith)
  held_solid (Some false) e = refl

  pub inner_known : (G : TypeMap) (m1 : Memory) (c2 c1 : Control) (m2 : Memory) (j : Renaming) (i : Visit) → MemTy D G m1 → ((x : ℕ) (t : Tree) → slice_get X.body1.locals x ≡ Some t → G c1.frame x ≡ Some t) → Frame j c2 c1 m2 m1 → stand.Inside X inits apart proper m1 c1.frame i → AddrTy D G i.addr i.ty → needs_drop D i.ty ≡ true → (v : Value) → value_at m1 i.addr ≡ Some v → HasTy D G i.ty v × (is_hole v ≡ false)
  unfolding value_at
  inner_known G m1 c2 c1 m2 j i mt lk f h at n v ev =
      let (y, lt, ul, el, hu) = unit_of_local D 0 X.body1.locals h.unit h.known in
      let (o, e1, e2) = bind_some ev in
      let loc : i.addr.local ≡ y = h.local ∙ ul ∙ (let z : 0 + y ≡ y = omega arith in z) in
      let here : local_at m1 c1.frame y ≡ Some o = ap₂ (local_at m1) (sym h.frame) (sym loc) ∙ e1 in
      let (o', eo, lo) = f.there y lt el in
      let same : o' ≡ o = some_val (sym eo ∙ here) in
      let ity : at.local ≡ lt = some_eq D G at.local lt (G i.addr.frame i.addr.local) at.is (ap₂ G h.frame loc ∙ lk y lt el) in
      let pt : path_ty D lt (h.unit.proj ++ h.rest) ≡ Some i.ty = subst (λ ps. path_ty D lt ps ≡ Some i.ty) h.path (subst (λ y. path_ty D y i.addr.path ≡ Some i.ty) ity at.path) in
      let ty : HasTy D G lt o = value_at_ty D G m1 (record { frame = c1.frame; local = y; path = [] }) lt o mt (record { local = lt; is = lk y lt el; path = refl }) (some_bind (at_path []) here refl) in
      let uh : hole_at h.unit.proj o ≡ Some false = sym (some_bind (hole_at h.unit.proj) {o = local_at m1 c1.frame h.unit.local} (ap (local_at m1 c1.frame) (sym h.local ∙ loc) ∙ here) refl) ∙ held_solid (unit_hole m1 c1.frame h.unit.local h.unit.proj) h.live in
      (value_at_ty D G m1 i.addr i.ty v mt at (some_bind (at_path i.addr.path) e1 e2), solid D apart proper G h.unit.proj h.rest lt i.ty o v (proper_locals y lt el) hu ty (subst (λ o. Loose D lt o) same lo) uh pt (subst (λ ps. at_path ps o ≡ Some v) h.path e2) n)

  -- ---- a step of a drop works an item off

  pub drop_step_is : (s1 : State) (d : Dropping) (k : TypedBlock) (p : Place) (u : ℕ) (x : Next) → slice_get X.source.bodies s1.top.function ≡ Some X.body1 → slice_get X.body1.blocks s1.top.block ≡ Some k → slice_get k.stmts s1.top.at ≡ None → k.term ≡ Drop p u → s1.top.dropping ≡ Some d → step X.source s1 ≡ Some x → work_off X.source s1 d d.items ≡ Some x
  unfolding step perform finish begun
  drop_step_is s1 d k p u x eb ek none term dr e =
      let H : Here = record { shapes = D; locals = X.body1.locals; frame = s1.top.frame } in
      let a : step X.source s1 ≡ perform X.source H s1 k.term (slice_get k.stmts s1.top.at) = some_bind _ eb (some_bind _ ek refl) in
      let b : perform X.source H s1 k.term (slice_get k.stmts s1.top.at) ≡ finish X.source H s1 (Drop p u) = ap₂ (perform X.source H s1) term none in
      let c : finish X.source H s1 (Drop p u) ≡ work_off X.source s1 d d.items = some_bind _ (ap (begun H s1 p u) dr) refl in
      sym (a ∙ b ∙ c) ∙ e

  pub step_of_drop : (s1 : State) (d : Dropping) (k : TypedBlock) (p : Place) (u : ℕ) (x : Next) → slice_get X.source.bodies s1.top.function ≡ Some X.body1 → slice_get X.body1.blocks s1.top.block ≡ Some k → slice_get k.stmts s1.top.at ≡ None → k.term ≡ Drop p u → s1.top.dropping ≡ Some d → work_off X.source s1 d d.items ≡ Some x → step X.source s1 ≡ Some x
  unfolding step perform finish begun
  step_of_drop s1 d k p u x eb ek none term dr e =
      let H : Here = record { shapes = D; locals = X.body1.locals; frame = s1.top.frame } in
      let a : step X.source s1 ≡ perform X.source H s1 k.term (slice_get k.stmts s1.top.at) = some_bind _ eb (some_bind _ ek refl) in
      let b : perform X.source H s1 k.term (slice_get k.stmts s1.top.at) ≡ finish X.source H s1 (Drop p u) = ap₂ (perform X.source H s1) term none in
      let c : finish X.source H s1 (Drop p u) ≡ work_off X.source s1 d d.items = some_bind _ (ap (begun H s1 p u) dr) refl in
      a ∙ b ∙ c ∙ e
