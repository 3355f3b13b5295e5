-- What the end of a drop makes of the source's memory, of units and of flags.
use Rattle.std.proofs.Common.{◌≡◌, ◌⊎◌, inl, inr, refl, sym, ap, ap₂, ◌∙◌, subst, ℕ, zero, suc, ◌+◌, ◌<◌, ◌≤◌, Bool, true, false, not, nat_eq, ◌&&◌, if◌then◌else◌, List, [], ◌∷◌, ◌++◌, length, Option, Some, None, slice_get, option_map, arith}
use Rattle.std.proofs.lemmas.Bool.{eqb-true}
use Rattle.mir_syntax.specs.declared.body.Proj.{Proj}
use Rattle.mir_syntax.specs.declared.body.Proj.TheVariants.{Field, Downcast, Deref}
use Rattle.mir_syntax.specs.declared.body.Place.{Place}
use Rattle.mir_syntax.specs.declared.body.Term.TheVariants.{Drop}
use Rattle.mir_syntax.specs.Tree.{Tree}
use Rattle.mir_syntax.specs.Crate.{TypedBlock}
use Rattle.mir_syntax.specs.Shapes.{Shape, path_ty, path_through}
use Rattle.mir_num.specs.Numbers.{flag}
use Rattle.mir_rules.specs.DefinitionRules.{holds}
use Rattle.mir_syntax.specs.Parts.{is_direct, targets}
use Rattle.mir_rules.specs.Weights.{units}
use Rattle.mir_semantics.specs.Values.{Addr, Value, number, put, at_path, blank}
use Rattle.mir_semantics.specs.Memory.{Memory, local_at, value_at, write}
use Rattle.mir_semantics.specs.Step.{Dropping, Control, to_block}
use Rattle.mir_renaming.specs.Renaming.{Renaming, ValueRel, RootOf}
use Rattle.mir_syntax.proofs.Binds.{bind_some, some_bind}
use Rattle.mir_renaming.proofs.Memory.{write_same, write_other, write_back, root_or_not}
use Rattle.mir_renaming.proofs.Frames.{equal}
use Rattle.mir_renaming.proofs.Statements.{Linked}
use Rattle.mir_renaming.proofs.Types.{TypeMap, HasTy, AddrTy, MemTy, some_eq, value_at_ty}
use Rattle.move_paths.specs.Effects.{same_field, goes_on, is_under, ended_if, term_effect}
use Rattle.drop_elab.specs.Elab.{Inits, statuses_at, plan_drop}
use Rattle.move_paths.specs.Inits.{after_effect}
use Rattle.drop_elab.specs.Plan.{Plan, done}
use Rattle.mir_relate.specs.Leaves.{Leaves}
use Rattle.mir_relate.specs.Frames.{Change}
use Rattle.mir_relate.proofs.Leaves.{some_val}
use Rattle.drop_elab.proofs.refines.Items.{Proper, ProperShapes}
use Rattle.drop_elab.proofs.refines.Outer.{outer_units, plan_at}
use Rattle.drop_elab.proofs.refines.Sound.{Has, Held, SoundAt, sound_start, sound_along}
use Rattle.drop_elab.proofs.refines.Puts.{Fields, field_cases}
use Rattle.drop_elab.proofs.refines.Kept.{units_fields, dropped_keeps}
use Rattle.drop_elab.proofs.refines.Deep.{Loose, put_blank, blank_loose}
use Rattle.drop_elab.proofs.refines.Held.{unit_hole, blank_ends, write_elsewhere, write_beside}
use Rattle.drop_elab.proofs.refines.Begins.{kept_units}
use Rattle.drop_elab.proofs.refines.Solid.{unit_of_local}
use Rattle.drop_elab.proofs.refines.Stand as stand
use Rattle.drop_elab.proofs.refines.Stand.{held_in, held}
use Rattle.drop_elab.proofs.refines.Stages as stages

pub and_both : (a b : Bool) → (a && b) ≡ true → (a ≡ true) × (b ≡ true)
and_both true b e = (refl, e)
and_both false b e = absurd (grind arith)

-- ---- at or under a place

field_eq : (p q : Proj) → same_field p q ≡ true → p ≡ q
field_eq (Field i) (Field k) e = ap Field (eqb-true i k e)
field_eq (Field i) (Downcast k) e = absurd (grind arith)
field_eq (Field i) Deref e = absurd (grind arith)
field_eq (Downcast i) q e = absurd (grind arith)
field_eq Deref q e = absurd (grind arith)

pub goes_parts : (ps us : List Proj) → goes_on ps us ≡ true → (rest : List Proj) × (us ≡ ps ++ rest)
goes_parts [] us e = (us, refl)
goes_parts (p ∷ ps) [] e = absurd (grind arith)
goes_parts (p ∷ ps) (q ∷ us) e =
    let (a, b) = and_both (same_field p q) (goes_on ps us) e in
    let (rest, r) = goes_parts ps us b in
    (rest, ap₂ (λ (x : Proj) (xs : List Proj). x ∷ xs) (sym (field_eq p q a)) r)

pub goes_back : (ps rest : List Proj) → Fields (ps ++ rest) → goes_on ps (ps ++ rest) ≡ true
goes_back [] rest h = refl
goes_back (Field i ∷ ps) rest h = rw (equal i i refl) (goes_back ps rest h)
goes_back (Downcast k ∷ ps) rest h = absurd h
goes_back (Deref ∷ ps) rest h = absurd h

-- ---- a write of the source alone leaves the frames below its own

pub leaves_own : (D : List Shape) (G : TypeMap) (j : Renaming) (m2 m1 : Memory) (a : Addr) (v : Value) (n2 n1 : ℕ) → n1 ≤ a.frame → Leaves D G j j n2 n1 m2 (write m1 a v) m2 m1
leaves_own D G j m2 m1 a v n2 n1 le = record {
  up = λ h x r e. e;
  same1 = λ h x l. refl;
  same2 = λ h x g y l e. e;
  source = λ h x l e. same h x l;
  target = λ g y l ne. refl;
  steady = λ h x g y t v' w' l e ty p q. record { old1 = v'; old2 = w'; was1 = sym (same h x l) ∙ p; was2 = q; agree = λ z. z };
}
  where
    same : (h x : ℕ) → h < n1 → local_at (write m1 a v) h x ≡ local_at m1 h x
    same h x lt = write_other m1 a v h x (λ p q. absurd (omega (arith, p, lt, le)))

module _ (X : Change) (inits : Inits) (apart : (d : ℕ) → holds X.source.shapes (length X.source.shapes) d d ≡ false) (proper : ProperShapes X.source.shapes) (proper_locals : (x : ℕ) (t : Tree) → slice_get X.body1.locals x ≡ Some t → Proper t) (S : stages.Sorted X inits apart proper) where
  abbrev D : List Shape
  D = X.source.shapes

  abbrev us : List Place
  us = stand.us X inits apart proper

  -- what is known of the body: its drops' places, and along its edges
  pub record Edges : Type 0 where
    pub direct : (i : ℕ) (k : TypedBlock) (p : Place) (t : ℕ) (lt : Tree) → slice_get X.body1.blocks i ≡ Some k → k.term ≡ Drop p t → slice_get X.body1.locals p.local ≡ Some lt → (is_direct p.proj ≡ true) × (path_through X.source.shapes (Some lt) p.proj ≡ false)
    pub edge : (i t : ℕ) (k : TypedBlock) (now : Held) → slice_get X.body1.blocks i ≡ Some k → Has (targets k.term) t → SoundAt X.source.shapes X.body1 t now → stand.Start X inits apart proper t now
    pub place : (i : ℕ) (k : TypedBlock) (p : Place) (t : ℕ) → slice_get X.body1.blocks i ≡ Some k → k.term ≡ Drop p t → is_direct p.proj ≡ true
    -- a drop's plan is that of the units of its place
    pub plan : (i : ℕ) (k : TypedBlock) (p : Place) (t : ℕ) (lt ty : Tree) → slice_get X.body1.blocks i ≡ Some k → k.term ≡ Drop p t → slice_get X.body1.locals p.local ≡ Some lt → path_ty X.source.shapes lt p.proj ≡ Some ty → plan_drop X.source.shapes X.body1.locals p (stand.fs X inits apart proper) (statuses_at us inits i k) ≡ outer_units Plan X.source.shapes (plan_at X.source.shapes X.body1.locals (stand.marks_at X inits apart proper i k)) p (units X.source.shapes ty) done

  -- ---- units

  pub fields_of_unit : (u : Place) → Has us u → Fields u.proj
  fields_of_unit u h =
      let (y, lt, ul, el, hu) = unit_of_local D 0 X.body1.locals u h in
      units_fields D apart proper u.proj lt (proper_locals y lt el) hu

  module _ (G : TypeMap) (m1 : Memory) (f : ℕ) (p : Place) (t : Tree) (old : Value) (lk : (x : ℕ) (t : Tree) → slice_get X.body1.locals x ≡ Some t → G f x ≡ Some t) (at : AddrTy X.source.shapes G (stand.addr_at X inits apart proper f p) t) (prt : Proper t) (ev : value_at m1 (stand.addr_at X inits apart proper f p) ≡ Some old) where
    abbrev A : Addr
    A = stand.addr_at X inits apart proper f p

    abbrev M : Memory
    M = write m1 A (blank D t)

    -- the units at or under the place end
    pub held_after : (u : Place) → Has us u → held M f u ≡ after_effect (ended_if (is_under p u)) (held m1 f u)
    held_after u hu =
        let (y, lt, ul, el, hx) = unit_of_local D 0 X.body1.locals u hu in
        go y lt (ul ∙ (let z : 0 + y ≡ y = omega arith in z)) el hx (is_under p u) refl
      where
        in_place : (y : ℕ) (lt : Tree) → u.local ≡ y → slice_get X.body1.locals y ≡ Some lt → G f u.local ≡ Some lt
        in_place y lt ul el = ap (G f) ul ∙ lk y lt el

        go : (y : ℕ) (lt : Tree) → u.local ≡ y → slice_get X.body1.locals y ≡ Some lt → Has (units D lt) u.proj → (b : Bool) → is_under p u ≡ b → held M f u ≡ after_effect (ended_if b) (held m1 f u)
        go y lt ul el hx true e =
            let (a, b) = and_both (nat_eq p.local u.local) (goes_on p.proj u.proj) e in
            let z : p.local ≡ u.local = eqb-true p.local u.local a in
            let (rest, r) = goes_parts p.proj u.proj b in
            ap held_in (ap (λ x. unit_hole M f x u.proj) (sym z) ∙ blank_ends D apart proper G m1 A t old at prt ev lt u.proj rest (ap (G f) z ∙ in_place y lt ul el) (proper_locals y lt el) hx r)
        go y lt ul el hx false e = ap held_in (by_local (field_cases u.local p.local))
          where
            by_local : (u.local ≡ p.local) ⊎ (u.local ≡ p.local → ⊥) → unit_hole M f u.local u.proj ≡ unit_hole m1 f u.local u.proj
            by_local (inr n) = write_elsewhere D apart proper G m1 A (blank D t) f u.local u.proj (λ _ q. n q)
            by_local (inl z) = subst (λ x. unit_hole M f x u.proj ≡ unit_hole m1 f x u.proj) (sym z) (write_beside D apart proper G m1 A (blank D t) old ev lt u.proj (proper_locals y lt el) hx (λ rest r. absurd (let q : true ≡ false = sym (ap₂ (λ a b. a && b) (equal p.local u.local (sym z)) (ap (goes_on p.proj) r ∙ goes_back p.proj rest (subst Fields r (fields_of_unit u hu)))) ∙ e in grind arith)))

    -- the source's blank stays related to what the target holds
    pub linked_after : (j : Renaming) (m2 : Memory) → MemTy D G m1 → Linked j j m2 m1 → Linked j j m2 M
    unfolding value_at
    linked_after j m2 mt l = record {
      mem = record { at = λ h x g y e v k. go h x g y e v k (root_or_not A h x) };
      apart = λ h x h' x' q o o' e e' k k'. (let (b, c) = write_back m1 A (blank D t) h x o k in let (b', c') = write_back m1 A (blank D t) h' x' o' k' in l.apart h x h' x' q b b' e e' c c');
    }
      where
        go : (h x g y : ℕ) → j h x ≡ Some (g, y) → (v : Value) → local_at M h x ≡ Some v → RootOf A h x ⊎ (h ≡ f → x ≡ p.local → ⊥) → (w : Value) × (local_at m2 g y ≡ Some w) × ValueRel j v w
        go h x g y e v k (inr n) = l.mem.at h x g y e v (sym (write_other m1 A (blank D t) h x n) ∙ k)
        go h x g y e v k (inl r) =
            let (o, e1, e2) = bind_some ev in
            let here : local_at m1 h x ≡ Some o = ap₂ (local_at m1) r.0 r.1 ∙ e1 in
            let (w, ew, rel) = l.mem.at h x g y e o here in
            let same : put p.proj (blank D t) o ≡ v = some_val (sym (write_same m1 A (blank D t) h x r ∙ ap (option_map (put p.proj (blank D t))) here) ∙ k) in
            let ty : HasTy D G at.local o = value_at_ty D G m1 (record { frame = f; local = p.local; path = [] }) at.local o mt (record { local = at.local; is = at.is; path = refl }) (some_bind (at_path []) e1 refl) in
            (w, ew, subst (λ v. ValueRel j v w) same (dropped_keeps D apart proper G j p.proj at.local t o old w ty at.path e2 rel))

    pub frame_after : (j : Renaming) (c2 c1 c1' : Control) (m2 : Memory) → c1.frame ≡ f → c1'.frame ≡ f → c1'.function ≡ c1.function → (lt : Tree) → slice_get X.body1.locals p.local ≡ Some lt → is_direct p.proj ≡ true → path_through D (Some lt) p.proj ≡ false → stand.Frame X inits apart proper j c2 c1 m2 m1 → stand.Frame X inits apart proper j c2 c1' m2 M
    unfolding value_at
    frame_after j c2 c1 c1' m2 f1 f1' g1 lt el di th h = record {
      function1 = g1 ∙ h.function1;
      function2 = h.function2;
      roots = λ x u e. ap (λ f. j f x) (f1' ∙ sym f1) ∙ h.roots x u e;
      none = λ x e. ap (λ f. j f x) (f1' ∙ sym f1) ∙ h.none x e;
      only = λ i x y e. (let (a, b, c) = h.only i x y e in (a ∙ f1 ∙ sym f1', b, c));
      there = λ x u e. subst (λ g. (v : Value) × (local_at M g x ≡ Some v) × Loose D u v) (sym f1') (there x u e (root_or_not A f x));
      absent = λ x e. ap (λ g. local_at M g x) f1' ∙ write_other m1 A (blank D t) f x (λ _ q. absurd (let z : None ≡ Some lt = sym e ∙ ap (slice_get X.body1.locals) q ∙ el in grind arith)) ∙ ap (λ g. local_at m1 g x) (sym f1) ∙ h.absent x e;
      slots = h.slots;
    }
      where
        there : (x : ℕ) (u : Tree) → slice_get X.body1.locals x ≡ Some u → RootOf A f x ⊎ (f ≡ f → x ≡ p.local → ⊥) → (v : Value) × (local_at M f x ≡ Some v) × Loose D u v
        there x u e (inr n) = let (v, k, lo) = h.there x u e in (v, write_other m1 A (blank D t) f x n ∙ ap (λ g. local_at m1 g x) (sym f1) ∙ k, lo)
        there x u e (inl r) =
            let (v, k, lo) = h.there x u e in
            let k' : local_at m1 f x ≡ Some v = ap (λ g. local_at m1 g x) (sym f1) ∙ k in
            let same : lt ≡ u = some_val (sym el ∙ ap (slice_get X.body1.locals) (sym r.1) ∙ e) in
            let ty : at.local ≡ lt = some_eq D G at.local lt (G f p.local) at.is (lk p.local lt el) in
            let pt : path_ty D u p.proj ≡ Some t = subst (λ y. path_ty D y p.proj ≡ Some t) (ty ∙ same) at.path in
            (put p.proj (blank D t) v, write_same m1 A (blank D t) f x r ∙ ap (option_map (put p.proj (blank D t))) k', put_blank D p.proj u t (blank D t) v (blank_loose D proper t) lo pt di (subst (λ y. path_through D (Some y) p.proj ≡ false) same th))

  -- ---- flags and rows, where the drop goes on

  has_kept : (p u : Place) (ws : List Place) → Has ws u → is_under p u ≡ true → Has (kept_units p ws) u
  has_kept p u [] (i, e) h = absurd (grind arith)
  has_kept p u (w ∷ ws) (zero, e) h = let z : w ≡ u = grind arith in subst (λ w. Has (if is_under p w then w ∷ kept_units p ws else kept_units p ws) u) (sym z) (rw h (has_here u (kept_units p ws)))
    where
      has_here : (u : Place) (vs : List Place) → Has (u ∷ vs) u
      has_here u vs = (0, refl)
  has_kept p u (w ∷ ws) (suc i, e) h = go (is_under p w) (has_kept p u ws (i, e) h)
    where
      go : (b : Bool) → Has (kept_units p ws) u → Has (if b then w ∷ kept_units p ws else kept_units p ws) u
      go true (k, f) = (suc k, f)
      go false g = g

  has_end : (ws : List Place) (u : Place) → Has (ws ++ []) u → Has ws u
  has_end [] u h = h
  has_end (w ∷ ws) u (zero, e) = (0, e)
  has_end (w ∷ ws) u (suc i, e) = let (k, f) = has_end ws u (i, e) in (suc k, f)

  pub stated_after : Edges → (k : TypedBlock) (p : Place) (d : Dropping) (c2 c2' c1 : Control) (m2 m1 M : Memory) → c2'.frame ≡ c2.frame → c2'.block ≡ d.target → c2'.at ≡ 0 → c2'.dropping ≡ None → stand.Dropped X inits apart proper k p d None [] [] c2 c1 m2 m1 → ((u : Place) → Has us u → held M c1.frame u ≡ after_effect (ended_if (is_under p u)) (held m1 c1.frame u)) → stand.Stated X inits apart proper c2' (to_block d.target c1) m2 M
  stated_after E k p d c2 c2' c1 m2 m1 M f2 b2 a2 q2 st after = record {
    calm = refl;
    calm2 = q2;
    says = λ u x hu ex. says u x hu ex (is_under p u) refl;
    block = b2;
    here = λ k1 k2 e1 e2. (let (end, es, left) = E.edge c1.block d.target k (held M c1.frame) st.block (subst (λ t. Has (targets t) d.target) (sym st.term) (0, refl)) sound k1 k2 e1 e2 in (end, ap (λ a. Rattle.std.proofs.Common.drop a k2.stmts) a2 ∙ es, (left.0, sound_start X.source.shapes X.body1 d.target k1 (held M c1.frame) left.1)));
  }
    where
      says : (u : Place) (x : ℕ) → Has us u → stand.flag_of X inits apart proper u ≡ Some x → (b : Bool) → is_under p u ≡ b → stand.Says X inits apart proper m2 c2'.frame x (held M c1.frame u)
      says u x hu ex true e = ap (λ f. local_at m2 f x) f2 ∙ zeroed (st.zero u x (has_end st.done u (subst (λ ws. Has ws u) st.split (has_kept p u us hu e))) ex) ∙ ap (λ b. Some (number (flag b))) (sym (after u hu ∙ ap (λ b. after_effect (ended_if b) (held m1 c1.frame u)) e))
        where
          zeroed : (None ≡ Some x) ⊎ stand.Says X inits apart proper m2 c2.frame x false → local_at m2 c2.frame x ≡ Some (number (flag false))
          zeroed (inl z) = absurd (grind arith)
          zeroed (inr z) = z
      says u x hu ex false e = ap (λ f. local_at m2 f x) f2 ∙ st.others u x hu e ex ∙ ap (λ b. Some (number (flag b))) (sym (after u hu ∙ ap (λ b. after_effect (ended_if b) (held m1 c1.frame u)) e))

      effect_is : (u : Place) → term_effect u k.term ≡ ended_if (is_under p u)
      effect_is u = ap (term_effect u) st.term

      sound : SoundAt X.source.shapes X.body1 d.target (held M c1.frame)
      sound = sound_along X.source.shapes X.body1 c1.block d.target k (held m1 c1.frame) (held M c1.frame) st.block (subst (λ t. Has (targets t) d.target) (sym st.term) (0, refl)) (λ u hu. after u hu ∙ ap (λ o. after_effect o (held m1 c1.frame u)) (sym (effect_is u))) st.sound
