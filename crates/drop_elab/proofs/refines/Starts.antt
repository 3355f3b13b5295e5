-- A call of the elaborated function: its new frames stand for each other, once the flags were set.
use Rattle.std.proofs.Common.{◌≡◌, inl, refl, sym, ap, ◌∙◌, subst, ℕ, suc, ◌+◌, ◌<◌, ◌≤◌, Bool, true, false, not, nat_le, ◌&&◌, List, [], ◌++◌, length, drop, Option, Some, None, slice_get, option_map, arith}
use Rattle.std.proofs.lemmas.Option.{slice_get_within}
use Rattle.mir_syntax.specs.declared.body.Place.{Place}
use Rattle.mir_syntax.specs.declared.body.Proj.{Proj}
use Rattle.mir_syntax.specs.Tree.{Tree}
use Rattle.mir_syntax.specs.Crate.{TypedBlock, TypedBody}
use Rattle.mir_syntax.specs.Shapes.{Shape}
use Rattle.mir_num.specs.Numbers.{flag}
use Rattle.mir_rules.specs.DefinitionRules.{holds}
use Rattle.mir_rules.specs.Weights.{units}
use Rattle.mir_semantics.specs.Values.{Value, number, whole, is_hole, blank}
use Rattle.mir_semantics.specs.Memory.{Memory, local_at, open_frame}
use Rattle.mir_semantics.specs.Step.{Dest, Control, new_slots}
use Rattle.mir_syntax.proofs.Binds.{some_bind}
use Rattle.mir_renaming.specs.Renaming.{Renaming, SomeRel}
use Rattle.mir_renaming.proofs.Frames.{open_same, new_control}
use Rattle.mir_renaming.proofs.Slots.{slots_rel, value_in}
use Rattle.mir_renaming.proofs.Types.{TypeMap, MemTy, HasTy}
use Rattle.move_paths.specs.Inits.{after_effect, is_argument}
use Rattle.drop_elab.specs.Elab.{Inits, Flagged, with_settings, want_flags}
use Rattle.mir_relate.specs.Alike.{AllSame, Arguments}
use Rattle.mir_relate.specs.Frames.{Change, target, opened}
use Rattle.mir_relate.proofs.Leaves.{some_val}
use Rattle.mir_relate.proofs.Opens.{opened_at}
use Rattle.mir_relate.proofs.Single.{opened_none, opened_only}
use Rattle.drop_elab.proofs.NoDrop.{more_locals}
use Rattle.drop_elab.proofs.refines.Items.{Proper, ProperShapes}
use Rattle.drop_elab.proofs.refines.Sound.{Has, Held, sound_start}
use Rattle.drop_elab.proofs.refines.Puts.{hole_at}
use Rattle.drop_elab.proofs.refines.UnitPaths.{blank_at_unit}
use Rattle.drop_elab.proofs.refines.Kept.{begun_by_whole}
use Rattle.drop_elab.proofs.refines.Deep.{Loose, deep_loose, whole_deep, blank_loose}
use Rattle.drop_elab.proofs.refines.Solid.{unit_of_local}
use Rattle.drop_elab.proofs.refines.Bodies.{end_of, block_of, elab_block}
use Rattle.drop_elab.proofs.refines.Flags.{same_is, flag_found, flag_local}
use Rattle.drop_elab.proofs.refines.Machine.{place_in}
use Rattle.drop_elab.proofs.refines.Opened.{slots_there, slots_none, slots_more, whole_in}
use Rattle.drop_elab.proofs.refines.Settings.{flags_distinct, Sets, set_value, run_settings}
use Rattle.drop_elab.proofs.refines.Stand as stand
use Rattle.drop_elab.proofs.refines.Stand.{held_in, held}

module _ (X : Change) (inits : Inits) (apart : (d : ℕ) → holds X.source.shapes (length X.source.shapes) d d ≡ false) (proper : ProperShapes X.source.shapes) where
  abbrev D : List Shape
  D = X.source.shapes

  abbrev E : TypedBody
  E = stand.E X inits apart proper

  abbrev us : List Place
  us = stand.us X inits apart proper

  abbrev fs : List Flagged
  fs = stand.fs X inits apart proper

  -- after settings the flags say what the units are
  pub says_after : (change : Place → Option Bool) (f : ℕ) (m m' : Memory) (was now : Held) → Sets f change fs m m' → ((u : Place) → Has us u → now u ≡ after_effect (change u) (was u)) → ((u : Place) (x : ℕ) → Has us u → change u ≡ None → stand.flag_of X inits apart proper u ≡ Some x → stand.Says X inits apart proper m f x (was u)) → (u : Place) (x : ℕ) → Has us u → stand.flag_of X inits apart proper u ≡ Some x → stand.Says X inits apart proper m' f x (now u)
  says_after change f m m' was now st is says u x hu e =
      let (k, g, a, b, c) = flag_found u fs x e in
      let z : u ≡ g.unit = same_is u g.unit c in
      st.set g x (k, a) b ∙ ap (λ u. set_value (change u) (local_at m f x)) (sym z) ∙ go (change u) refl ∙ ap (λ b. Some (number (flag b))) (sym (is u hu))
    where
      go : (o : Option Bool) → change u ≡ o → set_value (change u) (local_at m f x) ≡ Some (number (flag (after_effect (change u) (was u))))
      go None q = ap (λ o. set_value o (local_at m f x)) q ∙ says u x hu q e ∙ ap (λ o. Some (number (flag (after_effect o (was u))))) (sym q)
      go (Some b) q = ap (λ o. set_value o (local_at m f x)) q ∙ ap (λ o. Some (number (flag (after_effect o (was u))))) (sym q)

  -- flags are no locals of the source
  pub past_sets : (change : Place → Option Bool) (f : ℕ) (m m' : Memory) → Sets f change fs m m' → stand.Past X inits apart proper f m m'
  past_sets change f m m' st = record { others = λ g x n. st.kept g x (λ p k h q. n p (flag_local X inits h.0 k x h.1 q).2); there = st.there }

  -- the local that stands for a local
  pub place_is : (x y : ℕ) → stand.place X inits apart proper x ≡ Some y → (x ≡ y) × ((t : Tree) × (slice_get X.body1.locals x ≡ Some t))
  place_is x y e = go (slice_get X.body1.locals x) refl e
    where
      go : (o : Option Tree) → slice_get X.body1.locals x ≡ o → stand.stays_at X inits apart proper x o ≡ Some y → (x ≡ y) × ((t : Tree) × (slice_get X.body1.locals x ≡ Some t))
      go None q z = absurd (grind arith)
      go (Some t) q z = (some_val z, (t, q))

  pub place_some : (x : ℕ) (t : Tree) → slice_get X.body1.locals x ≡ Some t → stand.place X inits apart proper x ≡ Some x
  place_some x t e = ap (stand.stays_at X inits apart proper x) e

  pub once : (x x' y : ℕ) → stand.place X inits apart proper x ≡ Some y → stand.place X inits apart proper x' ≡ Some y → x ≡ x'
  once x x' y e e' = (place_is x y e).0 ∙ sym (place_is x' y e').0

  module _ (is2 : X.body2 ≡ E) (below : X.body1.args < length X.body1.locals) where
    same_slots : (vs : List Value) (x : ℕ) (t : Tree) → slice_get X.body1.locals x ≡ Some t → slice_get (new_slots D X.body2.locals vs) x ≡ slice_get (new_slots D X.body1.locals vs) x
    same_slots vs x t e =
        let (others, q) = more_locals D X.body1 inits in
        ap (λ ts. slice_get (new_slots D ts vs) x) (ap (λ (b : TypedBody). b.locals) is2 ∙ q) ∙ slots_more D X.body1.locals others vs x t e

    pub slots : (j : Renaming) (vs ws : List Value) → AllSame j vs ws → (x y : ℕ) → stand.place X inits apart proper x ≡ Some y → (v : Value) → slice_get (new_slots D X.body1.locals vs) x ≡ Some v → SomeRel j v (slice_get (new_slots D X.body2.locals ws) y)
    slots j vs ws hv x y e v k =
        let (z, (t, et)) = place_is x y e in
        subst (λ y. SomeRel j v (slice_get (new_slots D X.body2.locals ws) y)) z (subst (SomeRel j v) (sym (same_slots ws x t et)) (value_in j (new_slots D X.body1.locals vs) (new_slots D X.body1.locals ws) x v (slots_rel j D X.body1.locals vs ws hv.0) k))

    module _ (proper_locals : (x : ℕ) (t : Tree) → slice_get X.body1.locals x ≡ Some t → Proper t) (first : (k : TypedBlock) × (slice_get X.body1.blocks 0 ≡ Some k)) (j : Renaming) (k2 k1 : ℕ) (d2 d1 : Option Dest) (m2 m1 : Memory) (vs ws : List Value) (ar : Arguments X.body1.args vs) (fresh1 : (x : ℕ) → j k1 x ≡ None) (fresh2 : (h x g y : ℕ) → j h x ≡ Some (g, y) → g < k2) where
      abbrev M1 : Memory
      M1 = open_frame m1 k1 (new_slots X.source.shapes X.body1.locals vs)

      abbrev M2 : Memory
      M2 = open_frame m2 k2 (new_slots X.source.shapes X.body2.locals ws)

      abbrev C1 : Control
      C1 = new_control X.f k1 d1

      abbrev C2 : Control
      C2 = new_control X.f k2 d2

      -- arguments are whole, and all else is blank
      abbrev Slot : ℕ → Tree → Value → Type 0
      Slot x t v = Loose D t v × ((G : TypeMap) (u : List Proj) → Proper t → Has (units D t) u → HasTy D G t v → hole_at u v ≡ Some (not (not (nat_le x 0) && nat_le x X.body1.args)))

      blank_slot : (x : ℕ) (t : Tree) → (not (nat_le x 0) && nat_le x X.body1.args) ≡ false → Slot x t (blank D t)
      blank_slot x t e = (blank_loose D proper t, λ G u pr hu ty. ap (option_map is_hole) (blank_at_unit D apart proper u t pr hu) ∙ ap (λ b. Some (not b)) (sym e))

      whole_slot : (x : ℕ) (t : Tree) (v : Value) → (not (nat_le x 0) && nat_le x X.body1.args) ≡ true → whole v ≡ true → Slot x t v
      whole_slot x t v e w = (deep_loose D v t (whole_deep D v t w), λ G u pr hu ty. begun_by_whole D apart proper G u [] u t t v v v pr hu refl refl pr ty w refl ∙ ap (λ b. Some (not b)) (sym e))

      slot_at : (x : ℕ) (t : Tree) → slice_get X.body1.locals x ≡ Some t → (v : Value) × (slice_get (new_slots D X.body1.locals vs) x ≡ Some v) × Slot x t v
      slot_at = slots_there D Slot X.body1.locals vs (λ t. blank_slot 0 t refl) (λ k t v e1 e2. whole_slot (suc k) t v (low k v e2) (whole_in vs k v ar.whole e2)) (λ k t l. blank_slot (suc k) t (high k l))
        where
          low : (k : ℕ) (v : Value) → slice_get vs k ≡ Some v → (not (nat_le (suc k) 0) && nat_le (suc k) X.body1.args) ≡ true
          low k v e = (let l = slice_get_within vs k v e in let a = ar.all in grind (arith, l, a))

          high : (k : ℕ) → length vs ≤ k → (not (nat_le (suc k) 0) && nat_le (suc k) X.body1.args) ≡ false
          high k l = (let a = ar.all in grind (arith, l, a))

      in_memory : (x : ℕ) (t : Tree) → slice_get X.body1.locals x ≡ Some t → (v : Value) × (local_at M1 k1 x ≡ Some v) × Slot x t v
      in_memory x t e = (let (v, ev, sl) = slot_at x t e in (v, open_same m1 k1 (new_slots D X.body1.locals vs) x ∙ ev, sl))

      -- an argument's units are initialised, and no others
      held_now : (G : TypeMap) → MemTy D G M1 → ((x : ℕ) (t : Tree) → slice_get X.body1.locals x ≡ Some t → G k1 x ≡ Some t) → (u : Place) → Has us u → held M1 k1 u ≡ is_argument X.body1.args u
      held_now G mt lk u hu =
          let (y, lt, ul, el, hp) = unit_of_local D 0 X.body1.locals u hu in
          let z : u.local ≡ y = ul ∙ (let z : 0 + y ≡ y = omega arith in z) in
          let (v, ev, (lo, sl)) = in_memory y lt el in
          let here : local_at M1 k1 u.local ≡ Some v = ap (local_at M1 k1) z ∙ ev in
          ap held_in (some_bind (hole_at u.proj) {o = local_at M1 k1 u.local} here refl ∙ sl G u.proj (proper_locals y lt el) hp (mt.at k1 y lt v (lk y lt el) ev)) ∙ twice (not (nat_le y 0) && nat_le y X.body1.args) ∙ ap (λ y. not (nat_le y 0) && nat_le y X.body1.args) (sym z)
        where
          twice : (b : Bool) → not (not b) ≡ b
          twice true = refl
          twice false = refl

      j' : Renaming
      j' = opened j k2 k1 (stand.place X inits apart proper)

      frame : (m : Memory) → ((y : ℕ) (v : Value) → local_at M2 k2 y ≡ Some v → (w : Value) × (local_at m k2 y ≡ Some w)) → (c : Control) → c.function ≡ X.f → c.frame ≡ k2 → stand.Frame X inits apart proper (opened j k2 k1 (stand.place X inits apart proper)) c C1 m M1
      frame m kept c g2 f2 = record {
        function1 = refl;
        function2 = g2;
        roots = λ x t e. opened_at j k2 k1 (stand.place X inits apart proper) fresh1 fresh2 x x (place_some x t e) ∙ ap (λ f. Some (f, x)) (sym f2);
        none = λ x e. opened_none j k2 k1 (stand.place X inits apart proper) fresh1 fresh2 x (ap (stand.stays_at X inits apart proper x) e);
        only = λ h x y e. only h x y (e ∙ ap (λ f. Some (f, y)) f2);
        there = λ x t e. (let (v, ev, (lo, sl)) = in_memory x t e in (v, ev, lo));
        absent = λ x e. open_same m1 k1 (new_slots D X.body1.locals vs) x ∙ slots_none D X.body1.locals vs x (let a = ar.all in omega (arith, a, below)) e;
        slots = λ x t e none. (let (v, ev, sl) = slots_there D (λ x t v. Unit {0}) X.body2.locals ws (λ t. tt) (λ k t v e1 e2. tt) (λ k t l. tt) x t (ap (λ (b : TypedBody). slice_get b.locals x) is2 ∙ e) in let (w, ew) = kept x v (open_same m2 k2 (new_slots D X.body2.locals ws) x ∙ ev) in (w, ap (λ f. local_at m f x) f2 ∙ ew));
      }
        where
          only : (h x y : ℕ) → opened j k2 k1 (stand.place X inits apart proper) h x ≡ Some (k2, y) → (h ≡ k1) × (x ≡ y) × ((t : Tree) × (slice_get X.body1.locals y ≡ Some t))
          only h x y e =
              let (p, q) = opened_only j k2 k1 (stand.place X inits apart proper) fresh1 fresh2 h x y e in
              let (z, (t, et)) = place_is x y q in
              (p, z, (t, ap (slice_get X.body1.locals) (sym z) ∙ et))

      pub begins : stand.IfTyped X inits apart proper C1 M1 (stand.Own X inits apart proper (stand.number_of X inits apart proper 0) (opened j k2 k1 (stand.place X inits apart proper)) C2 C1 M2 M1)
      begins G mt known s =
          let lk : (x : ℕ) (t : Tree) → slice_get X.body1.locals x ≡ Some t → G k1 x ≡ Some t = known X.body1 X.at1 in
          let (k, ek) = first in
          let (l, b, le, eb, st) = elab_block D X.body1 inits 0 k ek in
          let end = end_of D X.body1 us fs inits 0 k l b in
          let block = block_of D X.body1 us fs inits 0 k l b in
          let (n, a', m', mv, dr, se) = run_settings (target X) E s C2 (X.at2 ∙ ap (λ b. Some b) is2) (λ u. Some (is_argument X.body1.args u)) 0 block eb fs (with_settings fs k.stmts ++ end.stmts) M2 0 (flags_distinct (length X.body1.locals) us (want_flags us inits 0 X.body1.blocks)) there refl in
          record {
            control = place_in C2 0 a';
            memory = m';
            count = n;
            comes = mv;
            same = (refl, refl);
            past = past_sets (λ u. Some (is_argument X.body1.args u)) k2 M2 m' se;
            frame = frame m' se.there (place_in C2 0 a') refl refl;
            ready = inl (
              refl,
              record {
                calm = refl;
                calm2 = refl;
                says = says_after (λ u. Some (is_argument X.body1.args u)) k2 M2 m' (λ u. false) (held M1 k1) se (λ u hu. held_now G mt lk u hu) (λ u x hu q e. absurd (grind arith));
                block = refl;
                here = λ q1 q2 e1 e2. (
                  end,
                  ap (λ (b : TypedBlock). drop a' b.stmts) (some_val (sym e2 ∙ eb)) ∙ dr ∙ ap (λ (k : TypedBlock). with_settings fs k.stmts ++ end.stmts) (some_val (sym ek ∙ e1)),
                  (
                    (l, b, le, ap (λ (k : TypedBlock). end_of D X.body1 us fs inits 0 k l b) (some_val (sym ek ∙ e1)), ap (λ (b : TypedBlock). b.term) (some_val (sym e2 ∙ eb)), st),
                    sound_start D X.body1 0 q1 (held M1 k1) (λ u hu. (0, (refl, held_now G mt lk u hu))),
                  ),
                );
              },
            );
          }
        where
          there : (k : Flagged) (x : ℕ) → Has fs k → k.flag ≡ Some x → (t : Tree) × (old : Value) × (slice_get E.locals x ≡ Some t) × (local_at M2 k2 x ≡ Some old)
          there k x h q =
              let (t, et, gone) = flag_local X inits h.0 k x h.1 q in
              let (v, ev) = (frame M2 (λ y v e. (v, e)) C2 refl refl).slots x t et gone in
              (t, v, et, ev)
