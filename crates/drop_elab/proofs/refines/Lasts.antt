-- What a frame that waits wants of the steps above it: that they leave its flags, and of its units which are holes. The steps of other frames do.
use Rattle.std.proofs.Common.{◌≡◌, ◌⊎◌, inl, inr, refl, sym, ap, ◌∙◌, subst, ℕ, ◌+◌, ◌<◌, true, false, ◌||◌, List, [], ◌∷◌, length, Option, Some, None, slice_get, arith}
use Rattle.mir_syntax.specs.declared.body.Place.{Place}
use Rattle.mir_syntax.specs.declared.body.Proj.{Proj}
use Rattle.mir_syntax.specs.Tree.{Tree}
use Rattle.mir_syntax.specs.Crate.{TypedBlock}
use Rattle.mir_syntax.specs.Shapes.{Shape, needs_drop}
use Rattle.mir_rules.specs.DefinitionRules.{holds}
use Rattle.mir_rules.specs.Weights.{units}
use Rattle.mir_num.specs.Numbers.{flag}
use Rattle.mir_semantics.specs.Values.{Value, number, whole, full}
use Rattle.mir_semantics.specs.Memory.{Memory, local_at}
use Rattle.mir_semantics.specs.Step.{Dest, Visit, Dropping, Control}
use Rattle.mir_renaming.specs.Renaming.{Renaming}
use Rattle.mir_syntax.proofs.Binds.{some_bind}
use Rattle.mir_renaming.proofs.Types.{TypeMap, HasTy}
use Rattle.mir_renaming.proofs.Agree.{NeedsOk}
use Rattle.move_paths.specs.Effects.{begun}
use Rattle.drop_elab.specs.Elab.{Inits}
use Rattle.mir_relate.specs.Leaves.{Leaves}
use Rattle.mir_relate.specs.Mild.{Mild, same, more, Gentle}
use Rattle.mir_relate.specs.Pass.{KeptLaw}
use Rattle.mir_relate.specs.Frames.{Change}
use Rattle.mir_relate.proofs.Stacks.{dests_up}
use Rattle.drop_elab.proofs.refines.Items.{Proper, ProperShapes}
use Rattle.drop_elab.proofs.refines.Sound.{Has, sound_same, sound_at_same}
use Rattle.drop_elab.proofs.refines.Puts.{hole_at}
use Rattle.drop_elab.proofs.refines.Kept.{kept_by_write}
use Rattle.drop_elab.proofs.refines.Deep.{Loose, Deep, put_loose, whole_deep, needless_deep}
use Rattle.drop_elab.proofs.refines.Solid.{unit_of_local}
use Rattle.drop_elab.proofs.refines.Stand as stand
use Rattle.drop_elab.proofs.refines.Stand.{held_in, held, AllV}
use Rattle.drop_elab.proofs.refines.Parts.{all_then}
use Rattle.drop_elab.proofs.refines.Stages as stages
use Rattle.drop_elab.proofs.refines.Stages.{has_front, has_back}

-- mild writes change no unit from a hole or to one, and leave a value loose
module _ (D : List Shape) (apart : (d : ℕ) → holds D (length D) d d ≡ false) (proper : ProperShapes D) (G : TypeMap) (t : Tree) (pr : Proper t) where
  pub mild_units : (v v' : Value) → Mild D G t v v' → (u : List Proj) → Has (units D t) u → hole_at u v' ≡ hole_at u v
  mild_units v w (same _) u hu = refl
  mild_units v w (more _ y z ps b f) u hu = kept_by_write D apart proper G u ps t f.part y f.old z pr hu f.ty f.fits f.was (λ n. ok n f.fair) ∙ mild_units v y b u hu
    where
      ok : needs_drop D f.part ≡ true → (needs_drop D f.part ≡ false) ⊎ (full D f.part f.old ≡ true) × (whole z ≡ true) × HasTy D G f.part f.old → (full D f.part f.old ≡ true) × (whole z ≡ true) × HasTy D G f.part f.old
      ok n (inl q) = absurd (let e : true ≡ false = sym n ∙ q in grind arith)
      ok n (inr q) = q

  pub mild_loose : NeedsOk D → (v v' : Value) → Mild D G t v v' → Loose D t v → Loose D t v'
  mild_loose needs v w (same _) h = h
  mild_loose needs v w (more _ y z ps b f) h = put_loose D ps t f.part z y (deep f.fair) (mild_loose needs v y b h) f.ty
    where
      deep : (needs_drop D f.part ≡ false) ⊎ (full D f.part f.old ≡ true) × (whole z ≡ true) × HasTy D G f.part f.old → Deep D f.part z
      deep (inl q) = needless_deep D needs z f.part q
      deep (inr q) = whole_deep D z f.part q.1

module _ (X : Change) (inits : Inits) (apart : (d : ℕ) → holds X.source.shapes (length X.source.shapes) d d ≡ false) (proper : ProperShapes X.source.shapes) (proper_locals : (x : ℕ) (t : Tree) → slice_get X.body1.locals x ≡ Some t → Proper t) (S : stages.Sorted X inits apart proper) (needs : NeedsOk X.source.shapes) where
  abbrev D : List Shape
  D = X.source.shapes

  abbrev us : List Place
  us = stand.us X inits apart proper

  module _ (G : TypeMap) (j j' : Renaming) (c2 c1 : Control) (n2 n1 : ℕ) (m2' m1' m2 m1 : Memory) (l1 : c1.frame < n1) (l2 : c2.frame < n2) (lv : Leaves X.source.shapes G j j' n2 n1 m2' m1' m2 m1) (ge : Gentle X.source.shapes G n1 m1' m1) (known : (x : ℕ) (t : Tree) → slice_get X.body1.locals x ≡ Some t → G c1.frame x ≡ Some t) (fr : stand.Frame X inits apart proper j c2 c1 m2 m1) where
    unmapped : (y : ℕ) → slice_get X.body1.locals y ≡ None → (h x : ℕ) → j h x ≡ Some (c2.frame, y) → ⊥
    unmapped y q h x e = let (a, b, (t, z)) = fr.only h x y e in let u : ◌≡◌ {A = Option Tree} None (Some t) = sym q ∙ z in grind arith

    flag_kept : (y : ℕ) → slice_get X.body1.locals y ≡ None → local_at m2' c2.frame y ≡ local_at m2 c2.frame y
    flag_kept y q = lv.target c2.frame y l2 (unmapped y q)

    held_kept : (u : Place) → Has us u → held m1' c1.frame u ≡ held m1 c1.frame u
    held_kept u h =
        let (y, lt, q, el, hu) = unit_of_local D 0 X.body1.locals u h in
        let z : u.local ≡ y = q ∙ (let z : 0 + y ≡ y = omega arith in z) in
        let (v, ev, lo) = fr.there y lt el in
        let (v', ev', k) = ge.mild c1.frame y lt v l1 (known y lt el) ev in
        ap held_in (some_bind (hole_at u.proj) {o = local_at m1' c1.frame u.local} (ap (local_at m1' c1.frame) z ∙ ev') refl ∙ mild_units D apart proper G lt (proper_locals y lt el) v v' k u.proj hu ∙ sym (some_bind (hole_at u.proj) {o = local_at m1 c1.frame u.local} (ap (local_at m1 c1.frame) z ∙ ev) refl))

    pub frame_kept : stand.Frame X inits apart proper j' c2 c1 m2' m1'
    frame_kept = record {
      function1 = fr.function1;
      function2 = fr.function2;
      roots = λ x t e. lv.up c1.frame x _ (fr.roots x t e);
      none = λ x e. lv.same1 c1.frame x l1 ∙ fr.none x e;
      only = λ h x y e. fr.only h x y (lv.same2 h x c2.frame y l2 e);
      there = λ x t e. (let (v, ev, lo) = fr.there x t e in let (v', ev', k) = ge.mild c1.frame x t v l1 (known x t e) ev in (v', ev', mild_loose D apart proper G t (proper_locals x t e) needs v v' k lo));
      absent = λ x e. lv.source c1.frame x l1 (fr.none x e) ∙ fr.absent x e;
      slots = λ x t e q. (let (v, ev) = fr.slots x t e q in (v, flag_kept x q ∙ ev));
    }

    says_kept : (u : Place) (x : ℕ) → stand.flag_of X inits apart proper u ≡ Some x → local_at m2' c2.frame x ≡ local_at m2 c2.frame x
    says_kept u x e = let (t, a, b) = S.flags_there u x e in flag_kept x b

    pub dropped_kept : (k : TypedBlock) (p : Place) (d : Dropping) (cur : Option ℕ) (inner os : List Visit) → stand.Dropped X inits apart proper k p d cur inner os c2 c1 m2 m1 → stand.Dropped X inits apart proper k p d cur inner os c2 c1 m2' m1'
    dropped_kept k p d cur inner os st = record {
      is = st.is;
      block = st.block;
      ends = st.ends;
      term = st.term;
      addr = st.addr;
      ty = st.ty;
      items = st.items;
      inside = all_then (stand.Inside X inits apart proper m1 c1.frame) (stand.Inside X inits apart proper m1' c1.frame) inner (λ i h. record { frame = h.frame; unit = h.unit; known = h.known; local = h.local; rest = h.rest; path = h.path; plain = h.plain; fine = h.fine; live = held_kept h.unit h.known ∙ h.live }) st.inside;
      outside = st.outside;
      done = st.done;
      split = st.split;
      zero = λ u x h e. zeroed u x e (st.zero u x h e);
      right = λ u x h e. says_kept u x e ∙ st.right u x h e ∙ ap (λ b. Some (number (flag b))) (sym (held_kept u (S.kept p u (subst (λ ws. Has ws u) (sym st.split) (has_back st.done (stand.left X inits apart proper os) u h))).0));
      current = st.current;
      others = λ u x h n e. says_kept u x e ∙ st.others u x h n e ∙ ap (λ b. Some (number (flag b))) (sym (held_kept u h));
      sound = sound_same X.source.shapes X.body1 c1.block k [] (held m1 c1.frame) (held m1' c1.frame) held_kept st.sound;
    }
      where
        zeroed : (u : Place) (x : ℕ) → stand.flag_of X inits apart proper u ≡ Some x → (cur ≡ Some x) ⊎ stand.Says X inits apart proper m2 c2.frame x false → (cur ≡ Some x) ⊎ stand.Says X inits apart proper m2' c2.frame x false
        zeroed u x e (inl q) = inl q
        zeroed u x e (inr q) = inr (says_kept u x e ∙ q)

    -- the law of the layer for a frame of the elaborated function that waits
    pub waits_kept : (d2 d1 : Option Dest) (gs : List Control) → (stand.pass X inits apart proper).waits j d2 d1 c2 c1 gs m2 m1 → (stand.pass X inits apart proper).waits j' d2 d1 c2 c1 gs m2' m1'
    waits_kept d2 d1 gs (e, f, w) = (e, frame_kept, pick w)
      where
        pick : ((d1 ≡ None) × stand.Waits X inits apart proper d2 c2 c1 m2 m1) ⊎ stand.Called X inits apart proper j d2 d1 c2 c1 m2 m1 → ((d1 ≡ None) × stand.Waits X inits apart proper d2 c2 c1 m2' m1') ⊎ stand.Called X inits apart proper j' d2 d1 c2 c1 m2' m1'
        pick (inl (q, w)) = inl (q, record { block = w.block; dropped = w.dropped; drop = w.drop; cur = w.cur; item = w.item; inner = w.inner; os = w.os; state = dropped_kept w.block w.dropped w.drop w.cur (w.item ∷ w.inner) w.os w.state; calm = w.calm; begins = w.begins; paused = w.paused; unread = w.unread; far = w.far; there = w.there; dest = w.dest })
        pick (inr w) = inr (record {
          from = w.from;
          block = w.block;
          is = w.is;
          place = w.place;
          callee = w.callee;
          args = w.args;
          next = w.next;
          term = w.term;
          dests = dests_up j j' lv.up d1 d2 w.dests;
          goal = w.goal;
          aims = w.aims;
          stands1 = w.stands1;
          stands2 = w.stands2;
          sets = w.sets;
          says = λ u x h n e. says_kept u x e ∙ w.says u x h n e ∙ ap (λ b. Some (number (flag b))) (sym (held_kept u h));
          sound = sound_at_same X.source.shapes X.body1 w.next (λ u. begun u w.block.term || held m1 c1.frame u) (λ u. begun u w.block.term || held m1' c1.frame u) (λ u h. ap (λ b. begun u w.block.term || b) (held_kept u h)) w.sound;
        })

  -- the frames that wait last
  pub kept_law : KeptLaw X (stand.pass X inits apart proper)
  kept_law G j j' d2 d1 c2 c1 gs n2 n1 m2' m1' m2 m1 ks l1 l2 lo lv ge w = waits_kept G j j' c2 c1 n2 n1 m2' m1' m2 m1 l1 l2 lv ge (ks.0 X.body1 (ap (slice_get X.source.bodies) w.1.function1 ∙ X.at1)) w.1 d2 d1 gs w
