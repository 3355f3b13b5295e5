-- What a drop's state becomes as its items are worked off.
use Rattle.std.proofs.Common.{◌≡◌, ◌⊎◌, inl, inr, refl, sym, ap, ap₂, ◌∙◌, subst, ℕ, zero, suc, ◌<◌, ◌≤◌, Bool, true, false, not, List, [], ◌∷◌, ◌++◌, length, Option, Some, None, slice_get, append_assoc, arith}
use Rattle.mir_syntax.specs.declared.body.Place.{Place}
use Rattle.mir_syntax.specs.declared.body.Term.TheVariants.{Drop}
use Rattle.mir_syntax.specs.Tree.{Tree}
use Rattle.mir_syntax.specs.Crate.{TypedBlock}
use Rattle.mir_syntax.specs.Shapes.{Shape, needs_drop}
use Rattle.mir_num.specs.Numbers.{flag}
use Rattle.mir_rules.specs.DefinitionRules.{holds}
use Rattle.mir_rules.specs.Weights.{units}
use Rattle.mir_semantics.specs.Values.{Value, number, is_hole}
use Rattle.mir_semantics.specs.Memory.{Memory, local_at, value_at, write}
use Rattle.mir_semantics.specs.Step.{Visit, Dropping, Control, local_addr, visits_of}
use Rattle.mir_syntax.proofs.Binds.{bind_some, some_bind}
use Rattle.move_paths.specs.Effects.{is_under}
use Rattle.drop_elab.specs.Elab.{Inits, conditional, elab_by}
use Rattle.mir_relate.specs.Frames.{Change}
use Rattle.drop_elab.proofs.refines.Runs.{here_at, beside, written}
use Rattle.drop_elab.proofs.refines.Items.{ProperShapes, place_of}
use Rattle.drop_elab.proofs.refines.Near.{Plain}
use Rattle.drop_elab.proofs.refines.Outer.{unit_in_ty}
use Rattle.drop_elab.proofs.refines.Sound.{Has, Held, SoundBefore, StatusSays}
use Rattle.drop_elab.proofs.refines.Begins.{kept_units}
use Rattle.drop_elab.proofs.refines.Stand as stand
use Rattle.drop_elab.proofs.refines.Stand.{held_in, held, AllV}
use Rattle.drop_elab.proofs.refines.Parts.{Part, all_append, all_then, plain_both, parts_are, left_none, left_unit, left_parts}

-- no place twice
abbrev pub NoDup : List Place → Type 0
NoDup [] = Unit {0}
NoDup (u ∷ us) = (Has us u → ⊥) × NoDup us

pub has_front : {A : Type 0} (xs ys : List A) (x : A) → Has xs x → Has (xs ++ ys) x
has_front [] ys x (i, e) = absurd (grind arith)
has_front (z ∷ xs) ys x (zero, e) = (0, e)
has_front (z ∷ xs) ys x (suc i, e) = let (j, f) = has_front xs ys x (i, e) in (suc j, f)

pub has_back : {A : Type 0} (xs ys : List A) (x : A) → Has ys x → Has (xs ++ ys) x
has_back [] ys x h = h
has_back (z ∷ xs) ys x h = let (j, f) = has_back xs ys x h in (suc j, f)

pub has_first : {A : Type 0} (x : A) (xs : List A) → Has (x ∷ xs) x
has_first x xs = (0, refl)

pub has_later : {A : Type 0} (y x : A) (xs : List A) → Has xs x → Has (y ∷ xs) x
has_later y x xs (i, e) = (suc i, e)

pub has_cases : {A : Type 0} (xs : List A) (y x : A) → Has (xs ++ (y ∷ [])) x → Has xs x ⊎ (y ≡ x)
has_cases [] y x (zero, e) = inr (let z : y ≡ x = grind arith in z)
has_cases [] y x (suc i, e) = absurd (grind arith)
has_cases (z ∷ xs) y x (zero, e) = inl (0, e)
has_cases (z ∷ xs) y x (suc i, e) = go (has_cases xs y x (i, e))
  where
    go : Has xs x ⊎ (y ≡ x) → Has (z ∷ xs) x ⊎ (y ≡ x)
    go (inl (j, f)) = inl (suc j, f)
    go (inr q) = inr q

pub not_both : (xs ys : List Place) (u : Place) → NoDup (xs ++ ys) → Has xs u → Has ys u → ⊥
not_both [] ys u n (i, e) g = absurd (grind arith)
not_both (z ∷ xs) ys u n (zero, e) g = n.0 (has_back xs ys z (subst (λ w. Has ys w) (let q : u ≡ z = grind arith in q) g))
not_both (z ∷ xs) ys u n (suc i, e) g = not_both xs ys u n.1 (i, e) g

module _ (X : Change) (inits : Inits) (apart : (d : ℕ) → holds X.source.shapes (length X.source.shapes) d d ≡ false) (proper : ProperShapes X.source.shapes) where
  abbrev D : List Shape
  D = X.source.shapes

  abbrev us : List Place
  us = stand.us X inits apart proper

  abbrev flag_of : Place → Option ℕ
  flag_of = stand.flag_of X inits apart proper

  abbrev low : ℕ
  low = stand.low X inits apart proper

  abbrev Says : Memory → ℕ → ℕ → Bool → Type 0
  Says = stand.Says X inits apart proper

  abbrev left : List Visit → List Place
  left = stand.left X inits apart proper

  -- flags are locals of their own, one for each unit that has one; no unit stands twice
  pub record Sorted : Type 0 where
    pub one : (u u' : Place) (x : ℕ) → Has us u → Has us u' → flag_of u ≡ Some x → flag_of u' ≡ Some x → u ≡ u'
    pub flags_there : (q : Place) (y : ℕ) → flag_of q ≡ Some y → (t : Tree) × (slice_get (elab_by X.source.shapes X.body1 inits).locals y ≡ Some t) × (slice_get X.body1.locals y ≡ None)
    pub flags_low : (q : Place) (y : ℕ) → flag_of q ≡ Some y → y < low
    pub past : (x : ℕ) → low ≤ x → slice_get X.body1.locals x ≡ None
    pub nodup : (p : Place) → NoDup (kept_units p us)
    pub kept : (p u : Place) → Has (kept_units p us) u → Has us u × (is_under p u ≡ true)
    pub units_are : (t : Tree) → unit_in_ty D t ≡ true → (units D t ≡ []) ⊎ (units D t ≡ [] ∷ [])
    pub unit_is : (t : Tree) → unit_in_ty D t ≡ true → needs_drop D t ≡ true → units D t ≡ [] ∷ []
    -- a unit's status at a drop is right, and a conditional one has a flag
    pub status : (i : ℕ) (k : TypedBlock) (p : Place) (t : ℕ) (now : Held) (u : Place) → slice_get X.body1.blocks i ≡ Some k → k.term ≡ Drop p t → SoundBefore X.source.shapes X.body1 i k [] now → Has (kept_units p us) u → StatusSays ((stand.marks_at X inits apart proper i k).status u) (now u)
    pub wants : (i : ℕ) (k : TypedBlock) (p : Place) (t : ℕ) (u : Place) → slice_get X.body1.blocks i ≡ Some k → k.term ≡ Drop p t → Has (kept_units p us) u → (stand.marks_at X inits apart proper i k).status u ≡ conditional → (x : ℕ) × (flag_of u ≡ Some x)

  module _ (S : Sorted) (k : TypedBlock) (p : Place) where
    abbrev Dropped : Dropping → Option ℕ → List Visit → List Visit → Control → Control → Memory → Memory → Type 0
    Dropped = stand.Dropped X inits apart proper k p

    abbrev with_items : Control → Dropping → List Visit → Control
    with_items c d is = record c { dropping = Some (record d { items = is }) }

    -- flags that stay
    pub flags_same : (d : Dropping) (cur : Option ℕ) (inner os : List Visit) (c2 c2' c1 : Control) (m2 m2' m1 : Memory) → c2'.frame ≡ c2.frame → ((x : ℕ) → x < low → local_at m2' c2.frame x ≡ local_at m2 c2.frame x) → Dropped d cur inner os c2 c1 m2 m1 → Dropped d cur inner os c2' c1 m2' m1
    flags_same d cur inner os c2 c2' c1 m2 m2' m1 f2 same s = record {
      is = s.is;
      block = s.block;
      ends = s.ends;
      term = s.term;
      addr = s.addr;
      ty = s.ty;
      items = s.items;
      inside = s.inside;
      outside = s.outside;
      done = s.done;
      split = s.split;
      zero = λ u x h e. zeroed u x e (s.zero u x h e);
      right = λ u x h e. at x (S.flags_low u x e) ∙ s.right u x h e;
      current = s.current;
      others = λ u x h n e. at x (S.flags_low u x e) ∙ s.others u x h n e;
      sound = s.sound;
    }
      where
        at : (x : ℕ) → x < low → local_at m2' c2'.frame x ≡ local_at m2 c2.frame x
        at x lt = ap (λ f. local_at m2' f x) f2 ∙ same x lt

        zeroed : (u : Place) (x : ℕ) → flag_of u ≡ Some x → (cur ≡ Some x) ⊎ Says m2 c2.frame x false → (cur ≡ Some x) ⊎ Says m2' c2'.frame x false
        zeroed u x e (inl q) = inl q
        zeroed u x e (inr q) = inr (at x (S.flags_low u x e) ∙ q)

    -- an item inside the unit is replaced by its parts
    pub parts_in : (d : Dropping) (cur : Option ℕ) (i : Visit) (others os vs : List Visit) (c2 c1 : Control) (m2 m1 : Memory) → (vs ≡ []) ⊎ ((v : Value) × (vs ≡ visits_of D i.addr i.ty v)) → Dropped d cur (i ∷ others) os c2 c1 m2 m1 → Dropped (record d { items = vs ++ (others ++ os) }) cur (vs ++ others) os c2 (with_items c1 d (vs ++ (others ++ os))) m2 m1
    parts_in d cur i others os vs c2 c1 m2 m1 pt s = record {
      is = refl;
      block = s.block;
      ends = s.ends;
      term = s.term;
      addr = s.addr;
      ty = s.ty;
      items = sym (append_assoc vs others os);
      inside = all_append (stand.Inside X inits apart proper m1 c1.frame) vs others (within pt) s.inside.1;
      outside = s.outside;
      done = s.done;
      split = s.split;
      zero = s.zero;
      right = s.right;
      current = s.current;
      others = s.others;
      sound = s.sound;
    }
      where
        part_inside : (w : Visit) → Part i.addr w → stand.Inside X inits apart proper m1 c1.frame w
        part_inside w (f, l, pr, (qs, e, pl)) =
            let h = s.inside.0 in
            record {
              frame = f ∙ h.frame;
              unit = h.unit;
              known = h.known;
              local = l ∙ h.local;
              rest = h.rest ++ qs;
              path = e ∙ ap (λ ps. ps ++ qs) h.path ∙ append_assoc h.unit.proj h.rest qs;
              plain = subst Plain (sym e) (plain_both i.addr.path qs h.plain pl);
              fine = pr;
              live = h.live;
            }

        within : (vs ≡ []) ⊎ ((v : Value) × (vs ≡ visits_of D i.addr i.ty v)) → AllV (stand.Inside X inits apart proper m1 c1.frame) vs
        within (inl e) = subst (λ vs. AllV (stand.Inside X inits apart proper m1 c1.frame) vs) (sym e) tt
        within (inr (v, e)) = subst (λ vs. AllV (stand.Inside X inits apart proper m1 c1.frame) vs) (sym e) (all_then (Part i.addr) (stand.Inside X inits apart proper m1 c1.frame) (visits_of D i.addr i.ty v) part_inside (parts_are D apart proper i.addr i.ty v s.inside.0.fine))

    -- the unit's flag becomes false
    pub cleared : (d : Dropping) (x : ℕ) (os : List Visit) (c2 c1 : Control) (m2 m1 : Memory) (old : Value) → local_at m2 c2.frame x ≡ Some old → Dropped d (Some x) [] os c2 c1 m2 m1 → Dropped d None [] os c2 c1 (write m2 (local_addr c2.frame x) (number (flag false))) m1
    cleared d x os c2 c1 m2 m1 old ex s = record {
      is = s.is;
      block = s.block;
      ends = s.ends;
      term = s.term;
      addr = s.addr;
      ty = s.ty;
      items = s.items;
      inside = s.inside;
      outside = s.outside;
      done = s.done;
      split = s.split;
      zero = λ u y h e. zeroed u y (s.zero u y h e);
      right = λ u y h e. other y (λ q. not_both s.done (left os) u (subst NoDup s.split (S.nodup p)) (subst (λ w. Has s.done w) (same_unit u y q (in_left u h) e) owner.1) h) ∙ s.right u y h e;
      current = λ y e. absurd (grind arith);
      others = λ u y h n e. other y (λ q. absurd (let z : true ≡ false = sym (in_done owner.0 owner.1).1 ∙ ap (is_under p) (same_unit u y q h e) ∙ n in grind arith)) ∙ s.others u y h n e;
      sound = s.sound;
    }
      where
        M : Memory
        M = write m2 (local_addr c2.frame x) (number (flag false))

        owner : (u : Place) × Has s.done u × (flag_of u ≡ Some x)
        owner = s.current x refl

        in_done : (u : Place) → Has s.done u → Has us u × (is_under p u ≡ true)
        in_done u h = S.kept p u (subst (λ ws. Has ws u) (sym s.split) (has_front s.done (left os) u h))

        in_left : (u : Place) → Has (left os) u → Has us u
        in_left u h = (S.kept p u (subst (λ ws. Has ws u) (sym s.split) (has_back s.done (left os) u h))).0

        same_unit : (u : Place) (y : ℕ) → y ≡ x → Has us u → flag_of u ≡ Some y → owner.0 ≡ u
        same_unit u y q h e = S.one owner.0 u x (in_done owner.0 owner.1).0 h owner.2 (e ∙ ap (λ y. Some y) q)

        other : (y : ℕ) → (y ≡ x → ⊥) → local_at M c2.frame y ≡ local_at m2 c2.frame y
        other y n = beside (here_at D [] c2.frame) m2 x (number (flag false)) c2.frame y (λ p q. n q)

        zeroed : (u : Place) (y : ℕ) → (Some x ≡ Some y) ⊎ Says m2 c2.frame y false → (None ≡ Some y) ⊎ Says M c2.frame y false
        zeroed u y (inl q) = inr (subst (λ y. Says M c2.frame y false) (let z : x ≡ y = grind arith in z) (written (here_at D [] c2.frame) m2 x (number (flag false)) old ex))
        zeroed u y (inr q) = inr (go (Rattle.drop_elab.proofs.refines.Puts.field_cases y x))
          where
            go : (y ≡ x) ⊎ (y ≡ x → ⊥) → Says M c2.frame y false
            go (inl z) = subst (λ y. Says M c2.frame y false) (sym z) (written (here_at D [] c2.frame) m2 x (number (flag false)) old ex)
            go (inr n) = other y n ∙ q

    -- the value at an item's place tells whether its unit is initialised
    pub unit_value : (m : Memory) (f : ℕ) (i : Visit) (v : Value) → i.addr.frame ≡ f → value_at m i.addr ≡ Some v → held m f (place_of i.addr) ≡ not (is_hole v)
    unfolding value_at
    unit_value m f i v q e =
        let (o, e1, e2) = bind_some e in
        ap held_in (some_bind (Rattle.drop_elab.proofs.refines.Puts.hole_at i.addr.path) {o = local_at m f i.addr.local} (ap (λ g. local_at m g i.addr.local) (sym q) ∙ e1) (ap (Rattle.std.proofs.Common.option_map is_hole) e2))

    -- an item outside is passed, or its parts come instead
    pub went : (d : Dropping) (i : Visit) (os vs : List Visit) (c2 c1 : Control) (m2 m1 : Memory) → ((vs ≡ []) × (units D i.ty ≡ [])) ⊎ (((vs ≡ []) × ((unit_in_ty D i.ty ≡ true) × ((v : Value) × (value_at m1 i.addr ≡ Some v) × (is_hole v ≡ true)))) ⊎ ((unit_in_ty D i.ty ≡ false) × ((v : Value) × (vs ≡ visits_of D i.addr i.ty v)))) → Dropped d None [] (i ∷ os) c2 c1 m2 m1 → Dropped (record d { items = vs ++ os }) None [] (vs ++ os) c2 (with_items c1 d (vs ++ os)) m2 m1
    went d i os vs c2 c1 m2 m1 wt s = go wt
      where
        Out : Visit → Type 0
        Out = stand.Outside X inits apart proper c1.frame

        -- the same units are left
        same_left : (vs' : List Visit) → vs ≡ vs' → AllV Out vs' → left (i ∷ os) ≡ left (vs' ++ os) → Dropped (record d { items = vs ++ os }) None [] (vs ++ os) c2 (with_items c1 d (vs ++ os)) m2 m1
        same_left vs' ev out e = subst (λ vs. Dropped (record d { items = vs ++ os }) None [] (vs ++ os) c2 (with_items c1 d (vs ++ os)) m2 m1) (sym ev) (record {
          is = refl;
          block = s.block;
          ends = s.ends;
          term = s.term;
          addr = s.addr;
          ty = s.ty;
          items = refl;
          inside = tt;
          outside = all_append Out vs' os out s.outside.1;
          done = s.done;
          split = s.split ∙ ap (λ ws. s.done ++ ws) e;
          zero = s.zero;
          right = λ u x h q. s.right u x (subst (λ ws. Has ws u) (sym e) h) q;
          current = s.current;
          others = s.others;
          sound = s.sound;
        })

        out_part : (w : Visit) → Part i.addr w → Out w
        out_part w (f, l, pr, (qs, e, pl)) = record { frame = f ∙ s.outside.0.frame; known = (let (t, k) = s.outside.0.known in (t, ap (slice_get X.body1.locals) l ∙ k)); plain = subst Plain (sym e) (plain_both i.addr.path qs s.outside.0.plain pl); fine = pr }

        by_units : (v : Value) → value_at m1 i.addr ≡ Some v → is_hole v ≡ true → vs ≡ [] → (units D i.ty ≡ []) ⊎ (units D i.ty ≡ [] ∷ []) → Dropped (record d { items = vs ++ os }) None [] (vs ++ os) c2 (with_items c1 d (vs ++ os)) m2 m1
        by_units v ev gone en (inl un) = same_left [] en tt (left_none D apart proper i os un)
        by_units v ev gone en (inr un) =
            let e : left (i ∷ os) ≡ place_of i.addr ∷ left os = left_unit D apart proper i os un in
            subst (λ vs. Dropped (record d { items = vs ++ os }) None [] (vs ++ os) c2 (with_items c1 d (vs ++ os)) m2 m1) (sym en) (record {
              is = refl;
              block = s.block;
              ends = s.ends;
              term = s.term;
              addr = s.addr;
              ty = s.ty;
              items = refl;
              inside = tt;
              outside = s.outside.1;
              done = s.done ++ (place_of i.addr ∷ []);
              split = s.split ∙ ap (λ ws. s.done ++ ws) e ∙ sym (append_assoc s.done (place_of i.addr ∷ []) (left os));
              zero = λ u x h q. zeroed u x q (has_cases s.done (place_of i.addr) u h);
              right = λ u x h q. s.right u x (subst (λ ws. Has ws u) (sym e) (has_later (place_of i.addr) u (left os) h)) q;
              current = λ y q. absurd (grind arith);
              others = s.others;
              sound = s.sound;
            })
          where
            e0 : left (i ∷ os) ≡ place_of i.addr ∷ left os
            e0 = left_unit D apart proper i os un

            zeroed : (u : Place) (x : ℕ) → flag_of u ≡ Some x → Has s.done u ⊎ (place_of i.addr ≡ u) → (None ≡ Some x) ⊎ Says m2 c2.frame x false
            zeroed u x q (inl h) = s.zero u x h q
            zeroed u x q (inr z) = inr (s.right u x (subst (λ ws. Has ws u) (sym e0) (subst (λ w. Has (place_of i.addr ∷ left os) w) z (has_first (place_of i.addr) (left os)))) q ∙ ap (λ b. Some (number (flag b))) (ap (held m1 c1.frame) (sym z) ∙ unit_value m1 c1.frame i v s.outside.0.frame ev ∙ ap not gone))

        go : ((vs ≡ []) × (units D i.ty ≡ [])) ⊎ (((vs ≡ []) × ((unit_in_ty D i.ty ≡ true) × ((v : Value) × (value_at m1 i.addr ≡ Some v) × (is_hole v ≡ true)))) ⊎ ((unit_in_ty D i.ty ≡ false) × ((v : Value) × (vs ≡ visits_of D i.addr i.ty v)))) → Dropped (record d { items = vs ++ os }) None [] (vs ++ os) c2 (with_items c1 d (vs ++ os)) m2 m1
        go (inl (en, un)) = same_left [] en tt (left_none D apart proper i os un)
        go (inr (inl (en, (un, (v, ev, gone))))) = by_units v ev gone en (S.units_are i.ty un)
        go (inr (inr (nu, (v, ev)))) = same_left (visits_of D i.addr i.ty v) ev (all_then (Part i.addr) Out (visits_of D i.addr i.ty v) out_part (parts_are D apart proper i.addr i.ty v s.outside.0.fine)) (left_parts D apart proper i v os nu s.outside.0.fine)

    -- a unit that is initialised is entered
    pub entered : (d : Dropping) (i : Visit) (os : List Visit) (c2 c1 : Control) (m2 m1 : Memory) (v : Value) → units D i.ty ≡ [] ∷ [] → value_at m1 i.addr ≡ Some v → is_hole v ≡ false → d.items ≡ i ∷ os → Dropped d None [] (i ∷ os) c2 c1 m2 m1 → Dropped d (flag_of (place_of i.addr)) (i ∷ []) os c2 c1 m2 m1
    entered d i os c2 c1 m2 m1 v un ev live di s = record {
      is = s.is;
      block = s.block;
      ends = s.ends;
      term = s.term;
      addr = s.addr;
      ty = s.ty;
      items = di;
      inside = (
        record {
          frame = s.outside.0.frame;
          unit = place_of i.addr;
          known = (S.kept p (place_of i.addr) (subst (λ ws. Has ws (place_of i.addr)) (sym s.split) (has_back s.done (left (i ∷ os)) (place_of i.addr) (subst (λ ws. Has ws (place_of i.addr)) (sym e) (has_first (place_of i.addr) (left os)))))).0;
          local = refl;
          rest = [];
          path = sym (Rattle.drop_elab.proofs.refines.Parts.end_append i.addr.path);
          plain = s.outside.0.plain;
          fine = s.outside.0.fine;
          live = unit_value m1 c1.frame i v s.outside.0.frame ev ∙ ap not live;
        },
        tt,
      );
      outside = s.outside.1;
      done = s.done ++ (place_of i.addr ∷ []);
      split = s.split ∙ ap (λ ws. s.done ++ ws) e ∙ sym (append_assoc s.done (place_of i.addr ∷ []) (left os));
      zero = λ u x h q. zeroed u x q (has_cases s.done (place_of i.addr) u h);
      right = λ u x h q. s.right u x (subst (λ ws. Has ws u) (sym e) (has_later (place_of i.addr) u (left os) h)) q;
      current = λ x q. (place_of i.addr, has_back s.done (place_of i.addr ∷ []) (place_of i.addr) (has_first (place_of i.addr) []), q);
      others = s.others;
      sound = s.sound;
    }
      where
        e : left (i ∷ os) ≡ place_of i.addr ∷ left os
        e = left_unit D apart proper i os un

        zeroed : (u : Place) (x : ℕ) → flag_of u ≡ Some x → Has s.done u ⊎ (place_of i.addr ≡ u) → (flag_of (place_of i.addr) ≡ Some x) ⊎ Says m2 c2.frame x false
        zeroed u x q (inl h) = pick (s.zero u x h q)
          where
            pick : (None ≡ Some x) ⊎ Says m2 c2.frame x false → (flag_of (place_of i.addr) ≡ Some x) ⊎ Says m2 c2.frame x false
            pick (inl z) = absurd (grind arith)
            pick (inr z) = inr z
        zeroed u x q (inr z) = inl (ap flag_of z ∙ q)
