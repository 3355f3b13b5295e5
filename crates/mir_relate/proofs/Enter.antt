-- A call of a function opens a frame on both sides.
use Rattle.std.proofs.Common.{◌≡◌, ◌⊎◌, inl, inr, refl, sym, ap, ◌∙◌, subst, ℕ, suc, ◌<◌, ◌≤◌, true, false, nat_eq, List, [], ◌∷◌, length, Option, Some, None, slice_get, arith}
use Rattle.mir_syntax.specs.Shapes.{Shape}
use Rattle.mir_syntax.specs.Crate.{TypedBody}
use Rattle.mir_semantics.specs.Values.{Value}
use Rattle.mir_semantics.specs.Memory.{Memory, open_frame}
use Rattle.mir_semantics.specs.Step.{Dest, Control, State, Next, on, new_slots, entered, enter}
use Rattle.mir_renaming.specs.Renaming.{Renaming, SomeRel, Sub}
use Rattle.mir_syntax.proofs.Binds.{bind_some, some_bind}
use Rattle.mir_renaming.proofs.Memory.{same_or_not}
use Rattle.mir_renaming.proofs.Statements.{Linked, ValuesRel}
use Rattle.mir_renaming.proofs.Types.{TypeMap}
use Rattle.mir_renaming.proofs.Frames.{open_same, open_other, new_control}
use Rattle.mir_renaming.proofs.Ghosts.{value_mono}
use Rattle.mir_renaming.proofs.Slots.{slots_rel, value_in}
use Rattle.mir_renaming.proofs.Agree.{tight_agree}
use Rattle.mir_renaming.proofs.Tight.{slots_tight, tight_in}
use Rattle.mir_relate.specs.Alike.{AllSame, AllWhole}
use Rattle.mir_relate.specs.Mild.{Gentle}
use Rattle.mir_relate.specs.Frames.{Change, target, Pass, opened, Agrees, Below, Base}
use Rattle.mir_relate.specs.Pass.{KnowsAll, Valids, GentleTo, FrameLaws, Goes}
use Rattle.mir_relate.proofs.Leaves.{some_val}
use Rattle.mir_relate.proofs.Opens.{opened_at, opened_parts, opened_old, opened_up, leaves_open, linked_open}
use Rattle.mir_relate.proofs.Stacks.{below_kept}
use Rattle.mir_relate.proofs.Mild.{gentle_same, gentle_to}

pub goes_at : (X : Change) (P : Pass) (o : Option Next) (x y : Next) → Some y ≡ Some x → Goes X P o y → Goes X P o x
goes_at X P o x y e h = subst (λ z. Goes X P o z) (some_val e) h

pub goes_by : (X : Change) (P : Pass) (o o' : Option Next) (x : Next) → o ≡ o' → Goes X P o' x → Goes X P o x
goes_by X P o o' x e h = subst (λ z. Goes X P z x) (sym e) h

pub values_up : (j k : Renaming) → Sub j k → (vs ws : List Value) → ValuesRel j vs ws → ValuesRel k vs ws
values_up j k s [] [] h = tt
values_up j k s (v ∷ vs) (w ∷ ws) h = (value_mono j k s v w h.0, values_up j k s vs ws h.1)
values_up j k s [] (w ∷ ws) h = absurd h
values_up j k s (v ∷ vs) [] h = absurd h

module _ (X : Change) (P : Pass) (V : Valids X) (Inv : State → Type 0) (laws : FrameLaws X P V Inv) where
  abbrev D : List Shape
  D = X.source.shapes

  -- the numbers of new frames are new
  pub base_open : (j : Renaming) (s2 s1 : State) (place : ℕ → Option ℕ) (m2 m1 : Memory) (c2 c1 : Control) (cs2 cs1 : List Control) → c2.frame ≡ s2.next → c1.frame ≡ s1.next → Base j s2 s1 → Base (opened j s2.next s1.next place) (record s2 { memory = m2; top = c2; callers = cs2; next = suc s2.next }) (record s1 { memory = m1; top = c1; callers = cs1; next = suc s1.next })
  base_open j s2 s1 place m2 m1 c2 c1 cs2 cs1 f2 f1 b = record {
    fresh1 = λ k x le. opened_old j s2.next s1.next place (λ x. b.fresh1 s1.next x (omega arith)) b.fresh2 k x (λ p. absurd (omega (arith, p, le))) ∙ b.fresh1 k x (omega (arith, le));
    fresh2 = λ k x g y e. below k x g y (opened_parts j s2.next s1.next place (λ x. b.fresh1 s1.next x (omega arith)) b.fresh2 k x g y e);
    top1 = omega (arith, f1);
    top2 = omega (arith, f2);
    answers = b.answers;
    trace = b.trace;
  }
    where
      below : (k x g y : ℕ) → ((k ≡ s1.next) × (g ≡ s2.next) × (place x ≡ Some y)) ⊎ ((s1.next ≡ k → ⊥) × (j k x ≡ Some (g, y))) → g < suc s2.next
      below k x g y (inl p) = (let e = p.1 in omega (arith, e))
      below k x g y (inr p) = (let lt = b.fresh2 k x g y p.1 in omega (arith, lt))

  module _ (G : TypeMap) (j : Renaming) (s2 s1 : State) (m2 m1 : Memory) (b : Base j s2 s1) (l : Linked j j m2 m1) (c2 c1 : Control) (d2 d1 : Option Dest) (ks : KnowsAll X G (c1 ∷ s1.callers)) (below : Below X P j d2 d1 s2.next s1.next (c2 ∷ s2.callers) (c1 ∷ s1.callers) m2 m1) (vs ws : List Value) (hv : AllSame j vs ws) (wh : AllWhole vs) where
    fresh : (x : ℕ) → j s1.next x ≡ None
    fresh x = b.fresh1 s1.next x (omega arith)

    below_open : (place : ℕ → Option ℕ) (us ts : List Value) → Below X P (opened j s2.next s1.next place) d2 d1 s2.next s1.next (c2 ∷ s2.callers) (c1 ∷ s1.callers) (open_frame m2 s2.next us) (open_frame m1 s1.next ts)
    below_open place us ts = below_kept X P laws.kept G j (opened j s2.next s1.next place) d2 d1 s2.next s1.next (c2 ∷ s2.callers) (c1 ∷ s1.callers) (open_frame m2 s2.next us) (open_frame m1 s1.next ts) m2 m1 ks (leaves_open j s2.next s1.next place fresh b.fresh2 D G m2 m1 us ts s2.next s1.next (omega arith) (omega arith)) (gentle_same D G s1.next (open_frame m1 s1.next ts) m1 (λ h x t l ty. open_other m1 s1.next ts h x (λ p. absurd (omega (arith, p, l))))) below

    -- of a function that is left alone
    other_frame : (g : ℕ) (bo : TypedBody) → (g ≡ X.f → ⊥) → slice_get X.source.bodies g ≡ Some bo → Goes X P (entered D s2 m2 c2 g ws d2 bo) (on (record s1 { memory = open_frame m1 s1.next (new_slots D bo.locals vs); top = new_control g s1.next d1; callers = c1 ∷ s1.callers; next = suc s1.next }))
    unfolding entered
    other_frame g bo ne eb = (
      0,
      _,
      refl,
      record {
        lent = j';
        base = base_open j s2 s1 Some (open_frame m2 s2.next us) (open_frame m1 s1.next ts) (new_control g s2.next d2) (new_control g s1.next d1) (c2 ∷ s2.callers) (c1 ∷ s1.callers) refl refl b;
        linked = linked_open j s2.next s1.next Some fresh b.fresh2 m2 m1 us ts l (λ x x' y p q. some_val (p ∙ sym q)) (λ x y e v q. subst (λ y. SomeRel j' v (slice_get us y)) (some_val e) (value_in j' ts us x v rel q));
        runs = inl (
          record {
            other = ne;
            function = refl;
            block = refl;
            at = refl;
            roots = λ x. opened_at j s2.next s1.next Some fresh b.fresh2 x x refl;
            only = λ h x y e. only h x y (opened_parts j s2.next s1.next Some fresh b.fresh2 h x s2.next y e);
            drops = tt;
          },
          agree,
          below_open Some us ts,
        );
      },
    )
      where
        us : List Value
        us = new_slots D bo.locals ws

        ts : List Value
        ts = new_slots D bo.locals vs

        j' : Renaming
        j' = opened j s2.next s1.next Some

        rel : ValuesRel j' ts us
        rel = slots_rel j' D bo.locals vs ws (values_up j j' (opened_up j s2.next s1.next Some fresh b.fresh2) vs ws hv.0)

        only : (h x y : ℕ) → ((h ≡ s1.next) × (s2.next ≡ s2.next) × (Some x ≡ Some y)) ⊎ ((s1.next ≡ h → ⊥) × (j h x ≡ Some (s2.next, y))) → (h ≡ s1.next) × (x ≡ y)
        only h x y (inl p) = (p.0, some_val p.2)
        only h x y (inr p) = (let lt = b.fresh2 h x s2.next y p.1 in absurd (omega (arith, lt)))

        agree : Agrees X (new_control g s2.next d2) (new_control g s1.next d1) (open_frame m2 s2.next us) (open_frame m1 s1.next ts)
        agree b' x t v w eb' ex p q = tight_agree D v w t (tight_in ts us x v w (slots_tight D bo.locals vs ws hv.1) (sym (open_same m1 s1.next ts x) ∙ p) (sym (open_same m2 s2.next us x) ∙ q))

    -- of the changed one
    own_frame : length vs ≡ X.body1.args → Goes X P (entered D s2 m2 c2 X.f ws d2 X.body2) (on (record s1 { memory = open_frame m1 s1.next (new_slots D X.body1.locals vs); top = new_control X.f s1.next d1; callers = c1 ∷ s1.callers; next = suc s1.next }))
    unfolding entered
    own_frame few =
        let us = new_slots D X.body2.locals ws in
        let ts = new_slots D X.body1.locals vs in
        let up = opened_up j s2.next s1.next P.place fresh b.fresh2 in
        let j' = opened j s2.next s1.next P.place in
        let l' = linked_open j s2.next s1.next P.place fresh b.fresh2 m2 m1 us ts l laws.once (λ x y e v q. laws.slots j' vs ws (values_up j j' up vs ws hv.0, hv.1) (omega (arith, few)) x y e v q) in
        let (n, own) = laws.begins j s2.next s1.next d2 d1 m2 m1 vs ws hv (record { whole = wh; all = few }) fresh b.fresh2 l' in (
          n,
          _,
          refl,
          record {
            lent = j';
            base = base_open j s2 s1 P.place (open_frame m2 s2.next us) (open_frame m1 s1.next ts) (new_control X.f s2.next d2) (new_control X.f s1.next d1) (c2 ∷ s2.callers) (c1 ∷ s1.callers) refl refl b;
            linked = l';
            runs = inr ([], c1 ∷ s1.callers, refl, omega arith, own, below_open P.place us ts);
          },
        )

    pub enter_goes : (g : ℕ) (x : Next) → ((b : TypedBody) → slice_get X.source.bodies g ≡ Some b → length vs ≡ b.args) → enter X.source s1 m1 c1 g vs d1 ≡ Some x → Goes X P (enter (target X) s2 m2 c2 g ws d2) x
    unfolding enter entered
    enter_goes g x few e = go (same_or_not g X.f)
      where
        go : ((nat_eq g X.f ≡ true) × (g ≡ X.f)) ⊎ ((nat_eq g X.f ≡ false) × (g ≡ X.f → ⊥)) → Goes X P (enter (target X) s2 m2 c2 g ws d2) x
        go (inl p) =
            let (b1, e1, k1) = bind_some e in
            let same : b1 ≡ X.body1 = some_val (sym e1 ∙ ap (slice_get X.source.bodies) p.1 ∙ X.at1) in
            goes_by X P _ _ x (some_bind (entered D s2 m2 c2 g ws d2) (ap (slice_get X.bodies) p.1 ∙ X.at2) (ap (λ g. entered D s2 m2 c2 g ws d2 X.body2) p.1))
            (goes_at X P _ x _ (subst (λ g. entered D s1 m1 c1 g vs d1 X.body1 ≡ Some x) p.1 (subst (λ b. entered D s1 m1 c1 g vs d1 b ≡ Some x) same k1)) (own_frame (few X.body1 (ap (slice_get X.source.bodies) p.1 ∙ X.at1))))
        go (inr p) =
            let (b1, e1, k1) = bind_some e in
            goes_by X P _ _ x (some_bind (entered D s2 m2 c2 g ws d2) (X.others g p.1 ∙ e1) refl) (goes_at X P _ x _ k1 (other_frame g b1 p.1 e1))

-- what a call leads to tells that what came before was gentle
pub enter_gentle : (X : Change) (G : TypeMap) (k : ℕ) (m : Memory) (s1 : State) (m1 : Memory) (c1 : Control) (g : ℕ) (vs : List Value) (d1 : Option Dest) (x : Next) → k < s1.next → enter X.source s1 m1 c1 g vs d1 ≡ Some x → GentleTo X G k m x → Gentle X.source.shapes G k m1 m
unfolding enter entered
enter_gentle X G k m s1 m1 c1 g vs d1 x lt e ge =
    let (b, e1, k1) = bind_some e in
    let ts : List Value = new_slots X.source.shapes b.locals vs in
    gentle_to X.source.shapes G k m1 (open_frame m1 s1.next ts) m (λ h y t l ty. sym (open_other m1 s1.next ts h y (λ p. absurd (omega (arith, p, l, lt))))) (subst (GentleTo X G k m) (sym (some_val k1)) ge k (omega arith) (omega (arith, lt)))
