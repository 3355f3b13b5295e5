-- A call of the merged body: its new frames are related, and what the layer asks of its frames.
use Rattle.std.proofs.Common.{◌≡◌, ◌⊎◌, inl, inr, refl, sym, ap, ◌∙◌, subst, ℕ, zero, suc, ◌<◌, ◌≤◌, true, false, nat_eq, List, [], ◌∷◌, ◌++◌, length, drop, Option, Some, None, slice_get, arith}
use Rattle.std.proofs.lemmas.Bool.{cases_lt}
use Rattle.mir_syntax.specs.Tree.{Tree}
use Rattle.mir_syntax.specs.Shapes.{Shape}
use Rattle.mir_semantics.specs.Values.{Value, blank}
use Rattle.mir_semantics.specs.Memory.{Memory, local_at, open_frame}
use Rattle.mir_semantics.specs.Step.{Dest, State, blanks, new_slots}
use Rattle.mir_renaming.specs.Renaming.{Renaming, ValueRel, SomeRel}
use Rattle.mir_renaming.proofs.Memory.{same_or_not, whole_rel}
use Rattle.mir_renaming.proofs.Frames.{open_same, new_control}
use Rattle.mir_renaming.proofs.Ghosts.{value_mono}
use Rattle.mir_renaming.proofs.Statements.{ValuesRel, blank_rel}
use Rattle.mir_renaming.proofs.Types.{blank_fits}
use Rattle.liveness.specs.Live.{Live}
use Rattle.liveness.specs.Decided.{is_live}
use Rattle.liveness.proofs.Decided.{told_live}
use Rattle.mir_relate.specs.Frames.{Change, opened}
use Rattle.mir_relate.specs.Pass.{Valids, FrameLaws}
use Rattle.mir_relate.proofs.Leaves.{some_val}
use Rattle.mir_relate.proofs.OneForOne.{home_once, home_some}
use Rattle.mir_relate.proofs.Opens.{opened_up}
use Rattle.mir_relate.proofs.SameLocals.{slots_same}
use Rattle.mir_relate.proofs.Single.{stand_begins}
use Rattle.dest_prop.specs.Merged.{home_of, is_shared, merged_by}
use Rattle.dest_prop.proofs.Homes.{types, fixed_self, good}
use Rattle.dest_prop.proofs.refines.Conflicts.{live_start, clear_start}
use Rattle.dest_prop.proofs.refines.Fills.{Fills, rel_fills}
use Rattle.dest_prop.proofs.refines.Frames as frames
use Rattle.dest_prop.proofs.refines.Frames.{Later, Lives, Standing}
use Rattle.mir_renaming.proofs.Slots.{same_length}

-- ---- the locals of a new frame that are no arguments

module _ (D : List Shape) where
  blank_at : (ts : List Tree) (x : ℕ) (v : Value) → slice_get (blanks D ts) x ≡ Some v → (t : Tree) × (slice_get ts x ≡ Some t) × (blank D t ≡ v)
  blank_at [] x v e = absurd (grind arith)
  blank_at (t ∷ ts) zero v e = (t, refl, some_val e)
  blank_at (t ∷ ts) (suc x) v e = blank_at ts x v e

  at_blank : (ts : List Tree) (x : ℕ) (t : Tree) → slice_get ts x ≡ Some t → slice_get (blanks D ts) x ≡ Some (blank D t)
  at_blank [] x t e = absurd (grind arith)
  at_blank (u ∷ ts) zero t e = ap (λ t. Some (blank D t)) (some_val e)
  at_blank (u ∷ ts) (suc x) t e = at_blank ts x t e

  nothing : (n : ℕ) → ◌≡◌ {A = List Tree} (drop n []) []
  nothing zero = refl
  nothing (suc n) = refl

  rest_is : (vs : List Value) (ts : List Tree) (x : ℕ) (v : Value) → length vs ≤ x → slice_get (vs ++ blanks D (drop (length vs) ts)) x ≡ Some v → (t : Tree) × (slice_get ts x ≡ Some t) × (blank D t ≡ v)
  rest_is [] ts x v l e = blank_at ts x v e
  rest_is (w ∷ vs) ts zero v l e = absurd (omega (arith, l))
  rest_is (w ∷ vs) [] (suc x) v l e = absurd (let (t, a, b) = rest_is vs [] x v (omega (arith, l)) (subst (λ ts. slice_get (vs ++ blanks D ts) x ≡ Some v) (sym (nothing (length vs))) e) in grind arith)
  rest_is (w ∷ vs) (t ∷ ts) (suc x) v l e = rest_is vs ts x v (omega (arith, l)) e

  is_rest : (vs : List Value) (ts : List Tree) (x : ℕ) (t : Tree) → length vs ≤ x → slice_get ts x ≡ Some t → slice_get (vs ++ blanks D (drop (length vs) ts)) x ≡ Some (blank D t)
  is_rest [] ts x t l e = at_blank ts x t e
  is_rest (w ∷ vs) ts zero t l e = absurd (omega (arith, l))
  is_rest (w ∷ vs) [] (suc x) t l e = absurd (grind arith)
  is_rest (w ∷ vs) (u ∷ ts) (suc x) t l e = is_rest vs ts x t (omega (arith, l)) e

  past : (vs : List Value) (x : ℕ) (v : Value) → length vs ≤ x → slice_get (vs ++ []) x ≡ Some v → ⊥
  past [] x v l e = grind arith
  past (w ∷ ws) zero v l e = absurd (omega (arith, l))
  past (w ∷ ws) (suc x) v l e = past ws x v (omega (arith, l)) e

  slot_is : (ts : List Tree) (vs : List Value) (x : ℕ) (v : Value) → length vs < x → slice_get (new_slots D ts vs) x ≡ Some v → (t : Tree) × (slice_get ts x ≡ Some t) × (blank D t ≡ v)
  unfolding new_slots
  slot_is [] vs x v l e = absurd (past vs x v (omega (arith, l)) e)
  slot_is (t ∷ ts) vs zero v l e = absurd (omega (arith, l))
  slot_is (t ∷ ts) vs (suc x) v l e = rest_is vs ts x v (omega (arith, l)) e

  is_slot : (ts : List Tree) (vs : List Value) (x : ℕ) (t : Tree) → (x ≡ 0) ⊎ (length vs < x) → slice_get ts x ≡ Some t → slice_get (new_slots D ts vs) x ≡ Some (blank D t)
  unfolding new_slots
  is_slot [] vs x t l e = absurd (grind arith)
  is_slot (u ∷ ts) vs zero t l e = ap (λ t. Some (blank D t)) (some_val e)
  is_slot (u ∷ ts) vs (suc x) t (inl l) e = absurd (omega (arith, l))
  is_slot (u ∷ ts) vs (suc x) t (inr l) e = is_rest vs ts x t (omega (arith, l)) e

  -- a slot of a new frame
  slot_there : (ts : List Tree) (vs : List Value) (x : ℕ) (t : Tree) → slice_get ts x ≡ Some t → x ≤ length vs → (w : Value) × (slice_get (new_slots D ts vs) x ≡ Some w)
  unfolding new_slots
  slot_there [] vs x t e l = absurd (grind arith)
  slot_there (u ∷ ts) vs zero t e l = (blank D u, refl)
  slot_there (u ∷ ts) vs (suc x) t e l = in_front vs (blanks D (drop (length vs) ts)) x (omega (arith, l))
    where
      in_front : (vs us : List Value) (x : ℕ) → x < length vs → (w : Value) × (slice_get (vs ++ us) x ≡ Some w)
      in_front [] us x l = absurd (omega (arith, l))
      in_front (w ∷ vs) us zero l = (w, refl)
      in_front (w ∷ vs) us (suc x) l = in_front vs us x (omega (arith, l))

module _ (X : Change) (once : X.body2 ≡ merged_by (is_shared X.body1 (home_of X.source.shapes X.body1)) (home_of X.source.shapes X.body1) X.body1) where
  abbrev D : List Shape
  D = X.source.shapes

  abbrev home : ℕ → ℕ
  home = home_of X.source.shapes X.body1

  abbrev ts : List Tree
  ts = X.body1.locals

  module _ (j : Renaming) (vs ws : List Value) (hv : ValuesRel j vs ws) (few : length vs ≤ X.body1.args) where
    long : length vs ≡ length ws
    long = same_length j vs ws hv

    -- a local that isn't its own home is no argument, and blank; so is its home, or it is an argument
    moved : (x : ℕ) (v : Value) → (home x ≡ x → ⊥) → slice_get (new_slots D ts vs) x ≡ Some v → (t : Tree) × (slice_get ts x ≡ Some t) × (blank D t ≡ v)
    moved x v ne e = go (cases_lt X.body1.args x)
      where
        go : (X.body1.args < x) ⊎ (x ≤ X.body1.args) → (t : Tree) × (slice_get X.body1.locals x ≡ Some t) × (blank X.source.shapes t ≡ v)
        go (inl l) = slot_is X.source.shapes X.body1.locals vs x v (omega (arith, l, few)) e
        go (inr l) = absurd (ne (fixed_self X.source.shapes X.body1 x l))

    -- what lives at the start is related to its home
    start_at : (x : ℕ) (v : Value) → Live D X.body1 0 0 x → slice_get (new_slots D ts vs) x ≡ Some v → SomeRel j v (slice_get (new_slots D ts ws) (home x))
    start_at x v lv e = go (same_or_not (home x) x)
      where
        at_home : (t : Tree) → slice_get X.body1.locals x ≡ Some t → blank X.source.shapes t ≡ v → (home_of X.source.shapes X.body1 x ≡ 0) ⊎ (X.body1.args < home_of X.source.shapes X.body1 x) → SomeRel j v (slice_get (new_slots X.source.shapes X.body1.locals ws) (home_of X.source.shapes X.body1 x))
        at_home t et is k = (blank X.source.shapes t, is_slot X.source.shapes X.body1.locals ws (home_of X.source.shapes X.body1 x) t (past k) (types X.source.shapes X.body1 x ∙ et), subst (λ v. ValueRel j v (blank X.source.shapes t)) is (blank_rel j X.source.shapes t))
          where
            past : (home_of X.source.shapes X.body1 x ≡ 0) ⊎ (X.body1.args < home_of X.source.shapes X.body1 x) → (home_of X.source.shapes X.body1 x ≡ 0) ⊎ (length ws < home_of X.source.shapes X.body1 x)
            past (inl z) = inl z
            past (inr l) = inr (let n = long in omega (arith, l, few, n))

        at_fixed : (h : ℕ) → home_of X.source.shapes X.body1 x ≡ h → h ≤ X.body1.args → (home_of X.source.shapes X.body1 x ≡ x → ⊥) → home_of X.source.shapes X.body1 x ≡ 0
        at_fixed zero q l ne = q
        at_fixed (suc h) q l ne = absurd (ne (sym (clear_start X.source.shapes X.body1 (home_of X.source.shapes X.body1 x) x (omega (arith, q)) (omega (arith, q, l)) lv (sym ((good X.source.shapes X.body1).again x)))))

        go : ((nat_eq (home_of X.source.shapes X.body1 x) x ≡ true) × (home_of X.source.shapes X.body1 x ≡ x)) ⊎ ((nat_eq (home_of X.source.shapes X.body1 x) x ≡ false) × (home_of X.source.shapes X.body1 x ≡ x → ⊥)) → SomeRel j v (slice_get (new_slots X.source.shapes X.body1.locals ws) (home_of X.source.shapes X.body1 x))
        go (inl s) = subst (λ y. SomeRel j v (slice_get (new_slots X.source.shapes X.body1.locals ws) y)) (sym s.1) (slots_same X.source.shapes X.body1.locals X.body1.locals refl j vs ws hv x v e)
        go (inr s) =
            let (t, et, is) = moved x v s.1 e in
            at_home t et is (by (cases_lt X.body1.args (home_of X.source.shapes X.body1 x)))
          where
            by : (X.body1.args < home_of X.source.shapes X.body1 x) ⊎ (home_of X.source.shapes X.body1 x ≤ X.body1.args) → (home_of X.source.shapes X.body1 x ≡ 0) ⊎ (X.body1.args < home_of X.source.shapes X.body1 x)
            by (inl l) = inr l
            by (inr l) = inl (at_fixed (home_of X.source.shapes X.body1 x) refl l s.1)

    -- each local has room at its home
    start_room : (x : ℕ) (v : Value) → slice_get (new_slots D ts vs) x ≡ Some v → (w : Value) × (slice_get (new_slots D ts ws) (home x) ≡ Some w) × Later D ts x v w
    start_room x v e = go (same_or_not (home x) x)
      where
        room : (t : Tree) → slice_get X.body1.locals (home_of X.source.shapes X.body1 x) ≡ Some t → (length ws < home_of X.source.shapes X.body1 x) ⊎ (home_of X.source.shapes X.body1 x ≤ length ws) → (w : Value) × (slice_get (new_slots X.source.shapes X.body1.locals ws) (home_of X.source.shapes X.body1 x) ≡ Some w)
        room t et (inl l) = (blank X.source.shapes t, is_slot X.source.shapes X.body1.locals ws (home_of X.source.shapes X.body1 x) t (inr l) et)
        room t et (inr l) = slot_there X.source.shapes X.body1.locals ws (home_of X.source.shapes X.body1 x) t et l

        go : ((nat_eq (home_of X.source.shapes X.body1 x) x ≡ true) × (home_of X.source.shapes X.body1 x ≡ x)) ⊎ ((nat_eq (home_of X.source.shapes X.body1 x) x ≡ false) × (home_of X.source.shapes X.body1 x ≡ x → ⊥)) → (w : Value) × (slice_get (new_slots X.source.shapes X.body1.locals ws) (home_of X.source.shapes X.body1 x) ≡ Some w) × Later X.source.shapes X.body1.locals x v w
        go (inl s) =
            let (w, g, r) = slots_same X.source.shapes X.body1.locals X.body1.locals refl j vs ws hv x v e in
            (w, ap (slice_get (new_slots X.source.shapes X.body1.locals ws)) s.1 ∙ g, λ G ty. rel_fills j v w r)
        go (inr s) =
            let (t, et, is) = moved x v s.1 e in
            let (w, g) = room t (types X.source.shapes X.body1 x ∙ et) (cases_lt (length ws) (home_of X.source.shapes X.body1 x)) in
            (w, g, λ G ty. subst (λ v. Fills v w) is (rel_fills j (blank X.source.shapes t) w (blank_fits X.source.shapes G j t w (ty t et))))

  begins : (j : Renaming) (k2 k1 : ℕ) (d2 d1 : Option Dest) (m2 m1 : Memory) (vs ws : List Value) → ValuesRel j vs ws → length vs ≤ X.body1.args → ((x : ℕ) → j k1 x ≡ None) → ((h x g y : ℕ) → j h x ≡ Some (g, y) → g < k2) → (n : ℕ) × Standing X once n (opened j k2 k1 (frames.place X once)) (new_control X.f k2 d2) (new_control X.f k1 d1) × Lives X once (Later D ts) (opened j k2 k1 (frames.place X once)) (new_control X.f k2 d2) (new_control X.f k1 d1) (open_frame m2 k2 (new_slots D X.body2.locals ws)) (open_frame m1 k1 (new_slots D X.body1.locals vs))
  begins j k2 k1 d2 d1 m2 m1 vs ws hv few fresh1 fresh2 =
      let (n, h) = frames.begins_at X once (new_control X.f k2 d2) (new_control X.f k1 d1) refl refl in (
        n,
        stand_begins X.f (frames.place X once) (frames.InBlock X once) j k2 k1 d2 d1 n fresh1 fresh2 h,
        record {
          set = is_live X.source.shapes X.body1 0 0;
          covers = λ x l. inr (live_start X.source.shapes X.body1 0 x l);
          holds = record {
            at = λ x v none a e. (let (w, g, r) = start_at j vs ws hv few x v (told_live X.source.shapes X.body1 x 0 0 a) (sym (open_same m1 k1 (new_slots X.source.shapes X.body1.locals vs) x) ∙ e) in (w, there x ∙ g, value_mono j (opened j k2 k1 (frames.place X once)) (opened_up j k2 k1 (frames.place X once) fresh1 fresh2) v w r));
            room = λ x v none e. (let (w, g, r) = start_room j vs ws hv few x v (sym (open_same m1 k1 (new_slots X.source.shapes X.body1.locals vs) x) ∙ e) in (w, there x ∙ g, r));
          };
        },
      )
    where
      there : (x : ℕ) → local_at (open_frame m2 k2 (new_slots X.source.shapes X.body2.locals ws)) k2 (home_of X.source.shapes X.body1 x) ≡ slice_get (new_slots X.source.shapes X.body1.locals ws) (home_of X.source.shapes X.body1 x)
      there x = open_same m2 k2 (new_slots X.source.shapes X.body2.locals ws) (home_of X.source.shapes X.body1 x) ∙ ap (λ ts. slice_get (new_slots X.source.shapes ts ws) (home_of X.source.shapes X.body1 x)) (frames.same_locals X once)

  module _ (V : Valids X) (Inv : State → Type 0) where
    pub frame_laws : FrameLaws X (frames.pass X once) V Inv
    frame_laws = record {
      kept = frames.kept_law X once;
      once = home_once (frames.lent X once);
      slots = λ j vs ws hv few x y e v k. subst (λ y. SomeRel j v (slice_get (new_slots D X.body2.locals ws) y)) (home_some (frames.lent X once) x y e).1 (slots_same D X.body2.locals X.body1.locals (frames.same_locals X once) j vs ws hv.0 x v k);
      begins = λ j k2 k1 d2 d1 m2 m1 vs ws hv ar f1 f2 l. (let (n, st, h) = begins j k2 k1 d2 d1 m2 m1 vs ws hv.0 (let a = ar.all in omega (arith, a)) f1 f2 in (n, (refl, st, h)));
      resumes = λ n s2 s1 r m2 m1 c2 c1 gs ds cs2 v w x q q2 p2 p1 l wt be l1 l2 lo dt hv wh k ge. frames.resumed X once V Inv n s2 s1 r m2 m1 c2 c1 gs ds cs2 v w x q l wt be l1 l2 dt hv (whole_rel r.core.lent v w hv.0 wh.no_hole) k ge;
    }
