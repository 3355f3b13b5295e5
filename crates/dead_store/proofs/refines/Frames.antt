-- The frames of the pruned body: how they are related, frames that wait, and returns to them.
use Rattle.std.proofs.Common.{◌≡◌, ◌⊎◌, inl, inr, refl, sym, ap, ap₂, ◌∙◌, subst, ℕ, ◌<◌, Bool, true, false, nat_eq, ◌&&◌, ◌||◌, List, [], ◌∷◌, ◌++◌, length, drop, Option, Some, None, slice_get, arith}
use Rattle.std.proofs.lemmas.Bool.{eqb-true}
use Rattle.mir_syntax.specs.declared.body.Proj.{Proj}
use Rattle.mir_syntax.specs.Tree.{Tree}
use Rattle.mir_syntax.specs.Shapes.{Shape, ◌>>=◌}
use Rattle.mir_syntax.specs.Crate.{TypedStmt, TypedBlock, TypedBody}
use Rattle.mir_semantics.specs.Values.{Addr, Value, at_path}
use Rattle.mir_semantics.specs.Memory.{Memory, local_at, value_at, write, open_frame}
use Rattle.mir_semantics.specs.Step.{Dest, Dropping, Control, State, Next, new_slots, destroyed, go_on, store, return_to}
use Rattle.mir_renaming.specs.Renaming.{Renaming, ValueRel, SomeRel}
use Rattle.mir_syntax.proofs.Binds.{bind_some, some_bind}
use Rattle.mir_renaming.proofs.Memory.{same_or_not}
use Rattle.mir_renaming.proofs.Frames.{new_control}
use Rattle.mir_renaming.proofs.Statements.{Linked, ValuesRel}
use Rattle.mir_renaming.proofs.Types.{TypeMap, AddrTy}
use Rattle.mir_renaming.specs.Places.{is_nil}
use Rattle.escape_info.specs.Borrowed.{borrowed}
use Rattle.liveness.specs.Live.{Live}
use Rattle.dead_store.specs.Pruned.{is_useless, without, pruned_once}
use Rattle.mir_renaming.proofs.Stores.{store_split, store_made}
use Rattle.dead_store.proofs.refines.Reads.{nil_is}
use Rattle.mir_relate.specs.Alike.{Same}
use Rattle.mir_relate.specs.Leaves.{Leaves}
use Rattle.mir_relate.specs.Frames.{Change, Pass, lowest, DestsRel, opened, Below}
use Rattle.mir_relate.specs.Pass.{GentleTo, Valids, KeptLaw, FrameLaws, Goes, Related}
use Rattle.mir_relate.proofs.Leaves.{some_val, leaves_none, leaves_less}
use Rattle.mir_relate.proofs.OneForOne as one
use Rattle.mir_relate.proofs.OneForOne.{home, home_none, home_some, home_once, new_holds, Return}
use Rattle.mir_relate.proofs.Stacks.{dests_up}
use Rattle.mir_relate.proofs.Near as near
use Rattle.mir_relate.proofs.Mild.{gentle_on}
use Rattle.mir_relate.proofs.SameLocals.{slots_same}
use Rattle.mir_relate.proofs.Single.{Stand, stand_kept, stand_begins, back_core, knows_waiting}
use Rattle.mir_relate.proofs.Living.{Holds, Placed, nobody, holds_kept, own_linked, own_leaves, own_holds}

-- one local more, where a result is written as a whole
abbrev pub more : ℕ → List Proj → (ℕ → Bool) → ℕ → Bool
more x ps a y = (is_nil ps && nat_eq x y) || a y

pub more_new : (x : ℕ) (ps : List Proj) (a : ℕ → Bool) (y : ℕ) → more x ps a y ≡ true → (a y ≡ true) ⊎ ((y ≡ x) × (ps ≡ []))
more_new x ps a y e = go (is_nil ps) (nat_eq x y) refl refl
  where
    go : (b c : Bool) → is_nil ps ≡ b → nat_eq x y ≡ c → (a y ≡ true) ⊎ ((y ≡ x) × (ps ≡ []))
    go true true p q = inr (sym (eqb-true x y q), nil_is ps p)
    go true false p q = inl (sym (ap₂ (λ b c. (b && c) || a y) p q) ∙ e)
    go false c p q = inl (sym (ap (λ b. (b && nat_eq x y) || a y) p) ∙ e)

pub more_old : (x : ℕ) (ps : List Proj) (a : ℕ → Bool) (y : ℕ) → (a y ≡ true) ⊎ ((y ≡ x) × (ps ≡ [])) → more x ps a y ≡ true
more_old x ps a y (inl e) = ap (λ b. (is_nil ps && nat_eq x y) || b) e ∙ or_true (is_nil ps && nat_eq x y)
  where
    or_true : (b : Bool) → (b || true) ≡ true
    or_true true = refl
    or_true false = refl
more_old x ps a y (inr (e, nil)) = go (same_or_not x y)
  where
    go : ((nat_eq x y ≡ true) × (x ≡ y)) ⊎ ((nat_eq x y ≡ false) × (x ≡ y → ⊥)) → more x ps a y ≡ true
    go (inl p) = ap₂ (λ b c. (b && c) || a y) (ap is_nil nil) p.0
    go (inr p) = absurd (p.1 (sym e))

module _ (X : Change) (once : X.body2 ≡ pruned_once X.source.shapes X.body1) where
  abbrev D : List Shape
  D = X.source.shapes

  abbrev gone : ℕ → ℕ → TypedStmt → Bool
  gone = is_useless X.source.shapes X.body1

  abbrev lent : ℕ → Bool
  lent = borrowed X.source.shapes X.body1

  pub same_locals : X.body2.locals ≡ X.body1.locals
  same_locals = ap (λ (b : TypedBody). b.locals) once

  -- as far in the block, less what goes; the number is of the statements that are left in the source's block
  abbrev pub InBlock : ℕ → Control → Control → Type 0
  InBlock n c2 c1 = (k : TypedBlock) → slice_get X.body1.blocks c1.block ≡ Some k → (drop c2.at (without (gone c1.block) 0 k.stmts) ≡ without (gone c1.block) c1.at (drop c1.at k.stmts)) × (n ≡ length (drop c1.at k.stmts))

  length_at : Option TypedBlock → ℕ
  length_at None = 0
  length_at (Some k) = length k.stmts

  pub begins_at : (c2 c1 : Control) → c2.at ≡ 0 → c1.at ≡ 0 → (n : ℕ) × InBlock n c2 c1
  unfolding length_at
  begins_at c2 c1 a2 a1 = (
    length_at (slice_get X.body1.blocks c1.block),
    λ k h.
        (ap (λ i. drop i (without (gone c1.block) 0 k.stmts)) a2 ∙ ap (λ i. without (gone c1.block) i (drop i k.stmts)) (sym a1), ap length_at h ∙ ap (λ i. length (drop i k.stmts)) (sym a1)),
  )

  abbrev pub place : ℕ → Option ℕ
  place = home lent

  abbrev pub Standing : ℕ → Renaming → Control → Control → Type 0
  Standing = Stand X.f place InBlock

  -- what lives is related
  pub record Lives (j : Renaming) (c2 c1 : Control) (m2 m1 : Memory) : Type 0 where
    pub set : ℕ → Bool
    pub covers : (x : ℕ) → Live D X.body1 c1.block c1.at x → (lent x ≡ true) ⊎ (set x ≡ true)
    pub holds : Holds j c2.frame c1.frame set m2 m1

  -- a result goes to a place that isn't lent; its local lives, or is filled by it, or doesn't live after
  pub record Awaits (j : Renaming) (d2 d1 : Option Dest) (c2 c1 : Control) (m2 m1 : Memory) : Type 0 where
    pub set : ℕ → Bool
    pub local : ℕ
    pub path : List Proj
    pub unlent : lent local ≡ false
    pub to1 : d1 ≡ Some (record { addr = record { frame = c1.frame; local = local; path = path }; guard = None })
    pub to2 : d2 ≡ Some (record { addr = record { frame = c2.frame; local = local; path = path }; guard = None })
    pub covers : (x : ℕ) → Live D X.body1 c1.block c1.at x → (lent x ≡ true) ⊎ (set x ≡ true) ⊎ ((x ≡ local) × (path ≡ []))
    pub holds : Holds j c2.frame c1.frame set m2 m1
    pub there : (o : Value) → value_at m1 (record { frame = c1.frame; local = local; path = path }) ≡ Some o → (w : Value) × (value_at m2 (record { frame = c2.frame; local = local; path = path }) ≡ Some w)

  -- one frame for one frame
  abbrev pub pass : Pass
  pass = record {
    own = λ n j c2 c1 gs m2 m1. (gs ≡ []) × Standing n j c2 c1 × Lives j c2 c1 m2 m1;
    waits = λ j d2 d1 c2 c1 gs m2 m1. (gs ≡ []) × ((n : ℕ) × Standing n j c2 c1) × (DestsRel j d1 d2 × Lives j c2 c1 m2 m1 ⊎ Awaits j d2 d1 c2 c1 m2 m1);
    place = place;
  }

  pub placed : (n : ℕ) (j : Renaming) (c2 c1 : Control) → Standing n j c2 c1 → Placed j c2.frame c1.frame
  placed = one.placed lent X.f InBlock

  -- ---- frames that wait

  lives_kept : (G : TypeMap) (j j' : Renaming) (n : ℕ) (c2 c1 : Control) (n2 n1 : ℕ) (m2' m1' m2 m1 : Memory) → c1.frame < n1 → c2.frame < n2 → Standing n j c2 c1 → Leaves D G j j' n2 n1 m2' m1' m2 m1 → Lives j c2 c1 m2 m1 → Lives j' c2 c1 m2' m1'
  lives_kept G j j' n c2 c1 n2 n1 m2' m1' m2 m1 l1 l2 st l h = record { set = h.set; covers = h.covers; holds = holds_kept j c2.frame c1.frame (placed n j c2 c1 st) h.set D G j' n2 n1 m2' m1' m2 m1 l1 l2 l h.holds }

  value_same : (m m' : Memory) (a : Addr) → local_at m' a.frame a.local ≡ local_at m a.frame a.local → value_at m' a ≡ value_at m a
  unfolding value_at
  value_same m m' a e = ap (λ o. o >>= at_path a.path) e

  awaits_kept : (G : TypeMap) (j j' : Renaming) (d2 d1 : Option Dest) (n : ℕ) (c2 c1 : Control) (n2 n1 : ℕ) (m2' m1' m2 m1 : Memory) → c1.frame < n1 → c2.frame < n2 → Standing n j c2 c1 → Leaves D G j j' n2 n1 m2' m1' m2 m1 → Awaits j d2 d1 c2 c1 m2 m1 → Awaits j' d2 d1 c2 c1 m2' m1'
  awaits_kept G j j' d2 d1 n c2 c1 n2 n1 m2' m1' m2 m1 l1 l2 st l h =
      let p = placed n j c2 c1 st in
      let none = st.none h.local (home_none lent h.local h.unlent) in
      let a1 : Addr = record { frame = c1.frame; local = h.local; path = h.path } in
      let a2 : Addr = record { frame = c2.frame; local = h.local; path = h.path } in
      record {
        set = h.set;
        local = h.local;
        path = h.path;
        unlent = h.unlent;
        to1 = h.to1;
        to2 = h.to2;
        covers = h.covers;
        holds = holds_kept j c2.frame c1.frame p h.set D G j' n2 n1 m2' m1' m2 m1 l1 l2 l h.holds;
        there = λ o e. (let (w, g) = h.there o (sym (value_same m1 m1' a1 (l.source c1.frame h.local l1 none)) ∙ e) in (w, value_same m2 m2' a2 (l.target c2.frame h.local l2 (nobody j c2.frame c1.frame p h.local none)) ∙ g));
      }

  pub kept_law : KeptLaw X pass
  kept_law G j j' d2 d1 c2 c1 gs n2 n1 m2' m1' m2 m1 ks l1 l2 lo l ge (e, (i, st), h) = (e, (i, stand_kept X.f place InBlock D G j j' i c2 c1 n2 n1 m2' m1' m2 m1 l1 l2 l st), go h)
    where
      go : DestsRel j d1 d2 × Lives j c2 c1 m2 m1 ⊎ Awaits j d2 d1 c2 c1 m2 m1 → DestsRel j' d1 d2 × Lives j' c2 c1 m2' m1' ⊎ Awaits j' d2 d1 c2 c1 m2' m1'
      go (inl (dr, h)) = inl (dests_up j j' l.up d1 d2 dr, lives_kept G j j' i c2 c1 n2 n1 m2' m1' m2 m1 l1 l2 st l h)
      go (inr h) = inr (awaits_kept G j j' d2 d1 i c2 c1 n2 n1 m2' m1' m2 m1 l1 l2 st l h)

  -- a result is written to a place that isn't lent
  pub delivers : (G : TypeMap) (j : Renaming) (n : ℕ) (c2 c1 : Control) (d2 d1 : Option Dest) (m2 m1 m1' : Memory) (v w : Value) (d : Dest) → Standing n j c2 c1 → Awaits j d2 d1 c2 c1 m2 m1 → Linked j j m2 m1 → ValueRel j v w → d1 ≡ Some d → store D m1 d v ≡ Some m1' → (c : Dest) × (d2 ≡ Some c) × ((m2' : Memory) × (store D m2 c w ≡ Some m2') × Linked j j m2' m1' × Leaves D G j j c2.frame c1.frame m2' m1' m2 m1 × Lives j c2 c1 m2' m1')
  delivers G j n c2 c1 d2 d1 m2 m1 m1' v w d st h l hv ed e =
      let a1 : Addr = record { frame = c1.frame; local = h.local; path = h.path } in
      let a2 : Addr = record { frame = c2.frame; local = h.local; path = h.path } in
      let p = placed n j c2 c1 st in
      let none = st.none h.local (home_none lent h.local h.unlent) in
      let is : d ≡ record { addr = a1; guard = None } = some_val (sym ed ∙ h.to1) in
      let (old, e1, same) = store_split D m1 m1' (record { addr = a1; guard = None }) v (subst (λ d. store D m1 d v ≡ Some m1') is e) in
      let (old2, e2) = h.there old e1 in
      let (l', lv, lives) = subst (λ m. Linked j j (write m2 a2 w) m × Leaves D G j j c2.frame c1.frame (write m2 a2 w) m m2 m1 × Lives j c2 c1 (write m2 a2 w) m) same (
        own_linked j c2.frame c1.frame p h.set h.local none h.path m2 m1 v w l,
        own_leaves j c2.frame c1.frame p h.set h.local none h.path D G m2 m1 v w,
        record { set = more h.local h.path h.set; covers = λ x lv. covered x (h.covers x lv); holds = own_holds j c2.frame c1.frame p h.set h.local none h.path (more h.local h.path h.set) (more_new h.local h.path h.set) m2 m1 v w hv h.holds },
      ) in
      (record { addr = a2; guard = None }, h.to2, (write m2 a2 w, store_made D m2 (record { addr = a2; guard = None }) w old2 refl e2, l', lv, lives))
    where
      covered : (x : ℕ) → (lent x ≡ true) ⊎ (h.set x ≡ true) ⊎ ((x ≡ h.local) × (h.path ≡ [])) → (lent x ≡ true) ⊎ (more h.local h.path h.set x ≡ true)
      covered x (inl e) = inl e
      covered x (inr k) = inr (more_old h.local h.path h.set x k)

  -- ---- a call

  -- all lives at the start
  pub begins : (j : Renaming) (k2 k1 : ℕ) (d2 d1 : Option Dest) (m2 m1 : Memory) (vs ws : List Value) → ValuesRel j vs ws → ((x : ℕ) → j k1 x ≡ None) → ((h x g y : ℕ) → j h x ≡ Some (g, y) → g < k2) → (n : ℕ) × Standing n (opened j k2 k1 place) (new_control X.f k2 d2) (new_control X.f k1 d1) × Lives (opened j k2 k1 place) (new_control X.f k2 d2) (new_control X.f k1 d1) (open_frame m2 k2 (new_slots D X.body2.locals ws)) (open_frame m1 k1 (new_slots D X.body1.locals vs))
  begins j k2 k1 d2 d1 m2 m1 vs ws hv fresh1 fresh2 =
      let (n, h) = begins_at (new_control X.f k2 d2) (new_control X.f k1 d1) refl refl in
      (n, stand_begins X.f place InBlock j k2 k1 d2 d1 n fresh1 fresh2 h, record { set = λ x. true; covers = λ x l. inr refl; holds = new_holds D X.body2.locals X.body1.locals same_locals place j k2 k1 m2 m1 vs ws (λ x. true) hv fresh1 fresh2 })

  -- ---- another function returns

  module _ (V : Valids X) (Inv : State → Type 0) where
    module _ (now : Return X pass V Inv) (i : ℕ) (st : Standing i now.r.core.lent now.c2 now.c1) (x : Next) where
      open now use {n, s2, s1, r, m2, m1, c2, c1, ds, cs2, v, w, callers as q, linked as l, below as be, older1 as l1, older2 as l2, same as hv}

      abbrev j : Renaming
      j = r.core.lent

      abbrev G : TypeMap
      G = r.typed1.types

      goes_back : (m2' m1' : Memory) (d : Dest) → Linked j j m2' m1' → Leaves D G j j c2.frame c1.frame m2' m1' m2 m1 → Lives j c2 c1 m2' m1' → store D m2 d w ≡ Some m2' → go_on (record s1 { callers = ds }) m1' c1 ≡ Some x → GentleTo X G c1.frame m1 x → Goes X pass (return_to D s2 m2 (Some d) (c2 ∷ cs2) w) x
      unfolding return_to
      goes_back m2' m1' d l' lv lives g k ge = subst (λ o. Goes X pass o x) (sym (some_bind _ g refl)) (subst (λ z. Goes X pass (go_on (record s2 { callers = cs2 }) m2' c2) z) (some_val k) (i, _, refl, back_core X pass V Inv kept_law n s2 s1 r m2 m1 m2' m1' c2 c1 ds cs2 (knows_waiting X pass V Inv n s2 s1 r c1 ds q).1 be l1 l2 l' lv (gentle_on X G c1.frame m1 (record s1 { memory = m1'; top = c1; callers = ds }) x ge k (omega arith)) i (refl, st, lives)))

      far_back : (d2 d1 : Option Dest) → DestsRel j d1 d2 → Lives j c2 c1 m2 m1 → ((d : Dest) → d1 ≡ Some d → (t : Tree) × AddrTy D G d.addr t) → return_to D s1 m1 d1 (c1 ∷ ds) v ≡ Some x → GentleTo X G c1.frame m1 x → Goes X pass (return_to D s2 m2 d2 (c2 ∷ cs2) w) x
      unfolding return_to destroyed
      far_back None None dr lives dt e ge = absurd (let (d, e1, k1) = bind_some e in let z : ◌≡◌ {A = Option Dropping} None (Some d) = sym st.calm ∙ e1 in grind arith)
      far_back (Some d2) (Some d1) dr lives dt e ge =
          let (t, at) = dt d1 refl in
          let (m1', e1, k1) = bind_some e in
          let (m2', g1, l', lv) = near.store_leaves D G j s2.top.frame s1.top.frame m2 m1 m2 m1 m1' d1 d2 t v w l (leaves_none D G j s2.top.frame s1.top.frame m2 m1) dr at hv e1 in
          goes_back m2' m1' d2 l' (leaves_less D G j j s2.top.frame s1.top.frame c2.frame c1.frame m2' m1' m2 m1 (omega (arith, l2)) (omega (arith, l1)) lv) (lives_kept G j j i c2 c1 s2.top.frame s1.top.frame m2' m1' m2 m1 l1 l2 st lv lives) g1 k1 ge
      far_back None (Some d1) dr lives dt e ge = absurd dr
      far_back (Some d2) None dr lives dt e ge = absurd dr

      own_back : (d2 d1 : Option Dest) → Awaits j d2 d1 c2 c1 m2 m1 → return_to D s1 m1 d1 (c1 ∷ ds) v ≡ Some x → GentleTo X G c1.frame m1 x → Goes X pass (return_to D s2 m2 d2 (c2 ∷ cs2) w) x
      unfolding return_to
      own_back d2 None h e ge = absurd (let z = h.to1 in grind arith)
      own_back d2 (Some d1) h e ge =
          let (m1', e1, k1) = bind_some e in
          let (c, ec, (m2', g1, l', lv, lives)) = delivers G j i c2 c1 d2 (Some d1) m2 m1 m1' v w d1 st h l hv.0 refl e1 in
          subst (λ d. Goes X pass (return_to D s2 m2 d (c2 ∷ cs2) w) x) (sym ec) (goes_back m2' m1' c l' lv lives g1 k1 ge)

    resumed : (n : ℕ) (s2 s1 : State) (r : Related X pass V Inv n s2 s1) (m2 m1 : Memory) (c2 c1 : Control) (gs ds cs2 : List Control) (v w : Value) (x : Next) → s1.callers ≡ c1 ∷ (gs ++ ds) → Linked r.core.lent r.core.lent m2 m1 → pass.waits r.core.lent s2.top.dest s1.top.dest c2 c1 gs m2 m1 → Below X pass r.core.lent c2.dest (lowest c1 gs).dest c2.frame (lowest c1 gs).frame cs2 ds m2 m1 → c1.frame < s1.top.frame → c2.frame < s2.top.frame → ((d : Dest) → s1.top.dest ≡ Some d → (t : Tree) × AddrTy D r.typed1.types d.addr t) → Same r.core.lent v w → return_to D s1 m1 s1.top.dest (c1 ∷ (gs ++ ds)) v ≡ Some x → GentleTo X r.typed1.types c1.frame m1 x → Goes X pass (return_to D s2 m2 s2.top.dest (c2 ∷ cs2) w) x
    resumed n s2 s1 r m2 m1 c2 c1 [] ds cs2 v w x q l (e, (i, st), h) be l1 l2 dt hv k ge = go h
      where
        now : Return X pass V Inv
        now = record { n = n; s2 = s2; s1 = s1; r = r; m2 = m2; m1 = m1; c2 = c2; c1 = c1; ds = ds; cs2 = cs2; v = v; w = w; callers = q; linked = l; below = be; older1 = l1; older2 = l2; same = hv }

        go : DestsRel r.core.lent s1.top.dest s2.top.dest × Lives r.core.lent c2 c1 m2 m1 ⊎ Awaits r.core.lent s2.top.dest s1.top.dest c2 c1 m2 m1 → Goes X pass (return_to D s2 m2 s2.top.dest (c2 ∷ cs2) w) x
        go (inl (dr, lives)) = far_back now i st x s2.top.dest s1.top.dest dr lives dt k ge
        go (inr h) = own_back now i st x s2.top.dest s1.top.dest h k ge
    resumed n s2 s1 r m2 m1 c2 c1 (g ∷ gs) ds cs2 v w x q l (e, st, h) be l1 l2 dt hv k ge = absurd (grind arith)

    pub frames : FrameLaws X pass V Inv
    frames = record {
      kept = kept_law;
      once = home_once lent;
      slots = λ j vs ws hv few x y e v k. subst (λ y. SomeRel j v (slice_get (new_slots D X.body2.locals ws) y)) (home_some lent x y e).1 (slots_same D X.body2.locals X.body1.locals same_locals j vs ws hv.0 x v k);
      begins = λ j k2 k1 d2 d1 m2 m1 vs ws hv ar f1 f2 l. (let (n, st, h) = begins j k2 k1 d2 d1 m2 m1 vs ws hv.0 f1 f2 in (n, (refl, st, h)));
      resumes = λ n s2 s1 r m2 m1 c2 c1 gs ds cs2 v w x q q2 p2 p1 l wt be l1 l2 lo dt hv wh k ge. resumed n s2 s1 r m2 m1 c2 c1 gs ds cs2 v w x q l wt be l1 l2 dt hv k ge;
    }
