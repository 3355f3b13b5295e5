-- The frames of the merged body: how they are related, frames that wait, and returns to them.
use Rattle.std.proofs.Common.{◌≡◌, ◌⊎◌, inl, inr, refl, sym, ap, ap₂, ◌∙◌, subst, ℕ, ◌<◌, Bool, true, false, not, nat_eq, ◌&&◌, ◌||◌, if◌then◌else◌, List, [], ◌∷◌, ◌++◌, map, length, drop, Option, Some, None, slice_get, arith}
use Rattle.std.specs.List.{filter}
use Rattle.std.proofs.lemmas.Bool.{or_right}
use Rattle.mir_syntax.specs.declared.body.Proj.{Proj}
use Rattle.mir_syntax.specs.Tree.{Tree}
use Rattle.mir_syntax.specs.Shapes.{Shape, ◌>>=◌}
use Rattle.mir_syntax.specs.Crate.{TypedStmt, TypedBlock, TypedBody}
use Rattle.mir_syntax.proofs.Binds.{bind_some, some_bind}
use Rattle.mir_semantics.specs.Values.{Addr, Value, at_path, whole}
use Rattle.mir_semantics.specs.Memory.{Memory, local_at, value_at, write}
use Rattle.mir_semantics.specs.Step.{Dest, Dropping, Control, State, Next, destroyed, go_on, store, return_to}
use Rattle.mir_renaming.specs.Renaming.{Renaming, ValueRel}
use Rattle.mir_renaming.specs.Places.{is_nil}
use Rattle.mir_renaming.proofs.Memory.{same_or_not}
use Rattle.mir_renaming.proofs.Statements.{Linked}
use Rattle.mir_renaming.proofs.Types.{TypeMap, HasTy, AddrTy}
use Rattle.mir_renaming.proofs.Stores.{store_split, store_made}
use Rattle.escape_info.specs.Borrowed.{borrowed}
use Rattle.liveness.specs.Live.{Live}
use Rattle.mir_relate.specs.Alike.{Same}
use Rattle.mir_relate.specs.Leaves.{Leaves}
use Rattle.mir_relate.specs.Frames.{Change, Pass, lowest, DestsRel, Below}
use Rattle.mir_relate.specs.Pass.{GentleTo, Valids, KeptLaw, Goes, Related}
use Rattle.mir_relate.proofs.Leaves.{some_val, leaves_none, leaves_less}
use Rattle.mir_relate.proofs.Stacks.{dests_up}
use Rattle.mir_relate.proofs.Near as near
use Rattle.mir_relate.proofs.Mild.{gentle_on}
use Rattle.mir_relate.proofs.OneForOne as one
use Rattle.mir_relate.proofs.OneForOne.{home_none, Return}
use Rattle.mir_relate.proofs.Single.{Stand, stand_kept, back_core, knows_waiting}
use Rattle.mir_relate.proofs.Living.{Placed, nobody}
use Rattle.dest_prop.specs.Merged.{home_of, is_shared, stmt_home, stays, merged_by}
use Rattle.dest_prop.proofs.Homes.{sole, sole_self, lent_sole, good}
use Rattle.dest_prop.proofs.refines.Fills.{Fills, rel_fills, whole_fills, put_both, put_second}
use Rattle.dest_prop.proofs.refines.Housed.{Beside, Housed, Homes, housed_more, housed_kept, own_linked, own_leaves, own_housed}

-- ---- sets of locals that live

-- one local more, where it is written as a whole, and no other of its home
abbrev pub alone : (ℕ → ℕ) → ℕ → List Proj → (ℕ → Bool) → ℕ → Bool
alone home x ps a y = if nat_eq y x then is_nil ps || a y else a y && not (nat_eq (home y) (home x))

nil_is : (ps : List Proj) → is_nil ps ≡ true → ps ≡ []
nil_is [] h = refl
nil_is (p ∷ ps) h = absurd (grind arith)

-- what is in it
abbrev pub Alone : (ℕ → ℕ) → ℕ → List Proj → (ℕ → Bool) → ℕ → Type 0
Alone home x ps a y = ((a y ≡ true) × (home y ≡ home x → y ≡ x)) ⊎ ((y ≡ x) × (ps ≡ []))

module _ (home : ℕ → ℕ) (x : ℕ) (ps : List Proj) (a : ℕ → Bool) (y : ℕ) where
  pub alone_new : alone home x ps a y ≡ true → Alone home x ps a y
  alone_new e = go (same_or_not y x) (same_or_not (home y) (home x))
    where
      here : (b : Bool) → is_nil ps ≡ b → (b || a y) ≡ true → y ≡ x → ((a y ≡ true) × (home y ≡ home x → y ≡ x)) ⊎ ((y ≡ x) × (ps ≡ []))
      here true q h s = inr (s, nil_is ps q)
      here false q h s = inl (h, λ z. s)

      left : (b c : Bool) → (b && c) ≡ true → b ≡ true
      left true c e = refl
      left false c e = absurd (grind arith)

      right : (b c : Bool) → (b && c) ≡ true → c ≡ true
      right true c e = e
      right false c e = absurd (grind arith)

      go : ((nat_eq y x ≡ true) × (y ≡ x)) ⊎ ((nat_eq y x ≡ false) × (y ≡ x → ⊥)) → ((nat_eq (home y) (home x) ≡ true) × (home y ≡ home x)) ⊎ ((nat_eq (home y) (home x) ≡ false) × (home y ≡ home x → ⊥)) → ((a y ≡ true) × (home y ≡ home x → y ≡ x)) ⊎ ((y ≡ x) × (ps ≡ []))
      go (inl s) q = here (is_nil ps) refl (sym (ap (λ b. if b then is_nil ps || a y else a y && not (nat_eq (home y) (home x))) s.0) ∙ e) s.1
      go (inr s) (inl q) = absurd (let z : not (nat_eq (home y) (home x)) ≡ true = right (a y) (not (nat_eq (home y) (home x))) (sym (ap (λ b. if b then is_nil ps || a y else a y && not (nat_eq (home y) (home x))) s.0) ∙ e) in let k : not (nat_eq (home y) (home x)) ≡ false = ap not q.0 in let w : true ≡ false = sym z ∙ k in grind arith)
      go (inr s) (inr q) = inl (left (a y) (not (nat_eq (home y) (home x))) (sym (ap (λ b. if b then is_nil ps || a y else a y && not (nat_eq (home y) (home x))) s.0) ∙ e), λ z. absurd (q.1 z))

  pub alone_old : Alone home x ps a y → alone home x ps a y ≡ true
  alone_old h = go (same_or_not y x) (same_or_not (home y) (home x)) h
    where
      go : ((nat_eq y x ≡ true) × (y ≡ x)) ⊎ ((nat_eq y x ≡ false) × (y ≡ x → ⊥)) → ((nat_eq (home y) (home x) ≡ true) × (home y ≡ home x)) ⊎ ((nat_eq (home y) (home x) ≡ false) × (home y ≡ home x → ⊥)) → ((a y ≡ true) × (home y ≡ home x → y ≡ x)) ⊎ ((y ≡ x) × (ps ≡ [])) → (if nat_eq y x then is_nil ps || a y else a y && not (nat_eq (home y) (home x))) ≡ true
      go (inl s) q (inl (ay, only)) = ap (λ b. if b then is_nil ps || a y else a y && not (nat_eq (home y) (home x))) s.0 ∙ or_right (is_nil ps) (a y) ay
      go (inl s) q (inr (z, nil)) = ap (λ b. if b then is_nil ps || a y else a y && not (nat_eq (home y) (home x))) s.0 ∙ ap (λ ps. is_nil ps || a y) nil
      go (inr s) (inl q) (inl (ay, only)) = absurd (s.1 (only q.1))
      go (inr s) (inr q) (inl (ay, only)) = ap (λ b. if b then is_nil ps || a y else a y && not (nat_eq (home y) (home x))) s.0 ∙ ap₂ (λ b c. b && not c) ay q.0
      go (inr s) q (inr (z, nil)) = absurd (s.1 z)

-- ---- values beside what is related: a home has no hole where a member has parts

abbrev pub Filled : Beside
Filled x v w = Fills v w

-- once the home's type is known
abbrev pub Later : List Shape → List Tree → Beside
Later D ts x v w = (G : TypeMap) → ((t : Tree) → slice_get ts x ≡ Some t → HasTy D G t w) → Fills v w

module _ (X : Change) (once : X.body2 ≡ merged_by (is_shared X.body1 (home_of X.source.shapes X.body1)) (home_of X.source.shapes X.body1) X.body1) where
  abbrev D : List Shape
  D = X.source.shapes

  abbrev pub home : ℕ → ℕ
  home = home_of X.source.shapes X.body1

  abbrev pub shared : ℕ → Bool
  shared = is_shared X.body1 (home_of X.source.shapes X.body1)

  abbrev pub lent : ℕ → Bool
  lent = borrowed X.source.shapes X.body1

  pub same_locals : X.body2.locals ≡ X.body1.locals
  same_locals = ap (λ (b : TypedBody). b.locals) once

  -- the text of statements
  abbrev pub left_of : List TypedStmt → List TypedStmt
  left_of ss = map (stmt_home shared home) (filter (stays shared home) ss)

  -- as far in the block, less what goes; the number is of the statements that are left in the source's block
  abbrev pub InBlock : ℕ → Control → Control → Type 0
  InBlock n c2 c1 = (k : TypedBlock) → slice_get X.body1.blocks c1.block ≡ Some k → (drop c2.at (left_of k.stmts) ≡ left_of (drop c1.at k.stmts)) × (n ≡ length (drop c1.at k.stmts))

  length_at : Option TypedBlock → ℕ
  length_at None = 0
  length_at (Some k) = length k.stmts

  pub begins_at : (c2 c1 : Control) → c2.at ≡ 0 → c1.at ≡ 0 → (n : ℕ) × InBlock n c2 c1
  unfolding length_at
  begins_at c2 c1 a2 a1 = (
    length_at (slice_get X.body1.blocks c1.block),
    λ k h. (ap (λ i. drop i (left_of k.stmts)) a2 ∙ ap (λ i. left_of (drop i k.stmts)) (sym a1), ap length_at h ∙ ap (λ i. length (drop i k.stmts)) (sym a1)),
  )

  -- a lent local stands for itself
  abbrev pub place : ℕ → Option ℕ
  place = one.home lent

  abbrev pub Standing : ℕ → Renaming → Control → Control → Type 0
  Standing = Stand X.f place InBlock

  -- what lives is related to its home, and a home has what its members have
  pub record Lives (R : Beside) (j : Renaming) (c2 c1 : Control) (m2 m1 : Memory) : Type 0 where
    pub set : ℕ → Bool
    pub covers : (x : ℕ) → Live D X.body1 c1.block c1.at x → (lent x ≡ true) ⊎ (set x ≡ true)
    pub holds : Housed j c2.frame c1.frame home R set m2 m1

  -- a result goes to a place that isn't lent; what lives after is no other local of its home
  pub record Awaits (j : Renaming) (d2 d1 : Option Dest) (c2 c1 : Control) (m2 m1 : Memory) : Type 0 where
    pub set : ℕ → Bool
    pub local : ℕ
    pub path : List Proj
    pub unlent : lent local ≡ false
    pub to1 : d1 ≡ Some (record { addr = record { frame = c1.frame; local = local; path = path }; guard = None })
    pub to2 : d2 ≡ Some (record { addr = record { frame = c2.frame; local = home local; path = path }; guard = None })
    pub covers : (x : ℕ) → Live D X.body1 c1.block c1.at x → (lent x ≡ true) ⊎ Alone home local path set x
    pub holds : Housed j c2.frame c1.frame home Filled set m2 m1
    pub there : (o : Value) → value_at m1 (record { frame = c1.frame; local = local; path = path }) ≡ Some o → (w : Value) × (value_at m2 (record { frame = c2.frame; local = home local; path = path }) ≡ Some w)

  -- one frame for one frame
  abbrev pub pass : Pass
  pass = record {
    own = λ n j c2 c1 gs m2 m1. (gs ≡ []) × Standing n j c2 c1 × Lives (Later D X.body1.locals) j c2 c1 m2 m1;
    waits = λ j d2 d1 c2 c1 gs m2 m1. (gs ≡ []) × ((n : ℕ) × Standing n j c2 c1) × (DestsRel j d1 d2 × Lives Filled j c2 c1 m2 m1 ⊎ Awaits j d2 d1 c2 c1 m2 m1);
    place = place;
  }

  pub placed : (n : ℕ) (j : Renaming) (c2 c1 : Control) → Standing n j c2 c1 → Placed j c2.frame c1.frame
  placed = one.placed lent X.f InBlock

  pub homes : (n : ℕ) (j : Renaming) (c2 c1 : Control) → Standing n j c2 c1 → Homes j c2.frame c1.frame home
  homes n j c2 c1 st = record { lent = λ x g y e. self x g y e (lent x) refl; unlent = λ x e. away x e (lent (home x)) refl }
    where
      self : (x g y : ℕ) → j c1.frame x ≡ Some (g, y) → (b : Bool) → lent x ≡ b → home x ≡ x
      self x g y e true l = sole_self D X.body1 x (lent_sole D X.body1 x l)
      self x g y e false l = absurd (let z : None ≡ Some (g, y) = sym (st.none x (home_none lent x l)) ∙ e in grind arith)

      away : (x : ℕ) → j c1.frame x ≡ None → (b : Bool) → lent (home x) ≡ b → j c1.frame (home x) ≡ None
      away x e true l = ap (j c1.frame) (sym (sole D X.body1 (home x) x (lent_sole D X.body1 (home x) l) (sym ((good D X.body1).again x)))) ∙ e
      away x e false l = st.none (home x) (home_none lent (home x) l)

  pub later : (j : Renaming) (c2 c1 : Control) (m2 m1 : Memory) → Lives Filled j c2 c1 m2 m1 → Lives (Later D X.body1.locals) j c2 c1 m2 m1
  later j c2 c1 m2 m1 h = record { set = h.set; covers = h.covers; holds = housed_more j c2.frame c1.frame home Filled (Later D X.body1.locals) h.set m2 m1 (λ x v w e g r. λ G ty. r) h.holds }

  -- ---- frames that wait

  lives_kept : (G : TypeMap) (j j' : Renaming) (n : ℕ) (c2 c1 : Control) (n2 n1 : ℕ) (m2' m1' m2 m1 : Memory) → c1.frame < n1 → c2.frame < n2 → Standing n j c2 c1 → Leaves D G j j' n2 n1 m2' m1' m2 m1 → Lives Filled j c2 c1 m2 m1 → Lives Filled j' c2 c1 m2' m1'
  lives_kept G j j' n c2 c1 n2 n1 m2' m1' m2 m1 l1 l2 st l h = record { set = h.set; covers = h.covers; holds = housed_kept j c2.frame c1.frame home (placed n j c2 c1 st) (homes n j c2 c1 st) Filled h.set D G j' n2 n1 m2' m1' m2 m1 l1 l2 l h.holds }

  value_same : (m m' : Memory) (a : Addr) → local_at m' a.frame a.local ≡ local_at m a.frame a.local → value_at m' a ≡ value_at m a
  unfolding value_at
  value_same m m' a e = ap (λ o. o >>= at_path a.path) e

  awaits_kept : (G : TypeMap) (j j' : Renaming) (d2 d1 : Option Dest) (n : ℕ) (c2 c1 : Control) (n2 n1 : ℕ) (m2' m1' m2 m1 : Memory) → c1.frame < n1 → c2.frame < n2 → Standing n j c2 c1 → Leaves D G j j' n2 n1 m2' m1' m2 m1 → Awaits j d2 d1 c2 c1 m2 m1 → Awaits j' d2 d1 c2 c1 m2' m1'
  awaits_kept G j j' d2 d1 n c2 c1 n2 n1 m2' m1' m2 m1 l1 l2 st l h =
      let p = placed n j c2 c1 st in
      let hs = homes n j c2 c1 st in
      let none = st.none h.local (home_none lent h.local h.unlent) in
      let a1 : Addr = record { frame = c1.frame; local = h.local; path = h.path } in
      let a2 : Addr = record { frame = c2.frame; local = home h.local; path = h.path } in
      record {
        set = h.set;
        local = h.local;
        path = h.path;
        unlent = h.unlent;
        to1 = h.to1;
        to2 = h.to2;
        covers = h.covers;
        holds = housed_kept j c2.frame c1.frame home p hs Filled h.set D G j' n2 n1 m2' m1' m2 m1 l1 l2 l h.holds;
        there = λ o e. (let (w, g) = h.there o (sym (value_same m1 m1' a1 (l.source c1.frame h.local l1 none)) ∙ e) in (w, value_same m2 m2' a2 (l.target c2.frame (home h.local) l2 (nobody j c2.frame c1.frame p (home h.local) (hs.unlent h.local none))) ∙ g));
      }

  pub kept_law : KeptLaw X pass
  kept_law G j j' d2 d1 c2 c1 gs n2 n1 m2' m1' m2 m1 ks l1 l2 lo l ge (e, (i, st), h) = (e, (i, stand_kept X.f place InBlock D G j j' i c2 c1 n2 n1 m2' m1' m2 m1 l1 l2 l st), go h)
    where
      go : DestsRel j d1 d2 × Lives Filled j c2 c1 m2 m1 ⊎ Awaits j d2 d1 c2 c1 m2 m1 → DestsRel j' d1 d2 × Lives Filled j' c2 c1 m2' m1' ⊎ Awaits j' d2 d1 c2 c1 m2' m1'
      go (inl (dr, h)) = inl (dests_up j j' l.up d1 d2 dr, lives_kept G j j' i c2 c1 n2 n1 m2' m1' m2 m1 l1 l2 st l h)
      go (inr h) = inr (awaits_kept G j j' d2 d1 i c2 c1 n2 n1 m2' m1' m2 m1 l1 l2 st l h)

  -- a result without holes is written to a place that isn't lent
  pub delivers : (G : TypeMap) (j : Renaming) (n : ℕ) (c2 c1 : Control) (d2 d1 : Option Dest) (m2 m1 m1' : Memory) (v w : Value) (d : Dest) → Standing n j c2 c1 → Awaits j d2 d1 c2 c1 m2 m1 → Linked j j m2 m1 → ValueRel j v w → whole w ≡ true → d1 ≡ Some d → store D m1 d v ≡ Some m1' → (c : Dest) × (d2 ≡ Some c) × ((m2' : Memory) × (store D m2 c w ≡ Some m2') × Linked j j m2' m1' × Leaves D G j j c2.frame c1.frame m2' m1' m2 m1 × Lives Filled j c2 c1 m2' m1')
  delivers G j n c2 c1 d2 d1 m2 m1 m1' v w d st h l hv wh ed e =
      let a1 : Addr = record { frame = c1.frame; local = h.local; path = h.path } in
      let a2 : Addr = record { frame = c2.frame; local = home h.local; path = h.path } in
      let p = placed n j c2 c1 st in
      let hs = homes n j c2 c1 st in
      let none = st.none h.local (home_none lent h.local h.unlent) in
      let is : d ≡ record { addr = a1; guard = None } = some_val (sym ed ∙ h.to1) in
      let (old, e1, same) = store_split D m1 m1' (record { addr = a1; guard = None }) v (subst (λ d. store D m1 d v ≡ Some m1') is e) in
      let (old2, e2) = h.there old e1 in
      let (l', lv, lives) = subst (λ m. Linked j j (write m2 a2 w) m × Leaves D G j j c2.frame c1.frame (write m2 a2 w) m m2 m1 × Lives Filled j c2 c1 (write m2 a2 w) m) same (
        own_linked j c2.frame c1.frame home p hs Filled h.set h.local none h.path m2 m1 v w l,
        own_leaves j c2.frame c1.frame home p hs Filled h.set h.local none h.path D G m2 m1 v w,
        record {
          set = alone home h.local h.path h.set;
          covers = λ x lv. covered x (h.covers x lv);
          holds = own_housed j c2.frame c1.frame home p hs Filled h.set h.local none h.path (alone home h.local h.path h.set) m2 m1 v w (alone_new home h.local h.path h.set) hv (λ v0 w0 r. put_both h.path v w (rel_fills j v w hv) v0 w0 r) (λ y u w0 q ne k g r. put_second h.path w (λ o. whole_fills o w wh) u w0 r) h.holds;
        },
      ) in
      (record { addr = a2; guard = None }, h.to2, (write m2 a2 w, store_made D m2 (record { addr = a2; guard = None }) w old2 refl e2, l', lv, lives))
    where
      covered : (x : ℕ) → (lent x ≡ true) ⊎ Alone home h.local h.path h.set x → (lent x ≡ true) ⊎ (alone home h.local h.path h.set x ≡ true)
      covered x (inl e) = inl e
      covered x (inr k) = inr (alone_old home h.local h.path h.set x k)

  -- ---- another function returns

  module _ (V : Valids X) (Inv : State → Type 0) where
    module _ (now : Return X pass V Inv) (i : ℕ) (st : Standing i now.r.core.lent now.c2 now.c1) (wh : whole now.w ≡ true) (x : Next) where
      open now use {n, s2, s1, r, m2, m1, c2, c1, ds, cs2, v, w, callers as q, linked as l, below as be, older1 as l1, older2 as l2, same as hv}

      abbrev j : Renaming
      j = r.core.lent

      abbrev G : TypeMap
      G = r.typed1.types

      goes_back : (m2' m1' : Memory) (d : Dest) → Linked j j m2' m1' → Leaves D G j j c2.frame c1.frame m2' m1' m2 m1 → Lives Filled j c2 c1 m2' m1' → store D m2 d w ≡ Some m2' → go_on (record s1 { callers = ds }) m1' c1 ≡ Some x → GentleTo X G c1.frame m1 x → Goes X pass (return_to D s2 m2 (Some d) (c2 ∷ cs2) w) x
      unfolding return_to
      goes_back m2' m1' d l' lv lives g k ge = subst (λ o. Goes X pass o x) (sym (some_bind _ g refl)) (subst (λ z. Goes X pass (go_on (record s2 { callers = cs2 }) m2' c2) z) (some_val k) (i, _, refl, back_core X pass V Inv kept_law n s2 s1 r m2 m1 m2' m1' c2 c1 ds cs2 (knows_waiting X pass V Inv n s2 s1 r c1 ds q).1 be l1 l2 l' lv (gentle_on X G c1.frame m1 (record s1 { memory = m1'; top = c1; callers = ds }) x ge k (omega arith)) i (refl, st, later j c2 c1 m2' m1' lives)))

      far_back : (d2 d1 : Option Dest) → DestsRel j d1 d2 → Lives Filled j c2 c1 m2 m1 → ((d : Dest) → d1 ≡ Some d → (t : Tree) × AddrTy D G d.addr t) → return_to D s1 m1 d1 (c1 ∷ ds) v ≡ Some x → GentleTo X G c1.frame m1 x → Goes X pass (return_to D s2 m2 d2 (c2 ∷ cs2) w) x
      unfolding return_to destroyed
      far_back None None dr lives dt e ge = absurd (let (d, e1, k1) = bind_some e in let z : ◌≡◌ {A = Option Dropping} None (Some d) = sym st.calm ∙ e1 in grind arith)
      far_back (Some d2) (Some d1) dr lives dt e ge =
          let (t, at) = dt d1 refl in
          let (m1', e1, k1) = bind_some e in
          let (m2', g1, l', lv) = near.store_leaves D G j s2.top.frame s1.top.frame m2 m1 m2 m1 m1' d1 d2 t v w l (leaves_none D G j s2.top.frame s1.top.frame m2 m1) dr at hv e1 in
          goes_back m2' m1' d2 l' (leaves_less D G j j s2.top.frame s1.top.frame c2.frame c1.frame m2' m1' m2 m1 (omega (arith, l2)) (omega (arith, l1)) lv) (lives_kept G j j i c2 c1 s2.top.frame s1.top.frame m2' m1' m2 m1 l1 l2 st lv lives) g1 k1 ge
      far_back None (Some d1) dr lives dt e ge = absurd dr
      far_back (Some d2) None dr lives dt e ge = absurd dr

      own_back : (d2 d1 : Option Dest) → Awaits j d2 d1 c2 c1 m2 m1 → return_to D s1 m1 d1 (c1 ∷ ds) v ≡ Some x → GentleTo X G c1.frame m1 x → Goes X pass (return_to D s2 m2 d2 (c2 ∷ cs2) w) x
      unfolding return_to
      own_back d2 None h e ge = absurd (let z = h.to1 in grind arith)
      own_back d2 (Some d1) h e ge =
          let (m1', e1, k1) = bind_some e in
          let (c, ec, (m2', g1, l', lv, lives)) = delivers G j i c2 c1 d2 (Some d1) m2 m1 m1' v w d1 st h l hv.0 wh refl e1 in
          subst (λ d. Goes X pass (return_to D s2 m2 d (c2 ∷ cs2) w) x) (sym ec) (goes_back m2' m1' c l' lv lives g1 k1 ge)

    pub resumed : (n : ℕ) (s2 s1 : State) (r : Related X pass V Inv n s2 s1) (m2 m1 : Memory) (c2 c1 : Control) (gs ds cs2 : List Control) (v w : Value) (x : Next) → s1.callers ≡ c1 ∷ (gs ++ ds) → Linked r.core.lent r.core.lent m2 m1 → pass.waits r.core.lent s2.top.dest s1.top.dest c2 c1 gs m2 m1 → Below X pass r.core.lent c2.dest (lowest c1 gs).dest c2.frame (lowest c1 gs).frame cs2 ds m2 m1 → c1.frame < s1.top.frame → c2.frame < s2.top.frame → ((d : Dest) → s1.top.dest ≡ Some d → (t : Tree) × AddrTy D r.typed1.types d.addr t) → Same r.core.lent v w → whole w ≡ true → return_to D s1 m1 s1.top.dest (c1 ∷ (gs ++ ds)) v ≡ Some x → GentleTo X r.typed1.types c1.frame m1 x → Goes X pass (return_to D s2 m2 s2.top.dest (c2 ∷ cs2) w) x
    resumed n s2 s1 r m2 m1 c2 c1 [] ds cs2 v w x q l (e, (i, st), h) be l1 l2 dt hv wh k ge = go h
      where
        now : Return X pass V Inv
        now = record { n = n; s2 = s2; s1 = s1; r = r; m2 = m2; m1 = m1; c2 = c2; c1 = c1; ds = ds; cs2 = cs2; v = v; w = w; callers = q; linked = l; below = be; older1 = l1; older2 = l2; same = hv }

        go : DestsRel r.core.lent s1.top.dest s2.top.dest × Lives Filled r.core.lent c2 c1 m2 m1 ⊎ Awaits r.core.lent s2.top.dest s1.top.dest c2 c1 m2 m1 → Goes X pass (return_to D s2 m2 s2.top.dest (c2 ∷ cs2) w) x
        go (inl (dr, lives)) = far_back now i st wh x s2.top.dest s1.top.dest dr lives dt k ge
        go (inr h) = own_back now i st wh x s2.top.dest s1.top.dest h k ge
    resumed n s2 s1 r m2 m1 c2 c1 (g ∷ gs) ds cs2 v w x q l (e, st, h) be l1 l2 dt hv wh k ge = absurd (grind arith)
