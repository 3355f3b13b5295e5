-- A body that mirrors another one: one frame for one frame, in which each local that has a home is lent and agrees with it, and each place of
-- the source's blocks has a counterpart in the target's. What the pass says of frames that open, wait and go on.
use Rattle.std.proofs.Common.{◌≡◌, ◌⊎◌, inl, inr, refl, sym, ap, ◌∙◌, subst, ℕ, suc, ◌<◌, ◌≤◌, true, List, [], ◌∷◌, ◌++◌, length, Option, Some, None, slice_get, arith}
use Rattle.mir_syntax.specs.declared.body.Term.{Term}
use Rattle.mir_syntax.specs.declared.body.Term.TheVariants.{Goto, Switch, Return, Unreachable, Drop, Call, Assert}
use Rattle.mir_syntax.specs.Tree.{Tree}
use Rattle.mir_syntax.specs.Shapes.{Shape}
use Rattle.mir_syntax.specs.Crate.{TypedStmt, TypedBlock, TypedBody}
use Rattle.mir_rules.specs.Drops.{is_drop}
use Rattle.mir_semantics.specs.Values.{Value, blank}
use Rattle.mir_semantics.specs.Memory.{Memory, local_at, open_frame, write}
use Rattle.mir_semantics.specs.Step.{Dest, Dropping, Control, State, Next, on, new_slots, go_on, to_block, take_arm, destroyed, return_to}
use Rattle.mir_renaming.specs.Renaming.{Renaming, Sub, SomeRel}
use Rattle.mir_syntax.proofs.Binds.{bind_some, some_bind}
use Rattle.mir_renaming.proofs.Statements.{Linked}
use Rattle.mir_renaming.proofs.Types.{TypeMap, AddrTy}
use Rattle.mir_renaming.proofs.Typed.{FramesTy, MaybeDrop}
use Rattle.mir_renaming.proofs.Frames.{new_control, open_same}
use Rattle.mir_renaming.proofs.Agree.{Agree}
use Rattle.mir_renaming.proofs.Items.{Owns}
use Rattle.mir_relate.specs.Alike.{Same, AllSame}
use Rattle.mir_relate.specs.Leaves.{Leaves}
use Rattle.mir_relate.specs.Frames.{Change, Pass, lowest, DestsRel, opened, AgreesBy, Visiting, Below}
use Rattle.mir_relate.specs.Mild.{Gentle}
use Rattle.mir_relate.specs.Pass.{KnowsAll, Valids, KeptLaw, GentleTo, FrameLaws, Goes, Related}
use Rattle.mir_relate.specs.Renumbered.{Numbering, PlaceSame, OperandSame, OperandsSame, StmtSame, Gone}
use Rattle.mir_relate.proofs.Leaves.{some_val, leaves_none, leaves_less}
use Rattle.mir_relate.proofs.Mild.{gentle_none, gentle_less, gentle_above, gentle_on}
use Rattle.mir_relate.proofs.Near as near
use Rattle.mir_relate.proofs.Numbered.{Homes}
use Rattle.mir_relate.proofs.Opens.{opened_at, opened_parts}
use Rattle.mir_relate.proofs.Single.{opened_none, opened_only, back_core, knows_waiting}
use Rattle.mir_relate.proofs.Stacks.{visit_up, visits_up, dests_up}
use Rattle.mir_relate.proofs.Visits as visits
use Rattle.mir_relate.proofs.Visits.{agrees_by, agrees_at, blank_left, no_destroyed}

-- ---- what is asked of the bodies

-- a place of the target stands for one of the source: a number that falls where the target stands still, the target's block and place in it,
-- and the source's
abbrev pub Positions : Type 1
Positions = ℕ → ℕ → ℕ → ℕ → ℕ → Type 0

-- the start of a block of the target stands for the start of one of the source
abbrev pub To : Positions → ℕ → ℕ → Type 0
To At t2 t1 = (n : ℕ) × At n t2 0 t1 0

-- a terminator that is the same but for the numbers of locals, and whose targets stand for each other
abbrev pub TermAs : Numbering → (ℕ → ℕ → Type 0) → Term → Term → Type 0
TermAs R T (Goto t) (Goto u) = T u t
TermAs R T (Switch o as' t) (Switch p bs u) = OperandSame R o p × ((i : ℕ) → T (take_arm i bs u) (take_arm i as' t))
TermAs R T Return Return = Unit {0}
TermAs R T Unreachable Unreachable = Unit {0}
TermAs R T (Drop p t) (Drop q u) = PlaceSame R p q × T u t
TermAs R T (Call p g os t) (Call q h ps u) = PlaceSame R p q × (g ≡ h) × OperandsSame R os ps × T u t
TermAs R T (Assert o e x os t) (Assert p e' x' ps u) = OperandSame R o p × (e ≡ e') × (x ≡ x') × OperandsSame R os ps × T u t
TermAs R T _ _ = ⊥

-- at a statement of the source the target has one that is the same but for the numbers of locals, or the source's is storage of a local without
-- a home; at its terminator the target has one such too, or the source's is a goto to a block for whose start the target's place stands already.
-- What the source does alone makes the number smaller
abbrev pub Meets : (ℕ → Option ℕ) → Positions → ℕ → TypedBody → ℕ → ℕ → ℕ → ℕ → Term → Option TypedStmt → Type 0
Meets B At n b2 i2 a2 i1 a1 t1 (Some s) =
    ((n' : ℕ) × Gone (Homes B) s × At n' i2 a2 i1 (suc a1) × (n' < n))
    ⊎ ((k2 : TypedBlock) × (t : TypedStmt) × (n' : ℕ) × (slice_get b2.blocks i2 ≡ Some k2) × (slice_get k2.stmts a2 ≡ Some t) × StmtSame (Homes B) s t × At n' i2 (suc a2) i1 (suc a1))
Meets B At n b2 i2 a2 i1 a1 t1 None =
    ((u n' : ℕ) × (t1 ≡ Goto u) × At n' i2 a2 u 0 × (n' < n))
    ⊎ ((k2 : TypedBlock) × (slice_get b2.blocks i2 ≡ Some k2) × (slice_get k2.stmts a2 ≡ None) × TermAs (Homes B) (To At) t1 k2.term)

-- B: the home of a local of the source, where it has one
pub record Mirrors (X : Change) (B : ℕ → Option ℕ) (At : Positions) : Type 0 where
  pub once : (x x' y : ℕ) → B x ≡ Some y → B x' ≡ Some y → x ≡ x'
  pub types : (x y : ℕ) → B x ≡ Some y → slice_get X.body1.locals x ≡ slice_get X.body2.locals y
  pub result : B 0 ≡ Some 0
  -- places
  pub starts : To At 0 0
  pub meets : (n i2 a2 i1 a1 : ℕ) → At n i2 a2 i1 a1 → (k1 : TypedBlock) → slice_get X.body1.blocks i1 ≡ Some k1 → Meets B At n X.body2 i2 a2 i1 a1 k1.term (slice_get k1.stmts a1)
  -- the slots of a new frame
  pub slots : (j : Renaming) (vs ws : List Value) → AllSame j vs ws → length vs ≤ X.body1.args → (x y : ℕ) → B x ≡ Some y → (v : Value) → slice_get (new_slots X.source.shapes X.body1.locals vs) x ≡ Some v → SomeRel j v (slice_get (new_slots X.source.shapes X.body2.locals ws) y)
  pub agree : (j : Renaming) (vs ws : List Value) → AllSame j vs ws → length vs ≤ X.body1.args → (x y : ℕ) (t : Tree) (v w : Value) → B x ≡ Some y → slice_get (new_slots X.source.shapes X.body1.locals vs) x ≡ Some v → slice_get (new_slots X.source.shapes X.body2.locals ws) y ≡ Some w → Agree X.source.shapes t v w

-- ---- the frames

module _ (X : Change) (B : ℕ → Option ℕ) (At : Positions) where
  -- a drop that is on its way leads to blocks that stand for each other
  abbrev pub Dropped : Renaming → Option Dropping → Option Dropping → Type 0
  Dropped j None None = Unit {0}
  Dropped j (Some d) (Some e) = Visiting j d e × To At e.target d.target
  Dropped j _ _ = ⊥

  -- and stands at its terminator
  abbrev pub Busy : Control → Type 0
  Busy c = (d : Dropping) → c.dropping ≡ Some d → (k : TypedBlock) → slice_get X.body1.blocks c.block ≡ Some k → (is_drop k.term ≡ true) × (slice_get k.stmts c.at ≡ None)

  pub record Stand (n : ℕ) (j : Renaming) (c2 c1 : Control) : Type 0 where
    pub function1 : c1.function ≡ X.f
    pub function2 : c2.function ≡ X.f
    pub drops : Dropped j c1.dropping c2.dropping
    pub busy : Busy c1
    pub roots : (x y : ℕ) → B x ≡ Some y → j c1.frame x ≡ Some (c2.frame, y)
    pub none : (x : ℕ) → B x ≡ None → j c1.frame x ≡ None
    pub only : (h x y : ℕ) → j h x ≡ Some (c2.frame, y) → (h ≡ c1.frame) × (B x ≡ Some y)
    pub here : At n c2.block c2.at c1.block c1.at

  abbrev pub pass : Pass
  pass = record {
    own = λ n j c2 c1 gs m2 m1. (gs ≡ []) × Stand n j c2 c1 × AgreesBy X j c1 m2 m1;
    waits = λ j d2 d1 c2 c1 gs m2 m1. (gs ≡ []) × ((n : ℕ) × Stand n j c2 c1) × DestsRel j d1 d2 × AgreesBy X j c1 m2 m1;
    place = B;
  }

  pub calm : (c : Control) → c.dropping ≡ None → Busy c
  calm c none d z = absurd (let y : ◌≡◌ {A = Option Dropping} None (Some d) = sym none ∙ z in grind arith)

  -- the frames at another place
  pub moved : (n n' : ℕ) (j : Renaming) (c2 c1 c2' c1' : Control) → c2'.frame ≡ c2.frame → c1'.frame ≡ c1.frame → c2'.function ≡ c2.function → c1'.function ≡ c1.function → Dropped j c1'.dropping c2'.dropping → Busy c1' → At n' c2'.block c2'.at c1'.block c1'.at → Stand n j c2 c1 → Stand n' j c2' c1'
  moved n n' j c2 c1 c2' c1' a2 a1 f2 f1 d b h s = record {
    function1 = f1 ∙ s.function1;
    function2 = f2 ∙ s.function2;
    drops = d;
    busy = b;
    roots = λ x y e. ap (λ i. j i x) a1 ∙ s.roots x y e ∙ ap (λ i. Some (i, y)) (sym a2);
    none = λ x e. ap (λ i. j i x) a1 ∙ s.none x e;
    only = λ i x y e. (let (p, q) = s.only i x y (e ∙ ap (λ i. Some (i, y)) a2) in (p ∙ sym a1, q));
    here = h;
  }

  dropped_up : (j k : Renaming) → Sub j k → (o1 o2 : Option Dropping) → Dropped j o1 o2 → Dropped k o1 o2
  dropped_up j k up None None h = tt
  dropped_up j k up (Some d) (Some e) h = (record { place = visit_up j k up d.place e.place h.0.place; items = visits_up j k up d.items e.items h.0.items }, h.1)
  dropped_up j k up None (Some e) h = absurd h
  dropped_up j k up (Some d) None h = absurd h

  -- frames that wait
  kept : (G : TypeMap) (j j' : Renaming) (n : ℕ) (c2 c1 : Control) (n2 n1 : ℕ) (m2' m1' m2 m1 : Memory) → c1.frame < n1 → c2.frame < n2 → Leaves X.source.shapes G j j' n2 n1 m2' m1' m2 m1 → Stand n j c2 c1 → Stand n j' c2 c1
  kept G j j' n c2 c1 n2 n1 m2' m1' m2 m1 l1 l2 l s = record {
    function1 = s.function1;
    function2 = s.function2;
    drops = dropped_up j j' l.up c1.dropping c2.dropping s.drops;
    busy = s.busy;
    roots = λ x y e. l.up c1.frame x _ (s.roots x y e);
    none = λ x e. l.same1 c1.frame x l1 ∙ s.none x e;
    only = λ i x y e. s.only i x y (l.same2 i x c2.frame y l2 e);
    here = s.here;
  }

  pub kept_law : KeptLaw X pass
  kept_law G j j' d2 d1 c2 c1 gs n2 n1 m2' m1' m2 m1 ks l1 l2 lo l ge (e, (i, st), dr, ag) = (e, (i, kept G j j' i c2 c1 n2 n1 m2' m1' m2 m1 l1 l2 l st), dests_up j j' l.up d1 d2 dr, agrees_by X G j j' n2 n1 m2' m1' m2 m1 c1 l1 ks.0 l ag)

  -- ---- a call

  module _ (same : Mirrors X B At) (j : Renaming) (k2 k1 : ℕ) (d2 d1 : Option Dest) (fresh1 : (x : ℕ) → j k1 x ≡ None) (fresh2 : (h x g y : ℕ) → j h x ≡ Some (g, y) → g < k2) where
    pub begins : Stand same.starts.0 (opened j k2 k1 B) (new_control X.f k2 d2) (new_control X.f k1 d1)
    begins = record {
      function1 = refl;
      function2 = refl;
      drops = tt;
      busy = calm (new_control X.f k1 d1) refl;
      roots = opened_at j k2 k1 B fresh1 fresh2;
      none = opened_none j k2 k1 B fresh1 fresh2;
      only = opened_only j k2 k1 B fresh1 fresh2;
      here = same.starts.1;
    }

    pub agrees : (m2 m1 : Memory) (vs ws : List Value) → AllSame j vs ws → length vs ≤ X.body1.args → AgreesBy X (opened j k2 k1 B) (new_control X.f k1 d1) (open_frame m2 k2 (new_slots X.source.shapes X.body2.locals ws)) (open_frame m1 k1 (new_slots X.source.shapes X.body1.locals vs))
    agrees m2 m1 vs ws hv few b x g y t v w eb ex ej e1 e2 = go (opened_parts j k2 k1 B fresh1 fresh2 k1 x g y ej)
      where
        go : ((k1 ≡ k1) × (g ≡ k2) × (B x ≡ Some y)) ⊎ ((k1 ≡ k1 → ⊥) × (j k1 x ≡ Some (g, y))) → Agree X.source.shapes t v w
        go (inl (p, q, h)) =
            let us = new_slots X.source.shapes X.body2.locals ws in
            let ts = new_slots X.source.shapes X.body1.locals vs in
            same.agree j vs ws hv few x y t v w h (sym (open_same m1 k1 ts x) ∙ e1) (sym (ap (λ g. local_at (open_frame m2 k2 us) g y) q ∙ open_same m2 k2 us y) ∙ e2)
        go (inr p) = absurd (p.0 refl)

-- ---- another function returns

module _ (X : Change) (B : ℕ → Option ℕ) (At : Positions) (V : Valids X) (Inv : State → Type 0) where
  abbrev D : List Shape
  D = X.source.shapes

  abbrev P : Pass
  P = pass X B At

  module _ (n : ℕ) (s2 s1 : State) (r : Related X P V Inv n s2 s1) (m2 m1 : Memory) (c2 c1 : Control) (ds cs2 : List Control) (v w : Value) (x : Next) (q : s1.callers ≡ c1 ∷ ds) (l : Linked r.core.lent r.core.lent m2 m1) (i : ℕ) (st : Stand X B At i r.core.lent c2 c1) (ag : AgreesBy X r.core.lent c1 m2 m1) (be : Below X P r.core.lent c2.dest c1.dest c2.frame c1.frame cs2 ds m2 m1) (l1 : c1.frame < s1.top.frame) (l2 : c2.frame < s2.top.frame) where
    abbrev j : Renaming
    j = r.core.lent

    abbrev G : TypeMap
    G = r.typed1.types

    ks : KnowsAll X r.typed1.types (c1 ∷ ds)
    ks = knows_waiting X P V Inv n s2 s1 r c1 ds q

    -- a frame that goes on at some place
    back_at : (m2' m1' : Memory) (e2 e1 : Control) (n' : ℕ) → e2.frame ≡ c2.frame → e1.frame ≡ c1.frame → e2.function ≡ c2.function → e1.function ≡ c1.function → e2.dest ≡ c2.dest → e1.dest ≡ c1.dest → Dropped X B At j e1.dropping e2.dropping → Busy X B At e1 → At n' e2.block e2.at e1.block e1.at → Linked j j m2' m1' → Leaves D G j j (suc c2.frame) (suc c1.frame) m2' m1' m2 m1 → Gentle D G c1.frame m1' m1 → Goes X P (go_on (record s2 { callers = cs2 }) m2' e2) (on (record s1 { memory = m1'; top = e1; callers = ds }))
    back_at m2' m1' e2 e1 n' a2 a1 f2 f1 d2 d1 dr b h l' lv ge =
        let be' : Below X P j e2.dest e1.dest e2.frame e1.frame cs2 ds m2 m1 = subst (λ g. Below X P j e2.dest e1.dest g e1.frame cs2 ds m2 m1) (sym a2) (subst (λ g. Below X P j e2.dest e1.dest c2.frame g cs2 ds m2 m1) (sym a1) (subst (λ d. Below X P j d e1.dest c2.frame c1.frame cs2 ds m2 m1) (sym d2) (subst (λ d. Below X P j c2.dest d c2.frame c1.frame cs2 ds m2 m1) (sym d1) be))) in
        let ag' : AgreesBy X j c1 m2' m1' = agrees_by X G j j (suc c2.frame) (suc c1.frame) m2' m1' m2 m1 c1 (omega arith) ks.0 lv ag in (
          n',
          _,
          refl,
          back_core X P V Inv (kept_law X B At) n s2 s1 r m2 m1 m2' m1' e2 e1 ds cs2 ks.1 be' (omega (arith, a1, l1)) (omega (arith, a2, l2)) l'
              (leaves_less D G j j (suc c2.frame) (suc c1.frame) e2.frame e1.frame m2' m1' m2 m1 (omega (arith, a2)) (omega (arith, a1)) lv) (gentle_less D G c1.frame e1.frame m1' m1 (omega (arith, a1)) ge)
              n' (refl, moved X B At i n' j c2 c1 e2 e1 a2 a1 f2 f1 dr b h st, agrees_at X j c1 e1 m2' m1' f1 a1 ag'),
        )

    back : (d2 d1 : Option Dest) → DestsRel j d1 d2 → ((d : Dest) → d1 ≡ Some d → (t : Tree) × AddrTy D G d.addr t) → Same j v w → GentleTo X G c1.frame m1 x → return_to D s1 m1 d1 (c1 ∷ ds) v ≡ Some x → Goes X P (return_to D s2 m2 d2 (c2 ∷ cs2) w) x
    unfolding return_to
    back None None dr dt hv ge e = at_drop c1.dropping c2.dropping refl refl st.drops
      where
        at_drop : (o1 o2 : Option Dropping) → c1.dropping ≡ o1 → c2.dropping ≡ o2 → Dropped X B At j o1 o2 → Goes X P (destroyed D (record s2 { memory = m2; callers = cs2 }) c2) x
        at_drop (Some d') (Some e') p1 p2 dr =
            let owns = subst (Owns X.source) q r.drops.callers in
            let tys = subst (MaybeDrop X.source V.valid1 G) p1 (subst (FramesTy X.source V.valid1 G) q r.typed1.callers).0.dropping in
            visits.destroyed_goes X P V Inv G j (record s2 { memory = m2; callers = cs2 }) (record s1 { memory = m1; callers = ds }) c2 c1 l ag ks.0 (λ u1 u2. To At u2 u1)
            (λ d e vs tg. back_at m2 m1 (record c2 { dropping = Some e }) (record c1 { dropping = Some d }) i refl refl refl refl refl refl (vs, tg) (λ d0 z k ek. st.busy d' p1 k ek) st.here l (leaves_none D G j (suc c2.frame) (suc c1.frame) m2 m1) (gentle_none D G c1.frame m1))
            (λ u1 u2 tg a b t old ab ty eo pl. (let (i', h) = tg in let (l', lv) = blank_left D G j m2 m1 (suc c2.frame) (suc c1.frame) a b t old l ab ty eo in back_at (write m2 b (blank D t)) (write m1 a (blank D t)) (to_block u2 c2) (to_block u1 c1) i' refl refl refl refl refl refl tt (calm X B At (to_block u1 c1) refl) h l' lv (gentle_above D G c1.frame m1 a (blank D t) (omega (arith, pl)))))
            d' e' x p1 p2 dr.0 dr.1 (owns.0 d' p1) (owns.1 d' p1) tys.0 tys.1 e
        at_drop None o2 p1 p2 dr = absurd (no_destroyed D (record s1 { memory = m1; callers = ds }) c1 x p1 e)
        at_drop (Some d) None p1 p2 dr = absurd dr
    back (Some d2) (Some d1) dr dt hv ge e =
        let (t, at) = dt d1 refl in
        let (m1', e1, k1) = bind_some e in
        let (m2', g1, l', lv) = near.store_leaves D G j (suc c2.frame) (suc c1.frame) m2 m1 m2 m1 m1' d1 d2 t v w l (leaves_none D G j (suc c2.frame) (suc c1.frame) m2 m1) dr at hv e1 in
        subst (λ o. Goes X P o x) (sym (some_bind _ g1 refl)) (subst (λ z. Goes X P (go_on (record s2 { callers = cs2 }) m2' c2) z) (some_val k1) (back_at m2' m1' c2 c1 i refl refl refl refl refl refl st.drops st.busy st.here l' lv (gentle_on X G c1.frame m1 (record s1 { memory = m1'; top = c1; callers = ds }) x ge k1 (omega arith))))
    back None (Some d1) dr dt hv ge e = absurd dr
    back (Some d2) None dr dt hv ge e = absurd dr

  resumed : (n : ℕ) (s2 s1 : State) (r : Related X P V Inv n s2 s1) (m2 m1 : Memory) (c2 c1 : Control) (gs ds cs2 : List Control) (v w : Value) (x : Next) → s1.callers ≡ c1 ∷ (gs ++ ds) → Linked r.core.lent r.core.lent m2 m1 → P.waits r.core.lent s2.top.dest s1.top.dest c2 c1 gs m2 m1 → Below X P r.core.lent c2.dest (lowest c1 gs).dest c2.frame (lowest c1 gs).frame cs2 ds m2 m1 → c1.frame < s1.top.frame → c2.frame < s2.top.frame → ((d : Dest) → s1.top.dest ≡ Some d → (t : Tree) × AddrTy D r.typed1.types d.addr t) → Same r.core.lent v w → return_to D s1 m1 s1.top.dest (c1 ∷ (gs ++ ds)) v ≡ Some x → GentleTo X r.typed1.types c1.frame m1 x → Goes X P (return_to D s2 m2 s2.top.dest (c2 ∷ cs2) w) x
  resumed n s2 s1 r m2 m1 c2 c1 [] ds cs2 v w x q l (e, (i, st), dr, ag) be l1 l2 dt hv k ge = back n s2 s1 r m2 m1 c2 c1 ds cs2 v w x q l i st ag be l1 l2 s2.top.dest s1.top.dest dr dt hv ge k
  resumed n s2 s1 r m2 m1 c2 c1 (g ∷ gs) ds cs2 v w x q l (e, st, dr, ag) be l1 l2 dt hv k ge = absurd (grind arith)

  pub frames : Mirrors X B At → FrameLaws X P V Inv
  frames same = record {
    kept = kept_law X B At;
    once = same.once;
    slots = same.slots;
    begins = λ j k2 k1 d2 d1 m2 m1 vs ws hv ar f1 f2 l. (same.starts.0, (refl, begins X B At same j k2 k1 d2 d1 f1 f2, agrees X B At same j k2 k1 d2 d1 f1 f2 m2 m1 vs ws hv (let a = ar.all in omega (arith, a))));
    resumes = λ n s2 s1 r m2 m1 c2 c1 gs ds cs2 v w x q q2 p2 p1 l wt be l1 l2 lo dt hv wh k ge. resumed n s2 s1 r m2 m1 c2 c1 gs ds cs2 v w x q l wt be l1 l2 dt hv k ge;
  }
