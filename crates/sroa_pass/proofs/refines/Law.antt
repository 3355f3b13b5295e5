-- What splitting shows of the frames of a body that drops nothing, for statements that do as their splits do.
use Rattle.std.proofs.Common.{◌≡◌, ◌⊎◌, inl, inr, refl, sym, ap, ap₂, ◌∙◌, subst, ℕ, zero, suc, ◌+◌, ◌<◌, ◌≤◌, false, List, [], ◌∷◌, ◌++◌, length, drop, Option, Some, None, slice_get, arith}
use Rattle.std.specs.List.{flat_map}
use Rattle.mir_syntax.specs.declared.body.Operand.{Operand}
use Rattle.mir_syntax.specs.declared.body.Operand.TheVariants as operand
use Rattle.mir_syntax.specs.declared.body.Term.{Term}
use Rattle.mir_syntax.specs.declared.body.Term.TheVariants.{Goto, Switch, Return, Unreachable, Drop, Call, Assert}
use Rattle.mir_syntax.specs.Tree.{Tree}
use Rattle.mir_syntax.specs.Shapes.{Shape}
use Rattle.mir_syntax.specs.Crate.{TypedStmt, TypedBlock, TypedBody}
use Rattle.mir_semantics.specs.Values.{Value, blank, part}
use Rattle.mir_semantics.specs.Memory.{Memory, local_at, open_frame}
use Rattle.mir_semantics.specs.Step.{Here, Dest, Control, State, Next, on, local_addr, read_at, go_on, to_block, next_stmt, take_arm, return_to, exec, new_slots, perform, step}
use Rattle.mir_renaming.specs.Renaming.{Renaming, SomeRel, Sub}
use Rattle.mir_syntax.proofs.Binds.{bind_some, some_bind}
use Rattle.mir_renaming.proofs.Frames.{open_same}
use Rattle.mir_renaming.proofs.Ghosts.{value_mono}
use Rattle.mir_renaming.proofs.Statements as text
use Rattle.mir_renaming.proofs.Statements.{Linked, ValuesRel}
use Rattle.mir_renaming.proofs.Types.{TypeMap, AddrTy, HasTy, resolve_ty, value_at_ty, blank_fits, dest_ty, LocalsTy}
use Rattle.mir_renaming.proofs.Typed.{TermTy}
use Rattle.mir_relate.specs.Simulation.{moves, keep_on}
use Rattle.mir_renaming.proofs.Ghosts.{Flat}
use Rattle.mir_renaming.proofs.Frames.{new_control}
use Rattle.mir_renaming.proofs.Agree.{whole_tight}
use Rattle.mir_renaming.proofs.Items.{step_parts}
use Rattle.mir_relate.proofs.Rest.{drop_some, drop_none, get_drop}
use Rattle.trim_locals.proofs.refines.Slots.{slots_of}
use Rattle.trim_locals.proofs.Renumbered.{NonEmpty}
use Rattle.mir_relate.specs.Alike.{Between, Same, AllSame, Sides, AllRead}
use Rattle.mir_rules.specs.Drops.{is_drop}
use Rattle.mir_relate.specs.Leaves.{Leaves}
use Rattle.mir_relate.specs.Frames.{Change, target, Pass, lowest, opened, Below}
use Rattle.mir_relate.specs.Pass.{GentleTo, KnowsAll, Valids, AllMoves, TermMoves, ArgsTerm, KeptLaw, FrameLaws, Laws, Goes, Answers, Related}
use Rattle.mir_relate.proofs.Leaves.{some_val, leaves_none, leaves_then}
use Rattle.mir_relate.proofs.Opens.{opened_at, opened_parts, opened_up}
use Rattle.mir_relate.proofs.Wholes.{read_at_whole}
use Rattle.mir_relate.proofs.BodyLaw.{goes_answer}
use Rattle.mir_relate.proofs.Own as own
use Rattle.mir_relate.proofs.Single.{step_is, back_core, knows_waiting}
use Rattle.mir_relate.proofs.Mild.{gentle_on}
use Rattle.sroa_pass.proofs.Plans.{Has, Plan, PlaceTo, OperandTo, OperandsTo, TermTo}
use Rattle.sroa_pass.proofs.refines.Blanks.{blank_part, blank_slot}
use Rattle.sroa_pass.proofs.refines.Whole.{exec_all}
use Rattle.sroa_pass.proofs.refines.Pieces as pieces
use Rattle.sroa_pass.proofs.refines.Pieces.{Roots}
use Rattle.sroa_pass.proofs.refines.Frames as frame
use Rattle.sroa_pass.proofs.refines.Spots as spots
use Rattle.mir_renaming.proofs.Slots.{same_length}

-- the two bodies: which locals start as arguments, and how blocks correspond
pub record Texts (X : Change) (P : Plan X.source.shapes X.body1.locals X.body2.locals) (st : TypedStmt → List TypedStmt) : Type 0 where
  pub fixed : (x : ℕ) → x ≤ X.body1.args → P.stays x ≡ Some x
  pub some1 : NonEmpty X.body1.locals
  pub some2 : NonEmpty X.body2.locals
  pub behind : (x y : ℕ) → P.split x ≡ Some y → (X.body1.args < x) × (X.body1.args < y)
  pub calm : (i : ℕ) (k1 : TypedBlock) → slice_get X.body1.blocks i ≡ Some k1 → is_drop k1.term ≡ false
  pub blocks : (i : ℕ) (k1 : TypedBlock) → slice_get X.body1.blocks i ≡ Some k1 → (k2 : TypedBlock) × (slice_get X.body2.blocks i ≡ Some k2) × (k2.stmts ≡ flat_map st k1.stmts) × TermTo X.source.shapes X.body1.locals X.body2.locals P k1.term k2.term

-- a statement of the body and its split, at the start of the step
pub record StmtLaw (X : Change) (V : Valids X) (P : Plan X.source.shapes X.body1.locals X.body2.locals) (st : TypedStmt → List TypedStmt) : Type 1 where
  pub does : (f2 f1 : ℕ) (j : Renaming) (R : Roots X.source.shapes X.body1.locals X.body2.locals P f2 f1 j) (G : TypeMap) (bok : (t : Tree) → HasTy X.source.shapes G t (blank X.source.shapes t)) (lok : (x : ℕ) (t : Tree) → slice_get X.body1.locals x ≡ Some t → G f1 x ≡ Some t) (m2 m1 m1' : Memory) (i n : ℕ) (k : TypedBlock) (s : TypedStmt) → slice_get X.body1.blocks i ≡ Some k → slice_get k.stmts n ≡ Some s → spots.PayloadsOk X.source.shapes X.body1.locals X.body2.locals f1 f2 j (pieces.AddrTo X.source.shapes X.body1.locals X.body2.locals P f2 f1 j R) (PlaceTo X.source.shapes X.body1.locals X.body2.locals P) G bok lok (pieces.Pieces X.source.shapes X.body1.locals X.body2.locals P f2 f1 j R G bok lok V.needs m2 m1) (pieces.split_kept X.source.shapes X.body1.locals X.body2.locals P f2 f1 j R G bok lok V.needs m2 m1) m2 → pieces.Pieces X.source.shapes X.body1.locals X.body2.locals P f2 f1 j R G bok lok V.needs m2 m1 m2 m1 → exec (record { shapes = X.source.shapes; locals = X.body1.locals; frame = f1 }) m1 s ≡ Some m1' → (m2' : Memory) × (exec_all (record { shapes = X.source.shapes; locals = X.body2.locals; frame = f2 }) m2 (st s) ≡ Some m2') × pieces.Pieces X.source.shapes X.body1.locals X.body2.locals P f2 f1 j R G bok lok V.needs m2 m1 m2' m1'

flat_split : (st : TypedStmt → List TypedStmt) (s : TypedStmt) (ss : List TypedStmt) → flat_map st (s ∷ ss) ≡ st s ++ flat_map st ss
flat_split st s ss = refl

-- where a list begins after some elements, and goes on
begins_with : {A : Type 0} (xs : List A) (n : ℕ) (y : A) (ys : List A) → drop n xs ≡ y ∷ ys → (slice_get xs n ≡ Some y) × (drop (suc n) xs ≡ ys)
begins_with [] zero y ys e = absurd (grind arith)
begins_with [] (suc n) y ys e = absurd (grind arith)
begins_with (x ∷ xs) zero y ys e = (grind arith, grind arith)
begins_with (x ∷ xs) (suc n) y ys e = begins_with xs n y ys e

module _ (X : Change) (P : Plan X.source.shapes X.body1.locals X.body2.locals) (st : TypedStmt → List TypedStmt) (T : Texts X P st) (V : Valids X) (Inv : State → Type 0) where
  abbrev D : List Shape
  D = X.source.shapes

  abbrev ts1 : List Tree
  ts1 = X.body1.locals

  abbrev ts2 : List Tree
  ts2 = X.body2.locals

  abbrev Stand : ℕ → Renaming → Control → Control → Type 0
  Stand = frame.Stand X P st

  abbrev Owns : Renaming → Control → Control → Between
  Owns = frame.Own X P st

  -- the place to which a call's result comes
  pub record Awaits (j : Renaming) (d2 d1 : Option Dest) (c2 c1 : Control) : Type 0 where
    pub roots : frame.Rooted X P st j c2 c1
    pub to2 : Dest
    pub to1 : Dest
    pub is2 : d2 ≡ Some to2
    pub is1 : d1 ≡ Some to1
    pub addr : frame.AddrTo X P st j c2 c1 roots to1.addr to2.addr
    pub guard : to1.guard ≡ to2.guard

  abbrev pub pass : Pass
  pass = record {
    own = λ n j c2 c1 gs m2 m1. (gs ≡ []) × Stand n j c2 c1 × Owns j c2 c1 m2 m1;
    waits = λ j d2 d1 c2 c1 gs m2 m1. (gs ≡ []) × ((n : ℕ) × Stand n j c2 c1) × Owns j c2 c1 m2 m1 × Awaits j d2 d1 c2 c1;
    place = P.lent;
  }

  left_there : Option TypedBlock → ℕ
  left_there None = 0
  left_there (Some k) = length k.stmts

  begins_at : (c2 c1 : Control) → c2.at ≡ 0 → c1.at ≡ 0 → (n : ℕ) × frame.InBlock X P st n c2 c1
  unfolding left_there
  begins_at c2 c1 a2 a1 = (
    left_there (slice_get X.body1.blocks c1.block),
    λ k1 k2 i1 i2.
        let (k2', i2', ss, _) = T.blocks c1.block k1 i1 in
        let sk : k2' ≡ k2 = some_val (sym i2' ∙ i2) in (
          ap (λ n. drop n k2.stmts) a2 ∙ sym (ap (λ (k : TypedBlock). k.stmts) sk) ∙ ss ∙ ap (λ n. flat_map st (drop n k1.stmts)) (sym a1),
          ap left_there i1 ∙ ap (λ a. length (drop a k1.stmts)) (sym a1),
        ),
  )

  same_lent : (x y : ℕ) → P.lent x ≡ Some y → y ≡ x
  same_lent x y e = P.same x y (P.lends x y e)

  -- a call
  begin_roots : (j : Renaming) (k2 k1 : ℕ) → ((x : ℕ) → j k1 x ≡ None) → ((h x g y : ℕ) → j h x ≡ Some (g, y) → g < k2) → Roots D ts1 ts2 P k2 k1 (opened j k2 k1 P.lent)
  begin_roots j k2 k1 fresh1 fresh2 = record {
    roots = opened_at j k2 k1 P.lent fresh1 fresh2;
    none = λ x e. gone x e (opened j k2 k1 P.lent k1 x) refl;
    only = λ i x y e. only i x y (opened_parts j k2 k1 P.lent fresh1 fresh2 i x k2 y e);
  }
    where
      only : (i x y : ℕ) → ((i ≡ k1) × (◌≡◌ {A = ℕ} k2 k2) × (P.lent x ≡ Some y)) ⊎ ((k1 ≡ i → ⊥) × (j i x ≡ Some (k2, y))) → (i ≡ k1) × (P.lent x ≡ Some y)
      only i x y (inl p) = (p.0, p.2)
      only i x y (inr p) = (let lt = fresh2 i x k2 y p.1 in absurd (omega (arith, lt)))

      none_of : (x g y : ℕ) → P.lent x ≡ None → ((k1 ≡ k1) × (g ≡ k2) × (P.lent x ≡ Some y)) ⊎ ((k1 ≡ k1 → ⊥) × (j k1 x ≡ Some (g, y))) → ⊥
      none_of x g y e (inl p) = (let z : None ≡ Some y = sym e ∙ p.2 in grind arith)
      none_of x g y e (inr p) = p.0 refl

      gone : (x : ℕ) → P.lent x ≡ None → (o : Option (ℕ × ℕ)) → opened j k2 k1 P.lent k1 x ≡ o → opened j k2 k1 P.lent k1 x ≡ None
      gone x e None q = q
      gone x e (Some (g, y)) q = absurd (none_of x g y e (opened_parts j k2 k1 P.lent fresh1 fresh2 k1 x g y q))

  once_stays : (x x' y : ℕ) → P.stays x ≡ Some y → P.stays x' ≡ Some y → x ≡ x'
  once_stays x x' y e e' = sym (P.same x y e) ∙ P.same x' y e'

  slot : (j : Renaming) (vs ws : List Value) → AllSame j vs ws → length vs ≤ X.body1.args → (x y : ℕ) → P.stays x ≡ Some y → (v : Value) → slice_get (new_slots D ts1 vs) x ≡ Some v → SomeRel j v (slice_get (new_slots D ts2 ws) y)
  slot j vs ws hv few x y e v q = slots_of D P.stays once_stays X.body1.args T.fixed ts1 ts2 T.some1 T.some2 P.kept j vs ws hv.0 few x y e v q

  begin_own : (j : Renaming) (k2 k1 : ℕ) (d2 d1 : Option Dest) (m2 m1 : Memory) (vs ws : List Value) → Sub j (opened j k2 k1 P.lent) → AllSame j vs ws → length vs ≤ X.body1.args → Owns (opened j k2 k1 P.lent) (new_control X.f k2 d2) (new_control X.f k1 d1) (open_frame m2 k2 (new_slots D ts2 ws)) (open_frame m1 k1 (new_slots D ts1 vs))
  begin_own j k2 k1 d2 d1 m2 m1 vs ws up hv few = record {
    stays = λ x y s n v e. (let (w, g, r) = slot j vs ws hv few x y s v (sym (open_same m1 k1 (new_slots D ts1 vs) x) ∙ e) in (w, open_same m2 k2 (new_slots D ts2 ws) y ∙ g, value_mono j (opened j k2 k1 P.lent) up v w r));
    fields = record { at = λ x y i s hi v u e1 e2. field x y i s hi v u e1 e2 };
  }
    where
      field : (x y i : ℕ) → P.split x ≡ Some y → Has D ts1 x i → (v u : Value) → local_at (open_frame m1 k1 (new_slots D ts1 vs)) k1 x ≡ Some v → part i v ≡ Some u → SomeRel (opened j k2 k1 P.lent) u (local_at (open_frame m2 k2 (new_slots D ts2 ws)) k2 (y + i))
      field x y i s hi v u e1 e2 =
          let (b1, b2) = T.behind x y s in
          let n = same_length j vs ws hv.0 in
          let is : blank D hi.ty ≡ v = some_val (sym (blank_slot D ts1 vs x hi.ty (omega (arith, few, b1)) hi.is) ∙ sym (open_same m1 k1 (new_slots D ts1 vs) x) ∙ e1) in
          (blank D hi.field, open_same m2 k2 (new_slots D ts2 ws) (y + i) ∙ blank_slot D ts2 ws (y + i) hi.field (omega (arith, few, b2, n)) (P.types x y i s hi), blank_part (opened j k2 k1 P.lent) D i hi.ty hi.fields hi.field u hi.tuple (P.solid x y s hi.ty hi.is) hi.at (ap (part i) is ∙ e2))

  kept_law : KeptLaw X pass
  kept_law G j j' d2 d1 c2 c1 gs n2 n1 m2' m1' m2 m1 ks l1 l2 lo l ge (e, (i, s), o, w) =
      let s' = frame.stand_kept X P st G j j' i c2 c1 n2 n1 m2' m1' m2 m1 l1 l2 l s in
      (e, (i, s'), frame.own_kept X P st G j j' c2 c1 n2 n1 m2' m1' m2 m1 l1 l2 l s.roots o, record { roots = s'.roots; to2 = w.to2; to1 = w.to1; is2 = w.is2; is1 = w.is1; addr = frame.addr_up X P st j j' c2 c1 w.roots s'.roots l.up w.to1.addr w.to2.addr w.addr; guard = w.guard })

  -- another function returns
  back : (n : ℕ) (s2 s1 : State) (r : Related X pass V Inv n s2 s1) (m2 m1 : Memory) (c2 c1 : Control) (ds cs2 : List Control) (v w : Value) (x : Next) → Linked r.core.lent r.core.lent m2 m1 → ((m : ℕ) × Stand m r.core.lent c2 c1) → Owns r.core.lent c2 c1 m2 m1 → (d2 d1 : Option Dest) → Awaits r.core.lent d2 d1 c2 c1 → KnowsAll X r.typed1.types ds → Below X pass r.core.lent c2.dest c1.dest c2.frame c1.frame cs2 ds m2 m1 → c1.frame < s1.top.frame → c2.frame < s2.top.frame → ((d : Dest) → d1 ≡ Some d → (t : Tree) × AddrTy D r.typed1.types d.addr t) → Same r.core.lent v w → return_to D s1 m1 d1 (c1 ∷ ds) v ≡ Some x → GentleTo X r.typed1.types c1.frame m1 x → Goes X pass (return_to D s2 m2 d2 (c2 ∷ cs2) w) x
  unfolding return_to
  back n s2 s1 r m2 m1 c2 c1 ds cs2 v w x l (i, s) o (Some d2) (Some d1) aw ks be l1 l2 dt hv e ge =
      let (t, at) = dt d1 refl in
      let (m1', e1, k1) = bind_some e in
      let j = r.core.lent in
      let a1 : aw.to1 ≡ d1 = some_val (sym aw.is1) in
      let a2 : aw.to2 ≡ d2 = some_val (sym aw.is2) in
      let addr : frame.AddrTo X P st j c2 c1 aw.roots d1.addr d2.addr = subst (λ (d : Dest). frame.AddrTo X P st j c2 c1 aw.roots d.addr d2.addr) a1 (subst (λ (d : Dest). frame.AddrTo X P st j c2 c1 aw.roots aw.to1.addr d.addr) a2 aw.addr) in
      let guard : d1.guard ≡ d2.guard = ap (λ (d : Dest). d.guard) (sym a1) ∙ aw.guard ∙ ap (λ (d : Dest). d.guard) a2 in
      let lk = frame.linked_all X P st j c2 c1 aw.roots m2 m1 l o in
      let (m2', g1, l', p', lv) = frame.comes X P st j c2 c1 aw.roots r.typed1.types m2 m1 m1' d1 d2 t v w lk o.fields addr guard at hv e1 in
      subst (λ o. Goes X pass o x) (sym (some_bind _ g1 refl)) (subst (λ z. Goes X pass (go_on (record s2 { callers = cs2 }) m2' c2) z) (some_val k1) (
        i,
        _,
        refl,
        back_core X pass V Inv kept_law n s2 s1 r m2 m1 m2' m1' c2 c1 ds cs2 ks be l1 l2 (frame.lent_part X P st j c2 c1 aw.roots m2' m1' l') lv (gentle_on X r.typed1.types c1.frame m1 (record s1 { memory = m1'; top = c1; callers = ds }) x ge k1 (omega arith)) i (refl, s, frame.own_part X P st j c2 c1 aw.roots m2' m1' l' p'),
      ))
  back n s2 s1 r m2 m1 c2 c1 ds cs2 v w x l i o None d1 aw ks be l1 l2 dt hv e ge = absurd (let z : ◌≡◌ {A = Option Dest} None (Some aw.to2) = aw.is2 in grind arith)
  back n s2 s1 r m2 m1 c2 c1 ds cs2 v w x l i o (Some d2) None aw ks be l1 l2 dt hv e ge = absurd (let z : ◌≡◌ {A = Option Dest} None (Some aw.to1) = aw.is1 in grind arith)

  resumed : (n : ℕ) (s2 s1 : State) (r : Related X pass V Inv n s2 s1) (m2 m1 : Memory) (c2 c1 : Control) (gs ds cs2 : List Control) (v w : Value) (x : Next) → s1.callers ≡ c1 ∷ (gs ++ ds) → Linked r.core.lent r.core.lent m2 m1 → pass.waits r.core.lent s2.top.dest s1.top.dest c2 c1 gs m2 m1 → Below X pass r.core.lent c2.dest (lowest c1 gs).dest c2.frame (lowest c1 gs).frame cs2 ds m2 m1 → c1.frame < s1.top.frame → c2.frame < s2.top.frame → ((d : Dest) → s1.top.dest ≡ Some d → (t : Tree) × AddrTy D r.typed1.types d.addr t) → Same r.core.lent v w → return_to D s1 m1 s1.top.dest (c1 ∷ (gs ++ ds)) v ≡ Some x → GentleTo X r.typed1.types c1.frame m1 x → Goes X pass (return_to D s2 m2 s2.top.dest (c2 ∷ cs2) w) x
  resumed n s2 s1 r m2 m1 c2 c1 [] ds cs2 v w x q l (e, s, o, aw) be l1 l2 dt hv k ge =
      back n s2 s1 r m2 m1 c2 c1 ds cs2 v w x l s o s2.top.dest s1.top.dest aw (knows_waiting X pass V Inv n s2 s1 r c1 ds q).1 be l1 l2 dt hv k ge
  resumed n s2 s1 r m2 m1 c2 c1 (g ∷ gs) ds cs2 v w x q l (e, s, o, aw) be l1 l2 dt hv k ge = absurd (grind arith)

  pub frames : FrameLaws X pass V Inv
  frames = record {
    kept = kept_law;
    once = λ x x' y e e'. sym (same_lent x y e) ∙ same_lent x' y e';
    slots = λ j vs ws hv few x y e v q. slot j vs ws hv few x y (P.lends x y e) v q;
    begins = λ j k2 k1 d2 d1 m2 m1 vs ws hv ar f1 f2 l. (
        let (n, h) = begins_at (new_control X.f k2 d2) (new_control X.f k1 d1) refl refl in
        (n, (refl, record { function1 = refl; function2 = refl; block = refl; calm = refl; roots = begin_roots j k2 k1 f1 f2; here = h }, begin_own j k2 k1 d2 d1 m2 m1 vs ws (opened_up j k2 k1 P.lent f1 f2) hv (let a = ar.all in omega (arith, a)))));
    resumes = λ n s2 s1 r m2 m1 c2 c1 gs ds cs2 v w x q q2 p2 p1 l wt be l1 l2 lo dt hv wh k ge. resumed n s2 s1 r m2 m1 c2 c1 gs ds cs2 v w x q l wt be l1 l2 dt hv k ge;
  }

  -- ---- a step

  module _ (law : StmtLaw X V P st) (n : ℕ) (s2 s1 : State) (r : Related X pass V Inv n s2 s1) (sd : Stand n r.core.lent s2.top s1.top) (ow : Owns r.core.lent s2.top s1.top s2.memory s1.memory) (be : Below X pass r.core.lent s2.top.dest s1.top.dest s2.top.frame s1.top.frame s2.callers s1.callers s2.memory s1.memory) where
    abbrev j : Renaming
    j = r.core.lent

    abbrev G : TypeMap
    G = r.typed1.types

    abbrev f1 : ℕ
    f1 = s1.top.frame

    abbrev f2 : ℕ
    f2 = s2.top.frame

    abbrev R : Roots D ts1 ts2 P f2 f1 j
    R = sd.roots

    eb : slice_get X.source.bodies s1.top.function ≡ Some X.body1
    eb = ap (slice_get X.source.bodies) sd.function1 ∙ X.at1

    eb2 : slice_get X.bodies s2.top.function ≡ Some X.body2
    eb2 = ap (slice_get X.bodies) sd.function2 ∙ X.at2

    abbrev bok : (t : Tree) → HasTy D G t (blank D t)
    bok = V.valid1.blank_ok G

    lok : LocalsTy G ts1 f1
    lok = r.typed1.top.locals X.body1 eb

    abbrev Q : Between
    Q = pieces.Pieces D ts1 ts2 P f2 f1 j R G bok lok V.needs s2.memory s1.memory

    abbrev keeps : spots.Kept D ts1 ts2 f1 f2 j (pieces.AddrTo D ts1 ts2 P f2 f1 j R) (PlaceTo D ts1 ts2 P) G bok lok Q
    keeps = pieces.split_kept D ts1 ts2 P f2 f1 j R G bok lok V.needs s2.memory s1.memory

    abbrev S : Sides
    S = pieces.S D ts1 ts2 P f2 f1 j R G bok lok V.needs s2.memory s1.memory

    first : Q s2.memory s1.memory
    first = record { near = record { linked = frame.linked_all X P st j s2.top s1.top R s2.memory s1.memory r.core.linked ow; typed = r.typed1.mem; leaves = leaves_none D G j f2 f1 s2.memory s1.memory; back = λ h x v e. (v, e) }; fields = ow.fields }

    abbrev Left : Memory → Memory → Type 0
    Left = own.Left X pass V Inv frames n s2 s1 r [] s1.callers refl (omega arith) be

    left : (m2 m1 : Memory) → Q m2 m1 → Left m2 m1
    left m2 m1 q = (frame.lent_part X P st j s2.top s1.top R m2 m1 q.near.linked, q.near.leaves)

    owns : (m2 m1 : Memory) → Q m2 m1 → Owns j s2.top s1.top m2 m1
    owns m2 m1 q = frame.own_part X P st j s2.top s1.top R m2 m1 q.near.linked q.fields

    abbrev H1 : Here
    H1 = record { shapes = D; locals = ts1; frame = f1 }

    edge : (m2 m1 : Memory) (u2 u1 : ℕ) → u1 ≡ u2 → Owns j s2.top s1.top m2 m1 → (n' : ℕ) × pass.own n' j (to_block u2 s2.top) (to_block u1 s1.top) [] m2 m1
    edge m2 m1 u2 u1 e o =
        let (n', h) = begins_at (to_block u2 s2.top) (to_block u1 s1.top) refl refl in
        (n', (refl, frame.moved X P st n n' j s2.top s1.top (to_block u2 s2.top) (to_block u1 s1.top) refl refl refl refl (sym e) refl h sd, record { stays = o.stays; fields = o.fields }))

    goal : (d2 d1 : Dest) (u2 u1 : ℕ) (t : Tree) → u1 ≡ u2 → frame.AddrTo X P st j s2.top s1.top R d1.addr d2.addr → d1.guard ≡ d2.guard → AddrTy D G d1.addr t → own.Goal X pass V Inv frames n s2 s1 r [] s1.callers refl (omega arith) be S Q left refl first d2 d1 u2 u1
    goal d2 d1 u2 u1 t e ad gd at = record {
      waits = λ m2 m1 q. (let (n', (z, h, o)) = edge m2 m1 u2 u1 e (owns m2 m1 q) in (z, (n', h), o, record { roots = h.roots; to2 = d2; to1 = d1; is2 = refl; is1 = refl; addr = ad; guard = gd }));
      gets = λ m2 m1 m1' v q hv wh k. (
          let (m2', g, l, p, lv) = frame.comes X P st j s2.top s1.top R G m2 m1 m1' d1 d2 t v v q.near.linked q.fields ad gd at hv k in
          (m2', g, (frame.lent_part X P st j s2.top s1.top R m2' m1' l, leaves_more m2 m1 m2' m1' q.near.leaves lv), edge m2' m1' u2 u1 e (frame.own_part X P st j s2.top s1.top R m2' m1' l p)));
    }
      where
        leaves_more : (m2 m1 m2' m1' : Memory) → Leaves D G j j f2 f1 m2 m1 s2.memory s1.memory → Leaves D G j j f2 f1 m2' m1' m2 m1 → Leaves D G j j f2 f1 m2' m1' s2.memory s1.memory
        leaves_more m2 m1 m2' m1' a b = leaves_then D G j j j f2 f1 s2.memory s1.memory m2 m1 m2' m1' a b

    operand_as : (o p : Operand) → OperandTo D ts1 ts2 P o p → spots.OperandAs D ts1 ts2 f1 f2 j (pieces.AddrTo D ts1 ts2 P f2 f1 j R) (PlaceTo D ts1 ts2 P) G bok lok o p
    operand_as (operand.Copy p) (operand.Copy q) h = h
    operand_as (operand.Move p) (operand.Move q) h = h
    operand_as (operand.Const c) (operand.Const d) h = h
    operand_as o p h = absurd h

    operands_as : (os ps : List Operand) → OperandsTo D ts1 ts2 P os ps → spots.AllAs D ts1 ts2 f1 f2 j (pieces.AddrTo D ts1 ts2 P f2 f1 j R) (PlaceTo D ts1 ts2 P) G bok lok os ps
    operands_as [] [] h = tt
    operands_as (o ∷ os) (p ∷ ps) h = (operand_as o p h.0, operands_as os ps h.1)
    operands_as [] (p ∷ ps) h = absurd h
    operands_as (o ∷ os) [] h = absurd h

    moves_as : (os : List Operand) → AllMoves H1 os → spots.MovesOk D ts1 ts2 f1 f2 j (pieces.AddrTo D ts1 ts2 P f2 f1 j R) (PlaceTo D ts1 ts2 P) G bok lok Q keeps os
    moves_as [] h = tt
    moves_as (o ∷ os) h = (h.0, moves_as os h.1)

    reads : (os ps : List Operand) → OperandsTo D ts1 ts2 P os ps → AllMoves H1 os → AllRead S Q os ps
    reads os ps h mo = spots.all_as D ts1 ts2 f1 f2 j (pieces.AddrTo D ts1 ts2 P f2 f1 j R) (PlaceTo D ts1 ts2 P) G bok lok Q keeps os ps (operands_as os ps h) (moves_as os mo)

    result : (v : Value) → read_at s1.memory (local_addr f1 0) ≡ Some v → (w : Value) × (read_at s2.memory (local_addr f2 0) ≡ Some w) × Same j v w
    unfolding local_addr
    result v e =
        let ((w, g, rel), at) = text.read_at_rel D ts1 ts2 f1 f2 j (pieces.K D ts1 ts2 P f2 f1 j R) (pieces.low D ts1 ts2 P f2 f1 j R) s2.memory s1.memory (record { frame = f1; local = 0; path = [] }) (record { frame = f2; local = 0; path = [] }) v (record { root = pieces.at_stays D ts1 ts2 P f2 f1 j R 0 0 (T.fixed 0 (omega arith)); path = refl }) first.near.linked.mem e in
        (w, g, (rel, whole_tight j v w rel (read_at_whole s1.memory (record { frame = f1; local = 0; path = [] }) v e)))

    likewise : (t u : Term) → TermTo D ts1 ts2 P t u → is_drop t ≡ false → TermMoves H1 t → TermTy X.source H1 t → own.SameStep X pass V Inv frames n s2 s1 r [] s1.callers refl (omega arith) be S Q left refl first t u
    likewise (Goto u1) (Goto u2) h calm mo ty = λ m2 m1 q. edge m2 m1 u2 u1 h (owns m2 m1 q)
    likewise (Switch o arms1 u1) (Switch p arms2 u2) (ho, ha, hu) calm mo ty = (
      spots.reads_as D ts1 ts2 f1 f2 j (pieces.AddrTo D ts1 ts2 P f2 f1 j R) (PlaceTo D ts1 ts2 P) G bok lok Q keeps o p (operand_as o p ho) mo,
      λ i m2 m1 q. edge m2 m1 (take_arm i arms2 u2) (take_arm i arms1 u1) (ap₂ (take_arm i) ha hu) (owns m2 m1 q),
    )
    likewise Return Return h calm mo ty = (refl, result)
    likewise Unreachable u h calm mo ty = tt
    likewise (Call p g os u1) (Call p' g' ps u2) (hp, hg, ho, hu) calm mo (t, pt, ct) = (
      hg,
      reads os ps ho mo,
      λ d1 e.
          let (d2, g1, dr) = spots.dest_as D ts1 ts2 f1 f2 j (pieces.AddrTo D ts1 ts2 P f2 f1 j R) (PlaceTo D ts1 ts2 P) G bok lok Q keeps s2.memory s1.memory p p' d1 hp first e in
          (d2, g1, goal d2 d1 u2 u1 t hu dr.addr dr.guard (dest_ty D G bok ts1 f1 lok s1.memory p t d1 r.typed1.mem pt e)),
    )
    likewise (Assert o c words os u1) (Assert p c' words' ps u2) (hp, hc, hw, ho, hu) calm mo ty =
        (spots.reads_as D ts1 ts2 f1 f2 j (pieces.AddrTo D ts1 ts2 P f2 f1 j R) (PlaceTo D ts1 ts2 P) G bok lok Q keeps o p (operand_as o p hp) mo.0, hc, hw, reads os ps ho mo.1, λ m2 m1 q. edge m2 m1 u2 u1 hu (owns m2 m1 q))
    likewise (Drop p u1) (Drop q u2) h calm mo ty = absurd (grind arith)
    likewise t u h calm mo ty = absurd h

    payloads : spots.PayloadsOk D ts1 ts2 f1 f2 j (pieces.AddrTo D ts1 ts2 P f2 f1 j R) (PlaceTo D ts1 ts2 P) G bok lok Q keeps s2.memory
    payloads q b t us k u er et ev e =
        let G2 = r.typed2.types in
        let at = resolve_ty D G2 (V.valid2.blank_ok G2) ts2 f2 (r.typed2.top.locals X.body2 eb2) s2.memory q b t r.typed2.mem et er in
        let (us', vt, h) = value_at_ty D G2 s2.memory b t _ r.typed2.mem at e in
        blank_fits D G2 j us u (subst (λ y. HasTy D G2 y u) (some_val (sym vt ∙ ev)) h)

    module _ (k1 k2 : TypedBlock) (i1 : slice_get X.body1.blocks s1.top.block ≡ Some k1) (i2 : slice_get X.body2.blocks s1.top.block ≡ Some k2) (ss : drop s2.top.at k2.stmts ≡ flat_map st (drop s1.top.at k1.stmts)) (len : n ≡ length (drop s1.top.at k1.stmts)) (ts : TermTo D ts1 ts2 P k1.term k2.term) where
      abbrev at_memory : Memory → ℕ → State
      at_memory m k = record s2 { memory = m; top = record s2.top { at = k } }

      -- the target does some statements
      runs : (us rest : List TypedStmt) (at : ℕ) (m m' : Memory) → drop at k2.stmts ≡ us ++ rest → exec_all S.target m us ≡ Some m' → (k : ℕ) × (moves (target X) (length us) (at_memory m at) ≡ Some (at_memory m' k)) × (drop k k2.stmts ≡ rest)
      unfolding perform
      runs [] rest at m m' e x = (at, ap (λ m. Some (at_memory m at)) (some_val x), e)
      runs (u ∷ us) rest at m m' e x =
          let (m3, x1, x2) = bind_some x in
          let (here, there) = begins_with k2.stmts at u (us ++ rest) e in
          let (k, q, z) = runs us rest (suc at) m3 m' there x2 in
          let one : step (target X) (at_memory m at) ≡ Some (on (at_memory m3 (suc at))) = step_is (target X) (at_memory m at) X.body2 k2 eb2 (ap (slice_get X.body2.blocks) sd.block ∙ i2) ∙ ap (perform (target X) S.target (at_memory m at) k2.term) here ∙ some_bind _ x1 refl in
          (k, ap (keep_on (moves (target X) (length us))) one ∙ q, z)

      in_block : (m : ℕ) (c2 c1 : Control) → c1.block ≡ s1.top.block → drop c2.at k2.stmts ≡ flat_map st (drop c1.at k1.stmts) → m ≡ length (drop c1.at k1.stmts) → frame.InBlock X P st m c2 c1
      in_block m c2 c1 e h l k1' k2' j1 j2 =
          let sk1 : k1 ≡ k1' = some_val (sym i1 ∙ ap (slice_get X.body1.blocks) (sym e) ∙ j1) in
          let sk2 : k2 ≡ k2' = some_val (sym i2 ∙ ap (slice_get X.body2.blocks) (sym e) ∙ j2) in
          (ap (λ (k : TypedBlock). drop c2.at k.stmts) (sym sk2) ∙ h ∙ ap (λ (k : TypedBlock). flat_map st (drop c1.at k.stmts)) sk1, l ∙ ap (λ (k : TypedBlock). length (drop c1.at k.stmts)) sk1)

      stmt_step : (s : TypedStmt) (x : Next) → slice_get k1.stmts s1.top.at ≡ Some s → perform X.source H1 s1 k1.term (Some s) ≡ Some x → GentleTo X G f1 s1.memory x → Answers X pass n s2 x
      unfolding perform
      stmt_step s x at e ge =
          let (m1', e1, q) = bind_some e in
          let tail = drop_some k1.stmts s1.top.at s at in
          let m = length (drop (suc s1.top.at) k1.stmts) in
          let less : m < n = (let z : n ≡ suc m = len ∙ ap length tail in omega arith) in
          let (m2', ran, q2) = law.does f2 f1 j R G bok lok s2.memory s1.memory m1' s1.top.block s1.top.at k1 s i1 at payloads first e1 in
          let (k, mv, rest) = runs (st s) (flat_map st (drop (suc s1.top.at) k1.stmts)) s2.top.at s2.memory m2' (ss ∙ ap (flat_map st) tail) ran in
          let c2' = record s2.top { at = k } in
          let sd' = frame.moved X P st n m j s2.top s1.top c2' (next_stmt s1.top) refl refl refl refl sd.block sd.calm (in_block m c2' (next_stmt s1.top) refl rest refl) sd in
          let o' = owns m2' m1' q2 in
          subst (Answers X pass n s2) (some_val q) (length (st s), m, at_memory m2' k, mv, own.own_core X pass V Inv frames n s2 s1 r [] s1.callers refl (omega arith) be m m2' m1' c2' (next_stmt s1.top) refl refl refl refl (left m2' m1' q2) (gentle_on X G f1 s1.memory (record s1 { memory = m1'; top = next_stmt s1.top }) x ge q (omega arith)) (refl, sd', record { stays = o'.stays; fields = o'.fields }), inr less)

      end_step : (x : Next) → slice_get k1.stmts s1.top.at ≡ None → is_drop k1.term ≡ false → TermMoves H1 k1.term → TermTy X.source H1 k1.term → ArgsTerm X.source k1.term → perform X.source H1 s1 k1.term None ≡ Some x → Flat x → GentleTo X G f1 s1.memory x → Answers X pass n s2 x
      unfolding perform
      end_step x none calm mo ty few e fl ge =
          let nil2 : drop s2.top.at k2.stmts ≡ [] = ss ∙ ap (flat_map st) (drop_none k1.stmts s1.top.at none) in
          let none2 : slice_get k2.stmts s2.top.at ≡ None = get_drop k2.stmts s2.top.at ∙ ap (λ ss. slice_get ss 0) nil2 in
          let target_is = step_is (target X) s2 X.body2 k2 eb2 (ap (slice_get X.body2.blocks) sd.block ∙ i2) in
          goes_answer X pass n s2 x (subst (λ o. Goes X pass o x) (sym (target_is ∙ ap (perform (target X) S.target s2 k2.term) none2))
          (own.same_step_goes X pass V Inv frames n s2 s1 r [] s1.callers refl (omega arith) be S Q left refl first refl refl X.body1 eb (λ h x y v e q. (R.only h x y e).0) (λ h x y lt e. (let z = (R.only h x y e).0 in omega (arith, z, lt))) k1.term k2.term x few (likewise k1.term k2.term ts calm mo ty) e fl ge))

    one_step : (x : Next) → step X.source s1 ≡ Some x → Flat x → GentleTo X G f1 s1.memory x → Answers X pass n s2 x
    one_step x e fl ge =
        let (bo, k1, ebo, ek, q) = step_parts X.source s1 x e in
        let sb : bo ≡ X.body1 = some_val (sym ebo ∙ eb) in
        let i1 : slice_get X.body1.blocks s1.top.block ≡ Some k1 = ap (λ (b : TypedBody). slice_get b.blocks s1.top.block) (sym sb) ∙ ek in
        let (k2, i2, _, ts) = T.blocks s1.top.block k1 i1 in
        let (ss, len) = sd.here k1 k2 i1 i2 in
        go k1 k2 i1 i2 ss len ts (slice_get k1.stmts s1.top.at) refl (subst (λ (b : TypedBody). perform X.source (record { shapes = D; locals = b.locals; frame = f1 }) s1 k1.term (slice_get k1.stmts s1.top.at) ≡ Some x) sb q)
      where
        go : (k1 k2 : TypedBlock) → slice_get X.body1.blocks s1.top.block ≡ Some k1 → slice_get X.body2.blocks s1.top.block ≡ Some k2 → drop s2.top.at k2.stmts ≡ flat_map st (drop s1.top.at k1.stmts) → n ≡ length (drop s1.top.at k1.stmts) → TermTo D ts1 ts2 P k1.term k2.term → (o : Option TypedStmt) → slice_get k1.stmts s1.top.at ≡ o → perform X.source H1 s1 k1.term o ≡ Some x → Answers X pass n s2 x
        go k1 k2 i1 i2 ss len ts None at q = end_step k1 k2 i1 i2 ss len ts x at (T.calm s1.top.block k1 i1) (V.terms f1 s1.top.function X.body1 s1.top.block k1 eb i1) (V.valid1.terms f1 s1.top.function X.body1 s1.top.block k1 eb i1) (V.calls s1.top.function X.body1 s1.top.block k1 eb i1) q fl ge
        go k1 k2 i1 i2 ss len ts (Some s) at q = stmt_step k1 k2 i1 i2 ss len ts s x at q ge

  steps_law : StmtLaw X V P st → (n : ℕ) (s2 s1 : State) (r : Related X pass V Inv n s2 s1) (gs ds : List Control) (x : Next) → s1.callers ≡ gs ++ ds → pass.own n r.core.lent s2.top s1.top gs s2.memory s1.memory → Below X pass r.core.lent s2.top.dest (lowest s1.top gs).dest s2.top.frame (lowest s1.top gs).frame s2.callers ds s2.memory s1.memory → step X.source s1 ≡ Some x → Flat x → GentleTo X r.typed1.types s1.top.frame s1.memory x → Answers X pass n s2 x
  steps_law law n s2 s1 r [] ds x q (e, sd, ow) be k fl ge = one_step law n s2 s1 r sd ow (subst (λ cs. Below X pass r.core.lent s2.top.dest s1.top.dest s2.top.frame s1.top.frame s2.callers cs s2.memory s1.memory) (sym q) be) x k fl ge
  steps_law law n s2 s1 r (g ∷ gs) ds x q (e, sd, ow) be k fl ge = absurd (grind arith)

  pub laws : StmtLaw X V P st → ((s s' : State) → Inv s → step X.source s ≡ Some (on s') → Inv s') → ((s : State) (x : Next) → Inv s → step X.source s ≡ Some x → Flat x) → Laws X pass V Inv
  laws law inv_kept flat = record { inv_kept = inv_kept; flat = flat; frames = frames; steps = λ n s2 s1 r gs ds x q lo o be k fl ge. steps_law law n s2 s1 r gs ds x q o be k fl ge }
