-- A step of a body that mirrors another one, and the laws of the pass.
use Rattle.std.proofs.Common.{◌≡◌, ◌⊎◌, inl, inr, refl, sym, ap, ◌∙◌, subst, ℕ, suc, ◌<◌, ◌≤◌, true, false, List, [], ◌∷◌, ◌++◌, Option, Some, None, slice_get, arith}
use Rattle.std.proofs.lemmas.Bool.{both_ways}
use Rattle.mir_syntax.specs.declared.body.Place.{Place}
use Rattle.mir_syntax.specs.declared.body.Operand.{Operand}
use Rattle.mir_syntax.specs.declared.body.Term.{Term}
use Rattle.mir_syntax.specs.declared.body.Term.TheVariants.{Goto, Switch, Return, Unreachable, Drop, Call, Assert}
use Rattle.mir_syntax.specs.Tree.{Tree}
use Rattle.mir_syntax.specs.Shapes.{Shape}
use Rattle.mir_syntax.specs.Crate.{TypedStmt, assign, storage_live, storage_dead, set_discriminant, TypedBlock}
use Rattle.mir_syntax.specs.Parts.{has_deref}
use Rattle.mir_rules.specs.Drops.{is_drop}
use Rattle.mir_semantics.specs.Values.{Addr, Value, blank}
use Rattle.mir_semantics.specs.Memory.{Memory, local_at, write}
use Rattle.mir_semantics.specs.Step.{Here, Dest, Dropping, Control, State, Next, on, to_block, next_stmt, take_arm, begun, finish, exec, perform, step}
use Rattle.mir_renaming.specs.Renaming.{Renaming}
use Rattle.mir_syntax.proofs.Binds.{bind_some, some_bind}
use Rattle.mir_renaming.proofs.Memory.{write_other, write_source, write_back}
use Rattle.mir_renaming.proofs.Statements as text
use Rattle.mir_renaming.proofs.Statements.{DestRel}
use Rattle.mir_renaming.proofs.Types.{TypeMap, AddrTy, HasTy, resolve_ty, dest_ty, StmtTy}
use Rattle.mir_renaming.proofs.Typed.{MaybeDrop, VisitsTy, TermTy}
use Rattle.mir_renaming.proofs.Ghosts.{Flat}
use Rattle.mir_renaming.proofs.Items.{DropPlain, begun_own}
use Rattle.mir_relate.specs.Alike.{Between, Sides, AllRead}
use Rattle.mir_relate.specs.Leaves.{Leaves}
use Rattle.mir_relate.specs.Frames.{Change, target, Pass, lowest, VisitRel, AgreesBy, Visiting, Below, Core}
use Rattle.mir_relate.specs.Mild.{Gentle}
use Rattle.mir_relate.specs.Pass.{Valids, AllMoves, StmtMoves, TermMoves, ArgsTerm, GentleTo, FrameLaws, Laws, Goes, Answers, Related}
use Rattle.mir_relate.specs.Renumbered.{PlaceSame, OperandsSame, StmtSame, Gone}
use Rattle.mir_relate.specs.Simulation.{keep_on}
use Rattle.mir_relate.proofs.BodyLaw.{goes_answer}
use Rattle.mir_relate.proofs.Enter.{goes_by}
use Rattle.mir_relate.proofs.Kept as kept
use Rattle.mir_relate.proofs.Leaves.{some_val, leaves_less, leaves_source}
use Rattle.mir_relate.proofs.Mild.{gentle_none, gentle_above, gentle_on}
use Rattle.mir_relate.proofs.Mirror as mirror
use Rattle.mir_relate.proofs.Mirror.{Positions, To, TermAs, Meets, Mirrors, Dropped, pass}
use Rattle.mir_relate.proofs.Near as near
use Rattle.mir_relate.proofs.Numbered as numbered
use Rattle.mir_relate.proofs.Numbered.{Homes, sub_self}
use Rattle.mir_relate.proofs.Own as own
use Rattle.mir_relate.proofs.Running as running
use Rattle.mir_relate.proofs.Single.{set_blank_is}
use Rattle.mir_relate.proofs.Stacks.{knows_all}
use Rattle.mir_relate.proofs.Visits as visits
use Rattle.mir_relate.proofs.Visits.{agrees_by, blank_left}

-- storage of a local without a home writes its blank
gone_is : (R : ℕ → ℕ → Type 0) (h : Here) (m m' : Memory) (s : TypedStmt) → Gone R s → exec h m s ≡ Some m' → (x : ℕ) × (t : Tree) × ((y : ℕ) → R x y → ⊥) × (write m (record { frame = h.frame; local = x; path = [] }) (blank h.shapes t) ≡ m')
unfolding exec
gone_is R h m m' (storage_live x) g e = let (t, _, q) = set_blank_is h m m' x e in (x, t, g, q)
gone_is R h m m' (storage_dead x) g e = let (t, _, q) = set_blank_is h m m' x e in (x, t, g, q)
gone_is R h m m' (assign p r) g e = absurd g
gone_is R h m m' (set_discriminant p k) g e = absurd g

none_of : (o : Option ℕ) → ((y : ℕ) → o ≡ Some y → ⊥) → o ≡ None
none_of None h = refl
none_of (Some y) h = absurd (h y refl)

module _ {X : Change} {B : ℕ → Option ℕ} {At : Positions} (same : Mirrors X B At) (V : Valids X) (Inv : State → Type 0) where
  abbrev D : List Shape
  D = X.source.shapes

  abbrev P : Pass
  P = pass X B At

  abbrev Standing : ℕ → Renaming → Control → Control → Type 0
  Standing = mirror.Stand X B At

  frames : FrameLaws X P V Inv
  frames = mirror.frames X B At V Inv same

  module _ (n : ℕ) (s2 s1 : State) (r : Related X P V Inv n s2 s1) (st : Standing n r.core.lent s2.top s1.top) (ag : AgreesBy X r.core.lent s1.top s2.memory s1.memory) (be : Below X P r.core.lent s2.top.dest s1.top.dest s2.top.frame s1.top.frame s2.callers s1.callers s2.memory s1.memory) where
    abbrev j : Renaming
    j = r.core.lent

    abbrev G : TypeMap
    G = r.typed1.types

    abbrev f1 : ℕ
    f1 = s1.top.frame

    abbrev f2 : ℕ
    f2 = s2.top.frame

    abbrev ts1 : List Tree
    ts1 = X.body1.locals

    abbrev ts2 : List Tree
    ts2 = X.body2.locals

    eb : slice_get X.source.bodies s1.top.function ≡ Some X.body1
    eb = running.body1_at r st.function1 st.function2

    abbrev bok : (t : Tree) → HasTy D G t (blank D t)
    bok = V.valid1.blank_ok G

    lok : (x : ℕ) (t : Tree) → slice_get X.body1.locals x ≡ Some t → r.typed1.types s1.top.frame x ≡ Some t
    lok = running.locals_ok r st.function1 st.function2

    lo : s1.top.frame ≤ s1.top.frame
    lo = omega arith

    nears : (h x g y : ℕ) → j h x ≡ Some (g, y) → (j h x ≡ Some (g, y)) ⊎ ((j h x ≡ None) × (suc f1 ≤ h) × (suc f2 ≤ g) × ((h' x' : ℕ) → j h' x' ≡ Some (g, y) → ⊥))
    nears h x g y e = inl e

    onces : (x y h x' : ℕ) (v : Value) → j f1 x ≡ Some (f2, y) → j h x' ≡ Some (f2, y) → local_at s1.memory h x' ≡ Some v → (h ≡ f1) × (x' ≡ x)
    onces x y h x' v e e' q = let (a, b) = st.only h x' y e' in let (c, d) = st.only f1 x y e in (a, same.once x' x y b d)

    -- ---- what both read and do

    abbrev Q : Between
    Q = near.Q D ts1 ts2 f1 f2 j j (sub_self j) G bok lok V.needs (suc f2) (suc f1) s2.memory s1.memory nears onces

    keeps : kept.Kept D ts1 ts2 f1 f2 j j (sub_self j) G bok lok Q
    keeps = near.near_kept D ts1 ts2 f1 f2 j j (sub_self j) G bok lok V.needs (suc f2) (suc f1) s2.memory s1.memory nears onces

    first : Q s2.memory s1.memory
    first = near.near_start D ts1 ts2 f1 f2 j j (sub_self j) G bok lok V.needs (suc f2) (suc f1) s2.memory s1.memory nears onces r.core.linked r.typed1.mem

    abbrev S : Sides
    S = kept.sides D ts1 ts2 f1 f2 j j (sub_self j) G bok lok

    abbrev Left : Memory → Memory → Type 0
    Left = own.Left X P V Inv frames n s2 s1 r [] s1.callers refl lo be

    less : (m2 m1 : Memory) → Leaves D G j j (suc f2) (suc f1) m2 m1 s2.memory s1.memory → Leaves D G j j f2 f1 m2 m1 s2.memory s1.memory
    less m2 m1 l = leaves_less D G j j (suc f2) (suc f1) f2 f1 m2 m1 s2.memory s1.memory (omega arith) (omega arith) l

    left : (m2 m1 : Memory) → Q m2 m1 → Left m2 m1
    left m2 m1 q = (q.linked, less m2 m1 q.leaves)

    -- the locals of the frame agree
    agreed : (m2 m1 : Memory) → Leaves D G j j (suc f2) (suc f1) m2 m1 s2.memory s1.memory → AgreesBy X j s1.top m2 m1
    agreed m2 m1 l = agrees_by X G j j (suc f2) (suc f1) m2 m1 s2.memory s1.memory s1.top (omega arith) r.typed1.top.locals l ag

    abbrev H1 : Here
    H1 = record { shapes = D; locals = ts1; frame = f1 }

    -- the frames at another place
    there : (n' : ℕ) (m2 m1 : Memory) (c2 c1 : Control) → c2.frame ≡ s2.top.frame → c1.frame ≡ s1.top.frame → c2.dest ≡ s2.top.dest → c1.dest ≡ s1.top.dest → Left m2 m1 → Gentle D G s1.top.frame m1 s1.memory → P.own n' j c2 c1 [] m2 m1 → Core X P n' (record s2 { memory = m2; top = c2 }) (record s1 { memory = m1; top = c1 })
    there = own.own_core X P V Inv frames n s2 s1 r [] s1.callers refl lo be

    -- the frames at the starts of blocks
    edge : (m2 m1 : Memory) (u2 u1 : ℕ) → To At u2 u1 → AgreesBy X j s1.top m2 m1 → (n' : ℕ) × ((◌≡◌ {A = List Control} [] []) × Standing n' j (to_block u2 s2.top) (to_block u1 s1.top) × AgreesBy X j s1.top m2 m1)
    edge m2 m1 u2 u1 (n', h) agr = (n', (refl, mirror.moved X B At n n' j s2.top s1.top (to_block u2 s2.top) (to_block u1 s1.top) refl refl refl refl tt (mirror.calm X B At (to_block u1 s1.top) refl) h st, agr))

    goal : (d2 d1 : Dest) (u2 u1 : ℕ) (t : Tree) → To At u2 u1 → DestRel j d1 d2 → AddrTy D G d1.addr t → own.Goal X P V Inv frames n s2 s1 r [] s1.callers refl lo be S Q left refl first d2 d1 u2 u1
    goal d2 d1 u2 u1 t e dr at = record {
      waits = λ m2 m1 q. (let (n', (z, h, agr)) = edge m2 m1 u2 u1 e (agreed m2 m1 q.leaves) in (z, (n', h), dr, agr));
      gets = λ m2 m1 m1' v q hv wh k. (let (m2', g, l, lv) = near.store_leaves D G j (suc f2) (suc f1) s2.memory s1.memory m2 m1 m1' d1 d2 t v v q.linked q.leaves dr at hv k in (m2', g, (l, less m2' m1' lv), edge m2' m1' u2 u1 e (agreed m2' m1' lv)));
    }

    reads : (os ps : List Operand) → OperandsSame (Homes B) os ps → AllMoves H1 os → AllRead S Q os ps
    reads os ps h mo = kept.all_as D ts1 ts2 f1 f2 j j (sub_self j) G bok lok Q keeps os ps (numbered.operands_as D ts1 ts2 f1 f2 j G bok lok (Homes B) st.roots same.types os ps h) (numbered.moves_as D ts1 ts2 f1 f2 j G bok lok (Homes B) st.roots same.types Q keeps os mo)

    -- ---- a terminator

    likewise : (t u : Term) → TermAs (Homes B) (To At) t u → is_drop t ≡ false → TermMoves H1 t → TermTy X.source H1 t → own.SameStep X P V Inv frames n s2 s1 r [] s1.callers refl lo be S Q left refl first t u
    likewise (Goto u1) (Goto u2) h nd mo ty = λ m2 m1 q. edge m2 m1 u2 u1 h (agreed m2 m1 q.leaves)
    likewise (Switch o arms1 u1) (Switch p arms2 u2) (ho, hu) nd mo ty = (
      kept.reads_as D ts1 ts2 f1 f2 j j (sub_self j) G bok lok Q keeps o p (numbered.operand_as D ts1 ts2 f1 f2 j G bok lok (Homes B) st.roots same.types o p ho) mo,
      λ i m2 m1 q. edge m2 m1 (take_arm i arms2 u2) (take_arm i arms1 u1) (hu i) (agreed m2 m1 q.leaves),
    )
    likewise Return Return h nd mo ty = (refl, running.result r st.function1 st.function2 j (sub_self j) r.core.linked.mem (st.roots 0 0 same.result))
    likewise Unreachable u h nd mo ty = tt
    likewise (Call p g os u1) (Call p' g' ps u2) (hp, hg, ho, hu) nd mo (t, pt, ct) = (
      hg,
      reads os ps ho mo,
      λ d1 e.
          let (d2, g1, dr) = kept.dest_as D ts1 ts2 f1 f2 j j (sub_self j) G bok lok Q keeps s2.memory s1.memory p p' d1 (numbered.place_as D ts1 ts2 f1 f2 j G bok lok (Homes B) st.roots same.types p p' hp) first e in
          (d2, g1, goal d2 d1 u2 u1 t hu dr (dest_ty D G bok ts1 f1 lok s1.memory p t d1 r.typed1.mem pt e)),
    )
    likewise (Assert o c words os u1) (Assert p c' words' ps u2) (hp, hc, hw, ho, hu) nd mo ty =
        (kept.reads_as D ts1 ts2 f1 f2 j j (sub_self j) G bok lok Q keeps o p (numbered.operand_as D ts1 ts2 f1 f2 j G bok lok (Homes B) st.roots same.types o p hp) mo.0, hc, hw, reads os ps ho mo.1, λ m2 m1 q. edge m2 m1 u2 u1 hu (agreed m2 m1 q.leaves))
    likewise (Drop p u1) u h nd mo ty = absurd (both_ways true nd refl)
    likewise t u h nd mo ty = absurd h

    begins_drop : (p q : Place) (u1 u2 : ℕ) (o1 o2 : Option Dropping) (d : Dropping) → PlaceSame (Homes B) p q → To At u2 u1 → s1.top.dropping ≡ o1 → Dropped X B At j o1 o2 → begun H1 s1 p u1 o1 ≡ Some d → (e : Dropping) × (begun S.target s2 q u2 o2 ≡ Some e) × Visiting j d e × To At e.target d.target × AddrTy D G d.place.addr d.place.ty × VisitsTy X.source V.valid1 G d.items
    unfolding begun
    begins_drop p q u1 u2 (Some d') (Some e') d hp hu p1 dr z =
        let is : d' ≡ d = some_val z in
        let ty = subst (MaybeDrop X.source V.valid1 G) (p1 ∙ z) r.typed1.top.dropping in
        let (vs, tg) = subst (λ d. Visiting j d e' × To At e'.target d.target) is dr in
        (e', refl, vs, tg, ty.0, ty.1)
    begins_drop p q u1 u2 None None d hp hu p1 dr z =
        let (a, q1, k1) = bind_some z in
        let (t, q2, k2) = bind_some k1 in
        let pa = numbered.place_as D ts1 ts2 f1 f2 j G bok lok (Homes B) st.roots same.types p q hp in
        let (c, g1, ac) = text.resolve_rel D ts1 ts2 f1 f2 j j (sub_self j) j (sub_self j) (sub_self j) s2.memory s1.memory p q a pa r.core.linked.mem q1 in
        let at = resolve_ty D G bok ts1 f1 lok s1.memory p a t r.typed1.mem q2 q1 in
        let vr : VisitRel j (record { addr = a; ty = t }) (record { addr = c; ty = t }) = record { addr = ac; ty = refl } in
        let e : Dropping = record { place = record { addr = c; ty = t }; target = u2; items = record { addr = c; ty = t } ∷ [] } in
        let (rd, tg, rp, ri) = subst (λ (d : Dropping). Visiting j d e × To At u2 d.target × AddrTy D G d.place.addr d.place.ty × VisitsTy X.source V.valid1 G d.items) (some_val k2) (record { place = vr; items = (vr, tt) }, hu, at, (at, tt)) in
        (e, some_bind _ g1 (some_bind _ (sym (text.place_ty_rel D ts1 ts2 f1 f2 j j (sub_self j) j p q pa) ∙ q2) refl), rd, tg, rp, ri)
    begins_drop p q u1 u2 None (Some e') d hp hu p1 dr z = absurd dr
    begins_drop p q u1 u2 (Some d') None d hp hu p1 dr z = absurd dr

    -- the source stands at a drop
    abbrev AtDrop : Type 0
    AtDrop = (k : TypedBlock) → slice_get X.body1.blocks s1.top.block ≡ Some k → (is_drop k.term ≡ true) × (slice_get k.stmts s1.top.at ≡ None)

    dropping_at : AtDrop → (d e : Dropping) → Visiting j d e → To At e.target d.target → Standing n j (record s2.top { dropping = Some e }) (record s1.top { dropping = Some d })
    dropping_at hb d e vs tg = mirror.moved X B At n n j s2.top s1.top (record s2.top { dropping = Some e }) (record s1.top { dropping = Some d }) refl refl refl refl (vs, tg) (λ d0 z k ek. hb k ek) st.here st

    drop_goes : AtDrop → (p q : Place) (u1 u2 : ℕ) → PlaceSame (Homes B) p q → To At u2 u1 → has_deref p.proj ≡ false → (x : Next) → finish X.source H1 s1 (Drop p u1) ≡ Some x → Goes X P (finish (target X) S.target s2 (Drop q u2)) x
    unfolding finish
    drop_goes hb p q u1 u2 hp hu hd x z =
        let (d, e1, k1) = bind_some z in
        let (d2, g1, vs0, tg0, pty, tys) = begins_drop p q u1 u2 s1.top.dropping s2.top.dropping d hp hu refl st.drops e1 in
        goes_by X P _ _ x (some_bind _ g1 refl) (visits.work_off_goes X P V Inv G j s2 s1 s2.top s1.top r.core.linked ag r.typed1.top.locals (λ u1 u2. To At u2 u1)
        (λ d e vs tg. (n, _, refl, there n s2.memory s1.memory (record s2.top { dropping = Some e }) (record s1.top { dropping = Some d }) refl refl refl refl (left s2.memory s1.memory first) (gentle_none D G f1 s1.memory) (refl, dropping_at hb d e vs tg, ag)))
        (λ u1 u2 tg a b t old ab ty eo pl. (let (l', lv) = blank_left D G j s2.memory s1.memory (suc f2) (suc f1) a b t old r.core.linked ab ty eo in let (n', o) = edge (write s2.memory b (blank D t)) (write s1.memory a (blank D t)) u2 u1 tg (agreed (write s2.memory b (blank D t)) (write s1.memory a (blank D t)) lv) in (n', _, refl, there n' (write s2.memory b (blank D t)) (write s1.memory a (blank D t)) (to_block u2 s2.top) (to_block u1 s1.top) refl refl refl refl (l', less (write s2.memory b (blank D t)) (write s1.memory a (blank D t)) lv) (gentle_above D G f1 s1.memory a (blank D t) (omega (arith, pl))) o)))
        frames refl refl r.core.base (r.typed1.top.locals, knows_all X V G s1.callers r.typed1.callers)
        (λ d e vs tg. inr (record s1.top { dropping = Some d }, [], s1.callers, refl, r.core.base.top1, r.core.base.top2, omega arith, (refl, (n, dropping_at hb d e vs tg), tt, ag), be))
        d d2 x (begun_own X.source s1 r.drops X.body1 eb p u1 s1.top.dropping d hd refl e1) tys vs0 tg0 pty k1)

    end_goes : (t t2 : Term) → ((k : TypedBlock) → slice_get X.body1.blocks s1.top.block ≡ Some k → (k.term ≡ t) × (slice_get k.stmts s1.top.at ≡ None)) → TermAs (Homes B) (To At) t t2 → TermMoves H1 t → TermTy X.source H1 t → ArgsTerm X.source t → DropPlain t → (x : Next) → finish X.source H1 s1 t ≡ Some x → Flat x → GentleTo X G f1 s1.memory x → Goes X P (finish (target X) S.target s2 t2) x
    end_goes t t2 hk h mo ty few hd x e fl ge = go t t2 hk h mo ty few hd e
      where
        by_likewise : (t t2 : Term) → TermAs (Homes B) (To At) t t2 → is_drop t ≡ false → TermMoves H1 t → TermTy X.source H1 t → ArgsTerm X.source t → finish X.source H1 s1 t ≡ Some x → Goes X P (finish (target X) S.target s2 t2) x
        by_likewise t t2 h nd mo ty few e = own.same_step_goes X P V Inv frames n s2 s1 r [] s1.callers refl lo be S Q left refl first refl refl X.body1 eb (λ h x y v e q. (st.only h x y e).0) (λ h x y lt e. (let z = (st.only h x y e).0 in omega (arith, z, lt))) t t2 x few (likewise t t2 h nd mo ty) e fl ge

        go : (t t2 : Term) → ((k : TypedBlock) → slice_get X.body1.blocks s1.top.block ≡ Some k → (k.term ≡ t) × (slice_get k.stmts s1.top.at ≡ None)) → TermAs (Homes B) (To At) t t2 → TermMoves H1 t → TermTy X.source H1 t → ArgsTerm X.source t → DropPlain t → finish X.source H1 s1 t ≡ Some x → Goes X P (finish (target X) S.target s2 t2) x
        go (Drop p u1) (Drop q u2) hk h mo ty few hd e = drop_goes (λ k ek. (let (t, z) = hk k ek in (ap is_drop t, z))) p q u1 u2 h.0 h.1 hd x e
        go (Goto u1) t2 hk h mo ty few hd e = by_likewise (Goto u1) t2 h refl mo ty few e
        go (Switch o arms u1) t2 hk h mo ty few hd e = by_likewise (Switch o arms u1) t2 h refl mo ty few e
        go Return t2 hk h mo ty few hd e = by_likewise Return t2 h refl mo ty few e
        go Unreachable t2 hk h mo ty few hd e = by_likewise Unreachable t2 h refl mo ty few e
        go (Call p g os u1) t2 hk h mo ty few hd e = by_likewise (Call p g os u1) t2 h refl mo ty few e
        go (Assert o c ws os u1) t2 hk h mo ty few hd e = by_likewise (Assert o c ws os u1) t2 h refl mo ty few e
        go (Drop p u1) t2 hk h mo ty few hd e = absurd h

    -- ---- a statement

    -- behind a statement no drop is on its way
    busy_next : (k1 : TypedBlock) (s : TypedStmt) → slice_get X.body1.blocks s1.top.block ≡ Some k1 → slice_get k1.stmts s1.top.at ≡ Some s → mirror.Busy X B At (next_stmt s1.top)
    busy_next k1 s i1 at1 d z k ek = absurd (let is : k1 ≡ k = some_val (sym i1 ∙ ek) in let q : Some s ≡ None = sym at1 ∙ ap (λ (k : TypedBlock). slice_get k.stmts s1.top.at) is ∙ (st.busy d z k ek).1 in grind arith)

    gone_left : (x : ℕ) (t : Tree) → B x ≡ None → Left s2.memory (write s1.memory (record { frame = f1; local = x; path = [] }) (blank D t))
    gone_left x t out =
        let a : Addr = record { frame = f1; local = x; path = [] } in
        let l = r.core.linked in
        (record { mem = write_source j j s2.memory s1.memory a (blank D t) l.mem (st.none x out); apart = λ f y f' y' q u u' e e' k k'. (let (o, p) = write_back s1.memory a (blank D t) f y u k in let (o', p') = write_back s1.memory a (blank D t) f' y' u' k' in l.apart f y f' y' q o o' e e' p p') }, leaves_source D G j s2.memory s1.memory a (blank D t) f2 f1 lo)

    gone_agree : (x : ℕ) (t : Tree) → B x ≡ None → AgreesBy X j s1.top s2.memory (write s1.memory (record { frame = f1; local = x; path = [] }) (blank D t))
    gone_agree x t out b z g y u v w eb' ex ej e1 e2 = ag b z g y u v w eb' ex ej (sym (write_other s1.memory (record { frame = f1; local = x; path = [] }) (blank D t) f1 z other) ∙ e1) e2
      where
        other : f1 ≡ f1 → z ≡ x → ⊥
        other p q = (let c : ◌≡◌ {A = Option (ℕ × ℕ)} None (Some (g, y)) = sym (st.none x out) ∙ ap (λ z. j f1 z) (sym q) ∙ ej in grind arith)

    -- of the source alone: storage of a local without a home
    gone_step : (k1 : TypedBlock) (n' : ℕ) (s : TypedStmt) (x : Next) → slice_get X.body1.blocks s1.top.block ≡ Some k1 → slice_get k1.stmts s1.top.at ≡ Some s → Gone (Homes B) s → At n' s2.top.block s2.top.at s1.top.block (suc s1.top.at) → n' < n → perform X.source H1 s1 k1.term (Some s) ≡ Some x → GentleTo X G f1 s1.memory x → Answers X P n s2 x
    unfolding perform
    gone_step k1 n' s x i1 at1 gone h lt e ge =
        let (m1', e1, q) = bind_some e in
        let (y, t, nobody, is) = gone_is (Homes B) H1 s1.memory m1' s gone e1 in
        let out = none_of (B y) nobody in
        let (l, agr) = subst (λ m1. Left s2.memory m1 × AgreesBy X j s1.top s2.memory m1) is (gone_left y t out, gone_agree y t out) in
        let st' = mirror.moved X B At n n' j s2.top s1.top s2.top (next_stmt s1.top) refl refl refl refl st.drops (busy_next k1 s i1 at1) h st in
        subst (Answers X P n s2) (some_val q) (0, n', s2, refl, there n' s2.memory m1' s2.top (next_stmt s1.top) refl refl refl refl l (gentle_on X G f1 s1.memory (record s1 { memory = m1'; top = next_stmt s1.top }) x ge q (omega arith)) (refl, st', agr), inr lt)

    -- of both
    stmt_step : (k1 k2 : TypedBlock) (n' : ℕ) (s t : TypedStmt) (x : Next) → slice_get X.body1.blocks s1.top.block ≡ Some k1 → slice_get k1.stmts s1.top.at ≡ Some s → slice_get X.body2.blocks s2.top.block ≡ Some k2 → slice_get k2.stmts s2.top.at ≡ Some t → StmtSame (Homes B) s t → At n' s2.top.block (suc s2.top.at) s1.top.block (suc s1.top.at) → StmtMoves H1 s → StmtTy D G bok ts1 f1 lok s → perform X.source H1 s1 k1.term (Some s) ≡ Some x → GentleTo X G f1 s1.memory x → Answers X P n s2 x
    unfolding perform
    stmt_step k1 k2 n' s t x i1 at1 i2 at2 ss h mo ty e ge =
        let (m1', e1, q) = bind_some e in
        let (m2', g1, q2) = kept.exec_as D ts1 ts2 f1 f2 j j (sub_self j) G bok lok Q keeps s t (numbered.stmt_as D ts1 ts2 f1 f2 j G bok lok (Homes B) st.roots same.types Q keeps s t ss mo ty) s2.memory s1.memory m1' (λ u. running.payloads r st.function1 st.function2 j (sub_self j)) first e1 in
        let st' = mirror.moved X B At n n' j s2.top s1.top (next_stmt s2.top) (next_stmt s1.top) refl refl refl refl st.drops (busy_next k1 s i1 at1) h st in
        subst (Answers X P n s2) (some_val q) (1, n', record s2 { memory = m2'; top = next_stmt s2.top }, ap (keep_on (λ s. Some s)) (running.target_is r st.function1 st.function2 k2 i2 ∙ ap (perform (target X) S.target s2 k2.term) at2 ∙ some_bind _ g1 refl), there n' m2' m1' (next_stmt s2.top) (next_stmt s1.top) refl refl refl refl (left m2' m1' q2) (gentle_on X G f1 s1.memory (record s1 { memory = m1'; top = next_stmt s1.top }) x ge q (omega arith)) (refl, st', agreed m2' m1' q2.leaves), inl (omega arith))

    -- ---- a step

    -- a goto of the source alone
    goto_step : (u n' : ℕ) (x : Next) → At n' s2.top.block s2.top.at u 0 → n' < n → finish X.source H1 s1 (Goto u) ≡ Some x → Dropped X B At j None s2.top.dropping → Answers X P n s2 x
    unfolding finish
    goto_step u n' x h lt e none =
        let st' = mirror.moved X B At n n' j s2.top s1.top s2.top (to_block u s1.top) refl refl refl refl none (mirror.calm X B At (to_block u s1.top) refl) h st in
        subst (Answers X P n s2) (some_val e) (0, n', s2, refl, there n' s2.memory s1.memory s2.top (to_block u s1.top) refl refl refl refl (left s2.memory s1.memory first) (gentle_none D G f1 s1.memory) (refl, st', ag), inr lt)

    finish_is : (t : Term) (x : Next) → perform X.source H1 s1 t None ≡ Some x → finish X.source H1 s1 t ≡ Some x
    unfolding perform
    finish_is t x e = e

    ends : (k2 : TypedBlock) → slice_get k2.stmts s2.top.at ≡ None → perform (target X) S.target s2 k2.term (slice_get k2.stmts s2.top.at) ≡ finish (target X) S.target s2 k2.term
    unfolding perform
    ends k2 at2 = ap (perform (target X) S.target s2 k2.term) at2

    -- what its block tells of the place where the source stands
    module _ (k1 : TypedBlock) (i1 : slice_get X.body1.blocks s1.top.block ≡ Some k1) where
      only_goto : (u : ℕ) → k1.term ≡ Goto u → (o1 : Option Dropping) → s1.top.dropping ≡ o1 → Dropped X B At j o1 s2.top.dropping → Dropped X B At j None s2.top.dropping
      only_goto u t None z h = h
      only_goto u t (Some d) z h = absurd (both_ways (is_drop k1.term) (ap is_drop t) (st.busy d z k1 i1).0)

      at_end : (k : TypedBlock) → slice_get k1.stmts s1.top.at ≡ None → slice_get X.body1.blocks s1.top.block ≡ Some k → (k.term ≡ k1.term) × (slice_get k.stmts s1.top.at ≡ None)
      at_end k at1 ek = let is : k1 ≡ k = some_val (sym i1 ∙ ek) in (ap (λ (k : TypedBlock). k.term) (sym is), ap (λ (k : TypedBlock). slice_get k.stmts s1.top.at) (sym is) ∙ at1)

      goes : (o : Option TypedStmt) (x : Next) → slice_get k1.stmts s1.top.at ≡ o → Meets B At n X.body2 s2.top.block s2.top.at s1.top.block s1.top.at k1.term o → perform X.source H1 s1 k1.term o ≡ Some x → Flat x → GentleTo X G f1 s1.memory x → Answers X P n s2 x
      goes (Some s) x at1 (inl (n', gone, h, lt)) q fl ge = gone_step k1 n' s x i1 at1 gone h lt q ge
      goes (Some s) x at1 (inr (k2, t, n', i2, at2, ss, h)) q fl ge = stmt_step k1 k2 n' s t x i1 at1 i2 at2 ss h (V.stmts f1 s1.top.function X.body1 s1.top.block k1 s1.top.at s eb i1 at1) (V.valid1.stmts G f1 s1.top.function X.body1 s1.top.block k1 s1.top.at s eb i1 at1 lok) q ge
      goes None x at1 (inl (u, n', t, h, lt)) q fl ge = goto_step u n' x h lt (subst (λ t. finish X.source H1 s1 t ≡ Some x) t (finish_is k1.term x q)) (only_goto u t s1.top.dropping refl st.drops)
      goes None x at1 (inr (k2, i2, at2, ts)) q fl ge =
          goes_answer X P n s2 x (subst (λ o. Goes X P o x) (sym (running.target_is r st.function1 st.function2 k2 i2 ∙ ends k2 at2))
          (end_goes k1.term k2.term (λ k ek. at_end k at1 ek) ts (V.terms f1 s1.top.function X.body1 s1.top.block k1 eb i1) (V.valid1.terms f1 s1.top.function X.body1 s1.top.block k1 eb i1) (V.calls s1.top.function X.body1 s1.top.block k1 eb i1) (V.plain s1.top.function X.body1 s1.top.block k1 eb i1) x (finish_is k1.term x q) fl ge))

    step_goes : (x : Next) → step X.source s1 ≡ Some x → Flat x → GentleTo X G f1 s1.memory x → Answers X P n s2 x
    step_goes x e fl ge =
        let (k1, i1, q) = running.stepped r st.function1 st.function2 x e in
        goes k1 i1 (slice_get k1.stmts s1.top.at) x refl (same.meets n s2.top.block s2.top.at s1.top.block s1.top.at st.here k1 i1) q fl ge

  steps : (n : ℕ) (s2 s1 : State) (r : Related X P V Inv n s2 s1) (gs ds : List Control) (x : Next) → s1.callers ≡ gs ++ ds → P.own n r.core.lent s2.top s1.top gs s2.memory s1.memory → Below X P r.core.lent s2.top.dest (lowest s1.top gs).dest s2.top.frame (lowest s1.top gs).frame s2.callers ds s2.memory s1.memory → step X.source s1 ≡ Some x → Flat x → GentleTo X r.typed1.types s1.top.frame s1.memory x → Answers X P n s2 x
  steps n s2 s1 r [] ds x q (e, st, ag) be k fl ge = step_goes n s2 s1 r st ag (subst (λ cs. Below X P r.core.lent s2.top.dest s1.top.dest s2.top.frame s1.top.frame s2.callers cs s2.memory s1.memory) (sym q) be) x k fl ge
  steps n s2 s1 r (g ∷ gs) ds x q (e, st, ag) be k fl ge = absurd (grind arith)

  pub laws : ((s s' : State) → Inv s → step X.source s ≡ Some (on s') → Inv s') → ((s : State) (x : Next) → Inv s → step X.source s ≡ Some x → Flat x) → Laws X P V Inv
  laws inv_kept flat = record { inv_kept = inv_kept; flat = flat; frames = frames; steps = λ n s2 s1 r gs ds x q lo o be k fl ge. steps n s2 s1 r gs ds x q o be k fl ge }
