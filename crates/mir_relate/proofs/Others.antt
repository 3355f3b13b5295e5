-- A step of a function that is left alone.
use Rattle.std.proofs.Common.{◌≡◌, ◌⊎◌, inl, refl, sym, ap, ap₂, ◌∙◌, subst, ℕ, suc, ◌≤◌, Bool, true, false, nat_eq, List, [], ◌∷◌, length, Option, Some, None, slice_get, arith}
use Rattle.mir_syntax.specs.declared.body.Place.{Place}
use Rattle.mir_syntax.specs.declared.body.Operand.{Operand}
use Rattle.mir_syntax.specs.declared.body.Callee.{Callee}
use Rattle.mir_syntax.specs.declared.body.Callee.TheVariants as callee
use Rattle.mir_syntax.specs.declared.body.Term.{Term}
use Rattle.mir_syntax.specs.declared.body.Term.TheVariants.{Goto, Switch, Return, Unreachable, Drop, Call, Assert}
use Rattle.mir_syntax.specs.Tree.{Tree, scalar}
use Rattle.mir_syntax.specs.Shapes.{Shape}
use Rattle.mir_syntax.specs.Crate.{TypedStmt, TypedBody}
use Rattle.mir_num.specs.Numbers.{wrap, flag}
use Rattle.mir_semantics.specs.Values.{Value, number, nil, blank}
use Rattle.mir_semantics.specs.Memory.{Memory, local_at}
use Rattle.mir_semantics.specs.Step.{Here, Dest, Dropping, Control, Called, State, aborted, no_answer, Next, on, stop, fail, local_addr, read_all, numbers_in, go_on, to_block, take_arm, calling, answered, ask, call, work_off, begun, check, finish, perform, step, next_stmt}
use Rattle.mir_renaming.specs.Renaming.{Renaming, AddrRel}
use Rattle.mir_syntax.proofs.Binds.{bind_some, some_bind}
use Rattle.mir_renaming.proofs.Statements as text
use Rattle.mir_renaming.proofs.Statements.{DestRel, ValuesRel, number_rel}
use Rattle.mir_renaming.proofs.Types.{TypeMap, AddrTy, HasTy, resolve_ty, value_at_ty, blank_fits, dest_ty, StmtTy}
use Rattle.mir_renaming.proofs.Typed.{MaybeDrop, VisitsTy, TermTy}
use Rattle.mir_renaming.proofs.Ghosts.{Flat}
use Rattle.mir_renaming.proofs.Agree.{whole_tight}
use Rattle.mir_renaming.proofs.Among.{all_operand, all_operands}
use Rattle.mir_relate.specs.Pass.{MoveOk, KnowsAll, Valids, AllArgs, ArgsTerm, AllMoves, StmtMoves, TermMoves, FrameLaws, Goes, Related, GentleTo}
use Rattle.mir_renaming.proofs.Items.{OwnDrop, begun_own, DropPlain, step_parts}
use Rattle.mir_relate.specs.Alike.{Between, GotMemory, Sides, AllSame, Reads, AllRead, AllWhole}
use Rattle.mir_relate.specs.Frames.{Change, target, Pass, VisitRel, DropRel, DropsRel, DestsRel, Agrees, Twin, Below}
use Rattle.mir_relate.proofs.Alike.{number_read, all_read, integers_read}
use Rattle.mir_relate.proofs.Kept as kept
use Rattle.mir_relate.specs.Mild.{Gentle}
use Rattle.mir_relate.proofs.Mild.{gentle_none, gentle_on}
use Rattle.mir_relate.proofs.Near as near
use Rattle.mir_relate.proofs.Itself as itself
use Rattle.mir_relate.proofs.Visits as visits
use Rattle.mir_relate.proofs.Leaves.{some_val}
use Rattle.mir_relate.proofs.Wholes.{all_whole}
use Rattle.mir_relate.proofs.Stacks.{knows_all}
use Rattle.mir_relate.proofs.Enter.{goes_at, goes_by, enter_goes, enter_gentle}
use Rattle.mir_relate.proofs.Returns.{closed2, closed1, return_goes}
use Rattle.mir_relate.proofs.Drops as drops
use Rattle.mir_relate.proofs.Drops.{left_same, left_store, agrees_left, below_left, twin_at, core_on, goes_on, agrees_all, dropping_goes, dropped_goes}
pub use Rattle.mir_relate.proofs.Wholes.{read_at_whole}
pub use Rattle.mir_relate.proofs.Wholes.{read_at_whole}

pub read_long : (h : Here) (os : List Operand) (m : Memory) (r : List Value × Memory) → read_all h m os ≡ Some r → length r.0 ≡ length os
unfolding read_all
read_long h [] m r e = ap (λ (r : List Value × Memory). length r.0) (sym (some_val e))
read_long h (o ∷ os) m r e =
    let (x, e1, k1) = bind_some e in
    let (y, e2, k2) = bind_some k1 in
    ap (λ (r : List Value × Memory). length r.0) (sym (some_val k2)) ∙ ap suc (read_long h os x.1 y e2)

pub numbers_same : (j : Renaming) (vs ws : List Value) (ns : List ℕ) → ValuesRel j vs ws → numbers_in vs ≡ Some ns → numbers_in ws ≡ Some ns
numbers_same j [] [] ns h e = e
numbers_same j (v ∷ vs) (w ∷ ws) ns h e =
    let (k, e1, k1) = bind_some e in
    let (ks, e2, k2) = bind_some k1 in
    some_bind _ (number_rel j v w k h.0 e1) (some_bind _ (numbers_same j vs ws ks h.1 e2) k2)
numbers_same j [] (w ∷ ws) ns h e = absurd h
numbers_same j (v ∷ vs) [] ns h e = absurd h

zero_rel : (j : Renaming) (f g : ℕ) → j f 0 ≡ Some (g, 0) → AddrRel j (local_addr f 0) (local_addr g 0)
unfolding local_addr
zero_rel j f g e = record { root = e; path = refl }

module _ (X : Change) (P : Pass) (V : Valids X) (Inv : State → Type 0) (laws : FrameLaws X P V Inv) (n : ℕ) (s2 s1 : State) (r : Related X P V Inv n s2 s1) (al : Twin X r.core.lent s2.top s1.top) (ag : Agrees X s2.top s1.top s2.memory s1.memory) (be : Below X P r.core.lent s2.top.dest s1.top.dest s2.top.frame s1.top.frame s2.callers s1.callers s2.memory s1.memory) where
  abbrev D : List Shape
  D = X.source.shapes

  abbrev j : Renaming
  j = r.core.lent

  abbrev G : TypeMap
  G = r.typed1.types

  pub ks : KnowsAll X G (s1.top ∷ s1.callers)
  ks = (r.typed1.top.locals, knows_all X V G s1.callers r.typed1.callers)

  -- what is left of the frames while this one runs
  abbrev pub Left : Memory → Memory → Type 0
  Left = drops.Left X P V Inv laws G j s2 s1 s2.top s1.top r.core.base r.core.linked al ag be ks

  start : Left s2.memory s1.memory
  start = left_same X P V Inv laws G j s2 s1 s2.top s1.top r.core.base r.core.linked al ag be ks

  to_goes : (m2 m1 : Memory) (u : ℕ) → Left m2 m1 → Gentle D G s1.top.frame m1 s1.memory → Goes X P (go_on s2 m2 (to_block u s2.top)) (on (record s1 { memory = m1; top = to_block u s1.top }))
  to_goes m2 m1 u h ge = goes_on X P V Inv laws G j s2 s1 s2.top s1.top r.core.base r.core.linked al ag be ks m2 m1 u 0 None None h ge tt

  -- this frame waits for another one
  below_this : (m2 m1 : Memory) (c2 c1 : Control) (d2 d1 : Option Dest) → c2.frame ≡ s2.top.frame → c1.frame ≡ s1.top.frame → c2.dest ≡ s2.top.dest → c1.dest ≡ s1.top.dest → Twin X j c2 c1 → Agrees X c2 c1 m2 m1 → DestsRel j d1 d2 → Left m2 m1 → Gentle D G s1.top.frame m1 s1.memory → Below X P j d2 d1 s2.next s1.next (c2 ∷ s2.callers) (c1 ∷ s1.callers) m2 m1
  below_this m2 m1 c2 c1 d2 d1 f2 f1 e2 e1 a g dr h ge =
      inl (
        c1,
        s1.callers,
        refl,
        (let lt = r.core.base.top1 in omega (arith, f1, lt)),
        (let lt = r.core.base.top2 in omega (arith, f2, lt)),
        a,
        g,
        dr,
        subst (λ k2. Below X P j c2.dest c1.dest k2 c1.frame s2.callers s1.callers m2 m1) (sym f2) (subst (λ k1. Below X P j c2.dest c1.dest s2.top.frame k1 s2.callers s1.callers m2 m1) (sym f1)
            (subst (λ d. Below X P j d c1.dest s2.top.frame s1.top.frame s2.callers s1.callers m2 m1) (sym e2) (subst (λ d. Below X P j s2.top.dest d s2.top.frame s1.top.frame s2.callers s1.callers m2 m1) (sym e1)
            (below_left X P V Inv laws G j s2 s1 s2.top s1.top r.core.base r.core.linked al ag be ks m2 m1 h ge)))),
      )

  -- ---- calls of outside functions

  answered_goes : (t2 t1 : List Called) (r2 r1 : List ℕ) (u : ℕ) (o2 o1 : Option Memory) (x : Next) → GentleTo X G s1.top.frame s1.memory x → t2 ≡ t1 → r2 ≡ r1 → ((m : Memory) → o1 ≡ Some m → GotMemory Left m o2) → answered (calling s1 t1 r1) (to_block u s1.top) o1 ≡ Some x → Goes X P (answered (calling s2 t2 r2) (to_block u s2.top) o2) x
  answered_goes t2 t1 r2 r1 u o2 None x ge ts rs hm e = goes_at X P _ x (fail t1) e tt
  answered_goes t2 t1 r2 r1 u o2 (Some m1) x ge ts rs hm e =
      let (m2, g, h) = hm m1 refl in
      let k = core_on X P V Inv laws G j s2 s1 s2.top s1.top r.core.base r.core.linked al ag be ks m2 m1 u 0 None None h (gentle_on X G s1.top.frame s1.memory (record s1 { memory = m1; top = to_block u s1.top; answers = r1; trace = t1 }) x ge e (omega arith)) tt in
      goes_by X P _ _ x (ap (answered (calling s2 t2 r2) (to_block u s2.top)) g) (goes_at X P _ x _ e
      (0, _, refl, record { lent = k.lent; base = record { fresh1 = k.base.fresh1; fresh2 = k.base.fresh2; top1 = k.base.top1; top2 = k.base.top2; answers = rs; trace = ts }; linked = k.linked; runs = k.runs }))

  ask_goes : (m2 m1 : Memory) (u : ℕ) (d2 d1 : Dest) (o : ℕ) (ns : List ℕ) (t at : Tree) (answers : List ℕ) (x : Next) → GentleTo X G s1.top.frame s1.memory x → Left m2 m1 → DestRel j d1 d2 → AddrTy D G d1.addr at → ask D s1 m1 (to_block u s1.top) d1 o ns t answers ≡ Some x → Goes X P (ask D s2 m2 (to_block u s2.top) d2 o ns t answers) x
  unfolding ask
  ask_goes m2 m1 u d2 d1 o ns (scalar t) at [] x ge h hd ty e = goes_at X P _ x (stop no_answer) e refl
  ask_goes m2 m1 u d2 d1 o ns (scalar t) at (a ∷ rest) x ge h hd ty e =
      answered_goes _ _ rest rest u _ _ x ge (ap (λ t'. record { outside = o; args = ns; answer = Some (wrap t a) } ∷ t') r.core.base.trace) refl
      (λ m q. left_store X P V Inv laws G j s2 s1 s2.top s1.top r.core.base r.core.linked al ag be ks m2 m1 m d1 d2 at (number (wrap t a)) (number (wrap t a)) h hd ty (refl, tt) q) e
  ask_goes m2 m1 u d2 d1 o ns t at answers x ge h hd ty e =
      answered_goes _ _ answers answers u _ _ x ge (ap (λ t'. record { outside = o; args = ns; answer = None } ∷ t') r.core.base.trace) refl
      (λ m q. left_store X P V Inv laws G j s2 s1 s2.top s1.top r.core.base r.core.linked al ag be ks m2 m1 m d1 d2 at nil nil h hd ty (tt, tt) q) e

  call_goes : (m2 m1 : Memory) (u : ℕ) (d2 d1 : Dest) (g : Callee) (os : List Operand) (vs ws : List Value) (at : Tree) (x : Next) → GentleTo X G s1.top.frame s1.memory x → AllArgs X.source g os → length vs ≡ length os → Left m2 m1 → DestRel j d1 d2 → AddrTy D G d1.addr at → AllSame j vs ws → AllWhole vs → call X.source s1 m1 (to_block u s1.top) d1 g vs ≡ Some x → Goes X P (call (target X) s2 m2 (to_block u s2.top) d2 g ws) x
  unfolding call
  call_goes m2 m1 u d2 d1 (callee.Local g) os vs ws at x ge few long h hd ty hv wh e =
      enter_goes X P V Inv laws G j s2 s1 m2 m1 r.core.base h.0 (to_block u s2.top) (to_block u s1.top) (Some d2) (Some d1) ks
      (below_this m2 m1 (to_block u s2.top) (to_block u s1.top) (Some d2) (Some d1) refl refl refl refl (twin_at X P V Inv laws G j s2 s1 s2.top s1.top r.core.base r.core.linked al ag be ks u 0 None None tt) (agrees_left X P V Inv laws G j s2 s1 s2.top s1.top r.core.base r.core.linked al ag be ks m2 m1 h) hd h (enter_gentle X G s1.top.frame s1.memory s1 m1 (to_block u s1.top) g.0 vs (Some d1) x r.core.base.top1 e ge))
      vs ws hv wh g.0 x (λ b eb. long ∙ few b eb) e
  call_goes m2 m1 u d2 d1 (callee.Outside o) os vs ws at x ge few long h hd ty hv wh e =
      let (out, e1, k1) = bind_some e in
      let (ns, e2, k2) = bind_some k1 in
      goes_by X P _ _ x (some_bind _ e1 (some_bind _ (numbers_same j vs ws ns hv.0 e2) (ap (λ an. ask D s2 m2 (to_block u s2.top) d2 o.0 ns out.result an) r.core.base.answers))) (ask_goes m2 m1 u d2 d1 o.0 ns out.result at s1.answers x ge h hd ty k2)

  -- ---- drops

  twin_drop : (o2 o1 : Option Dropping) → DropsRel j o1 o2 → Twin X j (record s2.top { dropping = o2 }) (record s1.top { dropping = o1 })
  twin_drop o2 o1 dr = record { other = al.other; function = al.function; block = al.block; at = al.at; roots = al.roots; only = al.only; drops = dr }

  -- one item of a drop of this frame
  work_off_goes : (d e : Dropping) (x : Next) → OwnDrop X.source s1.top d → VisitsTy X.source V.valid1 G d.items → DropRel j d e → AddrTy D G d.place.addr d.place.ty → work_off X.source s1 d d.items ≡ Some x → Goes X P (work_off (target X) s2 e e.items) x
  work_off_goes d e x own tys dr ty q =
      visits.work_off_goes X P V Inv G j s2 s1 s2.top s1.top r.core.linked (agrees_all X P V Inv laws G j s2 s1 s2.top s1.top r.core.base r.core.linked al ag be ks) ks.0 (λ u1 u2. u1 ≡ u2)
      (dropping_goes X P V Inv laws G j s2 s1 s2.top s1.top r.core.base r.core.linked al ag be ks) (dropped_goes X P V Inv laws G j s2 s1 s2.top s1.top r.core.base r.core.linked al ag be ks) laws refl refl r.core.base ks
      (λ d e vs tg. below_this s2.memory s1.memory (record s2.top { dropping = Some e }) (record s1.top { dropping = Some d }) None None refl refl refl refl (twin_drop (Some e) (Some d) (record { place = vs.place; target = tg; items = vs.items })) ag tt start (gentle_none D G s1.top.frame s1.memory))
      d e x own tys (record { place = dr.place; items = dr.items }) dr.target ty q

  module _ (bo : TypedBody) (eb : slice_get X.source.bodies s1.top.function ≡ Some bo) where
    -- ---- statements and operands

    abbrev H1 : Here
    H1 = record { shapes = D; locals = bo.locals; frame = s1.top.frame }

    abbrev H2 : Here
    H2 = record { shapes = D; locals = bo.locals; frame = s2.top.frame }

    abbrev bok : (t : Tree) → HasTy D G t (blank D t)
    bok = V.valid1.blank_ok G

    abbrev lok : (x : ℕ) (t : Tree) → slice_get bo.locals x ≡ Some t → G s1.top.frame x ≡ Some t
    lok = r.typed1.top.locals bo eb

    abbrev low : (f x : ℕ) (t : ℕ × ℕ) → j f x ≡ Some t → j f x ≡ Some t
    low f x t e = e

    nears : (h x g y : ℕ) → j h x ≡ Some (g, y) → (j h x ≡ Some (g, y)) ⊎ ((j h x ≡ None) × (suc s1.top.frame ≤ h) × (suc s2.top.frame ≤ g) × ((h' x' : ℕ) → j h' x' ≡ Some (g, y) → ⊥))
    nears h x g y e = inl e

    onces : (x y h x' : ℕ) (v : Value) → j s1.top.frame x ≡ Some (s2.top.frame, y) → j h x' ≡ Some (s2.top.frame, y) → local_at s1.memory h x' ≡ Some v → (h ≡ s1.top.frame) × (x' ≡ x)
    onces x y h x' v e e' q = let (a, b) = al.only h x' y e' in let (c, d) = al.only s1.top.frame x y e in (a, b ∙ sym d)

    abbrev Q : Between
    Q = near.Q D bo.locals bo.locals s1.top.frame s2.top.frame j j low G bok lok V.needs (suc s2.top.frame) (suc s1.top.frame) s2.memory s1.memory nears onces

    keeps : kept.Kept D bo.locals bo.locals s1.top.frame s2.top.frame j j low G bok lok Q
    keeps = near.near_kept D bo.locals bo.locals s1.top.frame s2.top.frame j j low G bok lok V.needs (suc s2.top.frame) (suc s1.top.frame) s2.memory s1.memory nears onces

    left : (m2 m1 : Memory) → Q m2 m1 → Left m2 m1
    left m2 m1 q = (q.linked, q.leaves)

    place_as : (p : Place) → kept.PlaceAs D bo.locals bo.locals s1.top.frame s2.top.frame j j low G bok lok j p p
    place_as p = itself.place_self D bo.locals bo.locals s1.top.frame s2.top.frame j j low G bok lok (λ x. refl) j p (al.roots p.local)

    reads_all : (os : List Operand) → AllMoves H1 os → AllRead (kept.sides D bo.locals bo.locals s1.top.frame s2.top.frame j j low G bok lok) Q os os
    reads_all os h =
        kept.all_as D bo.locals bo.locals s1.top.frame s2.top.frame j j low G bok lok Q keeps os os (itself.operands_self D bo.locals bo.locals s1.top.frame s2.top.frame j j low G bok lok (λ x. refl) os (all_operands (λ x. j s1.top.frame x ≡ Some (s2.top.frame, x)) al.roots os))
        (itself.moves_self D bo.locals bo.locals s1.top.frame s2.top.frame j j low G bok lok (λ x. refl) Q keeps os h)

    reads_one : (o : Operand) → MoveOk H1 o → Reads (kept.sides D bo.locals bo.locals s1.top.frame s2.top.frame j j low G bok lok) Q o o
    reads_one o h = kept.reads_as D bo.locals bo.locals s1.top.frame s2.top.frame j j low G bok lok Q keeps o o (itself.operand_self D bo.locals bo.locals s1.top.frame s2.top.frame j j low G bok lok (λ x. refl) o (all_operand (λ x. j s1.top.frame x ≡ Some (s2.top.frame, x)) al.roots o)) h

    stmt_as : (st : TypedStmt) → StmtMoves H1 st → StmtTy D G bok bo.locals s1.top.frame lok st → kept.StmtAs D bo.locals bo.locals s1.top.frame s2.top.frame j j low G bok lok Q keeps st st
    stmt_as st h ty = itself.stmt_self D bo.locals bo.locals s1.top.frame s2.top.frame j j low G bok lok (λ x. refl) Q keeps st (itself.all_ok D bo.locals bo.locals s1.top.frame s2.top.frame j j low G bok lok (λ x. refl) al.roots st) h ty

    first : Q s2.memory s1.memory
    first = near.near_start D bo.locals bo.locals s1.top.frame s2.top.frame j j low G bok lok V.needs (suc s2.top.frame) (suc s1.top.frame) s2.memory s1.memory nears onces r.core.linked r.typed1.mem

    -- the body of the target
    body2 : slice_get X.bodies s2.top.function ≡ Some bo
    body2 = ap (slice_get X.bodies) al.function ∙ X.others s1.top.function al.other ∙ eb

    payloads : text.PayloadsOk D bo.locals bo.locals s1.top.frame s2.top.frame j j low s2.memory
    payloads q b t us k u er et ev e =
        let G2 = r.typed2.types in
        let at = resolve_ty D G2 (V.valid2.blank_ok G2) bo.locals s2.top.frame (r.typed2.top.locals bo body2) s2.memory q b t r.typed2.mem et er in
        let (us', vt, h) = value_at_ty D G2 s2.memory b t _ r.typed2.mem at e in
        blank_fits D G2 j us u (subst (λ y. HasTy D G2 y u) (some_val (sym vt ∙ ev)) h)

    -- ---- terminators

    abbrev S : Sides
    S = kept.sides D bo.locals bo.locals s1.top.frame s2.top.frame j j low G bok lok

    to_block_goes : (m2 m1 : Memory) (u : ℕ) (x : Next) → GentleTo X G s1.top.frame s1.memory x → Left m2 m1 → go_on s1 m1 (to_block u s1.top) ≡ Some x → Goes X P (go_on s2 m2 (to_block u s2.top)) x
    to_block_goes m2 m1 u x ge h e = goes_at X P _ x _ e (to_goes m2 m1 u h (gentle_on X G s1.top.frame s1.memory (record s1 { memory = m1; top = to_block u s1.top }) x ge e (omega arith)))

    check_goes : (m2 m1 : Memory) (c : Bool) (words : List ℕ) (os : List Operand) (u : ℕ) (x : Next) → GentleTo X G s1.top.frame s1.memory x → Q m2 m1 → AllMoves H1 os → check H1 s1 m1 c words os u ≡ Some x → Goes X P (check H2 s2 m2 c words os u) x
    unfolding check
    check_goes m2 m1 true words os u x ge h ok e = to_block_goes m2 m1 u x ge (left m2 m1 h) e
    check_goes m2 m1 false words os u x ge h ok e =
        let (q, e1, k1) = bind_some e in
        let (q', g1, same, _) = integers_read S Q os os (reads_all os ok) m2 m1 q h e1 in
        goes_by X P _ _ x (some_bind _ g1 refl) (goes_at X P _ x (stop (aborted words q.0)) k1 (ap (λ vs. Some (stop (aborted words vs))) (sym same)))

    begun_goes : (p : Place) (u : ℕ) (o1 o2 : Option Dropping) (d : Dropping) → s1.top.dropping ≡ o1 → DropsRel j o1 o2 → begun H1 s1 p u o1 ≡ Some d → (e : Dropping) × (begun H2 s2 p u o2 ≡ Some e) × DropRel j d e × AddrTy D G d.place.addr d.place.ty × VisitsTy X.source V.valid1 G d.items
    unfolding begun
    begun_goes p u (Some d') (Some e') d p1 dr q =
        let same : d' ≡ d = some_val q in
        let ty = subst (MaybeDrop X.source V.valid1 G) (p1 ∙ q) r.typed1.top.dropping in
        (e', refl, subst (λ d. DropRel j d e') same dr, ty.0, ty.1)
    begun_goes p u None None d p1 dr q =
        let (a, q1, k1) = bind_some q in
        let (t, q2, k2) = bind_some k1 in
        let (c, g1, ac) = text.resolve_rel D bo.locals bo.locals s1.top.frame s2.top.frame j j low j low low s2.memory s1.memory p p a (place_as p) r.core.linked.mem q1 in
        let at = resolve_ty D G bok bo.locals s1.top.frame lok s1.memory p a t r.typed1.mem q2 q1 in
        let vr : VisitRel j (record { addr = a; ty = t }) (record { addr = c; ty = t }) = record { addr = ac; ty = refl } in
        let e : Dropping = record { place = record { addr = c; ty = t }; target = u; items = record { addr = c; ty = t } ∷ [] } in
        let (rd, rp, ri) = subst (λ (d : Dropping). DropRel j d e × AddrTy D G d.place.addr d.place.ty × VisitsTy X.source V.valid1 G d.items) (some_val k2) (record { place = vr; target = refl; items = (vr, tt) }, at, (at, tt)) in
        (e, some_bind _ g1 (some_bind _ (sym (text.place_ty_rel D bo.locals bo.locals s1.top.frame s2.top.frame j j low j p p (place_as p)) ∙ q2) refl), rd, rp, ri)
    begun_goes p u None (Some e') d p1 dr q = absurd dr
    begun_goes p u (Some d') None d p1 dr q = absurd dr

    finish_goes : (t : Term) (x : Next) → ArgsTerm X.source t → TermMoves H1 t → TermTy X.source H1 t → DropPlain t → finish X.source H1 s1 t ≡ Some x → Flat x → GentleTo X G s1.top.frame s1.memory x → Goes X P (finish (target X) H2 s2 t) x
    unfolding finish closed2 closed1
    finish_goes (Goto u) x fw ok ty hd e fl ge = to_block_goes s2.memory s1.memory u x ge start e
    finish_goes (Switch o arms u) x fw ok ty hd e fl ge =
        let (q, e1, k1) = bind_some e in
        let (q', g1, same, h) = number_read S Q o o (reads_one o ok) s2.memory s1.memory q first e1 in
        goes_by X P _ _ x (some_bind _ g1 (ap (λ i. go_on s2 q'.1 (to_block (take_arm i arms u) s2.top)) (sym same))) (to_block_goes q'.1 q.1 (take_arm q.0 arms u) x ge (left q'.1 q.1 h) k1)
    finish_goes Return x fw ok ty hd e fl ge =
        let (v, e1, k1) = bind_some e in
        let ((w, g1, rel), at) = text.read_at_rel D bo.locals bo.locals s1.top.frame s2.top.frame j j low s2.memory s1.memory (local_addr s1.top.frame 0) (local_addr s2.top.frame 0) v zero r.core.linked.mem e1 in
        goes_by X P _ _ x (some_bind _ g1 refl) (return_goes X P V Inv laws n s2 s1 r (λ h x y v e q. (al.only h x y e).0) (λ h x y lt e. (let same = (al.only h x y e).0 in omega (arith, same, lt))) be bo eb v w x (rel, whole_tight j v w rel (read_at_whole s1.memory (local_addr s1.top.frame 0) v e1)) e1 k1 fl ge)
      where
        zero : AddrRel j (local_addr s1.top.frame 0) (local_addr s2.top.frame 0)
        zero = zero_rel j s1.top.frame s2.top.frame (al.roots 0)
    finish_goes Unreachable x fw ok ty hd e fl ge = absurd (grind arith)
    finish_goes (Drop p u) x fw ok ty hd e fl ge =
        let (d, e1, k1) = bind_some e in
        let (d2, g1, dr, pty, tys) = begun_goes p u s1.top.dropping s2.top.dropping d refl al.drops e1 in
        goes_by X P _ _ x (some_bind _ g1 refl) (work_off_goes d d2 x (begun_own X.source s1 r.drops bo eb p u s1.top.dropping d hd refl e1) tys dr pty k1)
    finish_goes (Call p g os u) x fw ok (t, pt, ct) hd e fl ge =
        let (d, e1, k1) = bind_some e in
        let (q, e2, k2) = bind_some k1 in
        let (d2, g1, dr) = kept.dest_as D bo.locals bo.locals s1.top.frame s2.top.frame j j low G bok lok Q keeps s2.memory s1.memory p p d (place_as p) first e1 in
        let (q', g2, hv, h) = all_read S Q os os (reads_all os ok) s2.memory s1.memory q first e2 in
        let at = dest_ty D G bok bo.locals s1.top.frame lok s1.memory p t d r.typed1.mem pt e1 in
        goes_by X P _ _ x (some_bind _ g1 (some_bind _ g2 refl)) (call_goes q'.1 q.1 u d2 d g os q.0 q'.0 t x ge fw (read_long H1 os s1.memory q e2) (left q'.1 q.1 h) dr at hv (all_whole H1 s1.memory os q e2) k2)
    finish_goes (Assert o c words os u) x fw ok ty hd e fl ge =
        let (q, e1, k1) = bind_some e in
        let (q', g1, same, h) = number_read S Q o o (reads_one o ok.0) s2.memory s1.memory q first e1 in
        goes_by X P _ _ x (some_bind _ g1 (ap (λ i. check H2 s2 q'.1 (nat_eq i (flag c)) words os u) (sym same))) (check_goes q'.1 q.1 (nat_eq q.0 (flag c)) words os u x ge h ok.1 k1)

    -- a statement, or the terminator
    perform_goes : (t : Term) (o : Option TypedStmt) (x : Next) → ArgsTerm X.source t → TermMoves H1 t → TermTy X.source H1 t → DropPlain t → ((st : TypedStmt) → o ≡ Some st → StmtMoves H1 st × StmtTy D G bok bo.locals s1.top.frame lok st) → perform X.source H1 s1 t o ≡ Some x → Flat x → GentleTo X G s1.top.frame s1.memory x → Goes X P (perform (target X) H2 s2 t o) x
    unfolding perform
    perform_goes t None x fw ok ty hd st e fl ge = finish_goes t x fw ok ty hd e fl ge
    perform_goes t (Some st) x fw ok ty hd sk e fl ge =
        let (so, sty) = sk st refl in
        let (m1', e1, k1) = bind_some e in
        let (m2', g1, h) = kept.exec_as D bo.locals bo.locals s1.top.frame s2.top.frame j j low G bok lok Q keeps st st (stmt_as st so sty) s2.memory s1.memory m1' (λ z. payloads) first e1 in
        goes_by X P _ _ x (some_bind _ g1 (ap₂ (λ i a. go_on s2 m2' (record s2.top { block = i; at = suc a })) al.block al.at)) (goes_at X P _ x _ k1 (goes_on X P V Inv laws G j s2 s1 s2.top s1.top r.core.base r.core.linked al ag be ks m2' m1' s1.top.block (suc s1.top.at) s2.top.dropping s1.top.dropping (left m2' m1' h) (gentle_on X G s1.top.frame s1.memory (record s1 { memory = m1'; top = next_stmt s1.top }) x ge k1 (omega arith)) al.drops))

  -- one step
  pub other_step : (x : Next) → step X.source s1 ≡ Some x → Flat x → GentleTo X G s1.top.frame s1.memory x → Goes X P (step (target X) s2) x
  unfolding step
  other_step x e fl ge =
      let (bo, k, eb, ek, q) = step_parts X.source s1 x e in
      let same2 : slice_get X.bodies s2.top.function ≡ Some bo = ap (slice_get X.bodies) al.function ∙ X.others s1.top.function al.other ∙ eb in
      goes_by X P _ _ x
      (some_bind _ same2 (some_bind _ (ap (slice_get bo.blocks) al.block ∙ ek) (ap (λ a. perform (target X) (record { shapes = D; locals = bo.locals; frame = s2.top.frame }) s2 k.term (slice_get k.stmts a)) al.at)))
      (perform_goes bo eb k.term (slice_get k.stmts s1.top.at) x (V.calls s1.top.function bo s1.top.block k eb ek) (V.terms s1.top.frame s1.top.function bo s1.top.block k eb ek) (V.valid1.terms s1.top.frame s1.top.function bo s1.top.block k eb ek) (V.plain s1.top.function bo s1.top.block k eb ek)
      (λ st es. (V.stmts s1.top.frame s1.top.function bo s1.top.block k s1.top.at st eb ek es, V.valid1.stmts G s1.top.frame s1.top.function bo s1.top.block k s1.top.at st eb ek es (r.typed1.top.locals bo eb))) q fl ge)
