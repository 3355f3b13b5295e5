-- The ends of blocks: a step of a terminator of the body, and one of that which stands for it in the threaded body.
use Rattle.std.proofs.Common.{◌≡◌, inr, refl, sym, ap, ◌∙◌, subst, ℕ, true, false, List, [], ◌∷◌, Some, None, slice_get, arith}
use Rattle.mir_syntax.specs.declared.body.Place.{Place}
use Rattle.mir_syntax.specs.declared.body.Operand.{Operand}
use Rattle.mir_syntax.specs.declared.body.Callee.{Callee}
use Rattle.mir_syntax.specs.declared.body.Arm.{Arm}
use Rattle.mir_syntax.specs.declared.body.Term.{Term}
use Rattle.mir_syntax.specs.declared.body.Term.TheVariants.{Goto, Switch, Return, Unreachable, Drop, Call, Assert}
use Rattle.mir_syntax.specs.Tree.{Tree}
use Rattle.mir_syntax.specs.Shapes.{Shape}
use Rattle.mir_syntax.specs.Crate.{TypedBlock}
use Rattle.mir_semantics.specs.Values.{Value}
use Rattle.mir_semantics.specs.Memory.{Memory, write}
use Rattle.mir_semantics.specs.Step.{Here, Dest, State, Next, dest_of, read, read_number, go_on, to_block, take_arm, finish}
use Rattle.mir_syntax.proofs.Binds.{bind_some}
use Rattle.mir_rules.specs.Drops.{is_drop}
use Rattle.mir_renaming.specs.Renaming.{Renaming}
use Rattle.mir_renaming.proofs.Ghosts.{Flat}
use Rattle.mir_renaming.proofs.Statements.{DestRel}
use Rattle.mir_renaming.proofs.Stores.{store_split}
use Rattle.mir_renaming.proofs.Typed.{TermTy}
use Rattle.mir_renaming.proofs.Types.{TypeMap, AddrTy, dest_ty}
use Rattle.mir_relate.specs.Alike.{Sides, Reads, AllRead}
use Rattle.mir_relate.specs.Frames.{Change, target, Pass}
use Rattle.mir_relate.specs.Pass.{GentleTo, Valids, MoveOk, AllMoves, TermMoves, ArgsTerm, Goes}
use Rattle.mir_relate.proofs.Alone.{read_alone}
use Rattle.mir_relate.proofs.Kept as kept
use Rattle.mir_relate.proofs.Leaves.{some_val}
use Rattle.mir_relate.proofs.Living.{living_lent}
use Rattle.mir_relate.proofs.Near as near
use Rattle.mir_relate.proofs.Own as own
use Rattle.escape_info.specs.Borrowed.{borrowed}
use Rattle.const_flow.specs.declared.cell.Cell.TheVariants.{Num, Many}
use Rattle.const_flow.specs.Facts.{Facts, known, learn, always, moved_all, after_all, after_term, leads}
use Rattle.const_flow.specs.ConstAt.{Reached, text}
use Rattle.const_flow.specs.Order.{BelowFacts}
use Rattle.const_flow.specs.Holding.{NumFits}
use Rattle.const_flow.proofs.sound.Points.{holds_below, take_end, eq_self, switch_leads, can_leads}
use Rattle.const_flow.proofs.sound.Related as related
use Rattle.const_flow.proofs.sound.Stands as stands
use Rattle.jump_threading.specs.Threaded.{taken}
use Rattle.jump_threading.proofs.Blocks.{Redirected}
use Rattle.jump_threading.proofs.Threads.{taken_is}
use Rattle.mir_relate.proofs.EachLocal as frames
use Rattle.mir_relate.proofs.EachLocal.{Runs, Waits, all, holds_linked}
use Rattle.mir_relate.proofs.Moment as moment
use Rattle.mir_relate.proofs.Moment.{Moment}
use Rattle.jump_threading.proofs.refines.Where.{Threads, At, Paused, Known, words, starts}

module _ {X : Change} {xs : List Reached} {V : Valids X} {Inv : State → Type 0} (now : Moment X (words X xs) V Inv) (threads : Threads X xs) (k : TypedBlock) (ek : slice_get X.body1.blocks now.s1.top.block ≡ Some k) (none : slice_get k.stmts now.s1.top.at ≡ None) where
  open now use {lasts, n, s2, s1, r, runs}

  abbrev D : List Shape
  D = X.source.shapes

  abbrev P : Pass
  P = frames.pass X (words X xs)

  abbrev j : Renaming
  j = now.r.core.lent

  abbrev G : TypeMap
  G = now.r.typed1.types

  abbrev f1 : ℕ
  f1 = now.s1.top.frame

  abbrev f2 : ℕ
  f2 = now.s2.top.frame

  abbrev ts : List Tree
  ts = X.body1.locals

  abbrev K : Renaming
  K = moment.K now

  abbrev S : Sides
  S = moment.S now

  abbrev T : Here
  T = text X.source.shapes X.body1

  abbrev Holds : Memory → Facts → Type 0
  Holds = Known X xs now.s1.top.frame

  -- what is known at the end
  abbrev pub last : Facts
  last = after_all T k.stmts now.runs.says.point.facts

  -- related memories in which that holds
  record Q (m2 m1 : Memory) : Type 0 where
    pub near : moment.Q now m2 m1
    pub known : Holds m1 last

  ended : Q s2.memory s1.memory
  ended = record { near = moment.start now; known = subst (λ ss. Holds s1.memory (after_all T ss runs.says.point.facts)) (take_end k.stmts s1.top.at none) (runs.says.point.known k ek) }

  left : (m2 m1 : Memory) → Q m2 m1 → moment.Left now m2 m1
  left m2 m1 q = moment.left now m2 m1 q.near

  -- ---- what is read

  module _ (fs : Facts) where
    read_holds : (m2 m1 : Memory) (o : Operand) (v : Value × Memory) → moment.Q now m2 m1 → Holds m1 fs → read S.source m1 o ≡ Some v → Holds v.1 fs
    read_holds m2 m1 o v q h e = related.read_holds D X.body1 f1 f2 j K (moment.low now) (moment.itself now) (moment.unlent_at now) (moment.lent_at now) m2 m1 q.linked.mem fs h o v e

    number_is : (o : Operand) (a : ℕ × Memory) → Holds s1.memory fs → read_number S.source s1.memory o ≡ Some a → NumFits (known fs o) a.0
    number_is o a h e = related.number_fits D X.body1 f1 f2 j K (moment.low now) (moment.itself now) (moment.unlent_at now) (moment.lent_at now) s2.memory s1.memory (moment.start now).linked.mem fs h o a e

  reads : (o : Operand) → MoveOk S.source o → Reads S Q o o
  reads o mo =
      let R = kept.reads_as D ts ts f1 f2 j K (moment.low now) G (moment.bok now) (moment.lok now) (moment.Q now) (moment.keeps now) o o (moment.operand_self now o) mo in
      record { reads = λ m2 m1 v q e. (let (x, g, h, l) = R.reads m2 m1 v q.near e in (x, g, h, record { near = l; known = read_holds last m2 m1 o v q.near q.known e })); scalars = R.scalars }

  all_read : (os : List Operand) → AllMoves S.source os → AllRead S Q os os
  all_read [] mo = tt
  all_read (o ∷ os) mo = (reads o mo.0, all_read os mo.1)

  number_left : (o : Operand) (a : ℕ × Memory) → MoveOk S.source o → read_number S.source s1.memory o ≡ Some a → Q s2.memory a.1
  unfolding read_number
  number_left o a mo e =
      let (v, e1, k1) = bind_some e in
      let (i, e2, k2) = bind_some k1 in
      let q : Q s2.memory v.1 = record { near = read_alone S (moment.Q now) o (moment.spends now o mo) s2.memory s1.memory v (moment.start now) e1; known = read_holds last s2.memory s1.memory o v (moment.start now) ended.known e1 } in
      subst (λ (a : ℕ × Memory). Q s2.memory a.1) (some_val k2) q

  -- ---- both do the same, but for where they go

  abbrev To : Memory → Memory → ℕ → ℕ → Type 0
  To = own.To X P V Inv (frames.frames X (words X xs) now.lasts V Inv) now.n now.s2 now.s1 now.r [] now.s1.callers refl (omega arith) now.below S Q left refl ended

  abbrev SameStepIf : Term → Term → Type 0
  SameStepIf = own.SameStepIf X P V Inv (frames.frames X (words X xs) now.lasts V Inv) now.n now.s2 now.s1 now.r [] now.s1.callers refl (omega arith) now.below S Q left refl ended

  abbrev Spent : List Operand → Memory → Type 0
  Spent = own.Spent X P V Inv (frames.frames X (words X xs) now.lasts V Inv) now.n now.s2 now.s1 now.r [] now.s1.callers refl (omega arith) now.below S Q left refl ended

  abbrev GoalIf : (Memory → Type 0) → Dest → Dest → ℕ → ℕ → Type 0
  GoalIf = own.GoalIf X P V Inv (frames.frames X (words X xs) now.lasts V Inv) now.n now.s2 now.s1 now.r [] now.s1.callers refl (omega arith) now.below S Q left refl ended

  same_goes : (t u : Term) (x : Next) → ArgsTerm X.source t → SameStepIf t u → finish X.source S.source s1 t ≡ Some x → Flat x → GentleTo X G f1 s1.memory x → Goes X P (finish (target X) S.target s2 u) x
  same_goes t u x few h e fl ge = own.step_if_goes X P V Inv (frames.frames X (words X xs) lasts V Inv) n s2 s1 r [] s1.callers refl (omega arith) now.below S Q left refl ended refl refl X.body1 (moment.eb now) (λ h x y v e q. ((moment.pl now).only h x y e).0) (λ h x y lt e. (let z = ((moment.pl now).only h x y e).0 in omega (arith, z, lt))) t u x few h e fl ge

  -- ---- edges

  both_stand : (u2 u1 : ℕ) → frames.Standing X (words X xs) j (to_block u2 s2.top) (to_block u1 s1.top)
  both_stand u2 u1 = moment.moved now (to_block u2 s2.top) (to_block u1 s1.top) refl refl refl refl refl

  -- the facts after an edge along which they go
  facts_on : (u : ℕ) → leads last k.term u ≡ true → after_term k.term last ≡ last → (m1 : Memory) → Holds m1 last → (gs : Facts) × (slice_get xs u ≡ Some (Some gs)) × Holds m1 gs
  facts_on u l same m1 h =
      let (gs, e, below) = threads.sound.next s1.top.block u k runs.says.point.facts ek runs.says.point.reached l in
      (gs, e, holds_below D ts f1 (λ x. borrowed D X.body1 x ≡ false) m1 last gs (subst (λ fs. BelowFacts fs gs) same below) h)

  edge : (u : ℕ) → leads last k.term u ≡ true → after_term k.term last ≡ last → (m2 m1 : Memory) → Q m2 m1 → To m2 m1 u u
  edge u l same m2 m1 q =
      let (gs, e, h) = facts_on u l same m1 q.known in
      (0, (refl, record { stand = both_stand u u; locals = holds_linked j f2 f1 (moment.pl now) m2 m1 q.near.linked; says = starts X xs (to_block u s2.top) (to_block u s1.top) m1 gs refl refl refl e h }))

  -- one that goes through a copy
  pub redirects : (edge : Redirected D xs X.body1 X.body2 s1.top.block k) (x : Next) → finish X.source S.source s1 (Goto edge.next) ≡ Some x → Flat x → GentleTo X G f1 s1.memory x → Goes X P (finish (target X) S.target s2 (Goto edge.copy)) x
  unfolding leads after_term
  redirects edge x e fl ge = same_goes (Goto edge.next) (Goto edge.copy) x tt there e fl ge
    where
      facts_are : edge.facts ≡ runs.says.point.facts
      facts_are = some_val (some_val (sym edge.reached ∙ runs.says.point.reached))

      there : (m2 m1 : Memory) → Q m2 m1 → To m2 m1 edge.copy edge.next
      there m2 m1 q =
          let l : leads last k.term edge.next ≡ true = ap (λ t. leads last t edge.next) edge.goes ∙ eq_self edge.next in
          let still : after_term k.term last ≡ last = ap (λ t. after_term t last) edge.goes in
          let (gs, e, h) = facts_on edge.next l still m1 q.known in
          let c1 = to_block edge.next s1.top in
          let is_taken : taken (after_all T edge.through.stmts last) edge.through.term ≡ Some edge.to = subst (λ fs. taken (after_all T edge.through.stmts (after_all T k.stmts fs)) edge.through.term ≡ Some edge.to) facts_are edge.is_taken in
          let says : At X xs (to_block edge.copy s2.top) c1 m1 = record {
            at = refl;
            point = stands.starts D X.body1 xs c1 m1 gs refl e h;
            place = inr (record { through = edge.through; is_through = edge.is_next; to = edge.to; is_copy = edge.copied; facts = last; is_taken = is_taken; known = stands.known_first D X.body1 xs c1 m1 last refl q.known edge.through });
          } in
          (0, (refl, record { stand = both_stand edge.copy edge.next; locals = holds_linked j f2 f1 (moment.pl now) m2 m1 q.near.linked; says = says }))

  -- ---- a switch

  arm_edge : (p : Operand) (arms : List Arm) (u : ℕ) → k.term ≡ Switch p arms u → (i : ℕ) → NumFits (known last p) i → leads last k.term (take_arm i arms u) ≡ true
  unfolding leads
  arm_edge p arms u is i fits = ap (λ t. leads last t (take_arm i arms u)) is ∙ switch_leads (known last p) i arms u fits

  switch_still : (p : Operand) (arms : List Arm) (u : ℕ) → k.term ≡ Switch p arms u → after_term k.term last ≡ last
  unfolding after_term
  switch_still p arms u is = ap (λ t. after_term t last) is

  -- at the end of a copy the target goes on at once, to where the source's switch goes
  pub copy_goes : (fs : Facts) (to : ℕ) (x : Next) → taken fs k.term ≡ Some to → Holds s1.memory fs → TermMoves S.source k.term → finish X.source S.source s1 k.term ≡ Some x → GentleTo X G f1 s1.memory x → Goes X P (finish (target X) S.target s2 (Goto to)) x
  unfolding finish
  copy_goes fs to x tk h mo e ge =
      let t = taken_is fs k.term to tk in
      go t.operand t.arms t.other t.number t.is_switch t.is_known t.target (subst (TermMoves S.source) t.is_switch mo) (subst (λ t. finish X.source S.source s1 t ≡ Some x) t.is_switch e)
    where
      go : (p : Operand) (arms : List Arm) (u c : ℕ) → k.term ≡ Switch p arms u → known fs p ≡ Num c → take_arm c arms u ≡ to → MoveOk S.source p → finish X.source S.source s1 (Switch p arms u) ≡ Some x → Goes X P (go_on s2 s2.memory (to_block to s2.top)) x
      go p arms u c is eq at mo e =
          let (a, e1, k1) = bind_some e in
          let same : c ≡ a.0 = subst (λ c. NumFits c a.0) eq (number_is fs p a h e1) in
          let there : take_arm a.0 arms u ≡ to = ap (λ i. take_arm i arms u) (sym same) ∙ at in
          let l = arm_edge p arms u is a.0 (number_is last p a ended.known e1) in
          own.to_goes X P V Inv (frames.frames X (words X xs) lasts V Inv) n s2 s1 r [] s1.callers refl (omega arith) now.below S Q left refl ended s2.memory a.1 to (take_arm a.0 arms u) x ge (number_left p a mo e1) (λ m2 m1 q. subst (λ z. To m2 m1 z (take_arm a.0 arms u)) there (edge (take_arm a.0 arms u) l (switch_still p arms u is) m2 m1 q)) k1

  -- ---- a call

  -- the facts after it, whatever has come to its destination
  after_call : (p : Place) (g : Callee) (os : List Operand) (u : ℕ) → k.term ≡ Call p g os u → (d : Dest) (m1 : Memory) → dest_of S.source s1.memory p ≡ Some d → Spent os m1 → (gs : Facts) × (slice_get xs u ≡ Some (Some gs)) × ((v : Value) → Holds (write m1 d.addr v) gs)
  unfolding leads after_term
  after_call p g os u is d m1 ed (vs, er) =
      let (gs, e, below) = threads.sound.next s1.top.block u k runs.says.point.facts ek runs.says.point.reached (ap (λ t. leads last t u) is ∙ eq_self u) in
      let below' : BelowFacts (learn p (always Many) (moved_all os last)) gs = subst (λ t. BelowFacts (after_term t last) gs) is below in
      (gs, e, λ v. holds_below D ts f1 (λ x. borrowed D X.body1 x ≡ false) (write m1 d.addr v) (learn p (always Many) (moved_all os last)) gs below' (related.call_holds D X.body1 f1 f2 j K (moment.low now) (moment.itself now) (moment.unlent_at now) (moment.lent_at now) s2.memory s1.memory ended.near.linked.mem last ended.known p os d vs m1 ed er v))

  goal : (p : Place) (g : Callee) (os : List Operand) (u : ℕ) → k.term ≡ Call p g os u → (d2 d1 : Dest) (t : Tree) → dest_of S.source s1.memory p ≡ Some d1 → DestRel K d1 d2 → AddrTy D G d1.addr t → GoalIf (Spent os) d2 d1 u u
  goal p g os u is d2 d1 t ed dr at = record {
    waits = λ m2 m1 q am.
        let (gs, e, later) = after_call p g os u is d1 m1 ed am in
        let says : Paused X xs (Some d1) (to_block u s2.top) (to_block u s1.top) m1 = record { block = refl; at = refl; point = record { start = refl; facts = gs; reached = e; later = λ d e v. subst (λ (d : Dest). Holds (write m1 d.addr v) gs) (some_val e) (later v) } } in
        (refl, record { stand = both_stand u u; locals = holds_linked j f2 f1 (moment.pl now) m2 m1 q.near.linked; dests = dr; says = says });
    gets = λ m2 m1 m1' v q am hv wh h.
        let (gs, e, later) = after_call p g os u is d1 m1 ed am in
        let (m2', g1, l', lv) = near.store_near D ts ts f1 f2 j K (moment.low now) G (moment.bok now) (moment.lok now) V.needs f2 f1 s2.memory s1.memory (moment.nears now) (moment.onces now) m2 m1 m1' d1 d2 t v v q.near dr at hv h in
        let (old, eo, same) = store_split D m1 m1' d1 v h in
        let says = starts X xs (to_block u s2.top) (to_block u s1.top) m1' gs refl refl refl e (subst (λ m. Holds m gs) same (later v)) in
        (m2', g1, (living_lent j f2 f1 (moment.pl now) all m2' m1' l', lv), (0, (refl, record { stand = both_stand u u; locals = holds_linked j f2 f1 (moment.pl now) m2' m1' l'; says = says })));
  }

  calls : (p : Place) (g : Callee) (os : List Operand) (u : ℕ) → k.term ≡ Call p g os u → TermMoves S.source (Call p g os u) → TermTy X.source S.source (Call p g os u) → SameStepIf (Call p g os u) (Call p g os u)
  calls p g os u is mo (t, pt, ct) = (
    refl,
    all_read os mo,
    λ d1 ed.
        let (d2, g1, dr) = kept.dest_as D ts ts f1 f2 j K (moment.low now) G (moment.bok now) (moment.lok now) (moment.Q now) (moment.keeps now) s2.memory s1.memory p p d1 (moment.place_self now p) (moment.start now) ed in
        (d2, g1, goal p g os u is d2 d1 t ed dr (dest_ty D G (moment.bok now) ts f1 (moment.lok now) s1.memory p t d1 r.typed1.mem pt ed)),
  )

  -- ---- the same terminator

  still_if : (t : Term) → k.term ≡ t → after_term t last ≡ last → after_term k.term last ≡ last
  still_if t is h = ap (λ t. after_term t last) is ∙ h

  same_step : (t : Term) → k.term ≡ t → is_drop t ≡ false → TermMoves S.source t → TermTy X.source S.source t → SameStepIf t t
  unfolding leads after_term
  same_step (Goto u) is nd mo ty = λ m2 m1 q. edge u (ap (λ t. leads last t u) is ∙ eq_self u) (still_if (Goto u) is refl) m2 m1 q
  same_step (Switch p arms u) is nd mo ty = (reads p mo, λ i m2 m1 q read. edge (take_arm i arms u) (arm_edge p arms u is i (number_is last p (i, m1) ended.known read)) (switch_still p arms u is) m2 m1 q)
  same_step Return is nd mo ty = (refl, moment.result now)
  same_step Unreachable is nd mo ty = tt
  same_step (Drop p u) is nd mo ty = absurd (grind arith)
  same_step (Call p g os u) is nd mo ty = calls p g os u is mo ty
  same_step (Assert p c text os u) is nd mo ty = (
    reads p mo.0,
    refl,
    refl,
    all_read os mo.1,
    λ i ok m2 m1 q read. edge u (ap (λ t. leads last t u) is ∙ can_leads c (known last p) i u (number_is last p (i, m1) ended.known read) ok) (still_if (Assert p c text os u) is refl) m2 m1 q,
  )

  pub same_end : (x : Next) → is_drop k.term ≡ false → TermMoves S.source k.term → TermTy X.source S.source k.term → ArgsTerm X.source k.term → finish X.source S.source s1 k.term ≡ Some x → Flat x → GentleTo X G f1 s1.memory x → Goes X P (finish (target X) S.target s2 k.term) x
  same_end x nd mo ty few e fl ge = same_goes k.term k.term x few (same_step k.term refl nd mo ty) e fl ge
