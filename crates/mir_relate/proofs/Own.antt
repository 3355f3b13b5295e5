-- A terminator of the changed function that does on both sides the same kind of thing.
use Rattle.std.proofs.Common.{◌≡◌, inr, refl, sym, ap, ap₂, ◌∙◌, subst, ℕ, ◌<◌, ◌≤◌, Bool, true, false, nat_eq, List, [], ◌∷◌, ◌++◌, length, Option, Some, None, slice_get, arith}
use Rattle.mir_syntax.specs.declared.body.Operand.{Operand}
use Rattle.mir_syntax.specs.declared.body.Callee.{Callee}
use Rattle.mir_syntax.specs.declared.body.Callee.TheVariants as callee
use Rattle.mir_syntax.specs.declared.body.Term.{Term}
use Rattle.mir_syntax.specs.declared.body.Term.TheVariants.{Goto, Switch, Return, Unreachable, Call, Assert}
use Rattle.mir_syntax.specs.Tree.{Tree, scalar}
use Rattle.mir_syntax.specs.Crate.{TypedBody}
use Rattle.mir_syntax.specs.Shapes.{Shape}
use Rattle.mir_num.specs.Numbers.{wrap, flag}
use Rattle.mir_semantics.specs.Values.{Value, number, nil, whole}
use Rattle.mir_semantics.specs.Memory.{Memory, local_at, close_frame}
use Rattle.mir_semantics.specs.Step.{Dest, Control, Called, State, aborted, no_answer, Next, stop, fail, local_addr, dest_of, store, read_at, read_number, read_all, go_on, to_block, take_arm, calling, answered, ask, call, return_to, check, finish}
use Rattle.mir_renaming.specs.Renaming.{Renaming}
use Rattle.mir_syntax.proofs.Binds.{bind_some, some_bind}
use Rattle.mir_renaming.proofs.Statements.{Linked}
use Rattle.mir_renaming.proofs.Types.{TypeMap}
use Rattle.mir_renaming.proofs.Ghosts.{Flat}
use Rattle.mir_relate.specs.Alike.{Between, Sides, Same, AllSame, Reads, AllRead, AllWhole}
use Rattle.mir_relate.specs.Leaves.{Leaves}
use Rattle.mir_relate.specs.Mild.{Gentle}
use Rattle.mir_relate.specs.Frames.{Change, target, Pass, lowest, Below, Core}
use Rattle.mir_relate.specs.Pass.{KnowsAll, Valids, AllArgs, ArgsTerm, GentleTo, FrameLaws, Goes, Related}
use Rattle.mir_relate.proofs.Alike.{number_read, all_read, integers_read}
use Rattle.mir_relate.proofs.Stacks.{knows_all, knows_later, below_kept}
use Rattle.mir_relate.proofs.Enter.{goes_at, goes_by, enter_goes, enter_gentle}
use Rattle.mir_relate.proofs.Mild.{gentle_less, gentle_on}
use Rattle.mir_relate.proofs.Returns.{return_goes, closed1, closed2}
use Rattle.mir_relate.proofs.Others.{read_long, numbers_same}
use Rattle.mir_relate.proofs.Wholes.{read_at_whole, all_whole}

-- the lowest control of a group, whatever the place of the highest
low_frame : (c c' : Control) (gs : List Control) → c'.frame ≡ c.frame → (lowest c' gs).frame ≡ (lowest c gs).frame
low_frame c c' [] e = e
low_frame c c' (d ∷ ds) e = refl

low_dest : (c c' : Control) (gs : List Control) → c'.dest ≡ c.dest → (lowest c' gs).dest ≡ (lowest c gs).dest
low_dest c c' [] e = e
low_dest c c' (d ∷ ds) e = refl

module _ (X : Change) (P : Pass) (V : Valids X) (Inv : State → Type 0) (laws : FrameLaws X P V Inv) (n : ℕ) (s2 s1 : State) (r : Related X P V Inv n s2 s1) (gs ds : List Control) (split : s1.callers ≡ gs ++ ds) (lo : (lowest s1.top gs).frame ≤ s1.top.frame) (be : Below X P r.core.lent s2.top.dest (lowest s1.top gs).dest s2.top.frame (lowest s1.top gs).frame s2.callers ds s2.memory s1.memory) where
  abbrev D : List Shape
  D = X.source.shapes

  abbrev j : Renaming
  j = r.core.lent

  abbrev G : TypeMap
  G = r.typed1.types

  knows : KnowsAll X G (s1.top ∷ s1.callers)
  knows = (r.typed1.top.locals, knows_all X V G s1.callers r.typed1.callers)

  -- what is left while the frame runs
  abbrev pub Left : Memory → Memory → Type 0
  Left m2 m1 = Linked j j m2 m1 × Leaves D G j j s2.top.frame (lowest s1.top gs).frame m2 m1 s2.memory s1.memory

  -- the frames below
  pub below_left : (m2 m1 : Memory) → Left m2 m1 → Gentle D G s1.top.frame m1 s1.memory → Below X P j s2.top.dest (lowest s1.top gs).dest s2.top.frame (lowest s1.top gs).frame s2.callers ds m2 m1
  below_left m2 m1 h ge = below_kept X P laws.kept G j j s2.top.dest (lowest s1.top gs).dest s2.top.frame (lowest s1.top gs).frame s2.callers ds m2 m1 s2.memory s1.memory (knows_later X G gs ds (subst (KnowsAll X G) split knows.1)) h.1 (gentle_less D G s1.top.frame (lowest s1.top gs).frame m1 s1.memory lo ge) be

  below_at : (m2 m1 : Memory) (c2 c1 : Control) → c2.frame ≡ s2.top.frame → c1.frame ≡ s1.top.frame → c2.dest ≡ s2.top.dest → c1.dest ≡ s1.top.dest → Left m2 m1 → Gentle D G s1.top.frame m1 s1.memory → Below X P j c2.dest (lowest c1 gs).dest c2.frame (lowest c1 gs).frame s2.callers ds m2 m1
  below_at m2 m1 c2 c1 f2 f1 d2 d1 h ge = subst (λ k. Below X P j c2.dest (lowest c1 gs).dest k (lowest c1 gs).frame s2.callers ds m2 m1) (sym f2) (subst (λ k. Below X P j c2.dest (lowest c1 gs).dest s2.top.frame k s2.callers ds m2 m1) (sym (low_frame s1.top c1 gs f1)) (subst (λ d. Below X P j d (lowest c1 gs).dest s2.top.frame (lowest s1.top gs).frame s2.callers ds m2 m1) (sym d2) (subst (λ d. Below X P j s2.top.dest d s2.top.frame (lowest s1.top gs).frame s2.callers ds m2 m1) (sym (low_dest s1.top c1 gs d1)) (below_left m2 m1 h ge))))

  low_at : (c1 : Control) → c1.frame ≡ s1.top.frame → (lowest c1 gs).frame ≤ c1.frame
  low_at c1 e = let q = low_frame s1.top c1 gs e in omega (arith, lo, q, e)

  -- the frame at another place
  pub own_core : (n' : ℕ) (m2 m1 : Memory) (c2 c1 : Control) → c2.frame ≡ s2.top.frame → c1.frame ≡ s1.top.frame → c2.dest ≡ s2.top.dest → c1.dest ≡ s1.top.dest → Left m2 m1 → Gentle D G s1.top.frame m1 s1.memory → P.own n' j c2 c1 gs m2 m1 → Core X P n' (record s2 { memory = m2; top = c2 }) (record s1 { memory = m1; top = c1 })
  own_core n' m2 m1 c2 c1 f2 f1 d2 d1 h ge o = record {
    lent = j;
    base = record { fresh1 = r.core.base.fresh1; fresh2 = r.core.base.fresh2; top1 = (let t = r.core.base.top1 in omega (arith, f1, t)); top2 = (let t = r.core.base.top2 in omega (arith, f2, t)); answers = r.core.base.answers; trace = r.core.base.trace };
    linked = h.0;
    runs = inr (gs, ds, split, low_at c1 f1, o, below_at m2 m1 c2 c1 f2 f1 d2 d1 h ge);
  }

  -- what the frames see, and the relation of their memories
  module _ (S : Sides) (Q : Between) (left : (m2 m1 : Memory) → Q m2 m1 → Left m2 m1) (lent : S.lent ≡ j) (first : Q s2.memory s1.memory) where
    -- states in which both stand at the starts of these blocks
    abbrev pub To : Memory → Memory → ℕ → ℕ → Type 0
    To m2 m1 u2 u1 = (n' : ℕ) × P.own n' j (to_block u2 s2.top) (to_block u1 s1.top) gs m2 m1

    abbrev pub Edge : ℕ → ℕ → Type 0
    Edge u2 u1 = (m2 m1 : Memory) → Q m2 m1 → To m2 m1 u2 u1

    -- destinations of a call: the frame waits for what comes to them, or gets it at once
    pub record Goal (d2 d1 : Dest) (u2 u1 : ℕ) : Type 0 where
      pub waits : (m2 m1 : Memory) → Q m2 m1 → P.waits j (Some d2) (Some d1) (to_block u2 s2.top) (to_block u1 s1.top) gs m2 m1
      pub gets : (m2 m1 m1' : Memory) (v : Value) → Q m2 m1 → Same j v v → whole v ≡ true → store D m1 d1 v ≡ Some m1' → (m2' : Memory) × (store D m2 d2 v ≡ Some m2') × Left m2' m1' × To m2' m1' u2 u1

    -- the same, where something is known of the source's memory
    abbrev pub EdgeIf : (Memory → Type 0) → ℕ → ℕ → Type 0
    EdgeIf A u2 u1 = (m2 m1 : Memory) → Q m2 m1 → A m1 → To m2 m1 u2 u1

    pub record GoalIf (A : Memory → Type 0) (d2 d1 : Dest) (u2 u1 : ℕ) : Type 0 where
      pub waits : (m2 m1 : Memory) → Q m2 m1 → A m1 → P.waits j (Some d2) (Some d1) (to_block u2 s2.top) (to_block u1 s1.top) gs m2 m1
      pub gets : (m2 m1 m1' : Memory) (v : Value) → Q m2 m1 → A m1 → Same j v v → whole v ≡ true → store D m1 d1 v ≡ Some m1' → (m2' : Memory) × (store D m2 d2 v ≡ Some m2') × Left m2' m1' × To m2' m1' u2 u1

    -- the source's operands leave this memory; its operand is this number
    abbrev pub Spent : List Operand → Memory → Type 0
    Spent os m1 = (vs : List Value) × (read_all S.source s1.memory os ≡ Some (vs, m1))

    abbrev pub IsNumber : Operand → ℕ → Memory → Type 0
    IsNumber o i m1 = read_number S.source s1.memory o ≡ Some (i, m1)

    -- both do the same, and edges and goals are told what the source has read
    abbrev pub SameStepIf : Term → Term → Type 0
    SameStepIf (Goto u1) (Goto u2) = Edge u2 u1
    SameStepIf (Switch o arms1 u1) (Switch p arms2 u2) = Reads S Q o p × ((i : ℕ) → EdgeIf (IsNumber o i) (take_arm i arms2 u2) (take_arm i arms1 u1))
    SameStepIf Return Return = (gs ≡ []) × ((v : Value) → read_at s1.memory (local_addr S.source.frame 0) ≡ Some v → (w : Value) × (read_at s2.memory (local_addr S.target.frame 0) ≡ Some w) × Same j v w)
    SameStepIf Unreachable t = Unit {0}
    SameStepIf (Call p g os u1) (Call q h ps u2) = (g ≡ h) × AllRead S Q os ps × ((d1 : Dest) → dest_of S.source s1.memory p ≡ Some d1 → (d2 : Dest) × (dest_of S.target s2.memory q ≡ Some d2) × GoalIf (Spent os) d2 d1 u2 u1)
    SameStepIf (Assert o c words os u1) (Assert p c' words' ps u2) = Reads S Q o p × (c ≡ c') × (words ≡ words') × AllRead S Q os ps × ((i : ℕ) → nat_eq i (flag c) ≡ true → EdgeIf (IsNumber o i) u2 u1)
    SameStepIf t u = ⊥

    -- and where nothing needs to be known
    abbrev pub SameStep : Term → Term → Type 0
    SameStep (Goto u1) (Goto u2) = Edge u2 u1
    SameStep (Switch o arms1 u1) (Switch p arms2 u2) = Reads S Q o p × ((i : ℕ) → Edge (take_arm i arms2 u2) (take_arm i arms1 u1))
    SameStep Return Return = (gs ≡ []) × ((v : Value) → read_at s1.memory (local_addr S.source.frame 0) ≡ Some v → (w : Value) × (read_at s2.memory (local_addr S.target.frame 0) ≡ Some w) × Same j v w)
    SameStep Unreachable t = Unit {0}
    SameStep (Call p g os u1) (Call q h ps u2) = (g ≡ h) × AllRead S Q os ps × ((d1 : Dest) → dest_of S.source s1.memory p ≡ Some d1 → (d2 : Dest) × (dest_of S.target s2.memory q ≡ Some d2) × Goal d2 d1 u2 u1)
    SameStep (Assert o c words os u1) (Assert p c' words' ps u2) = Reads S Q o p × (c ≡ c') × (words ≡ words') × AllRead S Q os ps × Edge u2 u1
    SameStep t u = ⊥

    goal_if : (A : Memory → Type 0) (d2 d1 : Dest) (u2 u1 : ℕ) → Goal d2 d1 u2 u1 → GoalIf A d2 d1 u2 u1
    goal_if A d2 d1 u2 u1 g = record { waits = λ m2 m1 q a. g.waits m2 m1 q; gets = λ m2 m1 m1' v q a hv wh k. g.gets m2 m1 m1' v q hv wh k }

    same_step_if : (t u : Term) → SameStep t u → SameStepIf t u
    same_step_if (Goto u1) (Goto u2) h = h
    same_step_if (Switch o arms1 u1) (Switch p arms2 u2) (ho, he) = (ho, λ i m2 m1 q a. he i m2 m1 q)
    same_step_if Return Return h = h
    same_step_if Unreachable u h = tt
    same_step_if (Call p g os u1) (Call q g' ps u2) (hg, ho, hd) = (hg, ho, λ d1 e. (let (d2, k, gl) = hd d1 e in (d2, k, goal_if (Spent os) d2 d1 u2 u1 gl)))
    same_step_if (Assert o c words os u1) (Assert p c' words' ps u2) (hp, hc, hw, ho, he) = (hp, hc, hw, ho, λ i z m2 m1 q a. he m2 m1 q)
    same_step_if t u h = absurd h

    -- the frame goes on at the start of a block
    there_goes : (m2 m1 : Memory) (u2 u1 : ℕ) (x : Next) → GentleTo X G s1.top.frame s1.memory x → Q m2 m1 → To m2 m1 u2 u1 → go_on s1 m1 (to_block u1 s1.top) ≡ Some x → Goes X P (go_on s2 m2 (to_block u2 s2.top)) x
    there_goes m2 m1 u2 u1 x ge q (n', o) k = goes_at X P _ x _ k (n', _, refl, own_core n' m2 m1 (to_block u2 s2.top) (to_block u1 s1.top) refl refl refl refl (left m2 m1 q) (gentle_on X G s1.top.frame s1.memory (record s1 { memory = m1; top = to_block u1 s1.top }) x ge k (omega arith)) o)

    pub to_goes : (m2 m1 : Memory) (u2 u1 : ℕ) (x : Next) → GentleTo X G s1.top.frame s1.memory x → Q m2 m1 → Edge u2 u1 → go_on s1 m1 (to_block u1 s1.top) ≡ Some x → Goes X P (go_on s2 m2 (to_block u2 s2.top)) x
    to_goes m2 m1 u2 u1 x ge q e k = there_goes m2 m1 u2 u1 x ge q (e m2 m1 q) k

    answered_goes : (t2 t1 : List Called) (r2 r1 : List ℕ) (u2 u1 : ℕ) (o2 o1 : Option Memory) (x : Next) → GentleTo X G s1.top.frame s1.memory x → t2 ≡ t1 → r2 ≡ r1 → ((m1' : Memory) → o1 ≡ Some m1' → (m2' : Memory) × (o2 ≡ Some m2') × Left m2' m1' × To m2' m1' u2 u1) → answered (calling s1 t1 r1) (to_block u1 s1.top) o1 ≡ Some x → Goes X P (answered (calling s2 t2 r2) (to_block u2 s2.top) o2) x
    answered_goes t2 t1 r2 r1 u2 u1 o2 None x ge ts rs hm e = goes_at X P _ x (fail t1) e tt
    answered_goes t2 t1 r2 r1 u2 u1 o2 (Some m1) x ge ts rs hm e =
        let (m2, g, h, (n', o)) = hm m1 refl in
        let k = own_core n' m2 m1 (to_block u2 s2.top) (to_block u1 s1.top) refl refl refl refl h (gentle_on X G s1.top.frame s1.memory (record s1 { memory = m1; top = to_block u1 s1.top; answers = r1; trace = t1 }) x ge e (omega arith)) o in
        goes_by X P _ _ x (ap (answered (calling s2 t2 r2) (to_block u2 s2.top)) g) (goes_at X P _ x _ e
        (n', _, refl, record { lent = k.lent; base = record { fresh1 = k.base.fresh1; fresh2 = k.base.fresh2; top1 = k.base.top1; top2 = k.base.top2; answers = rs; trace = ts }; linked = k.linked; runs = k.runs }))

    ask_goes : (A : Memory → Type 0) (m2 m1 : Memory) → A m1 → (u2 u1 : ℕ) (d2 d1 : Dest) (o : ℕ) (ns : List ℕ) (t : Tree) (answers : List ℕ) (x : Next) → GentleTo X G s1.top.frame s1.memory x → Q m2 m1 → GoalIf A d2 d1 u2 u1 → ask D s1 m1 (to_block u1 s1.top) d1 o ns t answers ≡ Some x → Goes X P (ask D s2 m2 (to_block u2 s2.top) d2 o ns t answers) x
    unfolding ask
    ask_goes A m2 m1 am u2 u1 d2 d1 o ns (scalar t) [] x ge q gl e = goes_at X P _ x (stop no_answer) e refl
    ask_goes A m2 m1 am u2 u1 d2 d1 o ns (scalar t) (a ∷ rest) x ge q gl e =
        answered_goes _ _ rest rest u2 u1 _ _ x ge (ap (λ t'. record { outside = o; args = ns; answer = Some (wrap t a) } ∷ t') r.core.base.trace) refl (λ m1' k. gl.gets m2 m1 m1' (number (wrap t a)) q am (refl, tt) refl k) e
    ask_goes A m2 m1 am u2 u1 d2 d1 o ns t answers x ge q gl e =
        answered_goes _ _ answers answers u2 u1 _ _ x ge (ap (λ t'. record { outside = o; args = ns; answer = None } ∷ t') r.core.base.trace) refl (λ m1' k. gl.gets m2 m1 m1' nil q am (tt, tt) refl k) e

    below_this : (A : Memory → Type 0) (m2 m1 : Memory) → A m1 → (u2 u1 : ℕ) (d2 d1 : Dest) → Q m2 m1 → GoalIf A d2 d1 u2 u1 → Gentle D G s1.top.frame m1 s1.memory → Below X P j (Some d2) (Some d1) s2.next s1.next (to_block u2 s2.top ∷ s2.callers) (to_block u1 s1.top ∷ s1.callers) m2 m1
    below_this A m2 m1 am u2 u1 d2 d1 q gl ge = inr (to_block u1 s1.top, gs, ds, ap (λ cs. to_block u1 s1.top ∷ cs) split, r.core.base.top1, r.core.base.top2, low_at (to_block u1 s1.top) refl, gl.waits m2 m1 q am, below_at m2 m1 (to_block u2 s2.top) (to_block u1 s1.top) refl refl refl refl (left m2 m1 q) ge)

    call_goes : (A : Memory → Type 0) (m2 m1 : Memory) → A m1 → (u2 u1 : ℕ) (d2 d1 : Dest) (g : Callee) (os : List Operand) (vs ws : List Value) (x : Next) → GentleTo X G s1.top.frame s1.memory x → AllArgs X.source g os → length vs ≡ length os → Q m2 m1 → GoalIf A d2 d1 u2 u1 → AllSame j vs ws → AllWhole vs → call X.source s1 m1 (to_block u1 s1.top) d1 g vs ≡ Some x → Goes X P (call (target X) s2 m2 (to_block u2 s2.top) d2 g ws) x
    unfolding call
    call_goes A m2 m1 am u2 u1 d2 d1 (callee.Local g) os vs ws x ge few long q gl hv wh e =
        enter_goes X P V Inv laws G j s2 s1 m2 m1 r.core.base (left m2 m1 q).0 (to_block u2 s2.top) (to_block u1 s1.top) (Some d2) (Some d1) knows (below_this A m2 m1 am u2 u1 d2 d1 q gl (enter_gentle X G s1.top.frame s1.memory s1 m1 (to_block u1 s1.top) g.0 vs (Some d1) x r.core.base.top1 e ge)) vs ws hv wh g.0 x (λ b eb. long ∙ few b eb) e
    call_goes A m2 m1 am u2 u1 d2 d1 (callee.Outside o) os vs ws x ge few long q gl hv wh e =
        let (out, e1, k1) = bind_some e in
        let (ns, e2, k2) = bind_some k1 in
        goes_by X P _ _ x (some_bind _ e1 (some_bind _ (numbers_same j vs ws ns hv.0 e2) (ap (λ an. ask D s2 m2 (to_block u2 s2.top) d2 o.0 ns out.result an) r.core.base.answers))) (ask_goes A m2 m1 am u2 u1 d2 d1 o.0 ns out.result s1.answers x ge q gl k2)

    check_goes : (m2 m1 : Memory) (c : Bool) (words : List ℕ) (os ps : List Operand) (u2 u1 : ℕ) (x : Next) → GentleTo X G s1.top.frame s1.memory x → Q m2 m1 → AllRead S Q os ps → (c ≡ true → To m2 m1 u2 u1) → check S.source s1 m1 c words os u1 ≡ Some x → Goes X P (check S.target s2 m2 c words ps u2) x
    unfolding check
    check_goes m2 m1 true words os ps u2 u1 x ge q h e k = there_goes m2 m1 u2 u1 x ge q (e refl) k
    check_goes m2 m1 false words os ps u2 u1 x ge q h e k =
        let (a, e1, k1) = bind_some k in
        let (a', g1, same, _) = integers_read S Q os ps h m2 m1 a q e1 in
        goes_by X P _ _ x (some_bind _ g1 refl) (goes_at X P _ x (stop (aborted words a.0)) k1 (ap (λ vs. Some (stop (aborted words vs))) (sym same)))

    -- the frames of this function, and whose locals stand in the target's frame
    module _ (frame1 : S.source.frame ≡ s1.top.frame) (frame2 : S.target.frame ≡ s2.top.frame) (bo : TypedBody) (eb : slice_get X.source.bodies s1.top.function ≡ Some bo) (only : (h x y : ℕ) (v : Value) → j h x ≡ Some (s2.top.frame, y) → local_at s1.memory h x ≡ Some v → h ≡ s1.top.frame) (none : (h x y : ℕ) → h < s1.top.frame → j h x ≡ Some (s2.top.frame, y) → ⊥) where
      -- the group is one frame
      alone : gs ≡ [] → Below X P j s2.top.dest s1.top.dest s2.top.frame s1.top.frame s2.callers s1.callers s2.memory s1.memory
      alone e = go gs e split be
        where
          go : (gs : List Control) → gs ≡ [] → s1.callers ≡ gs ++ ds → Below X P j s2.top.dest (lowest s1.top gs).dest s2.top.frame (lowest s1.top gs).frame s2.callers ds s2.memory s1.memory → Below X P j s2.top.dest s1.top.dest s2.top.frame s1.top.frame s2.callers s1.callers s2.memory s1.memory
          go [] e q b = subst (λ cs. Below X P j s2.top.dest s1.top.dest s2.top.frame s1.top.frame s2.callers cs s2.memory s1.memory) (sym q) b
          go (g ∷ gs) e q b = absurd (grind arith)

      pub step_if_goes : (t u : Term) (x : Next) → ArgsTerm X.source t → SameStepIf t u → finish X.source S.source s1 t ≡ Some x → Flat x → GentleTo X G s1.top.frame s1.memory x → Goes X P (finish (target X) S.target s2 u) x
      unfolding finish closed1 closed2
      step_if_goes (Goto u1) (Goto u2) x few h e fl ge = to_goes s2.memory s1.memory u2 u1 x ge first h e
      step_if_goes (Switch o arms1 u1) (Switch p arms2 u2) x few (ho, he) e fl ge =
          let (a, e1, k1) = bind_some e in
          let (a', g1, same, q) = number_read S Q o p ho s2.memory s1.memory a first e1 in
          goes_by X P _ _ x (some_bind _ g1 (ap (λ i. go_on s2 a'.1 (to_block (take_arm i arms2 u2) s2.top)) (sym same))) (there_goes a'.1 a.1 (take_arm a.0 arms2 u2) (take_arm a.0 arms1 u1) x ge q (he a.0 a'.1 a.1 q e1) k1)
      step_if_goes Return Return x few h e fl ge =
          let (v, e1, k1) = bind_some e in
          let (w, g1, hv) = h.1 v e1 in
          goes_by X P _ _ x (some_bind _ g1 (ap (λ i. return_to D s2 (close_frame s2.memory i) s2.top.dest s2.callers w) frame2))
          (return_goes X P V Inv laws n s2 s1 r only none (alone h.0) bo eb v w x hv (subst (λ i. read_at s1.memory (local_addr i 0) ≡ Some v) frame1 e1) (ap (λ i. return_to D s1 (close_frame s1.memory i) s1.top.dest s1.callers v) (sym frame1) ∙ k1) fl ge)
      step_if_goes Unreachable u x few h e fl ge = absurd (grind arith)
      step_if_goes (Call p g os u1) (Call p' g' ps u2) x few (hg, ho, hd) e fl ge =
          let (d1, e1, k1) = bind_some e in
          let (a, e2, k2) = bind_some k1 in
          let (d2, g1, gl) = hd d1 e1 in
          let (a', g2, hv, q) = all_read S Q os ps ho s2.memory s1.memory a first e2 in
          goes_by X P _ _ x (some_bind _ g1 (some_bind _ g2 (ap (λ g. call (target X) s2 a'.1 (to_block u2 s2.top) d2 g a'.0) (sym hg)))) (call_goes (Spent os) a'.1 a.1 (a.0, e2) u2 u1 d2 d1 g os a.0 a'.0 x ge few (read_long S.source os s1.memory a e2) q gl (subst (λ i. AllSame i a.0 a'.0) lent hv) (all_whole S.source s1.memory os a e2) k2)
      step_if_goes (Assert o c words os u1) (Assert p c' words' ps u2) x few (hp, hc, hw, ho, he) e fl ge =
          let (a, e1, k1) = bind_some e in
          let (a', g1, same, q) = number_read S Q o p hp s2.memory s1.memory a first e1 in
          goes_by X P _ _ x (some_bind _ g1 (ap₂ (λ c words. check S.target s2 a'.1 (nat_eq a'.0 (flag c)) words ps u2) (sym hc) (sym hw) ∙ ap (λ i. check S.target s2 a'.1 (nat_eq i (flag c)) words ps u2) (sym same))) (check_goes a'.1 a.1 (nat_eq a.0 (flag c)) words os ps u2 u1 x ge q ho (λ z. he a.0 z a'.1 a.1 q e1) k1)
      step_if_goes t u x few h e fl ge = absurd h

      pub same_step_goes : (t u : Term) (x : Next) → ArgsTerm X.source t → SameStep t u → finish X.source S.source s1 t ≡ Some x → Flat x → GentleTo X G s1.top.frame s1.memory x → Goes X P (finish (target X) S.target s2 u) x
      same_step_goes t u x few h e fl ge = step_if_goes t u x few (same_step_if t u h) e fl ge
