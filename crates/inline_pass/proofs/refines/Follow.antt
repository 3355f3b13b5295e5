-- Calls and returns of frames that stand alone.
use Rattle.std.proofs.Common.{◌≡◌, ◌⊎◌, inl, inr, refl, sym, ap, ◌∙◌, subst, ℕ, suc, ◌+◌, ◌<◌, ◌≤◌, true, false, nat_eq, List, [], ◌∷◌, length, Option, Some, None, slice_get, arith}
use Rattle.mir_syntax.specs.declared.body.Callee.{Callee}
use Rattle.mir_syntax.specs.declared.body.Callee.TheVariants as callee
use Rattle.mir_syntax.specs.Tree.{Tree, scalar}
use Rattle.mir_syntax.specs.Crate.{TypedBody}
use Rattle.mir_syntax.specs.Shapes.{Shape, ◌>>=◌}
use Rattle.mir_num.specs.Numbers.{wrap}
use Rattle.mir_semantics.specs.Values.{Value, number, nil}
use Rattle.mir_semantics.specs.Memory.{Memory, open_frame}
use Rattle.mir_semantics.specs.Step.{Code, Dest, Control, Called, State, returned, no_answer, Next, on, stop, fail, go_on, new_slots, entered, enter, calling, answered, ask, call, destroyed_at, destroyed, return_to, store}
use Rattle.mir_renaming.specs.Renaming.{Renaming, ValueRel, SomeRel}
use Rattle.mir_syntax.proofs.Binds.{bind_some, some_bind}
use Rattle.mir_renaming.proofs.Memory.{same_or_not}
use Rattle.mir_renaming.proofs.Statements.{ValuesRel, Linked, DestRel, store_rel}
use Rattle.mir_renaming.proofs.Ghosts.{plain_same, Flat}
use Rattle.mir_renaming.proofs.Frames.{open_same, open_other, new_control}
use Rattle.mir_relate.proofs.Leaves.{some_val}
use Rattle.mir_relate.proofs.Enter.{values_up}
use Rattle.mir_relate.proofs.Others.{numbers_same}
use Rattle.inline_pass.proofs.refines.Into.{Into, Stands, placed, into, stand, stand_new, stand_old, stand_sub, into_parts, open_both, new_apart}
use Rattle.inline_pass.proofs.refines.Both.{store_both}
use Rattle.inline_pass.proofs.refines.Stacks as stacks
use Rattle.inline_pass.proofs.refines.Stacks.{OneCall, Onward, onward_trans, dests_up, stack_onward, stack_up}
use Rattle.inline_pass.proofs.refines.Onwards.{onward_refl, onward_both, onward_alone}
use Rattle.inline_pass.proofs.refines.Slots.{slot_there, slots_both}

-- a frame of each side opens
pub onward_open : (F : Stands) (m2 m1 : Memory) (n : ℕ) (i : Into) (vs2 vs1 : List Value) → Onward (stand F n i) i.frame m2 m1 (open_frame m2 i.frame vs2) (open_frame m1 n vs1)
onward_open F m2 m1 n i vs2 vs1 = record {
  room = λ a x w l e. (w, open_other m2 i.frame vs2 a x (λ s. omega (arith, s, l)) ∙ e);
  back = λ e x a z u q l k. (u, sym (open_other m1 n vs1 e x (λ s. new_apart F n i e x a z q l s)) ∙ k);
  stay = λ a z w l free e. open_other m2 i.frame vs2 a z (λ s. omega (arith, s, l)) ∙ e;
}

no_drop : (D : List Shape) (s : State) (c : Control) → c.dropping ≡ None → destroyed D s c ≡ None
unfolding destroyed ◌>>=◌
no_drop D s c e = ap (λ o. o >>= λ d. destroyed_at D s c d d.items) e

-- a body of the target has the locals of the source's, and maybe more behind them
pub record Longer (bt bs : TypedBody) : Type 0 where
  pub types : (x : ℕ) (t : Tree) → slice_get bs.locals x ≡ Some t → slice_get bt.locals x ≡ Some t
  pub first : Tree
  pub is_first : slice_get bs.locals 0 ≡ Some first

module _ (X : OneCall) (pairs : (k : ℕ) (bs : TypedBody) → slice_get X.C1.bodies k ≡ Some bs → (bt : TypedBody) × (slice_get X.bodies2 k ≡ Some bt) × Longer bt bs) where
  open X use {C1, bodies2}

  abbrev pub C2 : Code
  C2 = record C1 { bodies = bodies2 }

  abbrev D : List Shape
  D = C1.shapes

  abbrev Rel : State → State → Type 0
  Rel = stacks.Rel X

  abbrev Own : Stands → Memory → Memory → Control → Control → Type 0
  Own = stacks.Own X

  abbrev Stack : Stands → Memory → Memory → ℕ → List Control → List Control → Type 0
  Stack = stacks.Stack X

  abbrev DestsRel : Renaming → Option Dest → Option Dest → Type 0
  DestsRel = stacks.DestsRel X

  abbrev pub Follows : Option Next → Next → Type 0
  Follows o (stop x) = o ≡ Some (stop x)
  Follows o (fail t) = Unit {0}
  Follows o (on s1) = (s2 : State) × (o ≡ Some (on s2)) × Rel s2 s1

  pub follows_at : (o : Option Next) (x y : Next) → Some y ≡ Some x → Follows o y → Follows o x
  follows_at o x y e r = subst (λ z. Follows o z) (some_val e) r

  pub follows_by : (o q : Option Next) (x : Next) → o ≡ q → Follows q x → Follows o x
  follows_by o q x e r = subst (λ z. Follows z x) (sym e) r

  pub stack_more : (F : Stands) (m2 m1 : Memory) (n k : ℕ) (cs2 cs : List Control) → n ≤ k → Stack F m2 m1 n cs2 cs → Stack F m2 m1 k cs2 cs
  stack_more F m2 m1 n k [] cs le s = s
  stack_more F m2 m1 n k (c2 ∷ cs2) cs le (lt, s) = (omega (arith, lt, le), s)

  -- some source's frame stands above, in no drop
  head : (F : Stands) (m2 m1 : Memory) (n : ℕ) (c2 : Control) (cs2 cs : List Control) → Stack F m2 m1 n (c2 ∷ cs2) cs → (c1 : Control) × (ds : List Control) × (cs ≡ c1 ∷ ds) × (c1.dropping ≡ None)
  head F m2 m1 n c2 cs2 cs (lt, inl (c1, ds, e, r, more)) = (c1, ds, e, r.calm)
  head F m2 m1 n c2 cs2 cs (lt, inr (c1, c0, ds, e, r, more)) = (c1, c0 ∷ ds, e, r.calm1)

  -- ---- a call

  module _ (s2 s1 : State) (r : Rel s2 s1) where
    abbrev F : Stands
    F = r.stands

    module _ (k2 k1 : Memory) (l : Linked (into F) (into F) k2 k1) (c2 c1 : Control) (st : Stack F k2 k1 s2.next (c2 ∷ s2.callers) (c1 ∷ s1.callers)) where
      going : Follows (go_on s2 k2 c2) (on (record s1 { memory = k1; top = c1 }))
      going = (_, refl, record { stands = F; fresh = r.fresh; low = r.low; answers = r.answers; trace = r.trace; link = l; stack = st })

      pub go_rel : (x : Next) → go_on s1 k1 c1 ≡ Some x → Follows (go_on s2 k2 c2) x
      go_rel x e = follows_at _ x _ e going

      answered_rel : (t2 t1 : List Called) (a2 a1 : List ℕ) (o2 o1 : Option Memory) (x : Next) → t2 ≡ t1 → a2 ≡ a1 → ((m : Memory) → o1 ≡ Some m → (m2 : Memory) × (o2 ≡ Some m2) × Linked (into F) (into F) m2 m × Onward F s2.next k2 k1 m2 m) → answered (calling s1 t1 a1) c1 o1 ≡ Some x → Follows (answered (calling s2 t2 a2) c2 o2) x
      answered_rel t2 t1 a2 a1 o2 None x ts as' hm e = follows_at _ x (fail t1) e tt
      answered_rel t2 t1 a2 a1 o2 (Some m1) x ts as' hm e =
          let (m2, q, l', on') = hm m1 refl in
          follows_by _ _ x (ap (answered (calling s2 t2 a2) c2) q) (follows_at _ x _ e (_, refl, record { stands = F; fresh = r.fresh; low = r.low; answers = as'; trace = ts; link = l'; stack = stack_onward X F s2.next k2 k1 m2 m1 (c2 ∷ s2.callers) (c1 ∷ s1.callers) on' st }))

      pub stored : (n : ℕ) (d c : Dest) (v w : Value) (m1 : Memory) → DestRel (into F) d c → ValueRel (into F) v w → store D k1 d v ≡ Some m1 → (m2 : Memory) × (store D k2 c w ≡ Some m2) × Linked (into F) (into F) m2 m1 × Onward F n k2 k1 m2 m1
      stored n d c v w m1 hd hv e =
          let (m2, q, l') = store_rel D (into F) (into F) k2 k1 m1 d c v w hd hv l e in
          (m2, q, l', store_both D [] [] 0 0 (into F) (into F) (λ f x r e. e) (λ m2 m1. Onward F n k2 k1 m2 m1) (λ k2' k1' a b v w x u. onward_both F n k2 k1 k2' k1' a b v w x u) (λ k2' k1' a v. onward_alone F n k2 k1 k2' k1' a v) k2 k1 m2 m1 d c v w hd e q (onward_refl F n k2 k1))

      ask_rel : (d2 d1 : Dest) (o : ℕ) (ns : List ℕ) (t : Tree) (answers : List ℕ) (x : Next) → DestRel (into F) d1 d2 → ask D s1 k1 c1 d1 o ns t answers ≡ Some x → Follows (ask D s2 k2 c2 d2 o ns t answers) x
      unfolding ask
      ask_rel d2 d1 o ns (scalar t) [] x hd e = follows_at _ x (stop no_answer) e refl
      ask_rel d2 d1 o ns (scalar t) (a ∷ rest) x hd e = answered_rel _ _ rest rest _ _ x (ap (λ t'. record { outside = o; args = ns; answer = Some (wrap t a) } ∷ t') r.trace) refl (λ m q. stored s2.next d1 d2 (number (wrap t a)) (number (wrap t a)) m hd refl q) e
      ask_rel d2 d1 o ns t answers x hd e = answered_rel _ _ answers answers _ _ x (ap (λ t'. record { outside = o; args = ns; answer = None } ∷ t') r.trace) refl (λ m q. stored s2.next d1 d2 nil nil m hd tt q) e

      module _ (fn : ℕ) (bt bs : TypedBody) (is1 : slice_get C1.bodies fn ≡ Some bs) (is2 : slice_get bodies2 fn ≡ Some bt) (long : Longer bt bs) (vs ws : List Value) (hv : ValuesRel (into F) vs ws) (d2 d1 : Option Dest) (hd : DestsRel (into F) d1 d2) where
        abbrev i : Into
        i = record { frame = s2.next; offset = 0; size = length bs.locals }

        abbrev K : Stands
        K = stand F s1.next i

        none : F s1.next ≡ None
        none = r.fresh s1.next (omega arith)

        low_new : (e : ℕ) (j : Into) → K e ≡ Some j → j.frame < suc s2.next
        low_new e j q = go (same_or_not s1.next e)
          where
            go : ((nat_eq s1.next e ≡ true) × (s1.next ≡ e)) ⊎ ((nat_eq s1.next e ≡ false) × (s1.next ≡ e → ⊥)) → j.frame < suc s2.next
            go (inl z) = let same : i ≡ j = some_val (sym (stand_new F s1.next i) ∙ ap K z.1 ∙ q) in let y : s2.next ≡ j.frame = ap (λ (j : Into). j.frame) same in omega (arith, y)
            go (inr z) = let y = r.low e j (sym (stand_old F s1.next i e z.1) ∙ q) in omega (arith, y)

        only_new : (e x z : ℕ) → into K e x ≡ Some (s2.next, z) → e ≡ s1.next
        only_new e x z q = go (same_or_not s1.next e)
          where
            go : ((nat_eq s1.next e ≡ true) × (s1.next ≡ e)) ⊎ ((nat_eq s1.next e ≡ false) × (s1.next ≡ e → ⊥)) → e ≡ s1.next
            go (inl y) = sym y.1
            go (inr y) =
                let (j, k, _, s, _) = into_parts F e x s2.next z (sym (ap (placed x) (stand_old F s1.next i e y.1)) ∙ q) in
                let lt = r.low e j k in absurd (omega (arith, lt, s))

        ends_new : (e : ℕ) (j : Into) → K e ≡ Some j → j.frame ≡ s2.next → j.offset + j.size ≤ length bs.locals
        ends_new e j q at = go (same_or_not s1.next e)
          where
            go : ((nat_eq s1.next e ≡ true) × (s1.next ≡ e)) ⊎ ((nat_eq s1.next e ≡ false) × (s1.next ≡ e → ⊥)) → j.offset + j.size ≤ length bs.locals
            go (inl y) = let same : i ≡ j = some_val (sym (stand_new F s1.next i) ∙ ap K y.1 ∙ q) in subst (λ (j : Into). j.offset + j.size ≤ length bs.locals) same (omega arith)
            go (inr y) = let lt = r.low e j (sym (stand_old F s1.next i e y.1) ∙ q) in absurd (omega (arith, lt, at))

        slots : (x : ℕ) (v : Value) → x < length bs.locals → slice_get (new_slots D bs.locals vs) x ≡ Some v → SomeRel (into K) v (slice_get (new_slots D bt.locals ws) x)
        slots x v lt e = slots_both D (into K) bs.locals bt.locals vs ws (values_up (into F) (into K) (stand_sub F s1.next i none) vs ws hv) long.types long.first long.is_first x v e

        abbrev n2 : Memory
        n2 = open_frame k2 s2.next (new_slots D bt.locals ws)

        abbrev n1 : Memory
        n1 = open_frame k1 s1.next (new_slots D bs.locals vs)

        own_new : Own K n2 n1 (new_control fn s2.next d2) (new_control fn s1.next d1)
        own_new = record {
          function = refl;
          block = refl;
          place = refl;
          body = bs;
          is_body = is1;
          ghost = stand_new F s1.next i;
          dest = dests_up X F s1.next i none d1 d2 hd;
          calm = refl;
          far = λ b k e q. omega arith;
          shape = λ e j q at. inl (ends_new e j q at);
          alone = λ e x z u q k. only_new e x z q;
          room = λ b is x t at. (let same : bt ≡ b = some_val (sym is2 ∙ is) in let (w, s) = slot_there D bt.locals ws x t (ap (λ (b : TypedBody). slice_get b.locals x) same ∙ at) in (w, open_same k2 s2.next (new_slots D bt.locals ws) x ∙ s));
        }

        pub entered_rel : Rel (record s2 { memory = n2; top = new_control fn s2.next d2; callers = c2 ∷ s2.callers; next = suc s2.next }) (record s1 { memory = n1; top = new_control fn s1.next d1; callers = c1 ∷ s1.callers; next = suc s1.next })
        entered_rel = record {
          stands = K;
          fresh = λ e le. stand_old F s1.next i e (λ z. omega (arith, z, le)) ∙ r.fresh e (omega (arith, le));
          low = low_new;
          answers = r.answers;
          trace = r.trace;
          link = open_both F k2 k1 s1.next i (new_slots D bs.locals vs) none l (new_slots D bt.locals ws) refl r.low slots;
          stack = (omega arith, inl (new_control fn s1.next d1, c1 ∷ s1.callers, refl, own_new, stack_onward X K s2.next k2 k1 n2 n1 (c2 ∷ s2.callers) (c1 ∷ s1.callers) (onward_open F k2 k1 s1.next i (new_slots D bt.locals ws) (new_slots D bs.locals vs)) (stack_up X F s1.next i none k2 k1 s2.next (c2 ∷ s2.callers) (c1 ∷ s1.callers) (omega arith) st)));
        }

      pub call_rel : (d2 d1 : Dest) (q : Callee) (vs ws : List Value) (x : Next) → ValuesRel (into F) vs ws → DestRel (into F) d1 d2 → call C1 s1 k1 c1 d1 q vs ≡ Some x → Follows (call C2 s2 k2 c2 d2 q ws) x
      unfolding call enter entered
      call_rel d2 d1 (callee.Local fn) vs ws x hv hd e =
          let (bs, e1, e2) = bind_some e in
          let (bt, q1, long) = pairs fn.0 bs e1 in
          follows_by _ _ x (some_bind _ q1 refl) (follows_at _ x _ e2 (_, refl, entered_rel fn.0 bt bs e1 q1 long vs ws hv (Some d2) (Some d1) hd))
      call_rel d2 d1 (callee.Outside o) vs ws x hv hd e =
          let (out, e1, e2) = bind_some e in
          let (ns, e3, e4) = bind_some e2 in
          follows_by _ _ x (some_bind _ e1 (some_bind _ (numbers_same (into F) vs ws ns hv e3) (ap (λ an. ask D s2 k2 c2 d2 o.0 ns out.result an) r.answers))) (ask_rel d2 d1 o.0 ns out.result s1.answers x hd e4)

    -- ---- a return, to the frames below a number

    module _ (n : ℕ) (below : n ≤ s2.next) (k2 k1 : Memory) (l : Linked (into F) (into F) k2 k1) where
      pub return_rel : (d2 d1 : Option Dest) (cs2 cs : List Control) (v w : Value) (x : Next) → Stack F k2 k1 n cs2 cs → DestsRel (into F) d1 d2 → ValueRel (into F) v w → return_to D s1 k1 d1 cs v ≡ Some x → Flat x → Follows (return_to D s2 k2 d2 cs2 w) x
      unfolding return_to
      return_rel d2 d1 [] cs v w x st hd hv e fl =
          let e' : return_to D s1 k1 d1 [] v ≡ Some x = subst (λ cs. return_to D s1 k1 d1 cs v ≡ Some x) st e in
          let same : stop (returned v) ≡ x = some_val e' in
          subst (λ z. Follows (Some (stop (returned w))) z) same (ap (λ u. Some (stop (returned u))) (sym (plain_same (into F) v w (subst Flat (sym same) fl) hv)))
      return_rel d2 d1 (c2 ∷ cs2) cs v w x st hd hv e fl =
          let (c1, ds, q, calm) = head F k2 k1 n c2 cs2 cs st in
          pop d2 d1 c1 ds calm (subst (Stack F k2 k1 n (c2 ∷ cs2)) q st) hd (subst (λ cs. return_to D s1 k1 d1 cs v ≡ Some x) q e)
        where
          pop : (d2 d1 : Option Dest) (c1 : Control) (ds : List Control) → c1.dropping ≡ None → Stack F k2 k1 n (c2 ∷ cs2) (c1 ∷ ds) → DestsRel (into F) d1 d2 → return_to D s1 k1 d1 (c1 ∷ ds) v ≡ Some x → Follows (return_to D s2 k2 d2 (c2 ∷ cs2) w) x
          pop None None c1 ds calm st hd e = absurd (let z = sym (no_drop D (record s1 { memory = k1; callers = ds }) c1 calm) ∙ e in grind arith)
          pop (Some d2) (Some d1) c1 ds calm st hd e =
              let (m1, e1, e2) = bind_some e in
              let (m2, q, l') = store_rel D (into F) (into F) k2 k1 m1 d1 d2 v w hd hv l e1 in
              let o = store_both D [] [] 0 0 (into F) (into F) (λ f x r e. e) (λ m2 m1. Onward F n k2 k1 m2 m1) (λ k2' k1' a b v w x u. onward_both F n k2 k1 k2' k1' a b v w x u) (λ k2' k1' a v. onward_alone F n k2 k1 k2' k1' a v) k2 k1 m2 m1 d1 d2 v w hd e1 q (onward_refl F n k2 k1) in
              follows_by _ _ x (some_bind _ q refl) (follows_at _ x _ e2 (_, refl, record { stands = F; fresh = r.fresh; low = r.low; answers = r.answers; trace = r.trace; link = l'; stack = stack_more F m2 m1 n s2.next (c2 ∷ cs2) (c1 ∷ ds) below (stack_onward X F n k2 k1 m2 m1 (c2 ∷ cs2) (c1 ∷ ds) o st) }))
          pop None (Some d1) c1 ds calm st hd e = absurd hd
          pop (Some d2) None c1 ds calm st hd e = absurd hd
