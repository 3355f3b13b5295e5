-- The call that is replaced: the source opens the callee's frame, and the target goes to the callee's blocks.
use Rattle.std.proofs.Common.{◌≡◌, ◌⊎◌, inl, inr, refl, sym, ap, ◌∙◌, subst, ℕ, zero, suc, ◌+◌, ◌-◌, ◌<◌, ◌≤◌, Bool, true, false, nat_eq, List, [], ◌∷◌, length, Option, Some, None, slice_get, arith}
use Rattle.std.proofs.lemmas.Option.{slice_get_past}
use Rattle.std.proofs.lemmas.List.{length-append}
use Rattle.mir_syntax.specs.declared.body.Place.{Place}
use Rattle.mir_syntax.specs.declared.body.Term.TheVariants.{Goto}
use Rattle.mir_syntax.specs.Tree.{Tree}
use Rattle.mir_syntax.specs.Crate.{TypedBody}
use Rattle.mir_syntax.specs.Shapes.{place_ty}
use Rattle.mir_semantics.specs.Values.{Value, pointer, blank}
use Rattle.mir_semantics.specs.Memory.{Memory, local_at, open_frame}
use Rattle.mir_semantics.specs.Step.{Code, Dest, State, Next, on, stop, fail, Here, type_of, dest_of, read_all, to_block, new_slots, finish, perform, step}
use Rattle.mir_syntax.specs.Parts.{has_deref}
use Rattle.mir_rules.proofs.Terminators.{slice_get_there}
use Rattle.mir_renaming.specs.Renaming.{Renaming, ValueRel, SomeRel}
use Rattle.mir_syntax.proofs.Binds.{bind_some, some_bind}
use Rattle.mir_renaming.proofs.Memory.{same_or_not}
use Rattle.mir_renaming.proofs.Statements.{Linked, PlaceRel, OperandsRel}
use Rattle.mir_renaming.proofs.Ghosts.{value_mono}
use Rattle.mir_renaming.proofs.Frames.{open_other, new_control}
use Rattle.mir_relate.specs.Simulation.{keep_on, moves}
use Rattle.mir_relate.proofs.Leaves.{some_val}
use Rattle.inline_pass.specs.Spliced.{kept, handed}
use Rattle.inline_pass.proofs.refines.Into.{Into, Stands, placed, into, stand, stand_new, stand_old, stand_sub, into_parts, open_inner, new_apart}
use Rattle.inline_pass.proofs.refines.Stacks as stacks
use Rattle.inline_pass.proofs.refines.Stacks.{Onward, onward_trans, stack_onward, stack_up, dests_up, held_up, stays}
use Rattle.inline_pass.proofs.refines.Onwards.{exec_all, StandFrom, farther, all_move}
use Rattle.inline_pass.proofs.refines.Slots.{slot_cases}
use Rattle.inline_pass.proofs.Bodies.{stand_end, extra, calling, copy_locals, kept_there, call_block}
use Rattle.inline_pass.proofs.refines.Hand.{Writes, writes_trans, writes_wide, writes_onward, exec_more, hand}
use Rattle.inline_pass.proofs.refines.Keep.{keep, Kept}
use Rattle.inline_pass.proofs.refines.Setting.{Setting, words, Moment, seen, is1}

pub moves_last : (C : Code) (k : ℕ) (s s' t : State) → moves C k s ≡ Some s' → step C s' ≡ Some (on t) → moves C (suc k) s ≡ Some t
moves_last C zero s s' t e f = ap (keep_on (moves C 0)) (subst (λ s. step C s ≡ Some (on t)) (sym (some_val e)) f)
moves_last C (suc k) s s' t e f = go (step C s) refl e (λ s0 e. moves_last C k s0 s' t e f)
  where
    go : (o : Option Next) → step C s ≡ o → keep_on (moves C k) o ≡ Some s' → ((s0 : State) → moves C k s0 ≡ Some s' → moves C (suc k) s0 ≡ Some t) → keep_on (moves C (suc k)) (step C s) ≡ Some t
    go None q e ih = absurd (grind arith)
    go (Some (on s0)) q e ih = ap (keep_on (moves C (suc k))) q ∙ ih s0 e
    go (Some (stop o)) q e ih = absurd (grind arith)
    go (Some (fail o)) q e ih = absurd (grind arith)

pub diff : (n z : ℕ) → n ≤ z → (y : ℕ) × (n + y ≡ z)
diff n z le = (z - n, omega (arith, le))

pub dest_typed : (a : Here) (m : Memory) (p : Place) (to : Dest) → dest_of a m p ≡ Some to → (t : Tree) × (place_ty a.shapes a.locals p ≡ Some t)
unfolding dest_of type_of
dest_typed a m p to e =
    let (b, e1, e2) = bind_some e in
    let (t, e3, e4) = bind_some e2 in
    (t, e3)

-- the source alone opens a frame that stands in a frame of the target
pub onward_inner : (F : Stands) (m2 m1 : Memory) (n : ℕ) (i : Into) (vs1 : List Value) → Onward (stand F n i) i.frame m2 m1 m2 (open_frame m1 n vs1)
onward_inner F m2 m1 n i vs1 = record {
  room = λ a x w l e. (w, e);
  back = λ e x a z u q l k. (u, sym (open_other m1 n vs1 e x (λ s. new_apart F n i e x a z q l s)) ∙ k);
  stay = λ a z w l free e. e;
}

module _ (S : Setting) where
  open S use {bodies2, f, i, k, is_k, p, os, next, is2, few, result}
  open words S use {X, X.{g}, C1, C2, D, b1, h, bt, B, L, d, Rel, Stack, Own, Inner}

  -- what the types of the target's states give
  abbrev pub Fits : State → Type 0
  Fits s = (x : ℕ) (t : Tree) (w : Value) → slice_get bt.locals x ≡ Some t → local_at s.memory s.top.frame x ≡ Some w → (j : Renaming) → ValueRel j (blank D t) w

  module _ (now : Moment S) (own : Own now.r.stands now.s2.memory now.s1.memory now.s2.top now.s1.top) (more : Stack now.r.stands now.s2.memory now.s1.memory now.s2.top.frame now.s2.callers now.s1.callers) (in_f : now.s1.top.function ≡ f) (at_i : now.s1.top.block ≡ i) (at_end : now.s1.top.at ≡ length k.stmts) where
    open now use {s2, s1, r, below}
    open seen S now use {F, J, a0}

    abbrev A1 : Here
    A1 = record { shapes = D; locals = b1.locals; frame = s1.top.frame }

    abbrev A2 : Here
    A2 = record { shapes = D; locals = bt.locals; frame = a0 }

    ghost : F s1.top.frame ≡ Some (record { frame = a0; offset = 0; size = L })
    ghost = own.ghost ∙ ap (λ (b : TypedBody). Some (record { frame = a0; offset = 0; size = length b.locals })) (some_val (sym own.is_body ∙ ap (slice_get C1.bodies) in_f ∙ is1 S))

    -- what stands in the frame stands below the callee's locals
    low : (e x z : ℕ) (u : Value) → into F e x ≡ Some (a0, z) → local_at s1.memory e x ≡ Some u → z < L
    low e x z u q live =
        let same = own.alone e x z u q live in
        let (j, is, lt, _, at) = into_parts F e x a0 z q in
        let this : j ≡ record { frame = a0; offset = 0; size = L } = some_val (sym is ∙ ap F same ∙ ghost) in
        let lt' : x < L = subst (λ (j : Into). x < j.size) this lt in
        let at' : 0 + x ≡ z = subst (λ (j : Into). j.offset + x ≡ z) this at in
        omega (arith, lt', at')

    low_more : (m : ℕ) → L ≤ m → (e x z : ℕ) (u : Value) → into F e x ≡ Some (a0, z) → local_at s1.memory e x ≡ Some u → z < m
    low_more m le e x z u q live = let l = low e x z u q live in omega (arith, l, le)

    room : (x : ℕ) (t : Tree) → slice_get bt.locals x ≡ Some t → (w : Value) × (local_at s2.memory a0 x ≡ Some w)
    room x t e = own.room bt (ap (slice_get bodies2) (own.function ∙ in_f) ∙ is2) x t e

    -- the arguments' locals
    arg_ty : (z : ℕ) → suc L ≤ z → z < suc L + length os → (t : Tree) × (slice_get bt.locals z ≡ Some t)
    arg_ty z a b = go (diff L z (omega (arith, a)))
      where
        go : (y : ℕ) × (L + y ≡ z) → (t : Tree) × (slice_get bt.locals z ≡ Some t)
        go (y, q) =
            let (t, at) = slice_get_there h.locals y (omega (arith, few, q, b)) in
            (t, ap (slice_get bt.locals) (sym q) ∙ copy_locals b1 h i k is_k p os next y t at)

    -- ---- the target's moves

    module _ (pl : PlaceRel D b1.locals bt.locals s1.top.frame a0 J J (λ f x r e. e) J p p) (ops : OperandsRel D b1.locals bt.locals s1.top.frame a0 J J (λ f x r e. e) os os) (to : Dest) (args : List Value × Memory) (e_to : dest_of A1 s1.memory p ≡ Some to) (e_args : read_all A1 s1.memory os ≡ Some args) where
      pub record Before : Type 0 where
        pub memory : Memory
        pub runs : exec_all A2 s2.memory (extra b1 h i k is_k p os next) ≡ Some memory
        pub link : Linked J J memory args.1
        pub writes : Writes F s2.next a0 0 (suc d) s2.memory s1.memory memory args.1
        pub slots : (y : ℕ) (v : Value) → slice_get args.0 y ≡ Some v → SomeRel J v (local_at memory a0 (suc L + y))
        pub held : stacks.Held X (has_deref p.proj) F memory to a0 s1.top.frame

      before : Before
      before =
          let (k2, e1, l1, w1, kept1) = keep D F s2.next b1.locals bt.locals s1.top.frame a0 below p d to s2.memory s1.memory r.link (low_more d (omega arith)) pl (λ t e q. kept_there b1 h i k is_k p os next q t (result t e)) there e_to in
          let low1 = low_more (suc L) (omega arith) in
          let (m2, e2, l2, w2, slots) = hand D F s2.next b1.locals bt.locals s1.top.frame a0 below (suc L) os (suc L) (suc L + length os) k2 s1.memory args ops l1 low1 (omega arith) (omega arith) arg_ty (λ z a b. (let (t, is) = arg_ty z a b in let (w, at) = room z t is in w1.room a0 z w below at)) e_args in
          record {
            memory = m2;
            runs = exec_more A2 s2.memory (kept d p) (handed (suc L) os) k2 m2 e1 e2;
            link = l2;
            writes = writes_trans F s2.next a0 0 (suc d) s2.memory s1.memory k2 s1.memory m2 args.1 (writes_wide F s2.next a0 d (suc d) 0 (suc d) s2.memory s1.memory k2 s1.memory (omega arith) (omega arith) w1) (writes_wide F s2.next a0 (suc L) (suc L + length os) 0 (suc d) k2 s1.memory m2 args.1 (omega arith) (omega (arith, few)) w2);
            slots = slots;
            held = held (has_deref p.proj) k2 m2 (λ w at. w2.stay a0 d w below (λ _ a b. omega (arith, few, b)) (λ e x u q live. (let z = low_more d (omega arith) e x d u q live in omega (arith, z))) at) kept1;
          }
        where
          there : has_deref p.proj ≡ true → (w : Value) × (local_at s2.memory a0 d ≡ Some w)
          there q = let (t, is) = dest_typed A1 s1.memory p to e_to in room d _ (kept_there b1 h i k is_k p os next q t (result t is))

          held : (c : Bool) (k2 m2 : Memory) → ((w : Value) → local_at k2 a0 d ≡ Some w → local_at m2 a0 d ≡ Some w) → Kept D F s2.next b1.locals bt.locals s1.top.frame a0 below p d c k2 to → stacks.Held X c F m2 to a0 s1.top.frame
          held false k2 m2 same q = q
          held true k2 m2 same (b, t, at, ab, ty, gu) = (b, t, same (pointer b) at, ab, ty, gu)

      -- ---- the source's step, and the frames after it

      abbrev new : Into
      new = record { frame = a0; offset = L; size = length h.locals }

      abbrev K : Stands
      K = stand F s1.next new

      none : F s1.next ≡ None
      none = r.fresh s1.next (omega arith)

      abbrev vs1 : List Value
      vs1 = new_slots D h.locals args.0

      abbrev n1 : Memory
      n1 = open_frame args.1 s1.next vs1

      abbrev after1 : State
      after1 = record s1 { memory = n1; top = new_control g s1.next (Some to); callers = to_block next s1.top ∷ s1.callers; next = suc s1.next }

      abbrev pub after2 : Memory → State
      after2 m = record s2 { memory = m; top = to_block B (farther s2.top (length (extra b1 h i k is_k p os next))) }

      low_args : (m2 : Memory) → Writes F s2.next a0 0 (suc d) s2.memory s1.memory m2 args.1 → (e x z : ℕ) (u : Value) → into F e x ≡ Some (a0, z) → local_at args.1 e x ≡ Some u → z < L
      low_args m2 w e x z u q live = let (u', live') = w.back e x a0 z u q below live in low e x z u' q live'

      link_after : (b : Before) → Fits (after2 b.memory) → Linked (into K) (into K) b.memory n1
      link_after b fits = open_inner F b.memory args.1 s1.next new vs1 none b.link free slots
        where
          free : (e x z : ℕ) (u : Value) → into F e x ≡ Some (a0, z) → local_at args.1 e x ≡ Some u → (y : ℕ) → y < length h.locals → L + y ≡ z → ⊥
          free e x z u q live y lt at = let z' = low_args b.memory b.writes e x z u q live in omega (arith, z', at)

          slots : (x : ℕ) (v : Value) → x < length h.locals → slice_get vs1 x ≡ Some v → SomeRel (into K) v (local_at b.memory a0 (L + x))
          slots x v lt e = go (slot_cases D h.locals args.0 x v e)
            where
              go : ((y : ℕ) × (x ≡ suc y) × (slice_get args.0 y ≡ Some v)) ⊎ ((t : Tree) × ((x ≡ 0) ⊎ (length args.0 < x)) × (slice_get h.locals x ≡ Some t) × (blank D t ≡ v)) ⊎ (h.locals ≡ []) → SomeRel (into K) v (local_at b.memory a0 (L + x))
              go (inl (y, q, at)) =
                  let (w, is, rel) = b.slots y v at in
                  let z : suc L + y ≡ L + x = omega (arith, q) in
                  (w, subst (λ z. local_at b.memory a0 z ≡ Some w) z is, value_mono (into F) (into K) (stand_sub F s1.next new none) v w rel)
              go (inr (inl (t, _, ty, q))) =
                  let is = copy_locals b1 h i k is_k p os next x t ty in
                  let (w0, at0) = room (L + x) t is in
                  let (w, at) = b.writes.room a0 (L + x) w0 below at0 in
                  (w, at, subst (λ v. ValueRel (into K) v w) q (fits (L + x) t w is at (into K)))
              go (inr (inr q)) = absurd (let z : length h.locals ≡ 0 = ap length q in omega (arith, z, lt))

      alone_after : (b : Before) (e x z : ℕ) (u : Value) → into K e x ≡ Some (a0, z) → local_at n1 e x ≡ Some u → (e ≡ s1.next) ⊎ (e ≡ s1.top.frame)
      alone_after b e x z u q live = go (same_or_not s1.next e)
        where
          go : ((nat_eq s1.next e ≡ true) × (s1.next ≡ e)) ⊎ ((nat_eq s1.next e ≡ false) × (s1.next ≡ e → ⊥)) → (e ≡ s1.next) ⊎ (e ≡ s1.top.frame)
          go (inl y) = inl (sym y.1)
          go (inr y) =
              let q' : into F e x ≡ Some (a0, z) = sym (ap (placed x) (stand_old F s1.next new e y.1)) ∙ q in
              let (u', live') = b.writes.back e x a0 z u q' below (sym (open_other args.1 s1.next vs1 e x y.1) ∙ live) in
              inr (own.alone e x z u' q' live')

      ends_after : (e : ℕ) (j : Into) → K e ≡ Some j → j.frame ≡ a0 → j.offset + j.size ≤ d
      ends_after e j q at = go (same_or_not s1.next e)
        where
          long : length own.body.locals ≡ L
          long = ap (λ (b : TypedBody). length b.locals) (some_val (sym own.is_body ∙ ap (slice_get C1.bodies) in_f ∙ is1 S))

          old : (j.offset + j.size ≤ length own.body.locals) ⊎ (j.offset + j.size ≤ d) → j.offset + j.size ≤ d
          old (inl le) = let z = long in omega (arith, le, z)
          old (inr le) = le

          go : ((nat_eq s1.next e ≡ true) × (s1.next ≡ e)) ⊎ ((nat_eq s1.next e ≡ false) × (s1.next ≡ e → ⊥)) → j.offset + j.size ≤ d
          go (inl y) = let same : new ≡ j = some_val (sym (stand_new F s1.next new) ∙ ap K y.1 ∙ q) in subst (λ (j : Into). j.offset + j.size ≤ d) same (omega arith)
          go (inr y) = old (own.shape e j (sym (stand_old F s1.next new e y.1) ∙ q) at)

      inner_after : (b : Before) → Inner K b.memory n1 (after2 b.memory).top after1.top (to_block next s1.top)
      inner_after b = record {
        function2 = own.function ∙ in_f;
        function1 = refl;
        function0 = in_f;
        block = omega arith;
        place = refl;
        block0 = refl;
        place0 = refl;
        ghost1 = stand_new F s1.next new;
        ghost0 = stays X F s1.next new none s1.top.frame _ ghost;
        dest = dests_up X F s1.next new none s1.top.dest s2.top.dest own.dest;
        calm1 = refl;
        calm0 = refl;
        far = λ b k e q. omega arith;
        shape = λ e j q at. inr (ends_after e j q at);
        alone = alone_after b;
        room = λ c is x t at. (let (w, e) = own.room c is x t at in b.writes.room a0 x w below e);
        to = to;
        is_to = refl;
        held = held_up X F s1.next new none (has_deref p.proj) b.memory to a0 s1.top.frame b.held;
      }

      low_after : (e : ℕ) (j : Into) → K e ≡ Some j → j.frame < s2.next
      low_after e j q = go (same_or_not s1.next e)
        where
          go : ((nat_eq s1.next e ≡ true) × (s1.next ≡ e)) ⊎ ((nat_eq s1.next e ≡ false) × (s1.next ≡ e → ⊥)) → j.frame < s2.next
          go (inl z) = let same : new ≡ j = some_val (sym (stand_new F s1.next new) ∙ ap K z.1 ∙ q) in subst (λ (j : Into). j.frame < s2.next) same below
          go (inr z) = r.low e j (sym (stand_old F s1.next new e z.1) ∙ q)

      pub rel_after : (b : Before) → Fits (after2 b.memory) → Rel (after2 b.memory) after1
      rel_after b fits = record {
        stands = K;
        fresh = λ e le. stand_old F s1.next new e (λ z. omega (arith, z, le)) ∙ r.fresh e (omega (arith, le));
        low = low_after;
        answers = r.answers;
        trace = r.trace;
        link = link_after b fits;
        stack = (below, inr (after1.top, to_block next s1.top, s1.callers, refl, inner_after b, stack_onward X K a0 s2.memory s1.memory b.memory n1 s2.callers s1.callers (onward_trans K a0 s2.memory s1.memory b.memory args.1 b.memory n1 lower (onward_inner F b.memory args.1 s1.next new vs1)) (stack_up X F s1.next new none s2.memory s1.memory a0 s2.callers s1.callers (omega arith) more)));
      }
        where
          lower : Onward K a0 s2.memory s1.memory b.memory args.1
          lower =
              let o = writes_onward F s2.next a0 0 (suc d) s2.memory s1.memory b.memory args.1 below b.writes in
              record { room = o.room; back = λ e x a z u q l live. o.back e x a z u (old e x a z l q) l live; stay = λ a z w l free at. o.stay a z w l (λ e x q. free e x (stand_sub F s1.next new none e x _ q)) at }
            where
              old : (e x a z : ℕ) → a < a0 → into K e x ≡ Some (a, z) → into F e x ≡ Some (a, z)
              old e x a z l q = stacks.below_old X F s1.next new none e x a z l q

      moved : (b : Before) → moves C2 (suc (length (extra b1 h i k is_k p os next))) s2 ≡ Some (after2 b.memory)
      unfolding step perform finish
      moved b =
          let ex = extra b1 h i k is_k p os next in
          let cb = calling b1 h i k is_k p os next in
          let here1 : slice_get bodies2 s2.top.function ≡ Some bt = ap (slice_get bodies2) (own.function ∙ in_f) ∙ is2 in
          let here2 : slice_get bt.blocks s2.top.block ≡ Some cb = ap (slice_get bt.blocks) (own.block ∙ at_i) ∙ call_block b1 h i k is_k p os next in
          let at2 : s2.top.at ≡ length k.stmts = own.place ∙ at_end in
          let (s', e1, e2) = all_move C2 s2 bt cb ex b.memory here1 here2 (subst (λ a. StandFrom cb.stmts a ex) (sym at2) (stand_end k.stmts ex)) b.runs in
          let past : slice_get cb.stmts (s2.top.at + length ex) ≡ None = slice_get_past cb.stmts (s2.top.at + length ex) (let z = length-append k.stmts ex in omega (arith, z, at2)) in
          moves_last C2 (length ex) s2 s' (after2 b.memory) e1 (ap (step C2) e2 ∙ some_bind _ here1 (some_bind _ here2 (ap (λ o. perform C2 (record { shapes = D; locals = bt.locals; frame = a0 }) (record s2 { memory = b.memory; top = farther s2.top (length ex) }) (Goto B) o) past)))

      -- the source's step is followed
      pub site_rel : ((m : Memory) → moves C2 (suc (length (extra b1 h i k is_k p os next))) s2 ≡ Some (after2 m) → Fits (after2 m)) → (m : Memory) × (moves C2 (suc (length (extra b1 h i k is_k p os next))) s2 ≡ Some (after2 m)) × Rel (after2 m) after1
      site_rel typed = let b = before in let e = moved b in (b.memory, e, rel_after b (typed b.memory e))
