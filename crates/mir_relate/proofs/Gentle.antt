-- A step of the source is gentle to the frames below, and results of calls go to fair places: invariants of the source alone.
use Rattle.std.proofs.Common.{◌≡◌, ◌⊎◌, inl, inr, refl, sym, ap, ◌∙◌, subst, ℕ, ◌≤◌, Bool, true, false, nat_eq, ◌&&◌, if◌then◌else◌, List, [], ◌∷◌, ◌++◌, Option, Some, None, slice_get, arith}
use Rattle.mir_syntax.specs.declared.body.Place.{Place}
use Rattle.mir_syntax.specs.declared.body.Operand.{Operand}
use Rattle.mir_syntax.specs.declared.body.Operand.TheVariants as operand
use Rattle.mir_syntax.specs.declared.body.Callee.{Callee}
use Rattle.mir_syntax.specs.declared.body.Callee.TheVariants as callee
use Rattle.mir_syntax.specs.declared.body.Term.{Term}
use Rattle.mir_syntax.specs.declared.body.Term.TheVariants.{Goto, Switch, Return, Unreachable, Drop, Call, Assert}
use Rattle.mir_syntax.specs.Tree.{Tree, scalar, empty}
use Rattle.mir_syntax.specs.Shapes.{Shape, fields_of, needs_drop, destructor_of}
use Rattle.mir_syntax.specs.Crate.{TypedRvalue, «use», binary, overflow, unary, cast, discriminant, tuple, build, TypedStmt, assign, storage_live, storage_dead, set_discriminant, TypedBody, TypedOutside}
use Rattle.mir_syntax.specs.Crate as rvalue
use Rattle.mir_num.specs.Numbers.{wrap, flag}
use Rattle.mir_semantics.specs.Values.{Addr, Value, number, nil, variant, pointer, is_hole, whole, blank, full}
use Rattle.mir_semantics.specs.Memory.{Memory, value_at, write, open_frame, close_frame}
use Rattle.mir_semantics.specs.Step.{Code, Here, Dest, Visit, Dropping, Control, Called, State, returned, aborted, no_answer, Next, on, stop, fail, local_addr, resolve, type_of, guard_of, dest_of, allows, store, read_all, read_number, is_variant, write_unless, exec, go_on, to_block, next_stmt, take_arm, new_slots, entered, enter, calling, answered, ask, call, return_to, visits_of, work_on, visit, visit_unless, visit_if, work_off, destroyed_at, destroyed, check, finish, perform, step}
use Rattle.mir_syntax.specs.Parts.{has_deref}
use Rattle.mir_renaming.specs.Renaming.{Renaming}
use Rattle.mir_syntax.proofs.Binds.{bind_some}
use Rattle.mir_renaming.proofs.Statements.{only_true}
use Rattle.mir_renaming.proofs.Types.{TypeMap, AddrTy, HasTy, MemTy, write_ty, resolve_ty, eval_ty, dest_ty, read_at_ty, value_at_ty, StmtTy, is_scalar}
use Rattle.mir_renaming.proofs.Typed.{Typed, TermTy, CalleeTy, AskTy, close_ty}
use Rattle.mir_renaming.proofs.Frames.{open_other, close_other}
use Rattle.mir_renaming.proofs.Walks.{walk_plain}
use Rattle.mir_renaming.proofs.Items.{step_parts, DropPlain, Own, Owns, Drops, begun_own}
use Rattle.mir_relate.specs.Alike.{Between, Sides}
use Rattle.mir_relate.specs.Mild.{Gentle, FairDest, FairDests}
use Rattle.mir_relate.specs.Frames.{Change}
use Rattle.mir_relate.specs.Pass.{MoveOk, AllMoves, RvalueMoves, StmtMoves, TermMoves, Valids, GentleTo}
use Rattle.mir_relate.proofs.Leaves.{some_val}
use Rattle.mir_relate.proofs.Mild.{gentle_none, gentle_then, gentle_less, gentle_same, gentle_above, gentle_write}
use Rattle.mir_relate.proofs.Wholes.{read_at_whole, eval_whole}
use Rattle.mir_relate.proofs.Alone.{Spends, AllSpend, RvalueSpends, all_alone, number_alone, eval_alone}
use Rattle.mir_relate.proofs.Single.{set_blank_is}

plain_frame : (h : Here) (m : Memory) (p : Place) (a : Addr) → has_deref p.proj ≡ false → resolve h m p ≡ Some a → a.frame ≡ h.frame
unfolding resolve local_addr
plain_frame h m p a hd e = (walk_plain p.proj m _ a hd e).0

-- a destination of a frame is fair to it
dest_fair : (h : Here) (m : Memory) (p : Place) (t : Tree) (d : Dest) → type_of h p ≡ Some t → dest_of h m p ≡ Some d → FairDest h.shapes h.frame t d
unfolding dest_of guard_of
dest_fair h m p t d et e =
    let (a, e1, k1) = bind_some e in
    let (u, e2, k2) = bind_some k1 in
    let ut : u ≡ t = some_val (sym e2 ∙ et) in
    subst (FairDest h.shapes h.frame t) (some_val k2) (subst (λ u. FairDest h.shapes h.frame t (record { addr = a; guard = if has_deref p.proj && needs_drop h.shapes u then Some u else None })) (sym ut) (go a e1 (has_deref p.proj) (needs_drop h.shapes t) refl refl))
  where
    go : (a : Addr) → resolve h m p ≡ Some a → (b c : Bool) → has_deref p.proj ≡ b → needs_drop h.shapes t ≡ c → FairDest h.shapes h.frame t (record { addr = a; guard = if b && c then Some t else None })
    go a e1 false c q n = inl (plain_frame h m p a q e1)
    go a e1 true false q n = inr (inl n)
    go a e1 true true q n = inr (inr refl)

module _ (X : Change) (V : Valids X) where
  abbrev C : Code
  C = X.source

  abbrev E : List Shape
  E = X.source.shapes

  -- a store of a whole value at a fair place
  store_gentle : (G : TypeMap) (n k : ℕ) (m m' : Memory) (d : Dest) (t : Tree) (v : Value) → n ≤ k → MemTy E G m → FairDest E k t d → AddrTy E G d.addr t → HasTy E G t v → whole v ≡ true → store E m d v ≡ Some m' → Gentle E G n m' m
  unfolding store
  store_gentle G n k m m' d t v le mt fd at hv wh e =
      let (old, e1, k1) = bind_some e in
      let (ok, same) = only_true (allows E d.guard old) (write m d.addr v) m' k1 in
      subst (λ m'. Gentle E G n m' m) same (gentle_write E G n m d.addr v old t at e1 hv (fair old e1 ok fd))
    where
      fair : (old : Value) → value_at m d.addr ≡ Some old → allows E d.guard old ≡ true → FairDest E k t d → (n ≤ d.addr.frame) ⊎ (needs_drop E t ≡ false) ⊎ (full E t old ≡ true) × (whole v ≡ true) × HasTy E G t old
      fair old ev ok (inl q) = inl (omega (arith, le, q))
      fair old ev ok (inr (inl nd)) = inr (inl nd)
      fair old ev ok (inr (inr g)) = inr (inr (subst (λ g. allows E g old ≡ true) g ok, wh, value_at_ty E G m d.addr t old mt at ev))

  -- ---- what a frame reads and writes

  module _ (G : TypeMap) (bo : TypedBody) (f : ℕ) (lok : (x : ℕ) (t : Tree) → slice_get bo.locals x ≡ Some t → G f x ≡ Some t) where
    abbrev H : Here
    H = record { shapes = E; locals = bo.locals; frame = f }

    abbrev bok : (t : Tree) → HasTy E G t (blank E t)
    bok = V.valid1.blank_ok G

    module _ (m0 : Memory) where
      abbrev none : Renaming
      none h x = None

      abbrev S : Sides
      S = record { target = H; source = H; lent = none }

      -- the other memory plays no part
      abbrev Q : Between
      Q m2 m1 = Gentle E G f m1 m0 × MemTy E G m1

      start : MemTy E G m0 → Q m0 m0
      start mt = (gentle_none E G f m0, mt)

      clear : (p : Place) → MoveOk H (operand.Move p) → (m2 m1 : Memory) (a : Addr) (t : Tree) (v : Value) → Q m2 m1 → resolve H m1 p ≡ Some a → type_of H p ≡ Some t → value_at m1 a ≡ Some v → Q m2 (write m1 a (blank E t))
      clear p ok m2 m1 a t v q e et ev =
          let at = resolve_ty E G bok bo.locals f lok m1 p a t q.1 et e in
          (gentle_then E G f m0 m1 (write m1 a (blank E t)) q.0 (gentle_write E G f m1 a (blank E t) v t at ev (bok t) (fair (has_deref p.proj) refl)), write_ty E G m1 a t (blank E t) q.1 at (bok t))
        where
          fair : (b : Bool) → has_deref p.proj ≡ b → (f ≤ a.frame) ⊎ (needs_drop E t ≡ false) ⊎ (full E t v ≡ true) × (whole (blank E t) ≡ true) × HasTy E G t v
          fair true h = inr (inl (ok h t et))
          fair false h = inl (let z = plain_frame H m1 p a h e in omega (arith, z))

      spends : (o : Operand) → MoveOk H o → Spends S Q o
      spends (operand.Copy p) h = tt
      spends (operand.Move p) h = record { clears = clear p h }
      spends (operand.Const c) h = tt

      all_spend : (os : List Operand) → AllMoves H os → AllSpend S Q os
      all_spend [] h = tt
      all_spend (o ∷ os) h = (spends o h.0, all_spend os h.1)

      rvalue_spends : (x : TypedRvalue) → RvalueMoves H x → RvalueSpends S Q x
      rvalue_spends («use» o) h = spends o h
      rvalue_spends (binary op a b) h = (spends a h.0, spends b h.1)
      rvalue_spends (overflow op a b) h = (spends a h.0, spends b h.1)
      rvalue_spends (unary op a) h = spends a h
      rvalue_spends (cast a t) h = spends a h
      rvalue_spends (rvalue.ref p) h = tt
      rvalue_spends (rvalue.ref_mut p) h = tt
      rvalue_spends (discriminant p) h = tt
      rvalue_spends (tuple os) h = all_spend os h
      rvalue_spends (build d k os) h = all_spend os h

      number_gentle : (o : Operand) (r : ℕ × Memory) → MoveOk H o → MemTy E G m0 → read_number H m0 o ≡ Some r → Gentle E G f r.1 m0
      number_gentle o r mo mt e = (number_alone S Q o (spends o mo) m0 m0 r (start mt) e).0

      all_gentle : (os : List Operand) (r : List Value × Memory) → AllMoves H os → MemTy E G m0 → read_all H m0 os ≡ Some r → Gentle E G f r.1 m0
      all_gentle os r mo mt e = (all_alone S Q os (all_spend os mo) m0 m0 r (start mt) e).0

      all_typed : (os : List Operand) (r : List Value × Memory) → AllMoves H os → MemTy E G m0 → read_all H m0 os ≡ Some r → MemTy E G r.1
      all_typed os r mo mt e = (all_alone S Q os (all_spend os mo) m0 m0 r (start mt) e).1

      exec_gentle : (st : TypedStmt) → StmtMoves H st → StmtTy E G bok bo.locals f lok st → (m' : Memory) → MemTy E G m0 → exec H m0 st ≡ Some m' → Gentle E G f m' m0
      unfolding exec write_unless
      exec_gentle (assign p x) mo (t, pt, xt) m' mt e =
          let (v, e1, k1) = bind_some e in
          let (d, e2, k2) = bind_some k1 in
          let q = eval_alone S Q x (rvalue_spends x mo) m0 m0 v (start mt) e1 in
          let (vt, mt') = eval_ty E G bok bo.locals f lok m0 x t v mt xt e1 in
          gentle_then E G f m0 v.1 m' q.0 (store_gentle G f f v.1 m' d t v.0 (omega arith) mt' (dest_fair H v.1 p t d pt e2) (dest_ty E G bok bo.locals f lok v.1 p t d mt' pt e2) vt (eval_whole E G bok bo.locals f lok m0 x t v xt e1) k2)
      exec_gentle (storage_live x) mo ty m' mt e = let (t, et, same) = set_blank_is H m0 m' x e in subst (λ m'. Gentle E G f m' m0) same (gentle_above E G f m0 (record { frame = f; local = x; path = [] }) (blank E t) (omega arith))
      exec_gentle (storage_dead x) mo ty m' mt e = let (t, et, same) = set_blank_is H m0 m' x e in subst (λ m'. Gentle E G f m' m0) same (gentle_above E G f m0 (record { frame = f; local = x; path = [] }) (blank E t) (omega arith))
      exec_gentle (set_discriminant p i) mo ty m' mt e =
          let (a, e1, k1) = bind_some e in
          let (v, e2, k2) = bind_some k1 in
          let (t, e3, k3) = bind_some k2 in
          let (us, e4, k4) = bind_some k3 in
          let at = resolve_ty E G bok bo.locals f lok m0 p a t mt e3 e1 in
          let new : HasTy E G t (variant i (blank E us)) = (us, e4, bok us) in
          subst (λ m'. Gentle E G f m' m0) (some_val k4) (go a v us (gentle_write E G f m0 a (variant i (blank E us)) v t at e2 new (inr (inl (mo t e3)))) (is_variant i v))
        where
          go : (a : Addr) (v : Value) (us : Tree) → Gentle E G f (write m0 a (variant i (blank E us))) m0 → (b : Bool) → Gentle E G f (write_unless b m0 a (variant i (blank E us))) m0
          go a v us g true = gentle_none E G f m0
          go a v us g false = g

  -- ---- steps

  module _ (s : State) (h : Typed C V.valid1 s) (dr : Drops C s) (fd : FairDests C s.top.function s.top.dest s.callers) where
    abbrev G : TypeMap
    G = h.types

    abbrev F : ℕ
    F = s.top.frame

    abbrev Good : Next → Type 0
    Good (on s') = ((n : ℕ) → n ≤ F → n ≤ s'.top.frame → Gentle E G n s'.memory s.memory) × FairDests C s'.top.function s'.top.dest s'.callers
    Good (stop o) = Unit {0}
    Good (fail t) = Unit {0}

    good_at : (x y : Next) → Some y ≡ Some x → Good y → Good x
    good_at x y e g = subst Good (some_val e) g

    on_good : (m : Memory) (c : Control) (x : Next) → Gentle E G F m s.memory → FairDests C c.function c.dest s.callers → go_on s m c ≡ Some x → Good x
    on_good m c x g fs e = good_at x _ e ((λ n l1 l2. gentle_less E G F n m s.memory l1 g), fs)

    enter_good : (m : Memory) (c : Control) (g : ℕ) (args : List Value) (d : Option Dest) (x : Next) → Gentle E G F m s.memory → FairDests C c.function c.dest s.callers → ((d' : Dest) → d ≡ Some d' → (b : TypedBody) (t : Tree) → slice_get C.bodies g ≡ Some b → slice_get b.locals 0 ≡ Some t → FairDest E c.frame t d') → enter C s m c g args d ≡ Some x → Good x
    unfolding enter entered
    enter_good m c g args d x ge fs hd e =
        let (b, e1, k1) = bind_some e in
        let vs : List Value = new_slots E b.locals args in
        let opened : Gentle E G F (open_frame m s.next vs) m = gentle_same E G F (open_frame m s.next vs) m (λ h' x' t l ty. open_other m s.next vs h' x' (λ p. new h' x' t p ty)) in
        good_at x _ k1 ((λ n l1 l2. gentle_less E G F n (open_frame m s.next vs) s.memory l1 (gentle_then E G F s.memory m (open_frame m s.next vs) ge opened)), (hd, fs))
      where
        new : (h' x' : ℕ) (t : Tree) → s.next ≡ h' → G h' x' ≡ Some t → ⊥
        new h' x' t p ty = (let z : None ≡ Some t = sym (h.fresh h' x' (omega (arith, p))) ∙ ty in grind arith)

    answered_good : (tr : List Called) (an : List ℕ) (c : Control) (o : Option Memory) (x : Next) → ((m' : Memory) → o ≡ Some m' → Gentle E G F m' s.memory) → FairDests C c.function c.dest s.callers → answered (calling s tr an) c o ≡ Some x → Good x
    answered_good tr an c None x hm fs e = good_at x (fail tr) e tt
    answered_good tr an c (Some m') x hm fs e = good_at x _ e ((λ n l1 l2. gentle_less E G F n m' s.memory l1 (hm m' refl)), fs)

    ask_good : (m : Memory) (c : Control) (d : Dest) (o : ℕ) (args : List ℕ) (t : Tree) (answers : List ℕ) (x : Next) → Gentle E G F m s.memory → MemTy E G m → FairDests C c.function c.dest s.callers → FairDest E F t d → AddrTy E G d.addr t → AskTy t → ask E s m c d o args t answers ≡ Some x → Good x
    unfolding ask
    ask_good m c d o args (scalar t) [] x ge mt fs f a q e = good_at x (stop no_answer) e tt
    ask_good m c d o args (scalar t) (n ∷ rest) x ge mt fs f a q e = answered_good _ rest c _ x (λ m' e1. gentle_then E G F s.memory m m' ge (store_gentle G F F m m' d (scalar t) (number (wrap t n)) (omega arith) mt f a refl refl e1)) fs e
    ask_good m c d o args t answers x ge mt fs f a q e = answered_good _ answers c _ x (λ m' e1. gentle_then E G F s.memory m m' ge (store_gentle G F F m m' d t nil (omega arith) mt f a (unit q) refl e1)) fs e
      where
        unit : (is_scalar t ≡ true) ⊎ (t ≡ empty) → fields_of E t ≡ Some empty
        unit (inr z) = ap (fields_of E) z
        unit (inl z) = absurd (grind arith)

    -- a drop that goes on in a frame
    work_on_good : (m : Memory) (cs : List Control) (c : Control) (d : Dropping) (is : List Visit) (x : Next) → ((n : ℕ) → n ≤ F → n ≤ c.frame → Gentle E G n m s.memory) → FairDests C c.function c.dest cs → d.place.addr.frame ≡ c.frame → work_on E (record s { memory = m; callers = cs }) c d is ≡ Some x → Good x
    unfolding work_on
    work_on_good m cs c d [] x ge fs pl e =
        let (old, e1, k1) = bind_some e in
        good_at x _ k1 ((λ n l1 l2. gentle_then E G n s.memory m (write m d.place.addr (blank E d.place.ty)) (ge n l1 l2) (gentle_above E G n m d.place.addr (blank E d.place.ty) (omega (arith, l2, pl)))), fs)
    work_on_good m cs c d (i ∷ is) x ge fs pl e = good_at x _ e (ge, fs)

    destroyed_good : (m : Memory) (cs : List Control) (c : Control) (x : Next) → ((n : ℕ) → n ≤ F → n ≤ c.frame → Gentle E G n m s.memory) → FairDests C c.function c.dest cs → Own C c → destroyed E (record s { memory = m; callers = cs }) c ≡ Some x → Good x
    unfolding destroyed destroyed_at
    destroyed_good m cs c x ge fs own e =
        let (d, e1, k1) = bind_some e in
        let (b, y, lt, eb, ey, pl, its) = own d e1 in
        go d d.items pl.0 k1
      where
        go : (d : Dropping) (is : List Visit) → d.place.addr.frame ≡ c.frame → destroyed_at E (record s { memory = m; callers = cs }) c d is ≡ Some x → Good x
        go d [] pl k = absurd (grind arith)
        go d (i ∷ rest) pl k = let (v, e3, k3) = bind_some k in work_on_good m cs c d (visits_of E i.addr i.ty v ++ rest) x ge fs pl k3

    closed : (n : ℕ) → n ≤ F → Gentle E G n (close_frame s.memory F) s.memory
    closed n le = gentle_same E G n (close_frame s.memory F) s.memory (λ h' x' t l ty. close_other s.memory F h' x' (λ p. absurd (omega (arith, p, l, le))))

    return_good : (v : Value) (t : Tree) (bo : TypedBody) → slice_get C.bodies s.top.function ≡ Some bo → slice_get bo.locals 0 ≡ Some t → HasTy E G t v → whole v ≡ true → (o : Option Dest) (cs : List Control) → ((d : Dest) → o ≡ Some d → AddrTy E G d.addr t) → FairDests C s.top.function o cs → Owns C cs → (x : Next) → return_to E s (close_frame s.memory F) o cs v ≡ Some x → Good x
    unfolding return_to
    return_good v t bo eb rt hv wh o [] at fs os x e = good_at x (stop (returned v)) e tt
    return_good v t bo eb rt hv wh None (c ∷ cs) at fs os x e = destroyed_good (close_frame s.memory F) cs c x (λ n l1 l2. closed n l1) fs.1 os.0 e
    return_good v t bo eb rt hv wh (Some d) (c ∷ cs) at fs os x e =
        let (m', e1, k1) = bind_some e in
        good_at x _ k1 ((λ n l1 l2. gentle_then E G n s.memory (close_frame s.memory F) m' (closed n l1) (store_gentle G n c.frame (close_frame s.memory F) m' d t v l2 (close_ty C V.valid1 G s.memory F h.mem) (fs.0 d refl bo t eb rt) (at d refl) hv wh e1)), fs.1)

    here : (n : ℕ) → n ≤ F → n ≤ F → Gentle E G n s.memory s.memory
    here n l1 l2 = gentle_none E G n s.memory

    visit_good : (d : Dropping) (i : Visit) (rest : List Visit) (v : Value) (g : Option ℕ) (x : Next) → d.place.addr.frame ≡ F → visit C s d i rest v g ≡ Some x → Good x
    unfolding visit
    visit_good d i rest v None x pl e = work_on_good s.memory s.callers s.top d (visits_of E i.addr i.ty v ++ rest) x here fd pl e
    visit_good d i rest v (Some g) x pl e = enter_good s.memory (record s.top { dropping = Some (record d { items = i ∷ rest }) }) g (pointer i.addr ∷ []) None x (gentle_none E G F s.memory) fd (λ d' z. absurd (let y : ◌≡◌ {A = Option Dest} None (Some d') = z in grind arith)) e

    unless_good : (d : Dropping) (i : Visit) (rest : List Visit) (v : Value) (c : Bool) (x : Next) → d.place.addr.frame ≡ F → visit_unless C s d i rest v c ≡ Some x → Good x
    unfolding visit_unless
    unless_good d i rest v true x pl e = work_on_good s.memory s.callers s.top d rest x here fd pl e
    unless_good d i rest v false x pl e = visit_good d i rest v (destructor_of E i.ty) x pl e

    if_good : (d : Dropping) (i : Visit) (rest : List Visit) (c : Bool) (x : Next) → d.place.addr.frame ≡ F → visit_if C s d i rest c ≡ Some x → Good x
    unfolding visit_if
    if_good d i rest false x pl e = work_on_good s.memory s.callers s.top d rest x here fd pl e
    if_good d i rest true x pl e = let (v, e1, k1) = bind_some e in unless_good d i rest v (is_hole v) x pl k1

    work_off_good : (d : Dropping) (is : List Visit) (x : Next) → d.place.addr.frame ≡ F → work_off C s d is ≡ Some x → Good x
    unfolding work_off
    work_off_good d [] x pl e = absurd (grind arith)
    work_off_good d (i ∷ rest) x pl e = if_good d i rest (needs_drop E i.ty) x pl e

    module _ (bo : TypedBody) (eb : slice_get C.bodies s.top.function ≡ Some bo) where
      abbrev HF : Here
      HF = record { shapes = E; locals = bo.locals; frame = F }

      abbrev bokF : (t : Tree) → HasTy E G t (blank E t)
      bokF = V.valid1.blank_ok G

      lokF : (x : ℕ) (t : Tree) → slice_get bo.locals x ≡ Some t → G F x ≡ Some t
      lokF = h.top.locals bo eb

      check_good : (m : Memory) (c : Bool) (words : List ℕ) (os : List Operand) (u : ℕ) (x : Next) → Gentle E G F m s.memory → check HF s m c words os u ≡ Some x → Good x
      unfolding check
      check_good m true words os u x ge e = on_good m (to_block u s.top) x ge fd e
      check_good m false words os u x ge e = let (r, e1, k1) = bind_some e in good_at x (stop (aborted words r.0)) k1 tt

      call_good : (m : Memory) (u : ℕ) (d : Dest) (g : Callee) (os : List Operand) (vs : List Value) (t : Tree) (x : Next) → CalleeTy C HF g os t → Gentle E G F m s.memory → MemTy E G m → FairDest E F t d → AddrTy E G d.addr t → call C s m (to_block u s.top) d g vs ≡ Some x → Good x
      unfolding call
      call_good m u d (callee.Local g) os vs t x (b, eg, rt, ho) ge mt f at e =
          enter_good m (to_block u s.top) g.0 vs (Some d) x ge fd (λ d' z b' t' eb' rt'. (
          let same : d ≡ d' = some_val z in
          let bodies : b' ≡ b = some_val (sym eb' ∙ eg) in
          let types : t ≡ t' = some_val (sym rt ∙ ap (λ (b : TypedBody). slice_get b.locals 0) (sym bodies) ∙ rt') in
          subst (λ t. FairDest E F t d') types (subst (FairDest E F t) same f))) e
      call_good m u d (callee.Outside o) os vs t x (out, eo, rt, ho) ge mt f at e =
          let (out', e1, k1) = bind_some e in
          let (ns, e2, k2) = bind_some k1 in
          let same : t ≡ out'.result = sym rt ∙ ap (λ (o : TypedOutside). o.result) (some_val (sym eo ∙ e1)) in
          ask_good m (to_block u s.top) d o.0 ns out'.result s.answers x ge mt fd (subst (λ t. FairDest E F t d) same f) (subst (AddrTy E G d.addr) same at) (V.valid1.asks o.0 out' e1) k2

      finish_good : (t : Term) (x : Next) → TermMoves HF t → TermTy C HF t → DropPlain t → finish C HF s t ≡ Some x → Good x
      unfolding finish local_addr
      finish_good (Goto u) x mo ty hd e = on_good s.memory (to_block u s.top) x (gentle_none E G F s.memory) fd e
      finish_good (Switch o arms u) x mo ty hd e =
          let (r, e1, k1) = bind_some e in
          on_good r.1 (to_block (take_arm r.0 arms u) s.top) x (number_gentle G bo F lokF s.memory o r mo h.mem e1) fd k1
      finish_good Return x mo ty hd e =
          let (v, e1, k1) = bind_some e in
          let (t, rt) = V.valid1.result s.top.function bo eb in
          let hv = read_at_ty E G bokF bo.locals F lokF s.memory (record { frame = F; local = 0; path = [] }) t v h.mem (record { local = t; is = lokF 0 t rt; path = refl }) e1 in
          return_good v t bo eb rt hv (read_at_whole s.memory (record { frame = F; local = 0; path = [] }) v e1) s.top.dest s.callers (λ d z. h.top.dest d z bo eb t rt) fd dr.callers x k1
      finish_good Unreachable x mo ty hd e = absurd (grind arith)
      finish_good (Drop p u) x mo ty hd e =
          let (d, e1, k1) = bind_some e in
          let (b, y, lt, eb', ey, pl, its) = begun_own C s dr bo eb p u s.top.dropping d hd refl e1 in
          work_off_good d d.items x pl.0 k1
      finish_good (Call p g os u) x mo (t, pt, ct) hd e =
          let (d, e1, k1) = bind_some e in
          let (r, e2, k2) = bind_some k1 in
          call_good r.1 u d g os r.0 t x ct (all_gentle G bo F lokF s.memory os r mo h.mem e2) (all_typed G bo F lokF s.memory os r mo h.mem e2) (dest_fair HF s.memory p t d pt e1) (dest_ty E G bokF bo.locals F lokF s.memory p t d h.mem pt e1) k2
      finish_good (Assert o c words os u) x mo ty hd e =
          let (r, e1, k1) = bind_some e in
          check_good r.1 (nat_eq r.0 (flag c)) words os u x (number_gentle G bo F lokF s.memory o r mo.0 h.mem e1) k1

      perform_good : (t : Term) (o : Option TypedStmt) (x : Next) → TermMoves HF t → TermTy C HF t → DropPlain t → ((st : TypedStmt) → o ≡ Some st → StmtMoves HF st × StmtTy E G bokF bo.locals F lokF st) → perform C HF s t o ≡ Some x → Good x
      unfolding perform
      perform_good t None x mo ty hd ks e = finish_good t x mo ty hd e
      perform_good t (Some st) x mo ty hd ks e =
          let (m', e1, k1) = bind_some e in
          let (so, sty) = ks st refl in
          on_good m' (next_stmt s.top) x (exec_gentle G bo F lokF s.memory st so sty m' h.mem e1) fd k1

    step_good : (x : Next) → step C s ≡ Some x → Good x
    step_good x e =
        let (bo, k, eb, ek, q) = step_parts C s x e in
        perform_good bo eb k.term (slice_get k.stmts s.top.at) x (V.terms F s.top.function bo s.top.block k eb ek) (V.valid1.terms F s.top.function bo s.top.block k eb ek) (V.plain s.top.function bo s.top.block k eb ek)
        (λ st es. (V.stmts F s.top.function bo s.top.block k s.top.at st eb ek es, V.valid1.stmts G F s.top.function bo s.top.block k s.top.at st eb ek es (lokF bo eb))) q

    -- a step is gentle to the frames below the running one and below the one that runs next
    pub step_gentle : (x : Next) → step C s ≡ Some x → GentleTo X G F s.memory x
    step_gentle (on s') e = (step_good (on s') e).0
    step_gentle (stop o) e = tt
    step_gentle (fail t) e = tt

    -- and destinations stay fair
    pub step_fair : (s' : State) → step C s ≡ Some (on s') → FairDests C s'.top.function s'.top.dest s'.callers
    step_fair s' e = (step_good (on s') e).1
