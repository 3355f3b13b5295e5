-- A step keeps the frames in order, and makes at most one.
use Rattle.std.proofs.Common.{◌≡◌, refl, sym, ap, subst, ◌∙◌, ℕ, suc, ◌<◌, ◌≤◌, nat_eq, if◌then◌else◌, Bool, true, false, List, [], ◌∷◌, map, Option, Some, None, arith}
use Rattle.mir_syntax.specs.declared.body.Operand.{Operand}
use Rattle.mir_syntax.specs.declared.body.Operand.TheVariants as operand
use Rattle.mir_syntax.specs.declared.body.Callee.{Callee}
use Rattle.mir_syntax.specs.declared.body.Callee.TheVariants as callee
use Rattle.mir_syntax.specs.declared.body.Term.{Term}
use Rattle.mir_syntax.specs.declared.body.Term.TheVariants.{Goto, Switch, Return, Unreachable, Drop, Call, Assert}
use Rattle.mir_syntax.specs.Tree.{Tree, scalar}
use Rattle.mir_syntax.specs.Crate.{TypedRvalue, «use», binary, overflow, unary, cast, discriminant, tuple, build, TypedStmt, assign, storage_live, storage_dead, set_discriminant}
use Rattle.mir_syntax.specs.Crate as rvalue
use Rattle.mir_syntax.specs.Shapes.{Shape, ◌>>=◌, destructor_of, needs_drop}
use Rattle.mir_num.specs.Numbers as num
use Rattle.mir_semantics.specs.Values.{Addr, Value, blank, is_hole, put}
use Rattle.mir_semantics.specs.Memory.{Store, Memory, write, open_frame, close_frame, change_local, change_slot}
use Rattle.mir_semantics.specs.Step.{Code, Dest, Visit, Dropping, Control, Called, State, Next, on, stop, fail, Here, only_if, allows, store, read, read_all, read_number, read_two, eval, exec, set_blank, write_unless, is_variant, go_on, calling, answered, entered, enter, ask, call, return_to, work_on, visit, visit_unless, visit_if, work_off, destroyed_at, destroyed, check, finish, perform, step}
use Rattle.mir_machine.specs.Ordered.{control_frame, frames_of, Falling, Ordered}

-- what is there, of a chain
pub bind_there : {A B : Type 0} (o : Option A) (f : A → Option B) (y : B) → (o >>= f) ≡ Some y → (x : A) × (o ≡ Some x) × (f x ≡ Some y)
unfolding ◌>>=◌
bind_there None f y e = absurd cc
bind_there (Some x) f y e = (x, refl, e)

one : {A : Type 0} (x y : A) → Some x ≡ Some y → x ≡ y
one x y e = cc

-- ---- the frames that live

frames_change : (m : Memory) (f x : ℕ) (g : Value → Value) → frames_of (change_local m f x g) ≡ frames_of m
frames_change [] f x g = refl
frames_change (s ∷ m) f x g = go (frames_change m f x g) (nat_eq s.frame f)
  where
    go : frames_of (change_local m f x g) ≡ frames_of m → (b : Bool) → frames_of (if b then record { frame = s.frame; slots = change_slot x g s.slots } ∷ m else s ∷ change_local m f x g) ≡ s.frame ∷ frames_of m
    go e true = refl
    go e false = ap (λ l. s.frame ∷ l) e

pub frames_write : (m : Memory) (a : Addr) (v : Value) → frames_of (write m a v) ≡ frames_of m
unfolding write
frames_write m a v = frames_change m a.frame a.local (put a.path v)

frames_if : (b : Bool) (m m' : Memory) (a : Addr) (v : Value) → only_if b (write m a v) ≡ Some m' → frames_of m' ≡ frames_of m
frames_if true m m' a v e = ap frames_of (sym (one (write m a v) m' e)) ∙ frames_write m a v
frames_if false m m' a v e = absurd cc

frames_store : (D : List Shape) (m m' : Memory) (d : Dest) (v : Value) → store D m d v ≡ Some m' → frames_of m' ≡ frames_of m
unfolding store
frames_store D m m' d v e = let (old, e1, e2) = bind_there _ _ m' e in frames_if (allows D d.guard old) m m' d.addr v e2

frames_read : (h : Here) (m : Memory) (o : Operand) (r : Value × Memory) → read h m o ≡ Some r → frames_of r.1 ≡ frames_of m
unfolding read
frames_read h m (operand.Copy p) r e =
    let (a, e1, e2) = bind_there _ _ r e in
    let (v, e3, e4) = bind_there _ _ r e2 in
    ap (λ x. frames_of x.1) (sym (one (v, m) r e4))
frames_read h m (operand.Move p) r e =
    let (a, e1, e2) = bind_there _ _ r e in
    let (v, e3, e4) = bind_there _ _ r e2 in
    let (t, e5, e6) = bind_there _ _ r e4 in
    ap (λ x. frames_of x.1) (sym (one (v, write m a (blank h.shapes t)) r e6)) ∙ frames_write m a (blank h.shapes t)
frames_read h m (operand.Const k) r e = ap (λ x. frames_of x.1) (sym (one _ r e))

frames_all : (h : Here) (m : Memory) (os : List Operand) (r : List Value × Memory) → read_all h m os ≡ Some r → frames_of r.1 ≡ frames_of m
unfolding read_all
frames_all h m [] r e = ap (λ x. frames_of x.1) (sym (one ([], m) r e))
frames_all h m (o ∷ os) r e =
    let (v, e1, e2) = bind_there _ _ r e in
    let (vs, e3, e4) = bind_there _ _ r e2 in
    ap (λ x. frames_of x.1) (sym (one (v.0 ∷ vs.0, vs.1) r e4)) ∙ (frames_all h v.1 os vs e3 ∙ frames_read h m o v e1)

frames_number : (h : Here) (m : Memory) (o : Operand) (r : ℕ × Memory) → read_number h m o ≡ Some r → frames_of r.1 ≡ frames_of m
unfolding read_number
frames_number h m o r e =
    let (v, e1, e2) = bind_there _ _ r e in
    let (n, e3, e4) = bind_there _ _ r e2 in
    ap (λ x. frames_of x.1) (sym (one (n, v.1) r e4)) ∙ frames_read h m o v e1

frames_two : (h : Here) (m : Memory) (a b : Operand) (r : (ℕ × ℕ) × Memory) → read_two h m a b ≡ Some r → frames_of r.1 ≡ frames_of m
unfolding read_two
frames_two h m a b r e =
    let (x, e1, e2) = bind_there _ _ r e in
    let (y, e3, e4) = bind_there _ _ r e2 in
    ap (λ z. frames_of z.1) (sym (one ((x.0, y.0), y.1) r e4)) ∙ (frames_number h x.1 b y e3 ∙ frames_number h m a x e1)

frames_eval : (h : Here) (m : Memory) (v : TypedRvalue) (r : Value × Memory) → eval h m v ≡ Some r → frames_of r.1 ≡ frames_of m
unfolding eval
frames_eval h m («use» o) r e = frames_read h m o r e
frames_eval h m (binary op a b) r e =
    let (t, e1, e2) = bind_there _ _ r e in
    let (x, e3, e4) = bind_there _ _ r e2 in
    let (n, e5, e6) = bind_there _ _ r e4 in
    ap (λ z. frames_of z.1) (sym (one _ r e6)) ∙ frames_two h m a b x e3
frames_eval h m (overflow op a b) r e =
    let (t, e1, e2) = bind_there _ _ r e in
    let (x, e3, e4) = bind_there _ _ r e2 in
    ap (λ z. frames_of z.1) (sym (one _ r e4)) ∙ frames_two h m a b x e3
frames_eval h m (unary op a) r e =
    let (t, e1, e2) = bind_there _ _ r e in
    let (x, e3, e4) = bind_there _ _ r e2 in
    ap (λ z. frames_of z.1) (sym (one _ r e4)) ∙ frames_number h m a x e3
frames_eval h m (cast a ty) r e =
    let (t, e1, e2) = bind_there _ _ r e in
    let (u, e3, e4) = bind_there _ _ r e2 in
    let (x, e5, e6) = bind_there _ _ r e4 in
    ap (λ z. frames_of z.1) (sym (one _ r e6)) ∙ frames_number h m a x e5
frames_eval h m (rvalue.ref p) r e = let (a, e1, e2) = bind_there _ _ r e in ap (λ z. frames_of z.1) (sym (one _ r e2))
frames_eval h m (rvalue.ref_mut p) r e = let (a, e1, e2) = bind_there _ _ r e in ap (λ z. frames_of z.1) (sym (one _ r e2))
frames_eval h m (discriminant p) r e =
    let (a, e1, e2) = bind_there _ _ r e in
    let (v, e3, e4) = bind_there _ _ r e2 in
    let (k, e5, e6) = bind_there _ _ r e4 in
    ap (λ z. frames_of z.1) (sym (one _ r e6))
frames_eval h m (tuple os) r e = let (x, e1, e2) = bind_there _ _ r e in ap (λ z. frames_of z.1) (sym (one _ r e2)) ∙ frames_all h m os x e1
frames_eval h m (build d k os) r e = let (x, e1, e2) = bind_there _ _ r e in ap (λ z. frames_of z.1) (sym (one _ r e2)) ∙ frames_all h m os x e1

frames_blank : (h : Here) (m m' : Memory) (x : ℕ) → set_blank h m x ≡ Some m' → frames_of m' ≡ frames_of m
unfolding set_blank
frames_blank h m m' x e = let (t, e1, e2) = bind_there _ _ m' e in ap frames_of (sym (one _ m' e2)) ∙ frames_write m _ _

frames_unless : (b : Bool) (m : Memory) (a : Addr) (v : Value) → frames_of (write_unless b m a v) ≡ frames_of m
unfolding write_unless
frames_unless true m a v = refl
frames_unless false m a v = frames_write m a v

frames_exec : (h : Here) (m m' : Memory) (x : TypedStmt) → exec h m x ≡ Some m' → frames_of m' ≡ frames_of m
unfolding exec
frames_exec h m m' (assign p r) e =
    let (v, e1, e2) = bind_there _ _ m' e in
    let (d, e3, e4) = bind_there _ _ m' e2 in
    frames_store h.shapes v.1 m' d v.0 e4 ∙ frames_eval h m r v e1
frames_exec h m m' (storage_live x) e = frames_blank h m m' x e
frames_exec h m m' (storage_dead x) e = frames_blank h m m' x e
frames_exec h m m' (set_discriminant p k) e =
    let (a, e1, e2) = bind_there _ _ m' e in
    let (v, e3, e4) = bind_there _ _ m' e2 in
    let (t, e5, e6) = bind_there _ _ m' e4 in
    let (u, e7, e8) = bind_there _ _ m' e6 in
    ap frames_of (sym (one _ m' e8)) ∙ frames_unless (is_variant k v) m a _

-- ---- a frame that ends

falling_on : (a b : ℕ) (fs : List ℕ) → a ≤ b → Falling a fs → Falling b fs
falling_on a b [] le h = tt
falling_on a b (f ∷ fs) le (h, k) = (omega arith, k)

not_same : (a b : ℕ) → a < b → nat_eq a b ≡ false
not_same a b h = grind arith

is_same : (a b : ℕ) → a ≡ b → nat_eq a b ≡ true
is_same a b e = grind arith

close_below : (m : Memory) (f : ℕ) → Falling f (frames_of m) → close_frame m f ≡ m
close_below [] f h = refl
close_below (s ∷ m) f (h, k) = ap (λ b. if b then close_frame m f else s ∷ close_frame m f) (not_same s.frame f h) ∙ ap (λ l. s ∷ l) (close_below m f (falling_on s.frame f (frames_of m) (omega arith) k))

pub close_top : (s : Store) (m : Memory) (f : ℕ) (fs : List ℕ) → s.frame ∷ frames_of m ≡ f ∷ fs → Falling f fs → close_frame (s ∷ m) f ≡ m
close_top s m f fs e h =
    let same : s.frame ≡ f = cc in
    let rest : frames_of m ≡ fs = cc in
    ap (λ b. if b then close_frame m f else s ∷ close_frame m f) (is_same s.frame f same) ∙ close_below m f (subst (Falling f) (sym rest) h)

frames_close : (m : Memory) (f : ℕ) (fs : List ℕ) → frames_of m ≡ f ∷ fs → Falling f fs → frames_of (close_frame m f) ≡ fs
frames_close [] f fs e h = absurd cc
frames_close (s ∷ m) f fs e h = let rest : frames_of m ≡ fs = cc in ap frames_of (close_top s m f fs e h) ∙ rest

-- ---- steps

abbrev pub StaysOrdered : ℕ → Option Next → Type 0
StaysOrdered n None = Unit {0}
StaysOrdered n (Some (stop o)) = Unit {0}
StaysOrdered n (Some (fail t)) = Unit {0}
StaysOrdered n (Some (on s)) = Ordered s × (s.next ≤ suc n)

abbrev Beside : State → Memory → Control → Type 0
Beside s m c = Ordered (record s { memory = m; top = c })

bind_ok : {A : Type 0} (n : ℕ) (o : Option A) (f : A → Option Next) → ((x : A) → o ≡ Some x → StaysOrdered n (f x)) → StaysOrdered n (o >>= f)
unfolding ◌>>=◌
bind_ok n None f h = tt
bind_ok n (Some x) f h = h x refl

up : (n : ℕ) → n ≤ suc n
up n = omega arith

other_memory : (s : State) (m m' : Memory) (c c' : Control) → Beside s m c → frames_of m' ≡ frames_of m → c'.frame ≡ c.frame → Beside s m' c'
other_memory s m m' c c' h e f = record { frames = e ∙ (h.frames ∙ ap (λ x. x ∷ map control_frame s.callers) (sym f)); falling = subst (λ x. Falling s.next (x ∷ map control_frame s.callers)) (sym f) h.falling }

other_state : (s : State) (m m' : Memory) (c : Control) (trace : List Called) (answers : List ℕ) → Beside s m c → frames_of m' ≡ frames_of m → Beside (calling s trace answers) m' c
other_state s m m' c trace answers h e = record { frames = e ∙ h.frames; falling = h.falling }

go_ok : (s : State) (m : Memory) (c : Control) → Beside s m c → StaysOrdered s.next (go_on s m c)
go_ok s m c h = (h, up s.next)

enter_ok : (C : Code) (s : State) (m : Memory) (c : Control) (g : ℕ) (args : List Value) (d : Option Dest) → Beside s m c → StaysOrdered s.next (enter C s m c g args d)
unfolding enter entered open_frame
enter_ok C s m c g args d h =
    bind_ok s.next _ _ (λ b e. (record { frames = ap (λ l. s.next ∷ l) h.frames; falling = (omega arith, h.falling) }, le s.next))
  where
    le : (n : ℕ) → suc n ≤ suc n
    le n = omega arith

answered_ok : (s : State) (c : Control) (o : Option Memory) → ((m : Memory) → o ≡ Some m → Beside s m c) → StaysOrdered s.next (answered s c o)
answered_ok s c None h = tt
answered_ok s c (Some m) h = go_ok s m c (h m refl)

ask_ok : (D : List Shape) (s : State) (m : Memory) (c : Control) (d : Dest) (o : ℕ) (args : List ℕ) (t : Tree) (answers : List ℕ) → Beside s m c → StaysOrdered s.next (ask D s m c d o args t answers)
unfolding ask
ask_ok D s m c d o args (scalar t) [] h = tt
ask_ok D s m c d o args (scalar t) (a ∷ rest) h =
    answered_ok (calling s (record { outside = o; args = args; answer = Some (num.wrap t a) } ∷ s.trace) rest) c _ (λ m' e. other_state s m m' c _ rest h (frames_store D m m' d _ e))
ask_ok D s m c d o args t answers h =
    answered_ok (calling s (record { outside = o; args = args; answer = None } ∷ s.trace) answers) c _ (λ m' e. other_state s m m' c _ answers h (frames_store D m m' d _ e))

call_ok : (C : Code) (s : State) (m : Memory) (c : Control) (d : Dest) (g : Callee) (args : List Value) → Beside s m c → StaysOrdered s.next (call C s m c d g args)
unfolding call
call_ok C s m c d (callee.Local g) args h = enter_ok C s m c g.0 args (Some d) h
call_ok C s m c d (callee.Outside o) args h = bind_ok s.next _ _ (λ out e. bind_ok s.next _ _ (λ ns f. ask_ok C.shapes s m c d o.0 ns out.result s.answers h))

work_on_ok : (D : List Shape) (s : State) (c : Control) (d : Dropping) (is : List Visit) → Beside s s.memory c → StaysOrdered s.next (work_on D s c d is)
unfolding work_on
work_on_ok D s c d [] h = bind_ok s.next _ _ (λ old e. go_ok s _ _ (other_memory s s.memory _ c _ h (frames_write s.memory _ _) refl))
work_on_ok D s c d (i ∷ is) h = go_ok s _ _ (other_memory s s.memory s.memory c _ h refl refl)

destroyed_at_ok : (D : List Shape) (s : State) (c : Control) (d : Dropping) (is : List Visit) → Beside s s.memory c → StaysOrdered s.next (destroyed_at D s c d is)
unfolding destroyed_at
destroyed_at_ok D s c d [] h = tt
destroyed_at_ok D s c d (i ∷ rest) h = bind_ok s.next _ _ (λ v e. work_on_ok D s c d _ h)

destroyed_ok : (D : List Shape) (s : State) (c : Control) → Beside s s.memory c → StaysOrdered s.next (destroyed D s c)
unfolding destroyed
destroyed_ok D s c h = bind_ok s.next _ _ (λ d e. destroyed_at_ok D s c d d.items h)

-- the frames of the callers alone
abbrev Behind : ℕ → Memory → List Control → Type 0
Behind n m cs = (frames_of m ≡ map control_frame cs) × Falling n (map control_frame cs)

return_ok : (D : List Shape) (s : State) (m : Memory) (d : Option Dest) (cs : List Control) (v : Value) → Behind s.next m cs → StaysOrdered s.next (return_to D s m d cs v)
unfolding return_to
return_ok D s m d [] v h = tt
return_ok D s m None (c ∷ cs) v (e, h) = destroyed_ok D (record s { memory = m; callers = cs }) c (record { frames = e; falling = h })
return_ok D s m (Some d) (c ∷ cs) v (e, h) = bind_ok s.next _ _ (λ m' k. (record { frames = frames_store D m m' d v k ∙ e; falling = h }, up s.next))

visit_ok : (C : Code) (s : State) (d : Dropping) (i : Visit) (rest : List Visit) (v : Value) (g : Option ℕ) → Ordered s → StaysOrdered s.next (visit C s d i rest v g)
unfolding visit
visit_ok C s d i rest v None h = work_on_ok C.shapes s s.top d _ h
visit_ok C s d i rest v (Some g) h = enter_ok C s s.memory _ g _ None (other_memory s s.memory s.memory s.top _ h refl refl)

visit_unless_ok : (C : Code) (s : State) (d : Dropping) (i : Visit) (rest : List Visit) (v : Value) (b : Bool) → Ordered s → StaysOrdered s.next (visit_unless C s d i rest v b)
unfolding visit_unless
visit_unless_ok C s d i rest v true h = work_on_ok C.shapes s s.top d rest h
visit_unless_ok C s d i rest v false h = visit_ok C s d i rest v (destructor_of C.shapes i.ty) h

visit_if_ok : (C : Code) (s : State) (d : Dropping) (i : Visit) (rest : List Visit) (b : Bool) → Ordered s → StaysOrdered s.next (visit_if C s d i rest b)
unfolding visit_if
visit_if_ok C s d i rest false h = work_on_ok C.shapes s s.top d rest h
visit_if_ok C s d i rest true h = bind_ok s.next _ _ (λ v e. visit_unless_ok C s d i rest v (is_hole v) h)

work_off_ok : (C : Code) (s : State) (d : Dropping) (is : List Visit) → Ordered s → StaysOrdered s.next (work_off C s d is)
unfolding work_off
work_off_ok C s d [] h = tt
work_off_ok C s d (i ∷ rest) h = visit_if_ok C s d i rest (needs_drop C.shapes i.ty) h

check_ok : (h : Here) (s : State) (m : Memory) (b : Bool) (text : List ℕ) (os : List Operand) (to : ℕ) → Beside s m s.top → StaysOrdered s.next (check h s m b text os to)
unfolding check
check_ok h s m true text os to k = go_ok s m _ (other_memory s m m s.top _ k refl refl)
check_ok h s m false text os to k = bind_ok s.next _ _ (λ r e. tt)

finish_ok : (C : Code) (h : Here) (s : State) (t : Term) → h.frame ≡ s.top.frame → Ordered s → StaysOrdered s.next (finish C h s t)
unfolding finish
finish_ok C h s (Goto b) f k = go_ok s s.memory _ (other_memory s s.memory s.memory s.top _ k refl refl)
finish_ok C h s (Switch o arms other) f k = bind_ok s.next _ _ (λ r e. go_ok s r.1 _ (other_memory s s.memory r.1 s.top _ k (frames_number h s.memory o r e) refl))
finish_ok C h s Return f k =
    bind_ok s.next _ _ (λ v e. return_ok C.shapes s _ s.top.dest s.callers v (ap (λ x. frames_of (close_frame s.memory x)) f ∙ frames_close s.memory s.top.frame (map control_frame s.callers) k.frames k.falling.1, falling_on s.top.frame s.next (map control_frame s.callers) (low k.falling.0) k.falling.1))
  where
    low : s.top.frame < s.next → s.top.frame ≤ s.next
    low h = omega arith
finish_ok C h s Unreachable f k = tt
finish_ok C h s (Drop p b) f k = bind_ok s.next _ _ (λ d e. work_off_ok C s d d.items k)
finish_ok C h s (Call p g os b) f k = bind_ok s.next _ _ (λ d e. bind_ok s.next _ _ (λ r q. call_ok C s r.1 _ d g r.0 (other_memory s s.memory r.1 s.top _ k (frames_all h s.memory os r q) refl)))
finish_ok C h s (Assert o e text os b) f k = bind_ok s.next _ _ (λ r q. check_ok h s r.1 _ text os b (other_memory s s.memory r.1 s.top s.top k (frames_number h s.memory o r q) refl))

perform_ok : (C : Code) (h : Here) (s : State) (t : Term) (x : Option TypedStmt) → h.frame ≡ s.top.frame → Ordered s → StaysOrdered s.next (perform C h s t x)
unfolding perform
perform_ok C h s t None f k = finish_ok C h s t f k
perform_ok C h s t (Some x) f k = bind_ok s.next _ _ (λ m e. go_ok s m _ (other_memory s s.memory m s.top _ k (frames_exec h s.memory m x e) refl))

pub order_ok : (C : Code) (s : State) → Ordered s → StaysOrdered s.next (step C s)
unfolding step
order_ok C s k = bind_ok s.next _ _ (λ b e. bind_ok s.next _ _ (λ x f. perform_ok C _ s x.term _ refl k))
