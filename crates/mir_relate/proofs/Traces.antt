-- A step adds at most one call to the trace.
use Rattle.std.proofs.Common.{◌≡◌, ◌⊎◌, inl, inr, refl, ℕ, Bool, true, false, List, [], ◌∷◌, Option, Some, None}
use Rattle.mir_syntax.specs.declared.body.Operand.{Operand}
use Rattle.mir_syntax.specs.declared.body.Callee.{Callee}
use Rattle.mir_syntax.specs.declared.body.Callee.TheVariants as callee
use Rattle.mir_syntax.specs.declared.body.Term.{Term}
use Rattle.mir_syntax.specs.declared.body.Term.TheVariants.{Goto, Switch, Return, Unreachable, Drop, Call, Assert}
use Rattle.mir_syntax.specs.Tree.{Tree, scalar}
use Rattle.mir_syntax.specs.Crate.{TypedStmt}
use Rattle.mir_syntax.specs.Shapes.{Shape, ◌>>=◌, destructor_of, needs_drop}
use Rattle.mir_num.specs.Numbers.{wrap}
use Rattle.mir_semantics.specs.Values.{Value, is_hole}
use Rattle.mir_semantics.specs.Memory.{Memory}
use Rattle.mir_semantics.specs.Step.{Code, Dest, Visit, Dropping, Control, Called, State, Next, on, stop, fail, Here, calling, answered, entered, enter, ask, call, return_to, work_on, visit, visit_unless, visit_if, work_off, destroyed_at, destroyed, check, finish, perform, step}

-- what a step says of the trace
abbrev pub TraceOk : List Called → Option Next → Type 0
TraceOk t None = Unit {0}
TraceOk t (Some (stop o)) = Unit {0}
TraceOk t (Some (fail t')) = Unit {0}
TraceOk t (Some (on s)) = (s.trace ≡ t) ⊎ ((c : Called) × (s.trace ≡ c ∷ t))

bind_ok : {A : Type 0} (t : List Called) (o : Option A) (f : A → Option Next) → ((x : A) → TraceOk t (f x)) → TraceOk t (o >>= f)
unfolding ◌>>=◌
bind_ok t None f h = tt
bind_ok t (Some x) f h = h x

enter_ok : (C : Code) (s : State) (m : Memory) (c : Control) (g : ℕ) (args : List Value) (d : Option Dest) → TraceOk s.trace (enter C s m c g args d)
unfolding enter entered
enter_ok C s m c g args d = bind_ok s.trace _ _ (λ b. inl refl)

answered_ok : (t : List Called) (called : Called) (s : State) (c : Control) (m : Option Memory) → s.trace ≡ called ∷ t → TraceOk t (answered s c m)
answered_ok t called s c None e = tt
answered_ok t called s c (Some m) e = inr (called, e)

ask_ok : (D : List Shape) (s : State) (m : Memory) (c : Control) (d : Dest) (o : ℕ) (args : List ℕ) (t : Tree) (answers : List ℕ) → TraceOk s.trace (ask D s m c d o args t answers)
unfolding ask
ask_ok D s m c d o args (scalar t) [] = tt
ask_ok D s m c d o args (scalar t) (a ∷ rest) =
    let called : Called = record { outside = o; args = args; answer = Some (wrap t a) } in
    answered_ok s.trace called (calling s (called ∷ s.trace) rest) c _ refl
ask_ok D s m c d o args t answers =
    let called : Called = record { outside = o; args = args; answer = None } in
    answered_ok s.trace called (calling s (called ∷ s.trace) answers) c _ refl

call_ok : (C : Code) (s : State) (m : Memory) (c : Control) (d : Dest) (g : Callee) (args : List Value) → TraceOk s.trace (call C s m c d g args)
unfolding call
call_ok C s m c d (callee.Local g) args = enter_ok C s m c g.0 args (Some d)
call_ok C s m c d (callee.Outside o) args = bind_ok s.trace _ _ (λ out. bind_ok s.trace _ _ (λ ns. ask_ok C.shapes s m c d o.0 ns out.result s.answers))

work_on_ok : (D : List Shape) (s : State) (c : Control) (d : Dropping) (is : List Visit) → TraceOk s.trace (work_on D s c d is)
unfolding work_on
work_on_ok D s c d [] = bind_ok s.trace _ _ (λ old. inl refl)
work_on_ok D s c d (i ∷ is) = inl refl

destroyed_at_ok : (D : List Shape) (s : State) (c : Control) (d : Dropping) (is : List Visit) → TraceOk s.trace (destroyed_at D s c d is)
unfolding destroyed_at
destroyed_at_ok D s c d [] = tt
destroyed_at_ok D s c d (i ∷ rest) = bind_ok s.trace _ _ (λ v. work_on_ok D s c d _)

destroyed_ok : (D : List Shape) (s : State) (c : Control) → TraceOk s.trace (destroyed D s c)
unfolding destroyed
destroyed_ok D s c = bind_ok s.trace _ _ (λ d. destroyed_at_ok D s c d d.items)

return_ok : (D : List Shape) (s : State) (m : Memory) (d : Option Dest) (cs : List Control) (v : Value) → TraceOk s.trace (return_to D s m d cs v)
unfolding return_to
return_ok D s m d [] v = tt
return_ok D s m None (c ∷ cs) v = destroyed_ok D (record s { memory = m; callers = cs }) c
return_ok D s m (Some d) (c ∷ cs) v = bind_ok s.trace _ _ (λ m'. inl refl)

visit_ok : (C : Code) (s : State) (d : Dropping) (i : Visit) (rest : List Visit) (v : Value) (g : Option ℕ) → TraceOk s.trace (visit C s d i rest v g)
unfolding visit
visit_ok C s d i rest v None = work_on_ok C.shapes s s.top d _
visit_ok C s d i rest v (Some g) = enter_ok C s s.memory _ g _ None

visit_unless_ok : (C : Code) (s : State) (d : Dropping) (i : Visit) (rest : List Visit) (v : Value) (b : Bool) → TraceOk s.trace (visit_unless C s d i rest v b)
unfolding visit_unless
visit_unless_ok C s d i rest v true = work_on_ok C.shapes s s.top d rest
visit_unless_ok C s d i rest v false = visit_ok C s d i rest v (destructor_of C.shapes i.ty)

visit_if_ok : (C : Code) (s : State) (d : Dropping) (i : Visit) (rest : List Visit) (b : Bool) → TraceOk s.trace (visit_if C s d i rest b)
unfolding visit_if
visit_if_ok C s d i rest false = work_on_ok C.shapes s s.top d rest
visit_if_ok C s d i rest true = bind_ok s.trace _ _ (λ v. visit_unless_ok C s d i rest v (is_hole v))

work_off_ok : (C : Code) (s : State) (d : Dropping) (is : List Visit) → TraceOk s.trace (work_off C s d is)
unfolding work_off
work_off_ok C s d [] = tt
work_off_ok C s d (i ∷ rest) = visit_if_ok C s d i rest (needs_drop C.shapes i.ty)

check_ok : (h : Here) (s : State) (m : Memory) (b : Bool) (text : List ℕ) (os : List Operand) (to : ℕ) → TraceOk s.trace (check h s m b text os to)
unfolding check
check_ok h s m true text os to = inl refl
check_ok h s m false text os to = bind_ok s.trace _ _ (λ r. tt)

finish_ok : (C : Code) (h : Here) (s : State) (t : Term) → TraceOk s.trace (finish C h s t)
unfolding finish
finish_ok C h s (Goto b) = inl refl
finish_ok C h s (Switch o arms other) = bind_ok s.trace _ _ (λ r. inl refl)
finish_ok C h s Return = bind_ok s.trace _ _ (λ v. return_ok C.shapes s _ s.top.dest s.callers v)
finish_ok C h s Unreachable = tt
finish_ok C h s (Drop p b) = bind_ok s.trace _ _ (λ d. work_off_ok C s d d.items)
finish_ok C h s (Call p g os b) = bind_ok s.trace _ _ (λ d. bind_ok s.trace _ _ (λ r. call_ok C s r.1 _ d g r.0))
finish_ok C h s (Assert o e text os b) = bind_ok s.trace _ _ (λ r. check_ok h s r.1 _ text os b)

perform_ok : (C : Code) (h : Here) (s : State) (t : Term) (x : Option TypedStmt) → TraceOk s.trace (perform C h s t x)
unfolding perform
perform_ok C h s t None = finish_ok C h s t
perform_ok C h s t (Some x) = bind_ok s.trace _ _ (λ m. inl refl)

pub trace_ok : (C : Code) (s : State) → TraceOk s.trace (step C s)
unfolding step
trace_ok C s = bind_ok s.trace _ _ (λ b. bind_ok s.trace _ _ (λ k. perform_ok C _ s k.term _))
