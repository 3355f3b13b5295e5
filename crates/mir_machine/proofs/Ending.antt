-- What terminators do.
use Rattle.std.proofs.Common.{◌≡◌, refl, sym, ap, ◌∙◌, ℕ, suc, nat_eq, ◌+◌, ◌<◌, ◌≤◌, Bool, true, false, List, [], ◌∷◌, ◌++◌, map, length, drop, get_or, Option, Some, None, slice_get, arith, drop-cons, ℤ}
use Rattle.std.specs.Option.{option_map}
use Rattle.std.proofs.lemmas.Option.{slice_get-map, slice_get_past, slice_get_read}
use Rattle.std.proofs.lemmas.List.{drop_all}
use Rattle.mir_syntax.specs.declared.types.Outside.{Outside}
use Rattle.mir_syntax.specs.declared.body.Stmt.{Stmt}
use Rattle.mir_syntax.specs.declared.body.Block.{Block}
use Rattle.mir_syntax.specs.declared.body.Body.{Body}
use Rattle.mir_syntax.specs.declared.program.Program.{Program}
use Rattle.mir_syntax.specs.declared.types.FnId.{FnId}
use Rattle.mir_syntax.specs.declared.types.OutId.{OutId}
use Rattle.mir_syntax.specs.declared.types.ScalarTy.{ScalarTy}
use Rattle.mir_syntax.specs.declared.body.Arm.{Arm}
use Rattle.mir_syntax.specs.declared.body.Place.{Place}
use Rattle.mir_syntax.specs.declared.body.Operand.{Operand}
use Rattle.mir_syntax.specs.declared.body.Callee.{Callee}
use Rattle.mir_syntax.specs.declared.body.Callee.TheVariants as callee
use Rattle.mir_syntax.specs.declared.body.Term.{Term}
use Rattle.mir_syntax.specs.declared.body.Term.TheVariants.{Goto, Switch, Return, Unreachable, Drop, Call, Assert}
use Rattle.mir_machine.specs.Seen.{code_in, dropped}
use Rattle.mir_syntax.specs.Tree.{trees_of, Tree, scalar, empty, more, ref, ref_mut, named}
use Rattle.mir_syntax.specs.Crate.{TypedStmt, TypedOutside, TypedBlock, TypedBody, outside_of, body_of, block_of, stmt_of}
use Rattle.mir_syntax.specs.Shapes.{Shape, ◌>>=◌}
use Rattle.mir_num.specs.Numbers as num
use Rattle.mir_semantics.specs.Values.{Value, number, nil}
use Rattle.mir_semantics.specs.Memory.{Memory, close_frame}
use Rattle.mir_semantics.specs.Step.{Code, Dest, Visit, Dropping, Control, Called, State, on, stop, fail, returned, aborted, no_answer, Here, store, exec, read_at, read_all, read_number, local_addr, dest_of, scalar_in, take_arm, to_block, next_stmt, calling, answered, enter, entered, ask, call, numbers_in, return_to, work_on, left_at, visits_of, destroyed_at, destroyed, integers, check, finish, perform, step}
use Rattle.mir_syntax.proofs.Binds.{bind_at, bind_gone}
use Rattle.mir_machine.specs.Ends.{returned_to, frame_ended, told, asked, outside_called}

-- ---- goto and switch

pub goto_done : (C : Code) (h : Here) (s : State) (b : ℕ) (t : Control) → t ≡ to_block b s.top → finish C h s (Goto b) ≡ Some (on (record s { top = t }))
unfolding finish
goto_done C h s b t e = ap (λ x. Some (on (record s { top = x }))) (sym e)

pub switch_gone : (C : Code) (h : Here) (s : State) (o : Operand) (arms : List Arm) (other : ℕ) → read_number h s.memory o ≡ None → finish C h s (Switch o arms other) ≡ None
unfolding finish
switch_gone C h s o arms other e = bind_gone _ _ e

pub switch_done : (C : Code) (h : Here) (s : State) (o : Operand) (arms : List Arm) (other bits b : ℕ) (m : Memory) (t : Control) → read_number h s.memory o ≡ Some (bits, m) → b ≡ take_arm bits arms other → t ≡ to_block b s.top
    → finish C h s (Switch o arms other) ≡ Some (on (record s { memory = m; top = t }))
unfolding finish
switch_done C h s o arms other bits b m t e f g =
    bind_at _ (bits, m) _ e ∙ ap (λ x. Some (on (record s { memory = m; top = x }))) (ap (λ x. to_block x s.top) (sym f) ∙ sym g)

-- ---- return

pub work_top : (D : List Shape) (s : State) (t c : Control) (d : Dropping) (is : List Visit) → work_on D (record s { top = t }) c d is ≡ work_on D s c d is
unfolding work_on
work_top D s t c d [] = refl
work_top D s t c d (i ∷ is) = refl

destroyed_at_top : (D : List Shape) (s : State) (t c : Control) (d : Dropping) (is : List Visit) → destroyed_at D (record s { top = t }) c d is ≡ destroyed_at D s c d is
unfolding destroyed_at ◌>>=◌
destroyed_at_top D s t c d [] = refl
destroyed_at_top D s t c d (i ∷ rest) = go (left_at D s.memory i.addr i.ty)
  where
    go : (o : Option Value) → (o >>= λ v. work_on D (record s { top = t }) c d (visits_of D i.addr i.ty v ++ rest)) ≡ (o >>= λ v. work_on D s c d (visits_of D i.addr i.ty v ++ rest))
    go None = refl
    go (Some v) = work_top D s t c d (visits_of D i.addr i.ty v ++ rest)

pub destroyed_top : (D : List Shape) (s : State) (t c : Control) → destroyed D (record s { top = t }) c ≡ destroyed D s c
unfolding destroyed ◌>>=◌
destroyed_top D s t c = go c.dropping
  where
    go : (o : Option Dropping) → (o >>= λ d. destroyed_at D (record s { top = t }) c d d.items) ≡ (o >>= λ d. destroyed_at D s c d d.items)
    go None = refl
    go (Some d) = destroyed_at_top D s t c d d.items

pub back_ends : (D : List Shape) (s : State) (v : Value) → s.callers ≡ [] → returned_to D s v ≡ Some (stop (returned v))
unfolding return_to
back_ends D s v e = ap (λ cs. return_to D s s.memory s.top.dest cs v) e

back_to : (D : List Shape) (s : State) (v : Value) (o : Option Dest) (c : Control) (cs : List Control) → s.callers ≡ c ∷ cs → s.top.dest ≡ o → returned_to D s v ≡ return_to D s s.memory o (c ∷ cs) v
back_to D s v o c cs e f = ap (λ x. return_to D s s.memory x s.callers v) f ∙ ap (λ x. return_to D s s.memory o x v) e

pub back_stores : (D : List Shape) (s : State) (v : Value) (d : Dest) (c : Control) (cs : List Control) (m : Memory) → s.callers ≡ c ∷ cs → s.top.dest ≡ Some d → store D s.memory d v ≡ Some m
    → returned_to D s v ≡ Some (on (record s { memory = m; top = c; callers = cs }))
unfolding return_to
back_stores D s v d c cs m e f g = back_to D s v (Some d) c cs e f ∙ bind_at _ m _ g

pub back_lost : (D : List Shape) (s : State) (v : Value) (d : Dest) (c : Control) (cs : List Control) → s.callers ≡ c ∷ cs → s.top.dest ≡ Some d → store D s.memory d v ≡ None → returned_to D s v ≡ None
unfolding return_to
back_lost D s v d c cs e f g = back_to D s v (Some d) c cs e f ∙ bind_gone _ _ g

pub back_destroys : (D : List Shape) (s : State) (v : Value) (c : Control) (cs : List Control) → s.callers ≡ c ∷ cs → s.top.dest ≡ None → returned_to D s v ≡ destroyed D (record s { top = c; callers = cs }) c
unfolding return_to
back_destroys D s v c cs e f = back_to D s v None c cs e f ∙ sym (destroyed_top D (record s { callers = cs }) c c)

back_memory : (D : List Shape) (s : State) (m : Memory) (d : Option Dest) (cs : List Control) (v : Value) → return_to D s m d cs v ≡ return_to D (record s { memory = m }) m d cs v
unfolding return_to
back_memory D s m d [] v = refl
back_memory D s m None (c ∷ cs) v = refl
back_memory D s m (Some d) (c ∷ cs) v = refl

pub ended_lost : (D : List Shape) (s : State) → read_at s.memory (local_addr s.top.frame 0) ≡ None → frame_ended D s ≡ None
ended_lost D s e = bind_gone _ _ e

pub ended_back : (D : List Shape) (s : State) (v : Value) (m : Memory) → read_at s.memory (local_addr s.top.frame 0) ≡ Some v → m ≡ close_frame s.memory s.top.frame → frame_ended D s ≡ returned_to D (record s { memory = m }) v
ended_back D s v m e f =
    bind_at _ v (λ v. return_to D s (close_frame s.memory s.top.frame) s.top.dest s.callers v) e ∙ (ap (λ x. return_to D s x s.top.dest s.callers v) (sym f) ∙ back_memory D s m s.top.dest s.callers v)

pub return_is : (C : Code) (h : Here) (s : State) → h.frame ≡ s.top.frame → finish C h s Return ≡ frame_ended C.shapes s
unfolding finish
return_is C h s e = ap (λ f. read_at s.memory (local_addr f 0) >>= λ v. return_to C.shapes s (close_frame s.memory f) s.top.dest s.callers v) e

-- ---- assert

pub assert_gone : (C : Code) (h : Here) (s : State) (o : Operand) (expected : Bool) (text : List ℕ) (os : List Operand) (b : ℕ) → read_number h s.memory o ≡ None → finish C h s (Assert o expected text os b) ≡ None
unfolding finish
assert_gone C h s o expected text os b e = bind_gone _ _ e

assert_checks : (C : Code) (h : Here) (s : State) (o : Operand) (expected : Bool) (text : List ℕ) (os : List Operand) (b n : ℕ) (m : Memory) (is : Bool) → read_number h s.memory o ≡ Some (n, m) → nat_eq n (num.flag expected) ≡ is
    → finish C h s (Assert o expected text os b) ≡ check h s m is text os b
unfolding finish
assert_checks C h s o expected text os b n m is e f = bind_at _ (n, m) _ e ∙ ap (λ x. check h s m x text os b) f

pub assert_holds : (C : Code) (h : Here) (s : State) (o : Operand) (expected : Bool) (text : List ℕ) (os : List Operand) (b n : ℕ) (m : Memory) (t : Control) → read_number h s.memory o ≡ Some (n, m) → nat_eq n (num.flag expected) ≡ true → t ≡ to_block b s.top
    → finish C h s (Assert o expected text os b) ≡ Some (on (record s { memory = m; top = t }))
unfolding check
assert_holds C h s o expected text os b n m t e f g = assert_checks C h s o expected text os b n m true e f ∙ ap (λ x. Some (on (record s { memory = m; top = x }))) (sym g)

pub assert_lost : (C : Code) (h : Here) (s : State) (o : Operand) (expected : Bool) (text : List ℕ) (os : List Operand) (b n : ℕ) (m : Memory) → read_number h s.memory o ≡ Some (n, m) → nat_eq n (num.flag expected) ≡ false → integers h m os ≡ None
    → finish C h s (Assert o expected text os b) ≡ None
unfolding check
assert_lost C h s o expected text os b n m e f g = assert_checks C h s o expected text os b n m false e f ∙ bind_gone _ _ g

pub assert_aborts : (C : Code) (h : Here) (s : State) (o : Operand) (expected : Bool) (text shown : List ℕ) (os : List Operand) (b n : ℕ) (m m' : Memory) (zs : List ℤ) → read_number h s.memory o ≡ Some (n, m) → nat_eq n (num.flag expected) ≡ false → integers h m os ≡ Some (zs, m') → shown ≡ text
    → finish C h s (Assert o expected text os b) ≡ Some (stop (aborted shown zs))
unfolding check
assert_aborts C h s o expected text shown os b n m m' zs e f g k = assert_checks C h s o expected text os b n m false e f ∙ (bind_at _ (zs, m') _ g ∙ ap (λ x. Some (stop (aborted x zs))) (sym k))

-- ---- calls of outside functions

pub told_lost : (D : List Shape) (s : State) (called : Called) (d : Dest) (v : Value) (trace : List Called) → store D s.memory d v ≡ None → trace ≡ called ∷ s.trace → told D s called d v ≡ Some (fail trace)
told_lost D s called d v trace e f = ap (answered (calling s (called ∷ s.trace) s.answers) s.top) e ∙ ap (λ x. Some (fail x)) (sym f)

pub told_done : (D : List Shape) (s : State) (called : Called) (d : Dest) (v : Value) (m : Memory) (trace : List Called) → store D s.memory d v ≡ Some m → trace ≡ called ∷ s.trace → told D s called d v ≡ Some (on (record s { memory = m; trace = trace }))
told_done D s called d v m trace e f = ap (answered (calling s (called ∷ s.trace) s.answers) s.top) e ∙ ap (λ x. Some (on (record s { memory = m; trace = x }))) (sym f)

pub asked_none : (D : List Shape) (s : State) (d : Dest) (o : ℕ) (args : List ℕ) (t : ScalarTy) → s.answers ≡ [] → asked D s d o args (scalar t) ≡ Some (stop no_answer)
unfolding ask
asked_none D s d o args t e = ap (ask D s s.memory s.top d o args (scalar t)) e

pub asked_one : (D : List Shape) (s : State) (d : Dest) (o : ℕ) (args : List ℕ) (t : ScalarTy) (a bits : ℕ) (rest : List ℕ) → s.answers ≡ a ∷ rest → bits ≡ num.wrap t a
    → asked D s d o args (scalar t) ≡ told D (record s { answers = rest }) (record { outside = o; args = args; answer = Some bits }) d (number bits)
unfolding ask
asked_one D s d o args t a bits rest e f = ap (ask D s s.memory s.top d o args (scalar t)) e ∙ ap (λ b. told D (record s { answers = rest }) (record { outside = o; args = args; answer = Some b }) d (number b)) (sym f)

pub asked_unit : (D : List Shape) (s : State) (d : Dest) (o : ℕ) (args : List ℕ) (t : Tree) → scalar_in t ≡ None → asked D s d o args t ≡ told D s (record { outside = o; args = args; answer = None }) d nil
unfolding ask
asked_unit D s d o args (scalar t) e = absurd cc
asked_unit D s d o args empty e = refl
asked_unit D s d o args (more t ts) e = refl
asked_unit D s d o args (ref t) e = refl
asked_unit D s d o args (ref_mut t) e = refl
asked_unit D s d o args (named n) e = refl

pub scalar_is : (t : Tree) (s : ScalarTy) → scalar_in t ≡ Some s → t ≡ scalar s
scalar_is (scalar t) s e = cc
scalar_is empty s e = absurd cc
scalar_is (more t ts) s e = absurd cc
scalar_is (ref t) s e = absurd cc
scalar_is (ref_mut t) s e = absurd cc
scalar_is (named n) s e = absurd cc

pub outside_gone : (C : Code) (s : State) (d : Dest) (o : ℕ) (vs : List Value) → slice_get C.outsides o ≡ None → outside_called C s d o vs ≡ None
outside_gone C s d o vs e = bind_gone _ _ e

pub outside_lost : (C : Code) (s : State) (d : Dest) (o : ℕ) (vs : List Value) (out : TypedOutside) → slice_get C.outsides o ≡ Some out → numbers_in vs ≡ None → outside_called C s d o vs ≡ None
outside_lost C s d o vs out e f = bind_at _ out (λ out. numbers_in vs >>= λ ns. asked C.shapes s d o ns out.result) e ∙ bind_gone _ _ f

pub outside_asks : (C : Code) (s : State) (d : Dest) (o : ℕ) (vs : List Value) (ns : List ℕ) (out : TypedOutside) → slice_get C.outsides o ≡ Some out → numbers_in vs ≡ Some ns → outside_called C s d o vs ≡ asked C.shapes s d o ns out.result
outside_asks C s d o vs ns out e f = bind_at _ out (λ out. numbers_in vs >>= λ ns. asked C.shapes s d o ns out.result) e ∙ bind_at _ ns _ f

-- ---- calls

answered_same : (s : State) (m : Memory) (t c : Control) (tr : List Called) (an : List ℕ) (o : Option Memory) → answered (calling (record s { memory = m; top = t }) tr an) c o ≡ answered (calling s tr an) c o
answered_same s m t c tr an None = refl
answered_same s m t c tr an (Some m') = refl

ask_same : (D : List Shape) (s : State) (m : Memory) (t : Control) (d : Dest) (o : ℕ) (args : List ℕ) (ty : Tree) (answers : List ℕ) → ask D (record s { memory = m; top = t }) m t d o args ty answers ≡ ask D s m t d o args ty answers
unfolding ask
ask_same D s m t d o args (scalar ty) [] = refl
ask_same D s m t d o args (scalar ty) (a ∷ rest) = answered_same s m t t _ rest (store D m d _)
ask_same D s m t d o args empty answers = answered_same s m t t _ answers (store D m d _)
ask_same D s m t d o args (more ty ts) answers = answered_same s m t t _ answers (store D m d _)
ask_same D s m t d o args (ref ty) answers = answered_same s m t t _ answers (store D m d _)
ask_same D s m t d o args (ref_mut ty) answers = answered_same s m t t _ answers (store D m d _)
ask_same D s m t d o args (named n) answers = answered_same s m t t _ answers (store D m d _)

pub call_nowhere : (C : Code) (h : Here) (s : State) (p : Place) (g : Callee) (os : List Operand) (b : ℕ) → dest_of h s.memory p ≡ None → finish C h s (Call p g os b) ≡ None
unfolding finish
call_nowhere C h s p g os b e = bind_gone _ _ e

pub call_lost : (C : Code) (h : Here) (s : State) (p : Place) (g : Callee) (os : List Operand) (b : ℕ) (d : Dest) → dest_of h s.memory p ≡ Some d → read_all h s.memory os ≡ None → finish C h s (Call p g os b) ≡ None
unfolding finish
call_lost C h s p g os b d e f = bind_at _ d _ e ∙ bind_gone _ _ f

call_goes : (C : Code) (h : Here) (s : State) (p : Place) (g : Callee) (os : List Operand) (b : ℕ) (d : Dest) (vs : List Value) (m : Memory) (t : Control) → dest_of h s.memory p ≡ Some d → read_all h s.memory os ≡ Some (vs, m) → t ≡ to_block b s.top
    → finish C h s (Call p g os b) ≡ call C s m t d g vs
unfolding finish
call_goes C h s p g os b d vs m t e f k = bind_at _ d _ e ∙ (bind_at _ (vs, m) _ f ∙ ap (λ c. call C s m c d g vs) (sym k))

enter_beside : (C : Code) (s : State) (m : Memory) (t : Control) (g : ℕ) (vs : List Value) (d : Option Dest) → enter C (record s { memory = m; top = t }) m t g vs d ≡ enter C s m t g vs d
unfolding enter entered
enter_beside C s m t g vs d = refl

pub call_local : (C : Code) (h : Here) (s : State) (p : Place) (g : FnId) (os : List Operand) (b : ℕ) (d : Dest) (vs : List Value) (m : Memory) (t : Control) → dest_of h s.memory p ≡ Some d → read_all h s.memory os ≡ Some (vs, m) → t ≡ to_block b s.top
    → finish C h s (Call p (callee.Local g) os b) ≡ enter C (record s { memory = m; top = t }) m t g.0 vs (Some d)
unfolding call
call_local C h s p g os b d vs m t e f k = call_goes C h s p (callee.Local g) os b d vs m t e f k ∙ sym (enter_beside C s m t g.0 vs (Some d))

pub call_outside : (C : Code) (h : Here) (s : State) (p : Place) (o : OutId) (os : List Operand) (b : ℕ) (d : Dest) (vs : List Value) (m : Memory) (t : Control) → dest_of h s.memory p ≡ Some d → read_all h s.memory os ≡ Some (vs, m) → t ≡ to_block b s.top
    → finish C h s (Call p (callee.Outside o) os b) ≡ outside_called C (record s { memory = m; top = t }) d o.0 vs
unfolding call ◌>>=◌
call_outside C h s p o os b d vs m t e f k = call_goes C h s p (callee.Outside o) os b d vs m t e f k ∙ go (slice_get C.outsides o.0) (numbers_in vs)
  where
    go : (x : Option TypedOutside) (n : Option (List ℕ)) → (x >>= λ out. n >>= λ ns. ask C.shapes s m t d o.0 ns out.result s.answers) ≡ (x >>= λ out. n >>= λ ns. ask C.shapes (record s { memory = m; top = t }) m t d o.0 ns out.result s.answers)
    go None n = refl
    go (Some out) None = refl
    go (Some out) (Some ns) = sym (ask_same C.shapes s m t d o.0 ns out.result s.answers)

-- ---- one step

pub performs_end : (C : Code) (h : Here) (s : State) (t : Term) (o : Option TypedStmt) → o ≡ None → perform C h s t o ≡ finish C h s t
unfolding perform
performs_end C h s t o e = ap (perform C h s t) e

pub performs_lost : (C : Code) (h : Here) (s : State) (t : Term) (o : Option TypedStmt) (x : TypedStmt) → o ≡ Some x → exec h s.memory x ≡ None → perform C h s t o ≡ None
unfolding perform
performs_lost C h s t o x e f = ap (perform C h s t) e ∙ bind_gone _ _ f

pub performs_stmt : (C : Code) (h : Here) (s : State) (t : Term) (o : Option TypedStmt) (x : TypedStmt) (m : Memory) (c : Control) → o ≡ Some x → exec h s.memory x ≡ Some m → c ≡ next_stmt s.top → perform C h s t o ≡ Some (on (record s { memory = m; top = c }))
unfolding perform
performs_stmt C h s t o x m c e f g = ap (perform C h s t) e ∙ (bind_at _ m _ f ∙ ap (λ k. Some (on (record s { memory = m; top = k }))) (sym g))

pub step_nowhere : (C : Code) (s : State) → slice_get C.bodies s.top.function ≡ None → step C s ≡ None
unfolding step
step_nowhere C s e = bind_gone _ _ e

pub step_lost : (C : Code) (s : State) (b : TypedBody) → slice_get C.bodies s.top.function ≡ Some b → slice_get b.blocks s.top.block ≡ None → step C s ≡ None
unfolding step
step_lost C s b e f = bind_at _ b _ e ∙ bind_gone _ _ f

pub step_performs : (C : Code) (s : State) (b : TypedBody) (k : TypedBlock) → slice_get C.bodies s.top.function ≡ Some b → slice_get b.blocks s.top.block ≡ Some k
    → step C s ≡ perform C (record { shapes = C.shapes; locals = b.locals; frame = s.top.frame }) s k.term (slice_get k.stmts s.top.at)
unfolding step
step_performs C s b k e f = bind_at _ b _ e ∙ bind_at _ k _ f

-- ---- other forms

pub drop_is : (C : Code) (h : Here) (s : State) (p : Place) (b : ℕ) → finish C h s (Drop p b) ≡ dropped C h s p b
unfolding finish
drop_is C h s p b = refl

pub unreachable_is : (C : Code) (h : Here) (s : State) → finish C h s Unreachable ≡ None
unfolding finish
unreachable_is C h s = refl

pub flagged : (n k : ℕ) (b is : Bool) → k ≡ num.flag b → nat_eq n k ≡ is → nat_eq n (num.flag b) ≡ is
flagged n k b is e f = ap (nat_eq n) (sym e) ∙ f

pub outside_nowhere : (p : Program) (o : ℕ) → slice_get p.outsides o ≡ None → slice_get (code_in p).outsides o ≡ None
outside_nowhere p o e = slice_get-map (outside_of (trees_of p.types)) p.outsides o ∙ ap (option_map (outside_of (trees_of p.types))) e

pub outside_there : (p : Program) (o : ℕ) (out : Outside) → slice_get p.outsides o ≡ Some out → slice_get (code_in p).outsides o ≡ Some (outside_of (trees_of p.types) out)
outside_there p o out e = slice_get-map (outside_of (trees_of p.types)) p.outsides o ∙ ap (option_map (outside_of (trees_of p.types))) e

pub block_nowhere : (trees : List Tree) (b : Body) (k : ℕ) → slice_get b.blocks k ≡ None → slice_get (body_of trees b).blocks k ≡ None
block_nowhere trees b k e = slice_get-map (block_of trees) b.blocks k ∙ ap (option_map (block_of trees)) e

pub block_at : (trees : List Tree) (b : Body) (k : ℕ) (block : Block) → slice_get b.blocks k ≡ Some block → slice_get (body_of trees b).blocks k ≡ Some (block_of trees block)
block_at trees b k block e = slice_get-map (block_of trees) b.blocks k ∙ ap (option_map (block_of trees)) e

pub no_stmt : (trees : List Tree) (stmts slice : List Stmt) (i : ℕ) → slice ≡ stmts → length slice ≤ i → slice_get (map (stmt_of trees) stmts) i ≡ None
no_stmt trees stmts slice i same h = slice_get-map (stmt_of trees) stmts i ∙ ap (option_map (stmt_of trees)) (ap (λ l. slice_get l i) (sym same) ∙ slice_get_past slice i h)

pub stmt_at : (trees : List Tree) (stmts slice : List Stmt) (i : ℕ) (x : Stmt) → slice ≡ stmts → i < length slice → x ≡ get_or slice i x → slice_get (map (stmt_of trees) stmts) i ≡ Some (stmt_of trees x)
stmt_at trees stmts slice i x same h e = slice_get-map (stmt_of trees) stmts i ∙ ap (option_map (stmt_of trees)) (ap (λ l. slice_get l i) (sym same) ∙ slice_get_read slice (length slice) i x refl h e)

pub none_to_ask : (answers slice : List ℕ) (i : ℕ) → slice ≡ answers → length slice ≤ i → drop i answers ≡ []
none_to_ask answers slice i same h = ap (drop i) (sym same) ∙ drop_all i slice h

pub next_to_ask : (answers slice : List ℕ) (i : ℕ) → slice ≡ answers → i < length slice → drop i answers ≡ get_or slice i 0 ∷ drop (i + 1) answers
next_to_ask answers slice i same h = ap (drop i) (sym same) ∙ (drop-cons slice i 0 h ∙ ap (λ l. get_or slice i 0 ∷ l) (ap (λ n. drop n slice) (sym (one_more i)) ∙ ap (drop (i + 1)) same))
  where
    one_more : (n : ℕ) → n + 1 ≡ suc n
    one_more n = omega arith
