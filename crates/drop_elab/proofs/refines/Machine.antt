-- Each piece of a plan, run in a state that stands at its code.
use Rattle.std.proofs.Common.{◌≡◌, refl, ap, ◌∙◌, ℕ, zero, suc, ◌+◌, ◌≤◌, Bool, false, nat_eq, List, [], ◌∷◌, length, Some, None, slice_get, arith}
use Rattle.mir_syntax.specs.declared.body.Place.{Place}
use Rattle.mir_syntax.specs.declared.body.Const.TheVariants as constant
use Rattle.mir_syntax.specs.declared.body.Operand.TheVariants as operand
use Rattle.mir_syntax.specs.Tree.{Tree, empty, ref_mut}
use Rattle.mir_syntax.specs.Crate.{«use», discriminant, TypedRvalue, TypedStmt, assign, TypedBlock, TypedBody}
use Rattle.mir_syntax.specs.Crate as rvalue
use Rattle.mir_num.specs.Numbers.{flag}
use Rattle.mir_semantics.specs.Values.{Addr, Value, number, variant, pointer, blank}
use Rattle.mir_semantics.specs.Memory.{Memory, local_at, value_at, write}
use Rattle.mir_semantics.specs.Step.{Code, Dest, Control, State, on, Here, local_addr, resolve, const_value, read, read_all, read_number, eval, exec, take_arm, enter, call, finish, perform, step}
use Rattle.mir_rules.specs.Typing.{isize_ty}
use Rattle.mir_syntax.proofs.Binds.{some_bind}
use Rattle.mir_relate.specs.Simulation.{moves}
use Rattle.drop_elab.specs.Plan.{Plan, done, destroy, choose, guarded, clear, local_place, set_flag, Laid, arms_from, lay}
use Rattle.drop_elab.proofs.refines.Places.{At, GoesOn, Armed, arm_at, with_arm, first_left, none_left, head_stands, tail_stands, after_destroy, not_guarded, guarded_in, after_choose}
use Rattle.drop_elab.proofs.refines.Runs.{one_move, moves_then, here_at, dest_local, set_local, written, move_local, copy_local, Beyond, beyond_trans, beyond_write}

-- a place in a frame that drops nothing of itself
abbrev pub place_in : Control → ℕ → ℕ → Control
place_in c i a = record c { block = i; at = a; dropping = None }

abbrev pub on_at : State → Control → Memory → ℕ → ℕ → State
on_at s c m i a = record s { memory = m; top = place_in c i a }

module _ (low : ℕ) (C : Code) (body : TypedBody) (s : State) (c : Control) (is : slice_get C.bodies c.function ≡ Some body) where
  abbrev pub H : Here
  H = here_at C.shapes body.locals c.frame

  abbrev pub F : ℕ
  F = c.frame

  -- a statement of the code
  pub stmt_step : (m m' : Memory) (i a : ℕ) (k : Laid) (x : TypedStmt) (rest : List TypedStmt) → GoesOn body i a k → k.stmts ≡ x ∷ rest → exec H m x ≡ Some m' → step C (on_at s c m i a) ≡ Some (on (on_at s c m' i (suc a)))
  unfolding step perform
  stmt_step m m' i a k x rest (b, at, ss, t) e ex =
      let (there, _) = first_left a b.stmts x rest (ss ∙ e) in
      some_bind _ is (some_bind _ at (ap (perform C H (on_at s c m i a) b.term) there ∙ some_bind _ ex refl))

  -- the code's end
  pub term_step : (m : Memory) (i a : ℕ) (k : Laid) → GoesOn body i a k → k.stmts ≡ [] → step C (on_at s c m i a) ≡ finish C H (on_at s c m i a) k.term
  unfolding step perform
  term_step m i a k (b, at, ss, t) e =
      some_bind _ is (some_bind _ at (ap (perform C H (on_at s c m i a) b.term) (none_left a b.stmts (ss ∙ e)) ∙ ap (finish C H (on_at s c m i a)) t))

  -- where the code is after its first statement
  goes_on : (i a : ℕ) (k k' : Laid) (x : TypedStmt) → GoesOn body i a k → k.stmts ≡ x ∷ k'.stmts → k.term ≡ k'.term → GoesOn body i (suc a) k'
  goes_on i a k k' x (b, at, ss, t) e q = (b, at, (first_left a b.stmts x k'.stmts (ss ∙ e)).1, t ∙ q)

  -- ---- an empty plan

  pub run_done : (m : Memory) (i a s' : ℕ) (ps : List Plan) → At low body i a (done ∷ ps) s' → (j : ℕ) × (step C (on_at s c m i a) ≡ Some (on (on_at s c m j 0))) × At low body j 0 ps s'
  unfolding finish
  run_done m i a s' ps (l, b, next, le, on', st, h) = (next, term_step m i a (lay done l b next) on' refl, h)

  -- ---- a flag becomes false

  flag_value : (m : Memory) (v : Bool) → eval H m («use» (operand.Const (constant.Bool v))) ≡ Some (number (flag v), m)
  unfolding eval read const_value
  flag_value m v = refl

  pub flag_set : (m : Memory) (x : ℕ) (v : Bool) (t : Tree) (old : Value) → slice_get body.locals x ≡ Some t → local_at m F x ≡ Some old → exec H m (set_flag x v) ≡ Some (write m (local_addr F x) (number (flag v)))
  flag_set m x v t old et e = set_local H m m x t («use» (operand.Const (constant.Bool v))) (number (flag v)) old (flag_value m v) et e

  pub run_clear : (m : Memory) (i a s' x : ℕ) (p : Plan) (ps : List Plan) (t : Tree) (old : Value) → slice_get body.locals x ≡ Some t → local_at m F x ≡ Some old → At low body i a (clear x p ∷ ps) s' → (step C (on_at s c m i a) ≡ Some (on (on_at s c (write m (local_addr F x) (number (flag false))) i (suc a)))) × At low body i (suc a) (p ∷ ps) s'
  run_clear m i a s' x p ps t old et e (l, b, next, le, on', st, h) = (
    stmt_step m _ i a (lay (clear x p) l b next) (set_flag x false) (lay p l b next).stmts on' refl (flag_set m x false t old et e),
    (l, b, next, le, goes_on i a (lay (clear x p) l b next) (lay p l b next) (set_flag x false) on' refl refl, record { locals = st.locals; blocks = st.blocks }, h),
  )

  -- ---- a flag is looked at

  abbrev pub where_flag : ℕ → Plan → List Plan → List Plan
  where_flag zero q ps = ps
  where_flag (suc n) q ps = q ∷ ps

  pub run_guarded : (m : Memory) (i a s' x n : ℕ) (q p : Plan) (ps : List Plan) → local_at m F x ≡ Some (number n) → At low body i a (guarded x q p ∷ ps) s' → (j : ℕ) × (step C (on_at s c m i a) ≡ Some (on (on_at s c m j 0))) × At low body j 0 (where_flag n q (p ∷ ps)) s'
  unfolding finish
  run_guarded m i a s' x n q p ps e (l, b, next, le, on', st, h) = (
    take_arm n (record { value = 0; block = suc b } ∷ []) b,
    term_step m i a (lay (guarded x q p) l b next) on' refl ∙ some_bind _ (copy_local H m x n e) refl,
    to n,
  )
    where
      to : (n : ℕ) → At low body (take_arm n (record { value = 0; block = suc b } ∷ []) b) 0 (where_flag n q (p ∷ ps)) s'
      to zero = not_guarded low body x q p ps l b next s' le st h
      to (suc n) = let z : nat_eq 0 (suc n) ≡ false = grind arith in rw z (guarded_in low body x q p ps l b next s' le st h)

  -- ---- a destructor is called

  -- the result goes to a local that nobody reads
  abbrev pub dest_in : ℕ → Dest
  dest_in x = record { addr = local_addr F x; guard = None }

  refer : (m : Memory) (q : Place) (qa : Addr) → resolve H m q ≡ Some qa → eval H m (rvalue.ref_mut q) ≡ Some (pointer qa, m)
  unfolding eval
  refer m q qa e = some_bind _ e refl

  read_one : (m m' : Memory) (o : _) (v : Value) → read H m o ≡ Some (v, m') → read_all H m (o ∷ []) ≡ Some (v ∷ [], m')
  unfolding read_all
  read_one m m' o v e = some_bind _ e (some_bind _ refl refl)

  pub run_destroy : (m : Memory) (i a s' g : ℕ) (q : Place) (qa : Addr) (t : Tree) (p : Plan) (ps : List Plan) → resolve H m q ≡ Some qa → ((y : ℕ) (u : Tree) → slice_get body.locals y ≡ Some u → (o : Value) × (local_at m F y ≡ Some o)) → At low body i a (destroy q t g p ∷ ps) s' → (l b : ℕ) × (m1 m2 : Memory) × (moves C 1 (on_at s c m i a) ≡ Some (on_at s c m1 i (suc a))) × (step C (on_at s c m1 i (suc a)) ≡ enter C (on_at s c m1 i (suc a)) m2 (place_in c b 0) g (pointer qa ∷ []) (Some (dest_in (suc l)))) × (low ≤ l) × Beyond F low m m2 × (slice_get body.locals l ≡ Some (ref_mut t)) × (slice_get body.locals (suc l) ≡ Some empty) × At low body b 0 (p ∷ ps) s'
  unfolding finish call
  run_destroy m i a s' g q qa t p ps eq slots (l, b, next, le, on', st, h) =
      let lt : slice_get body.locals l ≡ Some (ref_mut t) = head_stands body.locals l (ref_mut t) (empty ∷ (lay p (suc (suc l)) (suc b) next).locals) st.locals in
      let ut : slice_get body.locals (suc l) ≡ Some empty = head_stands body.locals (suc l) empty (lay p (suc (suc l)) (suc b) next).locals (tail_stands body.locals l (ref_mut t) (empty ∷ (lay p (suc (suc l)) (suc b) next).locals) st.locals) in
      let (o, lo) = slots l (ref_mut t) lt in
      let m1 = write m (local_addr F l) (pointer qa) in
      let w1 : local_at m1 F l ≡ Some (pointer qa) = written H m l (pointer qa) o lo in
      let m2 = write m1 (local_addr F l) (blank C.shapes (ref_mut t)) in
      let first = stmt_step m m1 i a (lay (destroy q t g p) l b next) (assign (local_place l) (rvalue.ref_mut q)) [] on' refl (set_local H m m l (ref_mut t) (rvalue.ref_mut q) (pointer qa) o (refer m q qa eq) lt lo) in
      let k' : Laid = record (lay (destroy q t g p) l b next) { stmts = [] } in
      let second = term_step m1 i (suc a) k' (goes_on i a (lay (destroy q t g p) l b next) k' (assign (local_place l) (rvalue.ref_mut q)) on' refl refl) refl in (
        l,
        b,
        m1,
        m2,
        one_move C (on_at s c m i a) (on_at s c m1 i (suc a)) first,
        second ∙ some_bind _ (dest_local H m1 (suc l) empty ut) (some_bind _ (read_one m1 m2 (operand.Move (local_place l)) (pointer qa) (move_local H m1 l (ref_mut t) (pointer qa) w1 refl lt)) refl),
        le,
        beyond_trans F low m m1 m2 (beyond_write H low l m (pointer qa) o le lo) (beyond_write H low l m1 (blank C.shapes (ref_mut t)) (pointer qa) le w1),
        lt,
        ut,
        after_destroy low body q t g p ps l b next s' le st h,
      )

  -- ---- a variant is chosen

  active : (m : Memory) (q : Place) (qa : Addr) (k : ℕ) (w : Value) → resolve H m q ≡ Some qa → value_at m qa ≡ Some (variant k w) → eval H m (discriminant q) ≡ Some (number k, m)
  unfolding eval
  active m q qa k w e v = some_bind _ e (some_bind _ v (some_bind _ refl refl))

  moved_number : (m : Memory) (x n : ℕ) (t : Tree) → local_at m F x ≡ Some (number n) → slice_get body.locals x ≡ Some t → read_number H m (operand.Move (local_place x)) ≡ Some (n, write m (local_addr F x) (blank C.shapes t))
  unfolding read_number
  moved_number m x n t e et = some_bind _ (move_local H m x t (number n) e refl et) (some_bind _ refl refl)

  pub run_choose : (m : Memory) (i a s' k : ℕ) (q : Place) (qa : Addr) (w : Value) (arms p : Plan) (ps : List Plan) → Armed arms → resolve H m q ≡ Some qa → value_at m qa ≡ Some (variant k w) → ((y : ℕ) (u : Tree) → slice_get body.locals y ≡ Some u → (o : Value) × (local_at m F y ≡ Some o)) → At low body i a (choose q arms p ∷ ps) s' → (j : ℕ) × (m2 : Memory) × (moves C 2 (on_at s c m i a) ≡ Some (on_at s c m2 j 0)) × Beyond F low m m2 × At low body j 0 (with_arm (arm_at k arms) (p ∷ ps)) s'
  unfolding finish
  run_choose m i a s' k q qa w arms p ps ar eq ev slots (l, b, next, le, on', st, h) =
      let lt : slice_get body.locals l ≡ Some isize_ty = head_stands body.locals l isize_ty _ st.locals in
      let (o, lo) = slots l isize_ty lt in
      let m1 = write m (local_addr F l) (number k) in
      let w1 : local_at m1 F l ≡ Some (number k) = written H m l (number k) o lo in
      let m2 = write m1 (local_addr F l) (blank C.shapes isize_ty) in
      let k0 = lay (choose q arms p) l b next in
      let first = stmt_step m m1 i a k0 (assign (local_place l) (discriminant q)) [] on' refl (set_local H m m l isize_ty (discriminant q) (number k) o (active m q qa k w eq ev) lt lo) in
      let k' : Laid = record k0 { stmts = [] } in
      let second = term_step m1 i (suc a) k' (goes_on i a k0 k' (assign (local_place l) (discriminant q)) on' refl refl) refl in
      let to = take_arm k (arms_from b arms) (b + length (arms_from b arms)) in (
        to,
        m2,
        moves_then C 1 1 (on_at s c m i a) (on_at s c m1 i (suc a)) _ (one_move C _ _ first) (one_move C (on_at s c m1 i (suc a)) (on_at s c m2 to 0) (second ∙ some_bind _ (moved_number m1 l k isize_ty w1 lt) refl)),
        beyond_trans F low m m1 m2 (beyond_write H low l m (number k) o le lo) (beyond_write H low l m1 (blank C.shapes isize_ty) (number k) le w1),
        after_choose low body q arms p ps k l b next s' le ar st h,
      )
