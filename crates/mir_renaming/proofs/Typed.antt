-- The states of a valid crate's runs are typed.
use Rattle.std.proofs.Common.{◌≡◌, ◌⊎◌, inl, inr, refl, sym, ap, ◌∙◌, subst, ℕ, zero, suc, ◌+◌, ◌≤◌, Bool, true, false, nat_eq, if◌then◌else◌, List, [], ◌∷◌, ◌++◌, length, drop, Option, Some, None, slice_get, arith}
use Rattle.mir_syntax.specs.declared.types.FnId.{FnId}
use Rattle.mir_syntax.specs.declared.types.OutId.{OutId}
use Rattle.mir_syntax.specs.declared.body.Proj.{Proj}
use Rattle.mir_syntax.specs.declared.body.Proj.TheVariants.{Field, Downcast}
use Rattle.mir_syntax.specs.declared.body.Place.{Place}
use Rattle.mir_syntax.specs.declared.body.Operand.{Operand}
use Rattle.mir_syntax.specs.declared.body.Callee.{Callee}
use Rattle.mir_syntax.specs.declared.body.Callee.TheVariants as callee
use Rattle.mir_syntax.specs.declared.body.Term.{Term}
use Rattle.mir_syntax.specs.declared.body.Term.TheVariants.{Goto, Switch, Return, Unreachable, Drop, Call, Assert}
use Rattle.mir_syntax.specs.Tree.{Tree, scalar, empty, more, ref, ref_mut, named}
use Rattle.mir_syntax.specs.Crate.{TypedBody, TypedBlock, TypedStmt, TypedOutside}
use Rattle.mir_syntax.specs.Shapes.{Shape, struct_fields, fields_of, field_ty, proj_ty, destructor_of, needs_drop}
use Rattle.mir_num.specs.Numbers.{wrap, flag}
use Rattle.mir_semantics.specs.Values.{Addr, Value, number, nil, cons, variant, pointer, hole, is_hole, blank}
use Rattle.mir_semantics.specs.Memory.{Memory, local_at, open_frame, close_frame, further}
use Rattle.mir_semantics.specs.Step.{Code, Dest, Visit, Dropping, Control, Called, State, returned, aborted, no_answer, Next, on, stop, fail, Here, local_addr, resolve, type_of, store, read_at, read, read_all, read_number, operand_ty, to_block, next_stmt, blanks, new_slots, entered, enter, calling, answered, ask, call, return_to, field_visits, variant_visits, enum_visits, shape_visits, visits_of, work_on, visit, visit_unless, visit_if, work_off, begun, destroyed_at, destroyed, check, finish, perform, step}
use Rattle.mir_syntax.proofs.Binds.{bind_some, some_bind}
use Rattle.mir_renaming.proofs.Memory.{same_or_not}
use Rattle.mir_renaming.proofs.Types.{TypeMap, further_ty, AddrTy, HasTy, MemTy, some_eq, write_ty, resolve_ty, read_ty, read_number_ty, read_at_ty, dest_ty, store_ty, StmtTy, exec_ty, addr_more, has_more, is_scalar}
use Rattle.mir_renaming.proofs.Frames.{open_same, open_other, close_same, close_other}

-- values of a list of types, as far as both go
abbrev pub TysOf : List Shape → TypeMap → List Tree → List Value → Type 0
TysOf D G [] vs = Unit {0}
TysOf D G (t ∷ ts) [] = Unit {0}
TysOf D G (t ∷ ts) (v ∷ vs) = HasTy D G t v × TysOf D G ts vs

tys_at : (D : List Shape) (G : TypeMap) (ts : List Tree) (vs : List Value) (x : ℕ) (t : Tree) (v : Value) → TysOf D G ts vs → slice_get ts x ≡ Some t → slice_get vs x ≡ Some v → HasTy D G t v
tys_at D G (t' ∷ ts) (v' ∷ vs) zero t v h e f = subst (λ y. HasTy D G y v) (let k : t' ≡ t = grind arith in k) (subst (λ y. HasTy D G t' y) (let k : v' ≡ v = grind arith in k) h.0)
tys_at D G (t' ∷ ts) (v' ∷ vs) (suc x) t v h e f = tys_at D G ts vs x t v h.1 e f
tys_at D G [] vs x t v h e f = absurd (grind arith)
tys_at D G (t' ∷ ts) [] x t v h e f = absurd (grind arith)

tys_more : (D : List Shape) (G K : TypeMap) → ((f x : ℕ) (t : Tree) → G f x ≡ Some t → K f x ≡ Some t) → (ts : List Tree) (vs : List Value) → TysOf D G ts vs → TysOf D K ts vs
tys_more D G K up [] vs h = tt
tys_more D G K up (t ∷ ts) [] h = tt
tys_more D G K up (t ∷ ts) (v ∷ vs) h = (has_more D G K up v t h.0, tys_more D G K up ts vs h.1)

-- what a valid program says of a terminator
abbrev pub args_of : List Tree → List Tree
args_of [] = []
args_of (t ∷ ts) = ts

abbrev pub OpsTy : Here → List Operand → List Tree → Type 0
OpsTy h [] ts = Unit {0}
OpsTy h (o ∷ os) [] = ⊥
OpsTy h (o ∷ os) (t ∷ ts) = (operand_ty h o ≡ Some t) × OpsTy h os ts

abbrev pub SomeTys : Here → List Operand → Type 0
SomeTys h [] = Unit {0}
SomeTys h (o ∷ os) = ((t : Tree) × (operand_ty h o ≡ Some t)) × SomeTys h os

-- the result's type, which `_0` has
abbrev pub ResultTy : List Tree → Tree → Type 0
ResultTy ts t = slice_get ts 0 ≡ Some t

abbrev pub CalleeTy : Code → Here → Callee → List Operand → Tree → Type 0
CalleeTy C h (callee.Local g) os t = (b : TypedBody) × (slice_get C.bodies g.0 ≡ Some b) × ResultTy b.locals t × OpsTy h os (args_of b.locals)
CalleeTy C h (callee.Outside o) os t = (out : TypedOutside) × (slice_get C.outsides o.0 ≡ Some out) × (out.result ≡ t) × SomeTys h os

abbrev pub TermTy : Code → Here → Term → Type 0
TermTy C h (Goto t) = Unit {0}
TermTy C h (Switch o as' t) = (u : Tree) × (operand_ty h o ≡ Some u)
TermTy C h Return = Unit {0}
TermTy C h Unreachable = Unit {0}
TermTy C h (Drop p t) = Unit {0}
TermTy C h (Call p g os t) = (u : Tree) × (type_of h p ≡ Some u) × CalleeTy C h g os u
TermTy C h (Assert o e x os t) = ((u : Tree) × (operand_ty h o ≡ Some u)) × SomeTys h os

-- an outside function's result is a scalar or ()
abbrev pub AskTy : Tree → Type 0
AskTy t = (is_scalar t ≡ true) ⊎ (t ≡ empty)

-- a destructor takes a reference to its type
abbrev pub DestructorTy : Code → ℕ → Shape → Type 0
DestructorTy C d df = (g : ℕ) → df.destructor ≡ Some g → (b : TypedBody) → slice_get C.bodies g ≡ Some b → args_of b.locals ≡ ref_mut (named d) ∷ args_of (args_of b.locals)

pub record ValidCode (C : Code) : Type 1 where
  pub blank_ok : (G : TypeMap) (t : Tree) → HasTy C.shapes G t (blank C.shapes t)
  pub stmts : (G : TypeMap) (f : ℕ) (g : ℕ) (b : TypedBody) (i : ℕ) (k : TypedBlock) (n : ℕ) (x : TypedStmt) → slice_get C.bodies g ≡ Some b → slice_get b.blocks i ≡ Some k → slice_get k.stmts n ≡ Some x → (ok : (x : ℕ) (t : Tree) → slice_get b.locals x ≡ Some t → G f x ≡ Some t) → StmtTy C.shapes G (blank_ok G) b.locals f ok x
  pub terms : (f : ℕ) (g : ℕ) (b : TypedBody) (i : ℕ) (k : TypedBlock) → slice_get C.bodies g ≡ Some b → slice_get b.blocks i ≡ Some k → TermTy C (record { shapes = C.shapes; locals = b.locals; frame = f }) k.term
  pub result : (g : ℕ) (b : TypedBody) → slice_get C.bodies g ≡ Some b → (t : Tree) × ResultTy b.locals t
  pub asks : (o : ℕ) (out : TypedOutside) → slice_get C.outsides o ≡ Some out → AskTy out.result
  pub destructors : (d : ℕ) (df : Shape) → slice_get C.shapes d ≡ Some df → DestructorTy C d df

module _ (C : Code) (valid : ValidCode C) where
  abbrev E : List Shape
  E = C.shapes

  abbrev pub LocalsTy : TypeMap → Control → Type 0
  LocalsTy G c = (b : TypedBody) → slice_get C.bodies c.function ≡ Some b → (x : ℕ) (t : Tree) → slice_get b.locals x ≡ Some t → G c.frame x ≡ Some t

  abbrev pub DestTy : TypeMap → Control → Type 0
  DestTy G c = (d : Dest) → c.dest ≡ Some d → (b : TypedBody) → slice_get C.bodies c.function ≡ Some b → (t : Tree) → ResultTy b.locals t → AddrTy E G d.addr t

  abbrev pub VisitTy : TypeMap → Visit → Type 0
  VisitTy G i = AddrTy E G i.addr i.ty

  abbrev pub VisitsTy : TypeMap → List Visit → Type 0
  VisitsTy G [] = Unit {0}
  VisitsTy G (i ∷ is) = VisitTy G i × VisitsTy G is

  abbrev pub MaybeDrop : TypeMap → Option Dropping → Type 0
  MaybeDrop G None = Unit {0}
  MaybeDrop G (Some d) = VisitTy G d.place × VisitsTy G d.items

  pub record FrameTy (G : TypeMap) (c : Control) : Type 0 where
    pub locals : LocalsTy G c
    pub dest : DestTy G c
    pub dropping : MaybeDrop G c.dropping

  abbrev pub FramesTy : TypeMap → List Control → Type 0
  FramesTy G [] = Unit {0}
  FramesTy G (c ∷ cs) = FrameTy G c × FramesTy G cs

  pub record Typed (s : State) : Type 0 where
    pub types : TypeMap
    pub mem : MemTy E types s.memory
    pub top : FrameTy types s.top
    pub callers : FramesTy types s.callers
    pub fresh : (f x : ℕ) → s.next ≤ f → types f x ≡ None

  abbrev pub NextTy : Next → Type 0
  NextTy (on s) = Typed s
  NextTy (stop o) = Unit {0}
  NextTy (fail t) = Unit {0}

  next_at : (x y : Next) → Some y ≡ Some x → NextTy y → NextTy x
  next_at x y e h = subst NextTy (let k : y ≡ x = grind arith in k) h

  -- more types
  abbrev Up : TypeMap → TypeMap → Type 0
  Up G K = (f x : ℕ) (t : Tree) → G f x ≡ Some t → K f x ≡ Some t

  visits_more : (G K : TypeMap) → Up G K → (is : List Visit) → VisitsTy G is → VisitsTy K is
  visits_more G K up [] h = tt
  visits_more G K up (i ∷ is) h = (addr_more E G K up i.addr i.ty h.0, visits_more G K up is h.1)

  maybe_more : (G K : TypeMap) → Up G K → (o : Option Dropping) → MaybeDrop G o → MaybeDrop K o
  maybe_more G K up None h = tt
  maybe_more G K up (Some d) h = (addr_more E G K up d.place.addr d.place.ty h.0, visits_more G K up d.items h.1)

  frame_more : (G K : TypeMap) → Up G K → (c : Control) → FrameTy G c → FrameTy K c
  frame_more G K up c h = record { locals = λ b e x t l. up c.frame x t (h.locals b e x t l); dest = λ d e b f t r. addr_more E G K up d.addr t (h.dest d e b f t r); dropping = maybe_more G K up c.dropping h.dropping }

  frames_more : (G K : TypeMap) → Up G K → (cs : List Control) → FramesTy G cs → FramesTy K cs
  frames_more G K up [] h = tt
  frames_more G K up (c ∷ cs) h = (frame_more G K up c h.0, frames_more G K up cs h.1)

  -- a new frame
  abbrev pub with_locals : TypeMap → ℕ → List Tree → TypeMap
  with_locals G n ts f x = if nat_eq n f then slice_get ts x else G f x

  with_up : (G : TypeMap) (n : ℕ) (ts : List Tree) → ((x : ℕ) → G n x ≡ None) → Up G (with_locals G n ts)
  with_up G n ts none f x t e = go (same_or_not n f)
    where
      go : ((nat_eq n f ≡ true) × (n ≡ f)) ⊎ ((nat_eq n f ≡ false) × (n ≡ f → ⊥)) → with_locals G n ts f x ≡ Some t
      go (inl p) = absurd (let k : G f x ≡ None = ap (λ i. G i x) (sym p.1) ∙ none x in grind arith)
      go (inr p) = ap (λ b. if b then slice_get ts x else G f x) p.0 ∙ e

  pub with_new : (G : TypeMap) (n : ℕ) (ts : List Tree) (x : ℕ) → with_locals G n ts n x ≡ slice_get ts x
  with_new G n ts x = go (same_or_not n n)
    where
      go : ((nat_eq n n ≡ true) × (n ≡ n)) ⊎ ((nat_eq n n ≡ false) × (n ≡ n → ⊥)) → with_locals G n ts n x ≡ slice_get ts x
      go (inl p) = ap (λ b. if b then slice_get ts x else G n x) p.0
      go (inr p) = absurd (p.1 refl)

  blanks_ty : (G : TypeMap) (ts : List Tree) → TysOf E G ts (blanks E ts)
  blanks_ty G [] = tt
  blanks_ty G (t ∷ ts) = (valid.blank_ok G t, blanks_ty G ts)

  args_ty : (G : TypeMap) (ts : List Tree) (vs : List Value) → TysOf E G ts vs → TysOf E G ts (vs ++ blanks E (drop (length vs) ts))
  args_ty G [] vs h = tt
  args_ty G (t ∷ ts) [] h = blanks_ty G (t ∷ ts)
  args_ty G (t ∷ ts) (v ∷ vs) h = (h.0, args_ty G ts vs h.1)

  pub slots_ty : (G : TypeMap) (ts : List Tree) (vs : List Value) → TysOf E G (args_of ts) vs → TysOf E G ts (new_slots E ts vs)
  unfolding new_slots
  slots_ty G [] vs h = tt
  slots_ty G (t ∷ ts) vs h = (valid.blank_ok G t, args_ty G ts vs h)

  pub open_ty : (G : TypeMap) (m : Memory) (n : ℕ) (ts : List Tree) (vs : List Value) → ((x : ℕ) → G n x ≡ None) → MemTy E G m → TysOf E (with_locals G n ts) ts vs → MemTy E (with_locals G n ts) (open_frame m n vs)
  open_ty G m n ts vs none k h = record { at = λ f x t v g e. go f x t v g e (same_or_not n f) }
    where
      go : (f x : ℕ) (t : Tree) (v : Value) → with_locals G n ts f x ≡ Some t → local_at (open_frame m n vs) f x ≡ Some v → ((nat_eq n f ≡ true) × (n ≡ f)) ⊎ ((nat_eq n f ≡ false) × (n ≡ f → ⊥)) → HasTy E (with_locals G n ts) t v
      go f x t v g e (inl p) = tys_at E (with_locals G n ts) ts vs x t v h (sym (ap (λ b. if b then slice_get ts x else G f x) p.0) ∙ g) (sym (open_same m n vs x) ∙ ap (λ i. local_at (open_frame m n vs) i x) p.1 ∙ e)
      go f x t v g e (inr p) = has_more E G (with_locals G n ts) (with_up G n ts none) v t (k.at f x t v (sym (ap (λ b. if b then slice_get ts x else G f x) p.0) ∙ g) (sym (open_other m n vs f x p.1) ∙ e))

  pub close_ty : (G : TypeMap) (m : Memory) (n : ℕ) → MemTy E G m → MemTy E G (close_frame m n)
  close_ty G m n k = record { at = λ f x t v g e. go f x t v g e (same_or_not f n) }
    where
      go : (f x : ℕ) (t : Tree) (v : Value) → G f x ≡ Some t → local_at (close_frame m n) f x ≡ Some v → ((nat_eq f n ≡ true) × (f ≡ n)) ⊎ ((nat_eq f n ≡ false) × (f ≡ n → ⊥)) → HasTy E G t v
      go f x t v g e (inl p) = absurd (let q : local_at (close_frame m n) f x ≡ None = ap (λ i. local_at (close_frame m n) i x) p.1 ∙ close_same m n x in grind arith)
      go f x t v g e (inr p) = k.at f x t v g (sym (close_other m n f x p.1) ∙ e)

  -- steps
  module _ (s : State) (h : Typed s) where
    abbrev G : TypeMap
    G = h.types

    going_ty : (m : Memory) (c : Control) → MemTy E G m → FrameTy G c → NextTy (on (record s { memory = m; top = c }))
    going_ty m c k f = record { types = G; mem = k; top = f; callers = h.callers; fresh = h.fresh }

    enter_ty : (m : Memory) (c : Control) (g : ℕ) (args : List Value) (d : Option Dest) (x : Next) → MemTy E G m → FrameTy G c → ((b : TypedBody) → slice_get C.bodies g ≡ Some b → TysOf E G (args_of b.locals) args) → ((d' : Dest) → d ≡ Some d' → (b : TypedBody) → slice_get C.bodies g ≡ Some b → (t : Tree) → ResultTy b.locals t → AddrTy E G d'.addr t) → enter C s m c g args d ≡ Some x → NextTy x
    unfolding enter entered
    enter_ty m c g args d x k fc ha hd e =
        let (b, e1, k1) = bind_some e in
        let K : TypeMap = with_locals G s.next b.locals in
        let none : (x : ℕ) → G s.next x ≡ None = λ x. h.fresh s.next x (omega arith) in
        let up : Up G K = with_up G s.next b.locals none in
        let locals : (b' : TypedBody) → slice_get C.bodies g ≡ Some b' → (x : ℕ) (t : Tree) → slice_get b'.locals x ≡ Some t → K s.next x ≡ Some t = λ b' e' x t l. with_new G s.next b.locals x ∙ ap (λ b. slice_get b.locals x) (some_eq E G b b' (slice_get C.bodies g) e1 e') ∙ l in
        next_at x _ k1 (record {
          types = K;
          mem = open_ty G m s.next b.locals (new_slots E b.locals args) none k (slots_ty K b.locals args (tys_more E G K up (args_of b.locals) args (ha b e1)));
          top = record { locals = locals; dest = λ d' e' b' f' t r. addr_more E G K up d'.addr t (hd d' e' b' f' t r); dropping = tt };
          callers = (frame_more G K up c fc, frames_more G K up s.callers h.callers);
          fresh = λ f y le. other b.locals f y le (same_or_not s.next f);
        })
      where
        other : (ts : List Tree) (f y : ℕ) → suc s.next ≤ f → ((nat_eq s.next f ≡ true) × (s.next ≡ f)) ⊎ ((nat_eq s.next f ≡ false) × (s.next ≡ f → ⊥)) → with_locals G s.next ts f y ≡ None
        other ts f y le (inl p) = absurd (let q = p.1 in omega arith)
        other ts f y le (inr p) = ap (λ b. if b then slice_get ts y else G f y) p.0 ∙ h.fresh f y (omega arith)

    stored : (m m' : Memory) (d : Dest) (t : Tree) (v : Value) → MemTy E G m → AddrTy E G d.addr t → HasTy E G t v → store E m d v ≡ Some m' → MemTy E G m'
    stored m m' d t v k a hv e = store_ty E G (valid.blank_ok G) [] s.next (λ x t l. absurd (grind arith)) m m' d t v k a hv e

    answered_ty : (tr : List Called) (an : List ℕ) (c : Control) (o : Option Memory) (x : Next) → FrameTy G c → ((m' : Memory) → o ≡ Some m' → MemTy E G m') → answered (calling s tr an) c o ≡ Some x → NextTy x
    answered_ty tr an c None x fc hm e = next_at x (fail tr) e tt
    answered_ty tr an c (Some m') x fc hm e = next_at x _ e (record { types = G; mem = hm m' refl; top = fc; callers = h.callers; fresh = h.fresh })

    ask_ty : (m : Memory) (c : Control) (d : Dest) (o : ℕ) (args : List ℕ) (t : Tree) (answers : List ℕ) (x : Next) → MemTy E G m → FrameTy G c → AddrTy E G d.addr t → AskTy t → ask E s m c d o args t answers ≡ Some x → NextTy x
    unfolding ask
    ask_ty m c d o args (scalar t) [] x k fc a q e = next_at x (stop no_answer) e tt
    ask_ty m c d o args (scalar t) (n ∷ rest) x k fc a q e = answered_ty _ rest c _ x fc (λ m' e1. stored m m' d (scalar t) (number (wrap t n)) k a refl e1) e
    ask_ty m c d o args t answers x k fc a q e = answered_ty _ answers c _ x fc (λ m' e1. stored m m' d t nil k a (unit q) e1) e
      where
        unit : (is_scalar t ≡ true) ⊎ (t ≡ empty) → fields_of E t ≡ Some empty
        unit (inr z) = ap (fields_of E) z
        unit (inl z) = absurd (grind arith)

    call_ty : (m : Memory) (c : Control) (d : Dest) (g : Callee) (args : List Value) (t : Tree) (x : Next) → MemTy E G m → FrameTy G c → AddrTy E G d.addr t → ((f : FnId) → g ≡ callee.Local f → (b : TypedBody) × (slice_get C.bodies f.0 ≡ Some b) × ResultTy b.locals t × TysOf E G (args_of b.locals) args) → ((o : OutId) → g ≡ callee.Outside o → (out : TypedOutside) × (slice_get C.outsides o.0 ≡ Some out) × (out.result ≡ t)) → call C s m c d g args ≡ Some x → NextTy x
    unfolding call
    call_ty m c d (callee.Local f) args t x k fc a hl ho e =
        let (b, e1, r, ha) = hl f refl in
        enter_ty m c f.0 args (Some d) x k fc (λ b' e'. subst (λ b. TysOf E G (args_of b.locals) args) (some_eq E G b b' (slice_get C.bodies f.0) e1 e') ha) (λ d' ed b' e' t' r'. subst (λ d. AddrTy E G d.addr t') (let q : d ≡ d' = grind arith in q) (subst (λ t. AddrTy E G d.addr t) (some_eq E G t t' (slice_get b.locals 0) r (subst (λ z. ResultTy z.locals t') (some_eq E G b' b (slice_get C.bodies f.0) e' e1) r')) a)) e
    call_ty m c d (callee.Outside o) args t x k fc a hl ho e =
        let (out, e1, r) = ho o refl in
        let (out', e2, k2) = bind_some e in
        let (ns, e3, k3) = bind_some k2 in
        let same : out' ≡ out = some_eq E G out' out (slice_get C.outsides o.0) e2 e1 in
        ask_ty m c d o.0 ns out'.result s.answers x k fc (subst (λ t. AddrTy E G d.addr t) (sym (ap (λ o. o.result) same ∙ r)) a) (valid.asks o.0 out' e2) k3

    -- drops
    further' : (a : Addr) (q : Proj) (t u : Tree) → AddrTy E G a t → proj_ty E t q ≡ Some u → AddrTy E G (further a q) u
    further' a q t u ha e = further_ty E G a q t u ha e

    fields_ty : (a : Addr) (t : Tree) (i : ℕ) (rest : Tree) → AddrTy E G a t → ((k : ℕ) (u : Tree) → field_ty rest k ≡ Some u → proj_ty E t (Field (i + k)) ≡ Some u) → VisitsTy G (field_visits a i rest)
    fields_ty a t i (more u us) ha f =
        (further' a (Field i) t u ha (let z : i + 0 ≡ i = omega arith in subst (λ n. proj_ty E t (Field n) ≡ Some u) z (f 0 u refl)), fields_ty a t (suc i) us ha (λ k w e. let z : i + suc k ≡ suc i + k = omega arith in subst (λ n. proj_ty E t (Field n) ≡ Some w) z (f (suc k) w e)))
    fields_ty a t i (scalar z) ha f = tt
    fields_ty a t i empty ha f = tt
    fields_ty a t i (ref z) ha f = tt
    fields_ty a t i (ref_mut z) ha f = tt
    fields_ty a t i (named z) ha f = tt

    rows_ty : (a : Addr) (t us : Tree) → AddrTy E G a t → fields_of E t ≡ Some us → VisitsTy G (field_visits a 0 us)
    rows_ty a t us ha r = fields_ty a t 0 us ha (λ k u e. some_bind _ r (let z : k ≡ 0 + k = omega arith in subst (λ n. field_ty us n ≡ Some u) z e))

    tuple_ty : (a : Addr) (t : Tree) → AddrTy E G a t → VisitsTy G (field_visits a 0 t)
    tuple_ty a (more u us) ha = rows_ty a (more u us) (more u us) ha refl
    tuple_ty a (scalar z) ha = tt
    tuple_ty a empty ha = tt
    tuple_ty a (ref z) ha = tt
    tuple_ty a (ref_mut z) ha = tt
    tuple_ty a (named z) ha = tt

    parts_ty : (a : Addr) (t : Tree) (v : Value) → AddrTy E G a t → VisitsTy G (visits_of E a t v)
    parts_ty a (named d) v ha = go (slice_get E d) refl
      where
        of_variant : (df : Shape) → slice_get E d ≡ Some df → df.is_enum ≡ true → (k : ℕ) (o : Option Tree) → slice_get df.variants k ≡ o → VisitsTy G (variant_visits a k o)
        of_variant df e en k None f = tt
        of_variant df e en k (Some t) f = tuple_ty (further a (Downcast k)) t (further' a (Downcast k) (named d) t ha (some_bind _ e (ap (λ b. if b then slice_get df.variants k else None) en ∙ f)))

        enum : (df : Shape) → slice_get E d ≡ Some df → df.is_enum ≡ true → (v : Value) → VisitsTy G (enum_visits a df.variants v)
        enum df e en (variant k w) = of_variant df e en k (slice_get df.variants k) refl
        enum df e en (number n) = tt
        enum df e en nil = tt
        enum df e en (cons w ws) = tt
        enum df e en (pointer b) = tt
        enum df e en hole = tt

        pick : (df : Shape) → slice_get E d ≡ Some df → (b : Bool) → df.is_enum ≡ b → VisitsTy G (if b then enum_visits a df.variants v else field_visits a 0 (struct_fields df))
        pick df e true en = enum df e en v
        pick df e false en = rows_ty a (named d) (struct_fields df) ha (some_bind _ e (ap (λ b. if b then None else Some (struct_fields df)) en))

        go : (o : Option Shape) → slice_get E d ≡ o → VisitsTy G (shape_visits a o v)
        go None e = tt
        go (Some df) e = pick df e df.is_enum refl
    parts_ty a (scalar z) v ha = tt
    parts_ty a empty v ha = tt
    parts_ty a (more u us) v ha = tuple_ty a (more u us) ha
    parts_ty a (ref z) v ha = tt
    parts_ty a (ref_mut z) v ha = tt

    append_ty : (is js : List Visit) → VisitsTy G is → VisitsTy G js → VisitsTy G (is ++ js)
    append_ty [] js a b = b
    append_ty (i ∷ is) js a b = (a.0, append_ty is js a.1 b)

    work_on_ty : (m : Memory) (cs : List Control) (c : Control) (d : Dropping) (is : List Visit) (x : Next) → MemTy E G m → FramesTy G cs → FrameTy G c → VisitTy G d.place → VisitsTy G is → work_on E (record s { memory = m; callers = cs }) c d is ≡ Some x → NextTy x
    unfolding work_on
    work_on_ty m cs c d [] x k hs fc hp hv e =
        let (old, e1, k1) = bind_some e in
        next_at x _ k1 (record { types = G; mem = write_ty E G m d.place.addr d.place.ty (blank E d.place.ty) k hp (valid.blank_ok G d.place.ty); top = record { locals = fc.locals; dest = fc.dest; dropping = tt }; callers = hs; fresh = h.fresh })
    work_on_ty m cs c d (i ∷ is) x k hs fc hp hv e = next_at x _ e (record { types = G; mem = k; top = record { locals = fc.locals; dest = fc.dest; dropping = (hp, hv) }; callers = hs; fresh = h.fresh })

    destroyed_at_ty : (m : Memory) (cs : List Control) (c : Control) (d : Dropping) (is : List Visit) (x : Next) → MemTy E G m → FramesTy G cs → FrameTy G c → VisitTy G d.place → VisitsTy G is → destroyed_at E (record s { memory = m; callers = cs }) c d is ≡ Some x → NextTy x
    unfolding destroyed_at
    destroyed_at_ty m cs c d [] x k hs fc hp hv e = absurd (grind arith)
    destroyed_at_ty m cs c d (i ∷ rest) x k hs fc hp hv e =
        let (v, e1, k1) = bind_some e in
        work_on_ty m cs c d (visits_of E i.addr i.ty v ++ rest) x k hs fc hp (append_ty (visits_of E i.addr i.ty v) rest (parts_ty i.addr i.ty v hv.0) hv.1) k1

    destroyed_ty : (m : Memory) (cs : List Control) (c : Control) (x : Next) → MemTy E G m → FramesTy G cs → FrameTy G c → destroyed E (record s { memory = m; callers = cs }) c ≡ Some x → NextTy x
    unfolding destroyed
    destroyed_ty m cs c x k hs fc e =
        let (d, e1, k1) = bind_some e in
        let hd : VisitTy G d.place × VisitsTy G d.items = subst (MaybeDrop G) e1 fc.dropping in
        destroyed_at_ty m cs c d d.items x k hs fc hd.0 hd.1 k1

    return_ty : (m : Memory) (d : Option Dest) (cs : List Control) (v : Value) (x : Next) → MemTy E G m → FramesTy G cs → ((d' : Dest) → d ≡ Some d' → (t : Tree) × AddrTy E G d'.addr t × HasTy E G t v) → return_to E s m d cs v ≡ Some x → NextTy x
    unfolding return_to
    return_ty m d [] v x k hs hd e = next_at x (stop (returned v)) e tt
    return_ty m None (c ∷ cs) v x k hs hd e = destroyed_ty m cs c x k hs.1 hs.0 e
    return_ty m (Some d) (c ∷ cs) v x k hs hd e =
        let (m', e1, k1) = bind_some e in
        let (t, a, hv) = hd d refl in
        next_at x _ k1 (record { types = G; mem = stored m m' d t v k a hv e1; top = hs.0; callers = hs.1; fresh = h.fresh })

    visit_ty : (d : Dropping) (i : Visit) (rest : List Visit) (v : Value) (g : Option ℕ) (x : Next) → VisitTy G d.place → VisitTy G i → VisitsTy G rest → destructor_of E i.ty ≡ g → visit C s d i rest v g ≡ Some x → NextTy x
    unfolding visit
    visit_ty d i rest v None x hp ha hr hg e = work_on_ty s.memory s.callers s.top d (visits_of E i.addr i.ty v ++ rest) x h.mem h.callers h.top hp (append_ty (visits_of E i.addr i.ty v) rest (parts_ty i.addr i.ty v ha) hr) e
    visit_ty d i rest v (Some g) x hp ha hr hg e =
        enter_ty s.memory (record s.top { dropping = Some (record d { items = i ∷ rest }) }) g (pointer i.addr ∷ []) None x h.mem (record { locals = h.top.locals; dest = h.top.dest; dropping = (hp, (ha, hr)) }) (λ b eb. arg i.addr i.ty ha hg b eb) (λ d' ed. absurd (grind arith)) e
      where
        arg : (a : Addr) (t : Tree) → AddrTy E G a t → destructor_of E t ≡ Some g → (b : TypedBody) → slice_get C.bodies g ≡ Some b → TysOf E G (args_of b.locals) (pointer a ∷ [])
        arg a (named d) ha hg b eb =
            let (df, e1, e2) = bind_some hg in
            subst (λ ts. TysOf E G ts (pointer a ∷ [])) (sym (valid.destructors d df e1 g e2 b eb)) ((named d, refl, ha), rest_ok (args_of (args_of b.locals)))
          where
            rest_ok : (ts : List Tree) → TysOf E G ts []
            rest_ok [] = tt
            rest_ok (t ∷ ts) = tt
        arg a (scalar z) ha hg b eb = absurd (grind arith)
        arg a empty ha hg b eb = absurd (grind arith)
        arg a (more u us) ha hg b eb = absurd (grind arith)
        arg a (ref z) ha hg b eb = absurd (grind arith)
        arg a (ref_mut z) ha hg b eb = absurd (grind arith)

    visit_unless_ty : (d : Dropping) (i : Visit) (rest : List Visit) (v : Value) (b : Bool) (x : Next) → VisitTy G d.place → VisitTy G i → VisitsTy G rest → visit_unless C s d i rest v b ≡ Some x → NextTy x
    unfolding visit_unless
    visit_unless_ty d i rest v true x hp ha hr e = work_on_ty s.memory s.callers s.top d rest x h.mem h.callers h.top hp hr e
    visit_unless_ty d i rest v false x hp ha hr e = visit_ty d i rest v (destructor_of E i.ty) x hp ha hr refl e

    visit_if_ty : (d : Dropping) (i : Visit) (rest : List Visit) (b : Bool) (x : Next) → VisitTy G d.place → VisitTy G i → VisitsTy G rest → visit_if C s d i rest b ≡ Some x → NextTy x
    unfolding visit_if
    visit_if_ty d i rest false x hp ha hr e = work_on_ty s.memory s.callers s.top d rest x h.mem h.callers h.top hp hr e
    visit_if_ty d i rest true x hp ha hr e =
        let (v, e1, k1) = bind_some e in
        visit_unless_ty d i rest v (is_hole v) x hp ha hr k1

    work_ty : (d : Dropping) (is : List Visit) (x : Next) → VisitTy G d.place → VisitsTy G is → work_off C s d is ≡ Some x → NextTy x
    unfolding work_off
    work_ty d [] x hp hv e = absurd (grind arith)
    work_ty d (i ∷ rest) x hp hv e = visit_if_ty d i rest (needs_drop E i.ty) x hp hv.0 hv.1 e

    -- in the body of the running function
    module _ (b : TypedBody) (k : TypedBlock) (is_b : slice_get C.bodies s.top.function ≡ Some b) (is_k : slice_get b.blocks s.top.block ≡ Some k) where
      abbrev hh : Here
      hh = record { shapes = E; locals = b.locals; frame = s.top.frame }

      ok : (x : ℕ) (t : Tree) → slice_get b.locals x ≡ Some t → G s.top.frame x ≡ Some t
      ok = h.top.locals b is_b

      pub read_any : (m : Memory) (o : Operand) (t : Tree) (r : Value × Memory) → MemTy E G m → operand_ty hh o ≡ Some t → read hh m o ≡ Some r → HasTy E G t r.0 × MemTy E G r.1
      read_any m o t r k e x = read_ty E G (valid.blank_ok G) b.locals s.top.frame ok m o t r k e x

      reads_ty : (os : List Operand) (ts : List Tree) (m : Memory) (r : List Value × Memory) → MemTy E G m → OpsTy hh os ts → read_all hh m os ≡ Some r → TysOf E G ts r.0 × MemTy E G r.1
      unfolding read_all
      reads_ty [] ts m r k ho e = subst (λ r. TysOf E G ts r.0 × MemTy E G r.1) (let q : ([], m) ≡ r = grind arith in q) (none ts, k)
        where
          none : (ts : List Tree) → TysOf E G ts []
          none [] = tt
          none (t ∷ ts) = tt
      reads_ty (o ∷ os) (t ∷ ts) m r k ho e =
          let (x, e1, k1) = bind_some e in
          let (y, e2, k2) = bind_some k1 in
          let (hv, k') = read_any m o t x k ho.0 e1 in
          let (hvs, k'') = reads_ty os ts x.1 y k' ho.1 e2 in
          subst (λ r. TysOf E G (t ∷ ts) r.0 × MemTy E G r.1) (let q : (x.0 ∷ y.0, y.1) ≡ r = grind arith in q) ((hv, hvs), k'')
      reads_ty (o ∷ os) [] m r k ho e = absurd ho

      reads_some : (os : List Operand) (m : Memory) (r : List Value × Memory) → MemTy E G m → SomeTys hh os → read_all hh m os ≡ Some r → MemTy E G r.1
      unfolding read_all
      reads_some [] m r k ho e = subst (λ r. MemTy E G r.1) (let q : ([], m) ≡ r = grind arith in q) k
      reads_some (o ∷ os) m r k ho e =
          let (x, e1, k1) = bind_some e in
          let (y, e2, k2) = bind_some k1 in
          let (_, k') = read_any m o ho.0.0 x k ho.0.1 e1 in
          subst (λ r. MemTy E G r.1) (let q : (x.0 ∷ y.0, y.1) ≡ r = grind arith in q) (reads_some os x.1 y k' ho.1 e2)

      block_ty : (t : ℕ) → FrameTy G (to_block t s.top)
      block_ty t = record { locals = h.top.locals; dest = h.top.dest; dropping = tt }

      check_ty : (m : Memory) (c : Bool) (text : List ℕ) (os : List Operand) (t : ℕ) (x : Next) → MemTy E G m → check hh s m c text os t ≡ Some x → NextTy x
      unfolding check
      check_ty m true text os t x k e = next_at x _ e (going_ty m (to_block t s.top) k (block_ty t))
      check_ty m false text os t x k e = let (r, e1, k1) = bind_some e in next_at x (stop (aborted text r.0)) k1 tt

      number_any : (m : Memory) (o : Operand) (t : Tree) (r : ℕ × Memory) → MemTy E G m → operand_ty hh o ≡ Some t → read_number hh m o ≡ Some r → MemTy E G r.1
      number_any m o t r k e x = read_number_ty E G (valid.blank_ok G) b.locals s.top.frame ok m o t r k e x

      resolved : (m' : Memory) (p : Place) (a : Addr) (t : Tree) → MemTy E G m' → type_of hh p ≡ Some t → resolve hh m' p ≡ Some a → AddrTy E G a t
      resolved m' p a t k e r = resolve_ty E G (valid.blank_ok G) b.locals s.top.frame ok m' p a t k e r

      begun_ty : (p : Place) (t : ℕ) (o : Option Dropping) (d : Dropping) → MaybeDrop G o → begun hh s p t o ≡ Some d → VisitTy G d.place × VisitsTy G d.items
      unfolding begun
      begun_ty p t (Some d') d hv e = subst (λ d. VisitTy G d.place × VisitsTy G d.items) (let q : d' ≡ d = grind arith in q) hv
      begun_ty p t None d hv e =
          let (a, e1, k1) = bind_some e in
          let (u, e2, k2) = bind_some k1 in
          let ha = resolved s.memory p a u h.mem e2 e1 in
          subst (λ d. VisitTy G d.place × VisitsTy G d.items) (some_eq E G _ d _ refl k2) (ha, (ha, tt))

      finish_ty : (t : Term) (x : Next) → TermTy C hh t → finish C hh s t ≡ Some x → NextTy x
      unfolding finish local_addr
      finish_ty (Goto t) x ht e = next_at x _ e (going_ty s.memory (to_block t s.top) h.mem (block_ty t))
      finish_ty (Switch o arms t) x ht e =
          let (r, e1, k1) = bind_some e in
          let k' = number_any s.memory o ht.0 r h.mem ht.1 e1 in
          next_at x _ k1 (going_ty r.1 _ k' (block_ty _))
      finish_ty Return x ht e =
          let (v, e1, k1) = bind_some e in
          return_ty (close_frame s.memory s.top.frame) s.top.dest s.callers v x (close_ty G s.memory s.top.frame h.mem) h.callers (λ d ed. result v e1 d ed (valid.result s.top.function b is_b)) k1
        where
          result : (v : Value) → read_at s.memory (local_addr s.top.frame 0) ≡ Some v → (d : Dest) → s.top.dest ≡ Some d → (t : Tree) × ResultTy b.locals t → (t : Tree) × AddrTy E G d.addr t × HasTy E G t v
          result v e1 d ed (t, q) = (t, h.top.dest d ed b is_b t q, read_at_ty E G (valid.blank_ok G) b.locals s.top.frame ok s.memory (local_addr s.top.frame 0) t v h.mem (record { local = t; is = ok 0 t q; path = refl }) e1)
      finish_ty Unreachable x ht e = absurd (grind arith)
      finish_ty (Drop p t) x ht e =
          let (d, e1, k1) = bind_some e in
          let hd = begun_ty p t s.top.dropping d h.top.dropping e1 in
          work_ty d d.items x hd.0 hd.1 k1
      finish_ty (Call p g os t) x (u, hp, hc) e =
          let (d, e1, k1) = bind_some e in
          let (r, e2, k2) = bind_some k1 in
          let hd = dest_ty E G (valid.blank_ok G) b.locals s.top.frame ok s.memory p u d h.mem hp e1 in
          to_callee g hc d r hd e2 k2
        where
          to_callee : (g : Callee) → CalleeTy C hh g os u → (d : Dest) (r : List Value × Memory) → AddrTy E G d.addr u → read_all hh s.memory os ≡ Some r → call C s r.1 (to_block t s.top) d g r.0 ≡ Some x → NextTy x
          to_callee (callee.Local f) (b', eb, rt, ho) d r hd e2 k2 =
              let (ha, k') = reads_ty os (args_of b'.locals) s.memory r h.mem ho e2 in
              call_ty r.1 (to_block t s.top) d (callee.Local f) r.0 u x k' (block_ty t) hd (λ f' q. (b', subst (λ i. slice_get C.bodies i.0 ≡ Some b') (let z : f ≡ f' = grind arith in z) eb, rt, ha)) (λ o q. absurd (grind arith)) k2
          to_callee (callee.Outside o) (out, eo, rt, ho) d r hd e2 k2 =
              call_ty r.1 (to_block t s.top) d (callee.Outside o) r.0 u x (reads_some os s.memory r h.mem ho e2) (block_ty t) hd (λ f q. absurd (grind arith)) (λ o' q. (out, subst (λ i. slice_get C.outsides i.0 ≡ Some out) (let z : o ≡ o' = grind arith in z) eo, rt)) k2
      finish_ty (Assert o c text os t) x (ho, hos) e =
          let (r, e1, k1) = bind_some e in
          let k' = number_any s.memory o ho.0 r h.mem ho.1 e1 in
          check_ty r.1 (nat_eq r.0 (flag c)) text os t x k' k1

      perform_ty : (o : Option TypedStmt) (x : Next) → slice_get k.stmts s.top.at ≡ o → perform C hh s k.term o ≡ Some x → NextTy x
      unfolding perform
      perform_ty None x q e = finish_ty k.term x (valid.terms s.top.frame s.top.function b s.top.block k is_b is_k) e
      perform_ty (Some st) x q e =
          let (m', e1, k1) = bind_some e in
          next_at x _ k1 (going_ty m' (next_stmt s.top) (exec_ty E G (valid.blank_ok G) b.locals s.top.frame ok s.memory m' st h.mem (valid.stmts G s.top.frame s.top.function b s.top.block k s.top.at st is_b is_k q ok) e1) (record { locals = h.top.locals; dest = h.top.dest; dropping = h.top.dropping }))

  -- each step of a valid program keeps its states typed
  pub step_typed : (s : State) (x : Next) → Typed s → step C s ≡ Some x → NextTy x
  unfolding step
  step_typed s x h e =
      let (b, e1, k1) = bind_some e in
      let (k, e2, e3) = bind_some k1 in
      perform_ty s h b k e1 e2 (slice_get k.stmts s.top.at) x refl e3
