-- The items of a drop lie in one local of their own frame, and what a destructor runs on needs drop: an invariant of the source alone.
use Rattle.std.proofs.Common.{◌≡◌, refl, sym, ◌∙◌, subst, ℕ, suc, Bool, true, false, nat_eq, if◌then◌else◌, List, [], ◌∷◌, ◌++◌, Option, Some, None, slice_get, arith}
use Rattle.mir_syntax.specs.declared.body.Proj.TheVariants.{Downcast}
use Rattle.mir_syntax.specs.declared.body.Operand.{Operand}
use Rattle.mir_syntax.specs.declared.body.Place.{Place}
use Rattle.mir_syntax.specs.declared.body.Callee.{Callee}
use Rattle.mir_syntax.specs.declared.body.Callee.TheVariants as callee
use Rattle.mir_syntax.specs.declared.body.Term.{Term}
use Rattle.mir_syntax.specs.declared.body.Term.TheVariants.{Goto, Switch, Return, Unreachable, Drop, Call, Assert}
use Rattle.mir_syntax.specs.Tree.{Tree, scalar, empty, more, named}
use Rattle.mir_syntax.specs.Tree as tree
use Rattle.mir_syntax.specs.Crate.{TypedStmt, TypedBlock, TypedBody}
use Rattle.mir_syntax.specs.Shapes.{Shape, struct_fields, destructor_of, needs_drop, place_ty}
use Rattle.mir_num.specs.Numbers.{wrap, flag}
use Rattle.mir_semantics.specs.Values.{Addr, Value, number, nil, cons, variant, pointer, hole, is_hole}
use Rattle.mir_semantics.specs.Memory.{Memory, further}
use Rattle.mir_semantics.specs.Step.{Code, Dest, Visit, Dropping, Control, State, returned, aborted, no_answer, Next, on, stop, fail, Here, local_addr, resolve, type_of, go_on, to_block, next_stmt, take_arm, entered, enter, calling, answered, ask, call, return_to, field_visits, variant_visits, enum_visits, shape_visits, visits_of, work_on, visit, visit_unless, visit_if, work_off, begun, destroyed_at, destroyed, check, finish, perform, step}
use Rattle.mir_syntax.specs.Parts.{has_deref}
use Rattle.mir_syntax.proofs.Binds.{bind_some}
use Rattle.mir_renaming.proofs.Walks.{walk_plain}

pub step_parts : (C : Code) (s : State) (x : Next) → step C s ≡ Some x → (b : TypedBody) × (k : TypedBlock) × (slice_get C.bodies s.top.function ≡ Some b) × (slice_get b.blocks s.top.block ≡ Some k) × (perform C (record { shapes = C.shapes; locals = b.locals; frame = s.top.frame }) s k.term (slice_get k.stmts s.top.at) ≡ Some x)
unfolding step
step_parts C s x e =
    let (b, e1, k1) = bind_some e in
    let (k, e2, k2) = bind_some k1 in
    (b, k, e1, e2, k2)

-- a drop's place has no dereference
abbrev pub DropPlain : Term → Type 0
DropPlain (Drop p u) = has_deref p.proj ≡ false
DropPlain _ = Unit {0}

module _ (C : Code) where
  abbrev E : List Shape
  E = C.shapes

  abbrev pub InLocal : ℕ → ℕ → Visit → Type 0
  InLocal f x i = (i.addr.frame ≡ f) × (i.addr.local ≡ x)

  abbrev pub Items : ℕ → ℕ → List Visit → Type 0
  Items f x [] = Unit {0}
  Items f x (i ∷ is) = InLocal f x i × Items f x is

  -- a drop of a place of a local of the control's own frame
  abbrev pub OwnDrop : Control → Dropping → Type 0
  OwnDrop c d = (b : TypedBody) × (x : ℕ) × (lt : Tree) × (slice_get C.bodies c.function ≡ Some b) × (slice_get b.locals x ≡ Some lt) × InLocal c.frame x d.place × Items c.frame x d.items

  abbrev pub Own : Control → Type 0
  Own c = (d : Dropping) → c.dropping ≡ Some d → OwnDrop c d

  -- the item whose destructor runs needs drop
  abbrev pub FirstNeeds : List Visit → Type 0
  FirstNeeds [] = Unit {0}
  FirstNeeds (i ∷ is) = needs_drop E i.ty ≡ true

  abbrev pub Runs : Control → Type 0
  Runs c = (d : Dropping) → c.dropping ≡ Some d → FirstNeeds d.items

  abbrev pub Owns : List Control → Type 0
  Owns [] = Unit {0}
  Owns (c ∷ cs) = Own c × Runs c × Owns cs

  pub record Drops (s : State) : Type 0 where
    pub top : Own s.top
    pub callers : Owns s.callers

  abbrev NextOwns : Next → Type 0
  NextOwns (on s) = Drops s
  NextOwns (stop o) = Unit {0}
  NextOwns (fail t) = Unit {0}

  next_at : (x y : Next) → Some y ≡ Some x → NextOwns y → NextOwns x
  next_at x y e h = subst NextOwns (let k : y ≡ x = grind arith in k) h

  none_some : {A : Type 0} {o : Option Dropping} {d : Dropping} → o ≡ None → o ≡ Some d → A
  none_some {d = d} e q = absurd (let z : ◌≡◌ {A = Option Dropping} None (Some d) = sym e ∙ q in grind arith)

  idle : (c : Control) → c.dropping ≡ None → Own c
  idle c e d q = none_some e q

  idle_runs : (c : Control) → c.dropping ≡ None → Runs c
  idle_runs c e d q = none_some e q

  -- ---- the visits of a place's parts

  fields : (f x : ℕ) (a : Addr) (i : ℕ) (t : Tree) → a.frame ≡ f → a.local ≡ x → Items f x (field_visits a i t)
  fields f x a i (more t ts) p q = ((p, q), fields f x a (suc i) ts p q)
  fields f x a i (scalar s) p q = tt
  fields f x a i empty p q = tt
  fields f x a i (tree.ref t) p q = tt
  fields f x a i (tree.ref_mut t) p q = tt
  fields f x a i (named d) p q = tt

  pub parts : (f x : ℕ) (a : Addr) (t : Tree) (v : Value) → a.frame ≡ f → a.local ≡ x → Items f x (visits_of E a t v)
  parts f x a (named d) v p q = go (slice_get E d)
    where
      of_variant : (k : ℕ) (o : Option Tree) → Items f x (variant_visits a k o)
      of_variant k None = tt
      of_variant k (Some t) = fields f x (further a (Downcast k)) 0 t p q

      enum : (ts : List Tree) (v : Value) → Items f x (enum_visits a ts v)
      enum ts (variant k w) = of_variant k (slice_get ts k)
      enum ts (number n) = tt
      enum ts nil = tt
      enum ts (cons w ws) = tt
      enum ts (pointer b) = tt
      enum ts hole = tt

      pick : (df : Shape) (b : Bool) → Items f x (if b then enum_visits a df.variants v else field_visits a 0 (struct_fields df))
      pick df true = enum df.variants v
      pick df false = fields f x a 0 (struct_fields df) p q

      go : (o : Option Shape) → Items f x (shape_visits a o v)
      go None = tt
      go (Some df) = pick df df.is_enum
  parts f x a (scalar s) v p q = tt
  parts f x a empty v p q = tt
  parts f x a (more t ts) v p q = fields f x a 0 (more t ts) p q
  parts f x a (tree.ref t) v p q = tt
  parts f x a (tree.ref_mut t) v p q = tt

  joined : (f x : ℕ) (is js : List Visit) → Items f x is → Items f x js → Items f x (is ++ js)
  joined f x [] js a b = b
  joined f x (i ∷ is) js (p, a) b = (p, joined f x is js a b)

  -- ---- steps

  go_own : (s : State) (m : Memory) (c : Control) (x : Next) → Own c → Owns s.callers → go_on s m c ≡ Some x → NextOwns x
  go_own s m c x o os e = next_at x _ e (record { top = o; callers = os })

  work_on_own : (s : State) (c : Control) (d : Dropping) (is : List Visit) (x : Next) → Owns s.callers → OwnDrop c (record d { items = is }) → work_on E s c d is ≡ Some x → NextOwns x
  unfolding work_on
  work_on_own s c d [] x os h e =
      let (old, e1, k1) = bind_some e in
      go_own s _ (to_block d.target c) x (idle (to_block d.target c) refl) os k1
  work_on_own s c d (i ∷ is) x os h e = go_own s s.memory (record c { dropping = Some (record d { items = i ∷ is }) }) x (λ d' q. subst (OwnDrop c) (let z : record d { items = i ∷ is } ≡ d' = grind arith in z) h) os e

  destroyed_own : (s : State) (c : Control) (x : Next) → Own c → Owns s.callers → destroyed E s c ≡ Some x → NextOwns x
  unfolding destroyed destroyed_at
  destroyed_own s c x o os e =
      let (d, e1, k1) = bind_some e in
      go d d.items refl (o d e1) k1
    where
      go : (d : Dropping) (is : List Visit) → d.items ≡ is → OwnDrop c d → destroyed_at E s c d is ≡ Some x → NextOwns x
      go d [] q h k = absurd (grind arith)
      go d (i ∷ rest) q (b, y, lt, e1, e2, pl, its) k =
          let (v, e3, k3) = bind_some k in
          let its' : Items c.frame y (i ∷ rest) = subst (Items c.frame y) q its in
          work_on_own s c d (visits_of E i.addr i.ty v ++ rest) x os (b, y, lt, e1, e2, pl, joined c.frame y (visits_of E i.addr i.ty v) rest (parts c.frame y i.addr i.ty v its'.0.0 its'.0.1) its'.1) k3

  enter_own : (s : State) (m : Memory) (c : Control) (g : ℕ) (args : List Value) (d : Option Dest) (x : Next) → Own c → Runs c → Owns s.callers → enter C s m c g args d ≡ Some x → NextOwns x
  unfolding enter entered
  enter_own s m c g args d x o r os e = let (b, e1, k1) = bind_some e in next_at x _ k1 (record { top = λ d q. absurd (grind arith); callers = (o, r, os) })

  answered_own : (s : State) (c : Control) (o : Option Memory) (x : Next) → Own c → Owns s.callers → answered s c o ≡ Some x → NextOwns x
  answered_own s c None x w os e = next_at x (fail s.trace) e tt
  answered_own s c (Some m) x w os e = go_own s m c x w os e

  ask_own : (s : State) (m : Memory) (c : Control) (d : Dest) (o : ℕ) (args : List ℕ) (t : Tree) (answers : List ℕ) (x : Next) → Own c → Owns s.callers → ask E s m c d o args t answers ≡ Some x → NextOwns x
  unfolding ask
  ask_own s m c d o args (scalar t) [] x w os e = next_at x (stop no_answer) e tt
  ask_own s m c d o args (scalar t) (n ∷ rest) x w os e = answered_own (calling s (record { outside = o; args = args; answer = Some (wrap t n) } ∷ s.trace) rest) c _ x w os e
  ask_own s m c d o args t answers x w os e = answered_own (calling s (record { outside = o; args = args; answer = None } ∷ s.trace) answers) c _ x w os e

  call_own : (s : State) (m : Memory) (c : Control) (d : Dest) (g : Callee) (args : List Value) (x : Next) → c.dropping ≡ None → Owns s.callers → call C s m c d g args ≡ Some x → NextOwns x
  unfolding call
  call_own s m c d (callee.Local g) args x q os e = enter_own s m c g.0 args (Some d) x (idle c q) (idle_runs c q) os e
  call_own s m c d (callee.Outside o) args x q os e =
      let (out, e1, k1) = bind_some e in
      let (ns, e2, k2) = bind_some k1 in
      ask_own s m c d o.0 ns out.result s.answers x (idle c q) os k2

  return_own : (s : State) (m : Memory) (d : Option Dest) (cs : List Control) (v : Value) (x : Next) → Owns cs → return_to E s m d cs v ≡ Some x → NextOwns x
  unfolding return_to
  return_own s m d [] v x o e = next_at x (stop (returned v)) e tt
  return_own s m None (c ∷ cs) v x (o, r, os) e = destroyed_own (record s { memory = m; callers = cs }) c x o os e
  return_own s m (Some d) (c ∷ cs) v x (o, r, os) e = let (m', e1, k1) = bind_some e in next_at x _ k1 (record { top = o; callers = os })

  module _ (s : State) (h : Drops s) where
    visit_own : (d : Dropping) (i : Visit) (rest : List Visit) (v : Value) (g : Option ℕ) (x : Next) → OwnDrop s.top (record d { items = i ∷ rest }) → needs_drop E i.ty ≡ true → visit C s d i rest v g ≡ Some x → NextOwns x
    unfolding visit
    visit_own d i rest v None x (b, y, lt, e1, e2, pl, (it, its)) n e = work_on_own s s.top d (visits_of E i.addr i.ty v ++ rest) x h.callers (b, y, lt, e1, e2, pl, joined s.top.frame y (visits_of E i.addr i.ty v) rest (parts s.top.frame y i.addr i.ty v it.0 it.1) its) e
    visit_own d i rest v (Some g) x o n e =
        enter_own s s.memory (record s.top { dropping = Some (record d { items = i ∷ rest }) }) g (pointer i.addr ∷ []) None x
        (λ d' q. subst (OwnDrop s.top) (let z : record d { items = i ∷ rest } ≡ d' = grind arith in z) o)
        (λ d' q. subst (λ (z : Dropping). FirstNeeds z.items) (let z : record d { items = i ∷ rest } ≡ d' = grind arith in z) n) h.callers e

    unless_own : (d : Dropping) (i : Visit) (rest : List Visit) (v : Value) (c : Bool) (x : Next) → OwnDrop s.top (record d { items = i ∷ rest }) → needs_drop E i.ty ≡ true → visit_unless C s d i rest v c ≡ Some x → NextOwns x
    unfolding visit_unless
    unless_own d i rest v true x (b, y, lt, e1, e2, pl, (it, its)) n e = work_on_own s s.top d rest x h.callers (b, y, lt, e1, e2, pl, its) e
    unless_own d i rest v false x o n e = visit_own d i rest v (destructor_of E i.ty) x o n e

    if_own : (d : Dropping) (i : Visit) (rest : List Visit) (c : Bool) (x : Next) → OwnDrop s.top (record d { items = i ∷ rest }) → needs_drop E i.ty ≡ c → visit_if C s d i rest c ≡ Some x → NextOwns x
    unfolding visit_if
    if_own d i rest false x (b, y, lt, e1, e2, pl, (it, its)) n e = work_on_own s s.top d rest x h.callers (b, y, lt, e1, e2, pl, its) e
    if_own d i rest true x o n e = let (v, e1, k1) = bind_some e in unless_own d i rest v (is_hole v) x o n k1

    work_off_own : (d : Dropping) (is : List Visit) (x : Next) → OwnDrop s.top (record d { items = is }) → work_off C s d is ≡ Some x → NextOwns x
    unfolding work_off
    work_off_own d [] x o e = absurd (grind arith)
    work_off_own d (i ∷ rest) x o e = if_own d i rest (needs_drop E i.ty) x o refl e

    module _ (b : TypedBody) (is_b : slice_get C.bodies s.top.function ≡ Some b) where
      abbrev hh : Here
      hh = record { shapes = E; locals = b.locals; frame = s.top.frame }

      -- what a drop begins with
      pub begun_own : (p : Place) (u : ℕ) (o : Option Dropping) (d : Dropping) → has_deref p.proj ≡ false → s.top.dropping ≡ o → begun hh s p u o ≡ Some d → OwnDrop s.top d
      unfolding begun resolve type_of place_ty local_addr
      begun_own p u (Some d') d hd ev e = h.top d (ev ∙ e)
      begun_own p u None d hd ev e =
          let (a, e1, k1) = bind_some e in
          let (t, e2, k2) = bind_some k1 in
          let (lt, e3, _) = bind_some e2 in
          let (f1, f2, _) = walk_plain p.proj s.memory _ a hd e1 in
          subst (OwnDrop s.top) (let q : record { place = record { addr = a; ty = t }; target = u; items = record { addr = a; ty = t } ∷ [] } ≡ d = grind arith in q) (b, p.local, lt, is_b, e3, (f1, f2), ((f1, f2), tt))

      check_own : (m : Memory) (c : Bool) (text : List ℕ) (os : List Operand) (u : ℕ) (x : Next) → check hh s m c text os u ≡ Some x → NextOwns x
      unfolding check
      check_own m true text os u x e = go_own s m (to_block u s.top) x (idle (to_block u s.top) refl) h.callers e
      check_own m false text os u x e = let (r, e1, k1) = bind_some e in next_at x (stop (aborted text r.0)) k1 tt

      finish_own : (t : Term) (x : Next) → DropPlain t → finish C hh s t ≡ Some x → NextOwns x
      unfolding finish
      finish_own (Goto u) x hd e = go_own s s.memory (to_block u s.top) x (idle (to_block u s.top) refl) h.callers e
      finish_own (Switch o arms u) x hd e =
          let (r, e1, k1) = bind_some e in
          go_own s r.1 (to_block (take_arm r.0 arms u) s.top) x (idle (to_block (take_arm r.0 arms u) s.top) refl) h.callers k1
      finish_own Return x hd e =
          let (v, e1, k1) = bind_some e in
          return_own s _ s.top.dest s.callers v x h.callers k1
      finish_own Unreachable x hd e = absurd (grind arith)
      finish_own (Drop p u) x hd e =
          let (d, e1, k1) = bind_some e in
          work_off_own d d.items x (begun_own p u s.top.dropping d hd refl e1) k1
      finish_own (Call p g os u) x hd e =
          let (d, e1, k1) = bind_some e in
          let (r, e2, k2) = bind_some k1 in
          call_own s r.1 (to_block u s.top) d g r.0 x refl h.callers k2
      finish_own (Assert o c text os u) x hd e =
          let (r, e1, k1) = bind_some e in
          check_own r.1 (nat_eq r.0 (flag c)) text os u x k1

      perform_own : (t : Term) (o : Option TypedStmt) (x : Next) → DropPlain t → perform C hh s t o ≡ Some x → NextOwns x
      unfolding perform
      perform_own t None x hd e = finish_own t x hd e
      perform_own t (Some st) x hd e = let (m', e1, k1) = bind_some e in go_own s m' (next_stmt s.top) x h.top h.callers k1

  pub step_drops : ((g : ℕ) (b : TypedBody) (i : ℕ) (k : TypedBlock) → slice_get C.bodies g ≡ Some b → slice_get b.blocks i ≡ Some k → DropPlain k.term) → (s s' : State) → Drops s → step C s ≡ Some (on s') → Drops s'
  step_drops plain s s' h e =
      let (b, k, e1, e2, e3) = step_parts C s (on s') e in
      perform_own s h b e1 k.term (slice_get k.stmts s.top.at) (on s') (plain s.top.function b s.top.block k e1 e2) e3
