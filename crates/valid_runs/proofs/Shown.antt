-- What a run from an entry returns holds no reference: its first frame's function stays, and the result of that has a type without any.
use Rattle.std.proofs.Common.{◌≡◌, refl, sym, ap, ap₂, ◌∙◌, subst, ℕ, zero, suc, Bool, true, false, ◌||◌, ◌==◌, nat_eq, if◌then◌else◌, List, [], ◌∷◌, ◌++◌, length, take, Option, Some, None, slice_get, arith, eq-eqb}
use Rattle.std.proofs.lemmas.Bool.{not-true, or_right, or_left}
use Rattle.mir_syntax.specs.declared.body.Operand.{Operand}
use Rattle.mir_syntax.specs.declared.body.Callee.{Callee}
use Rattle.mir_syntax.specs.declared.body.Callee.TheVariants as callee
use Rattle.mir_syntax.specs.declared.body.Term.{Term}
use Rattle.mir_syntax.specs.declared.body.Term.TheVariants.{Goto, Switch, Return, Unreachable, Drop, Call, Assert}
use Rattle.mir_syntax.specs.Tree.{Tree, scalar, empty, more, ref, ref_mut, named, tuple_of}
use Rattle.mir_syntax.specs.Crate.{TypedBody, TypedBlock, TypedStmt}
use Rattle.mir_syntax.specs.Shapes.{Shape, struct_fields, first_variant, fields_of, variant_ty, destructor_of, needs_by, any_needs, needs_drop}
use Rattle.mir_rules.specs.DefinitionRules.{holds}
use Rattle.mir_rules.proofs.Lists.{or_false-left, or_false-right, and_true-left, and_true-right}
use Rattle.mir_rules.proofs.Fixed.{fixed}
use Rattle.mir_num.specs.Numbers.{wrap, flag}
use Rattle.mir_semantics.specs.Values.{Value, number, nil, cons, variant, pointer, hole, is_hole, whole}
use Rattle.mir_semantics.specs.Memory.{Memory, close_frame}
use Rattle.mir_semantics.specs.Step.{Code, Dest, Visit, Dropping, Control, State, returned, aborted, no_answer, Next, on, stop, fail, Here, only_if, local_addr, store, read_at, go_on, to_block, next_stmt, take_arm, entered, enter, calling, answered, ask, call, work_on, visits_of, visit, visit_unless, visit_if, work_off, destroyed_at, destroyed, return_to, check, finish, perform, step}
use Rattle.mir_semantics.specs.Run.{Entry, start}
use Rattle.mir_semantics.specs.Entry.{IsEntry, refers_by, any_refers, refers_of, refers_def, holds_reference, result_and_args}
use Rattle.mir_syntax.proofs.Binds.{bind_some}
use Rattle.mir_renaming.proofs.Ghosts.{is_plain, Flat}
use Rattle.mir_renaming.proofs.Types.{TypeMap, HasTy, value_at_ty}
use Rattle.mir_renaming.proofs.Typed.{ResultTy, ValidCode, Typed, step_typed}

-- ---- types without references

module _ (g h : ℕ → Bool) where
  refers_by_named : (t : Tree) → ((k : ℕ) → needs_by (λ j. j == k) t ≡ true → g k ≡ h k) → refers_by g t ≡ refers_by h t
  refers_by_named (more t ts) same =
      ap₂ (λ a b. a || b) (refers_by_named t (λ k e. same k (or_left (needs_by (λ j. j == k) t) (needs_by (λ j. j == k) ts) e)))
      (refers_by_named ts (λ k e. same k (or_right (needs_by (λ j. j == k) t) (needs_by (λ j. j == k) ts) e)))
  refers_by_named (named d) same = same d (eq-eqb d d refl)
  refers_by_named t same = refl

  any_refers_named : (ts : List Tree) → ((k : ℕ) → any_needs (λ j. j == k) ts ≡ true → g k ≡ h k) → any_refers g ts ≡ any_refers h ts
  any_refers_named [] same = refl
  any_refers_named (t ∷ ts) same =
      ap₂ (λ a b. a || b) (refers_by_named t (λ k e. same k (or_left (needs_by (λ j. j == k) t) (any_needs (λ j. j == k) ts) e)))
      (any_refers_named ts (λ k e. same k (or_right (needs_by (λ j. j == k) t) (any_needs (λ j. j == k) ts) e)))

module _ (D : List Shape) (apart : (d : ℕ) → holds D (length D) d d ≡ false) where
  abbrev below : ℕ → Bool
  below = refers_def D (length D)

  -- no reference stands in the type, or in a type that it holds
  abbrev pub Free : Tree → Type 0
  Free t = refers_by below t ≡ false

  refers_named : (d : ℕ) → below d ≡ refers_of below (slice_get D d)
  refers_named d = fixed D apart (refers_def D) (λ k. refers_of) false (λ k. refl) (λ k g. refl) (λ n k. refl) (λ k g h s same. any_refers_named g h s.variants same) d

  any_at : (ts : List Tree) (k : ℕ) (t : Tree) → any_refers below ts ≡ false → slice_get ts k ≡ Some t → Free t
  any_at [] k t h e = absurd (grind arith)
  any_at (u ∷ ts) zero t h e = rw (let same : t ≡ u = grind arith in same) (or_false-left (refers_by below u) (any_refers below ts) h)
  any_at (u ∷ ts) (suc k) t h e = any_at ts k t (or_false-right (refers_by below u) (any_refers below ts) h) e

  any_first : (ts : List Tree) → any_refers below ts ≡ false → Free (first_variant ts)
  any_first [] h = refl
  any_first (t ∷ ts) h = or_false-left (refers_by below t) (any_refers below ts) h

  shape_free : (d : ℕ) (s : Shape) → below d ≡ false → slice_get D d ≡ Some s → any_refers below s.variants ≡ false
  shape_free d s h e = sym (ap (refers_of below) e) ∙ sym (refers_named d) ∙ h

  tuple_free : (t u us : Tree) → Free t → Some t ≡ Some (more u us) → Free u × Free us
  tuple_free t u us h e =
      let k : refers_by below (more u us) ≡ false = subst Free (let z : t ≡ more u us = grind arith in z) h in
      (or_false-left (refers_by below u) (refers_by below us) k, or_false-right (refers_by below u) (refers_by below us) k)

  row_free : (t u us : Tree) → Free t → fields_of D t ≡ Some (more u us) → Free u × Free us
  row_free (more t ts) u us h e = tuple_free (more t ts) u us h e
  row_free (named d) u us h e =
      let (s, e1, e2) = bind_some e in
      fields s e1 s.is_enum e2
    where
      fields : (s : Shape) → slice_get D d ≡ Some s → (b : Bool) → (if b then None else Some (struct_fields s)) ≡ Some (more u us) → Free u × Free us
      fields s e1 true e2 = absurd (grind arith)
      fields s e1 false e2 = tuple_free (struct_fields s) u us (any_first s.variants (shape_free d s h e1)) e2
  row_free t u us h e = absurd (grind arith)

  variant_free : (t u : Tree) (k : ℕ) → Free t → variant_ty D t k ≡ Some u → Free u
  variant_free (named d) u k h e =
      let (s, e1, e2) = bind_some e in
      fields s e1 s.is_enum e2
    where
      fields : (s : Shape) → slice_get D d ≡ Some s → (b : Bool) → (if b then slice_get s.variants k else None) ≡ Some u → Free u
      fields s e1 true e2 = any_at s.variants k u (shape_free d s h e1) e2
      fields s e1 false e2 = absurd (grind arith)
  variant_free t u k h e = absurd (grind arith)

  free_plain : (G : TypeMap) (v : Value) (t : Tree) → Free t → HasTy D G t v → whole v ≡ true → is_plain v ≡ true
  free_plain G (number n) t h ty w = refl
  free_plain G nil t h ty w = refl
  free_plain G (cons v vs) t h (u, us, e, a, b) w =
      let (fu, fus) = row_free t u us h e in
      rw (free_plain G v u fu a (and_true-left (whole v) (whole vs) w)) (free_plain G vs us fus b (and_true-right (whole v) (whole vs) w))
  free_plain G (variant k v) t h (u, e, a) w = free_plain G v u (variant_free t u k h e) a w
  free_plain G (pointer a) (ref t) h (u, e, k) w = absurd (grind arith)
  free_plain G (pointer a) (ref_mut t) h (u, e, k) w = absurd (grind arith)
  free_plain G (pointer a) t h (u, e, k) w = absurd (grind arith)
  free_plain G hole t h ty w = absurd (grind arith)

only_same : (u v : Value) → only_if (whole u) u ≡ Some v → (whole u ≡ true) × (u ≡ v)
only_same u v e = go (whole u) refl e
  where
    go : (b : Bool) → whole u ≡ b → only_if b u ≡ Some v → (whole u ≡ true) × (u ≡ v)
    go true w e = (w, grind arith)
    go false w e = absurd (grind arith)

-- ---- the first frame

-- the oldest frame
abbrev pub bottom : Control → List Control → Control
bottom c [] = c
bottom c (d ∷ ds) = bottom d ds

module _ (C : Code) (apart : (d : ℕ) → holds C.shapes (length C.shapes) d d ≡ false) (valid : ValidCode C) where
  -- the result of the function holds no reference
  abbrev Ends : ℕ → Type 0
  Ends g = (b : TypedBody) → slice_get C.bodies g ≡ Some b → (t : Tree) → ResultTy b.locals t → Free C.shapes apart t

  abbrev Quiet : Control → List Control → Type 0
  Quiet c cs = Ends (bottom c cs).function

  abbrev Shows : Next → Type 0
  Shows (on s) = Quiet s.top s.callers
  Shows (stop (returned v)) = is_plain v ≡ true
  Shows _ = Unit {0}

  shows_at : (x y : Next) → Some y ≡ Some x → Shows y → Shows x
  shows_at x y e h = subst Shows (let k : y ≡ x = grind arith in k) h

  renamed : (c d : Control) (cs : List Control) → c.function ≡ d.function → Quiet c cs → Quiet d cs
  renamed c d [] e q = subst Ends e q
  renamed c d (x ∷ cs) e q = q

  go_shows : (s : State) (m : Memory) (c : Control) (x : Next) → Quiet c s.callers → go_on s m c ≡ Some x → Shows x
  go_shows s m c x q e = shows_at x _ e q

  enter_shows : (s : State) (m : Memory) (c : Control) (g : ℕ) (args : List Value) (d : Option Dest) (x : Next) → Quiet c s.callers → enter C s m c g args d ≡ Some x → Shows x
  unfolding enter entered
  enter_shows s m c g args d x q e = let (b, e1, k1) = bind_some e in shows_at x _ k1 q

  answered_shows : (s : State) (c : Control) (o : Option Memory) (x : Next) → Quiet c s.callers → answered s c o ≡ Some x → Shows x
  answered_shows s c None x q e = shows_at x (fail s.trace) e tt
  answered_shows s c (Some m) x q e = go_shows s m c x q e

  ask_shows : (s : State) (m : Memory) (c : Control) (d : Dest) (o : ℕ) (args : List ℕ) (t : Tree) (as' : List ℕ) (x : Next) → Quiet c s.callers → ask C.shapes s m c d o args t as' ≡ Some x → Shows x
  unfolding ask
  ask_shows s m c d o args (scalar t) [] x q e = shows_at x (stop no_answer) e tt
  ask_shows s m c d o args (scalar t) (a ∷ rest) x q e = answered_shows (calling s (record { outside = o; args = args; answer = Some (wrap t a) } ∷ s.trace) rest) c (store C.shapes m d (number (wrap t a))) x q e
  ask_shows s m c d o args empty as' x q e = answered_shows (calling s (record { outside = o; args = args; answer = None } ∷ s.trace) as') c (store C.shapes m d nil) x q e
  ask_shows s m c d o args (more t ts) as' x q e = answered_shows (calling s (record { outside = o; args = args; answer = None } ∷ s.trace) as') c (store C.shapes m d nil) x q e
  ask_shows s m c d o args (ref t) as' x q e = answered_shows (calling s (record { outside = o; args = args; answer = None } ∷ s.trace) as') c (store C.shapes m d nil) x q e
  ask_shows s m c d o args (ref_mut t) as' x q e = answered_shows (calling s (record { outside = o; args = args; answer = None } ∷ s.trace) as') c (store C.shapes m d nil) x q e
  ask_shows s m c d o args (named t) as' x q e = answered_shows (calling s (record { outside = o; args = args; answer = None } ∷ s.trace) as') c (store C.shapes m d nil) x q e

  call_shows : (s : State) (m : Memory) (c : Control) (d : Dest) (g : Callee) (args : List Value) (x : Next) → Quiet c s.callers → call C s m c d g args ≡ Some x → Shows x
  unfolding call
  call_shows s m c d (callee.Local g) args x q e = enter_shows s m c g.0 args (Some d) x q e
  call_shows s m c d (callee.Outside o) args x q e =
      let (out, e1, k1) = bind_some e in
      let (ns, e2, k2) = bind_some k1 in
      ask_shows s m c d o.0 ns out.result s.answers x q k2

  work_on_shows : (s : State) (c : Control) (d : Dropping) (is : List Visit) (x : Next) → Quiet c s.callers → work_on C.shapes s c d is ≡ Some x → Shows x
  unfolding work_on
  work_on_shows s c d [] x q e =
      let (old, e1, k1) = bind_some e in
      go_shows s _ (to_block d.target c) x (renamed c (to_block d.target c) s.callers refl q) k1
  work_on_shows s c d (i ∷ is) x q e = go_shows s s.memory (record c { dropping = Some (record d { items = i ∷ is }) }) x (renamed c (record c { dropping = Some (record d { items = i ∷ is }) }) s.callers refl q) e

  destroyed_shows : (s : State) (c : Control) (x : Next) → Quiet c s.callers → destroyed C.shapes s c ≡ Some x → Shows x
  unfolding destroyed destroyed_at
  destroyed_shows s c x q e = let (d, e1, k1) = bind_some e in items d d.items k1
    where
      items : (d : Dropping) (is : List Visit) → destroyed_at C.shapes s c d is ≡ Some x → Shows x
      items d [] e = absurd (grind arith)
      items d (i ∷ rest) e =
          let (v, e1, k1) = bind_some e in
          work_on_shows s c d (visits_of C.shapes i.addr i.ty v ++ rest) x q k1

  return_shows : (s : State) (m : Memory) (d : Option Dest) (cs : List Control) (v : Value) (x : Next) → Quiet s.top cs → (cs ≡ [] → is_plain v ≡ true) → return_to C.shapes s m d cs v ≡ Some x → Shows x
  unfolding return_to
  return_shows s m d [] v x q h e = shows_at x (stop (returned v)) e (h refl)
  return_shows s m None (c ∷ cs) v x q h e = destroyed_shows (record s { memory = m; callers = cs }) c x q e
  return_shows s m (Some d) (c ∷ cs) v x q h e = let (m', e1, k1) = bind_some e in go_shows (record s { callers = cs }) m' c x q k1

  module _ (s : State) (q : Quiet s.top s.callers) where
    moved : (c : Control) → s.top.function ≡ c.function → Quiet c s.callers
    moved c e = renamed s.top c s.callers e q

    visit_shows : (d : Dropping) (i : Visit) (rest : List Visit) (v : Value) (g : Option ℕ) (x : Next) → visit C s d i rest v g ≡ Some x → Shows x
    unfolding visit
    visit_shows d i rest v None x e = work_on_shows s s.top d (visits_of C.shapes i.addr i.ty v ++ rest) x q e
    visit_shows d i rest v (Some g) x e = enter_shows s s.memory (record s.top { dropping = Some (record d { items = i ∷ rest }) }) g (pointer i.addr ∷ []) None x (moved (record s.top { dropping = Some (record d { items = i ∷ rest }) }) refl) e

    unless_shows : (d : Dropping) (i : Visit) (rest : List Visit) (v : Value) (b : Bool) (x : Next) → visit_unless C s d i rest v b ≡ Some x → Shows x
    unfolding visit_unless
    unless_shows d i rest v true x e = work_on_shows s s.top d rest x q e
    unless_shows d i rest v false x e = visit_shows d i rest v (destructor_of C.shapes i.ty) x e

    if_shows : (d : Dropping) (i : Visit) (rest : List Visit) (b : Bool) (x : Next) → visit_if C s d i rest b ≡ Some x → Shows x
    unfolding visit_if
    if_shows d i rest false x e = work_on_shows s s.top d rest x q e
    if_shows d i rest true x e = let (v, e1, k1) = bind_some e in unless_shows d i rest v (is_hole v) x k1

    work_shows : (d : Dropping) (is : List Visit) (x : Next) → work_off C s d is ≡ Some x → Shows x
    unfolding work_off
    work_shows d [] x e = absurd (grind arith)
    work_shows d (i ∷ rest) x e = if_shows d i rest (needs_drop C.shapes i.ty) x e

    check_shows : (h : Here) (m : Memory) (c : Bool) (text : List ℕ) (os : List Operand) (t : ℕ) (x : Next) → check h s m c text os t ≡ Some x → Shows x
    unfolding check
    check_shows h m true text os t x e = go_shows s m (to_block t s.top) x (moved (to_block t s.top) refl) e
    check_shows h m false text os t x e = let (r, e1, k1) = bind_some e in shows_at x (stop (aborted text r.0)) k1 tt

    module _ (ty : Typed C valid s) (b : TypedBody) (k : TypedBlock) (is_b : slice_get C.bodies s.top.function ≡ Some b) where
      abbrev hh : Here
      hh = record { shapes = C.shapes; locals = b.locals; frame = s.top.frame }

      result_plain : (v : Value) → s.callers ≡ [] → read_at s.memory (local_addr s.top.frame 0) ≡ Some v → is_plain v ≡ true
      unfolding read_at local_addr
      result_plain v last e =
          let (u, e1, k1) = bind_some e in
          let (w, same) = only_same u v k1 in
          let (t, at) = valid.result s.top.function b is_b in
          let ends : Ends s.top.function = subst (λ l. Ends (bottom s.top l).function) last q in
          let hu = value_at_ty C.shapes ty.types s.memory (local_addr s.top.frame 0) t u ty.mem (record { local = t; is = ty.top.locals b is_b 0 t at; path = refl }) e1 in
          subst (λ y. is_plain y ≡ true) same (free_plain C.shapes apart ty.types u t (ends b is_b t at) hu w)

      finish_shows : (t : Term) (x : Next) → finish C hh s t ≡ Some x → Shows x
      unfolding finish
      finish_shows (Goto t) x e = go_shows s s.memory (to_block t s.top) x (moved (to_block t s.top) refl) e
      finish_shows (Switch o arms t) x e =
          let (r, e1, k1) = bind_some e in
          go_shows s r.1 (to_block (take_arm r.0 arms t) s.top) x (moved (to_block (take_arm r.0 arms t) s.top) refl) k1
      finish_shows Return x e =
          let (v, e1, k1) = bind_some e in
          return_shows s (close_frame s.memory s.top.frame) s.top.dest s.callers v x q (λ last. result_plain v last e1) k1
      finish_shows Unreachable x e = absurd (grind arith)
      finish_shows (Drop p t) x e = let (d, e1, k1) = bind_some e in work_shows d d.items x k1
      finish_shows (Call p g os t) x e =
          let (d, e1, k1) = bind_some e in
          let (r, e2, k2) = bind_some k1 in
          call_shows s r.1 (to_block t s.top) d g r.0 x (moved (to_block t s.top) refl) k2
      finish_shows (Assert o c text os t) x e =
          let (r, e1, k1) = bind_some e in
          check_shows hh r.1 (nat_eq r.0 (flag c)) text os t x k1

      perform_shows : (o : Option TypedStmt) (x : Next) → perform C hh s k.term o ≡ Some x → Shows x
      unfolding perform
      perform_shows None x e = finish_shows k.term x e
      perform_shows (Some st) x e = let (m, e1, k1) = bind_some e in go_shows s m (next_stmt s.top) x (moved (next_stmt s.top) refl) k1

  -- what is known of each state of a run from an entry
  pub record Known (s : State) : Type 0 where
    pub typed : Typed C valid s
    pub quiet : Ends (bottom s.top s.callers).function

  step_shows : (s : State) (x : Next) → Known s → step C s ≡ Some x → Shows x
  unfolding step
  step_shows s x h e =
      let (b, e1, k1) = bind_some e in
      let (k, e2, k2) = bind_some k1 in
      perform_shows s h.quiet h.typed b k e1 (slice_get k.stmts s.top.at) x k2

  pub step_flat : (s : State) (x : Next) → Known s → step C s ≡ Some x → Flat x
  step_flat s x h e = go x (step_shows s x h e)
    where
      go : (x : Next) → Shows x → Flat x
      go (on s') q = tt
      go (stop (returned v)) q = q
      go (stop (aborted t vs)) q = tt
      go (stop no_answer) q = tt
      go (fail t) q = tt

  pub step_known : (s s' : State) → Known s → step C s ≡ Some (on s') → Known s'
  step_known s s' h e = record { typed = step_typed C valid s (on s') h.typed e; quiet = step_shows s (on s') h e }

  first_free : (n : ℕ) (ls : List Tree) (t : Tree) → slice_get ls 0 ≡ Some t → holds_reference C.shapes (tuple_of (take (suc n) ls)) ≡ false → Free C.shapes apart t
  unfolding holds_reference
  first_free n [] t e h = absurd (grind arith)
  first_free n (l ∷ ls) t e h = subst (Free C.shapes apart) (let z : l ≡ t = grind arith in z) (or_false-left (refers_by (refers_def C.shapes (length C.shapes)) l) (refers_by (refers_def C.shapes (length C.shapes)) (tuple_of (take n ls))) h)

  pub start_known : (e : Entry) → IsEntry C e → (answers : List ℕ) → Typed C valid (start C e answers) → Known (start C e answers)
  start_known e k answers ty = record {
    typed = ty;
    quiet = λ b at t first.
        let same : k.body ≡ b = (let z : Some k.body ≡ Some b = sym k.there ∙ at in grind arith) in
        let free : holds_reference C.shapes (tuple_of (result_and_args b)) ≡ false = subst (λ (b : TypedBody). holds_reference C.shapes (tuple_of (result_and_args b)) ≡ false) same (not-true (holds_reference C.shapes (tuple_of (result_and_args k.body))) k.plain) in
        first_free b.args b.locals t first free;
  }
