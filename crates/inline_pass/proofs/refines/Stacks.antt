-- Frames of the source and of the target, where one call of the function f is replaced by the body of its callee g.
use Rattle.std.proofs.Common.{◌≡◌, ◌⊎◌, inl, inr, sym, ap, ◌∙◌, ℕ, ◌+◌, ◌<◌, ◌≤◌, Bool, true, false, nat_eq, List, [], ◌∷◌, length, Option, Some, None, slice_get, arith}
use Rattle.mir_syntax.specs.declared.body.Proj.TheVariants.{Deref}
use Rattle.mir_syntax.specs.declared.body.Place.{Place}
use Rattle.mir_syntax.specs.Tree.{Tree}
use Rattle.mir_syntax.specs.Crate.{TypedBlock, TypedBody}
use Rattle.mir_syntax.specs.Shapes.{Shape, place_ty}
use Rattle.mir_semantics.specs.Values.{Addr, Value, pointer}
use Rattle.mir_semantics.specs.Memory.{Memory, local_at}
use Rattle.mir_semantics.specs.Step.{Code, Dest, Control, State, guard_of}
use Rattle.mir_syntax.specs.Parts.{has_deref}
use Rattle.mir_renaming.specs.Renaming.{Renaming, AddrRel, Sub}
use Rattle.mir_renaming.proofs.Memory.{same_or_not, sub_addr}
use Rattle.mir_renaming.proofs.Statements.{Linked, DestRel}
use Rattle.inline_pass.proofs.refines.Into.{Into, Stands, placed, into, stand, stand_new, stand_old, stand_sub, into_parts}

-- what later memories keep of frames of the target below a number
pub record Onward (F : Stands) (n : ℕ) (m2 m1 k2 k1 : Memory) : Type 0 where
  pub room : (a x : ℕ) (w : Value) → a < n → local_at m2 a x ≡ Some w → (w' : Value) × (local_at k2 a x ≡ Some w')
  pub back : (e x a z : ℕ) (u : Value) → into F e x ≡ Some (a, z) → a < n → local_at k1 e x ≡ Some u → (u' : Value) × (local_at m1 e x ≡ Some u')
  pub stay : (a z : ℕ) (w : Value) → a < n → ((e x : ℕ) → into F e x ≡ Some (a, z) → ⊥) → local_at m2 a z ≡ Some w → local_at k2 a z ≡ Some w

pub onward_less : (F : Stands) (n i : ℕ) (m2 m1 k2 k1 : Memory) → i ≤ n → Onward F n m2 m1 k2 k1 → Onward F i m2 m1 k2 k1
onward_less F n i m2 m1 k2 k1 le o = record { room = λ a x w l e. o.room a x w (omega (arith, le, l)) e; back = λ e x a z u q l k. o.back e x a z u q (omega (arith, le, l)) k; stay = λ a z w l free e. o.stay a z w (omega (arith, le, l)) free e }

pub onward_trans : (F : Stands) (n : ℕ) (m2 m1 k2 k1 l2 l1 : Memory) → Onward F n m2 m1 k2 k1 → Onward F n k2 k1 l2 l1 → Onward F n m2 m1 l2 l1
onward_trans F n m2 m1 k2 k1 l2 l1 o q = record {
  room = λ a x w l e. (let (v, r) = o.room a x w l e in q.room a x v l r);
  back = λ e x a z u r l k. (let (v, s) = q.back e x a z u r l k in o.back e x a z v r l s);
  stay = λ a z w l free e. q.stay a z w l free (o.stay a z w l free e);
}

-- a call that is replaced: the source's code and the target's bodies, who calls and who is called with their bodies, where the result goes, and
-- the block to which the call returns
pub record OneCall : Type 0 where
  pub C1 : Code
  pub bodies2 : List TypedBody
  pub f : ℕ
  pub g : ℕ
  pub b1 : TypedBody
  pub h : TypedBody
  pub p : Place
  pub next : ℕ

module _ (X : OneCall) where
  open X use {C1, bodies2, f, g, b1, h, p, next}

  abbrev pub D : List Shape
  D = C1.shapes

  abbrev pub L : ℕ
  L = length b1.locals

  abbrev pub B : ℕ
  B = length b1.blocks

  -- the local that keeps the destination
  abbrev pub d : ℕ
  d = L + length h.locals

  abbrev pub DestsRel : Renaming → Option Dest → Option Dest → Type 0
  DestsRel j None None = Unit {0}
  DestsRel j (Some x) (Some y) = DestRel j x y
  DestsRel j _ _ = ⊥

  -- no farther in its block than at its terminator
  abbrev pub Reached : Control → Type 0
  Reached c = (b : TypedBody) (k : TypedBlock) → slice_get C1.bodies c.function ≡ Some b → slice_get b.blocks c.block ≡ Some k → c.at ≤ length k.stmts

  -- what stands in a frame of the target ends below the local that keeps the destination, or within so many locals
  abbrev pub Shaped : Stands → ℕ → ℕ → Type 0
  Shaped F a m = (e : ℕ) (j : Into) → F e ≡ Some j → j.frame ≡ a → (j.offset + j.size ≤ m) ⊎ (j.offset + j.size ≤ d)

  -- a frame of the target for a frame of the source, alone
  pub record Own (F : Stands) (m2 m1 : Memory) (c2 c1 : Control) : Type 0 where
    pub function : c2.function ≡ c1.function
    pub block : c2.block ≡ c1.block
    pub place : c2.at ≡ c1.at
    pub body : TypedBody
    pub is_body : slice_get C1.bodies c1.function ≡ Some body
    pub ghost : F c1.frame ≡ Some (record { frame = c2.frame; offset = 0; size = length body.locals })
    pub dest : DestsRel (into F) c1.dest c2.dest
    pub calm : c1.dropping ≡ None
    pub far : Reached c1
    pub shape : Shaped F c2.frame (length body.locals)
    pub alone : (e x z : ℕ) (u : Value) → into F e x ≡ Some (c2.frame, z) → local_at m1 e x ≡ Some u → e ≡ c1.frame
    pub room : (b : TypedBody) → slice_get bodies2 c2.function ≡ Some b → (x : ℕ) (t : Tree) → slice_get b.locals x ≡ Some t → (w : Value) × (local_at m2 c2.frame x ≡ Some w)

  -- the destination of the call, a frame of the target and the source's frame that waits there being given: its path stands in that frame, or
  -- the one more local refers to it
  abbrev pub Held : Bool → Stands → Memory → Dest → ℕ → ℕ → Type 0
  Held false F m2 y n2 n0 = (y.addr ≡ record { frame = n0; local = p.local; path = p.proj }) × (y.guard ≡ None)
  Held true F m2 y n2 n0 = (b : Addr) × (t : Tree) × (local_at m2 n2 d ≡ Some (pointer b)) × AddrRel (into F) y.addr b × (place_ty D b1.locals p ≡ Some t) × (y.guard ≡ guard_of D (Deref ∷ []) t)

  -- a frame of the target for the callee's frame and the caller's below it
  pub record Inner (F : Stands) (m2 m1 : Memory) (c2 c1 c0 : Control) : Type 0 where
    pub function2 : c2.function ≡ f
    pub function1 : c1.function ≡ g
    pub function0 : c0.function ≡ f
    pub block : c2.block ≡ B + c1.block
    pub place : c2.at ≡ c1.at
    pub block0 : c0.block ≡ next
    pub place0 : c0.at ≡ 0
    pub ghost1 : F c1.frame ≡ Some (record { frame = c2.frame; offset = L; size = length h.locals })
    pub ghost0 : F c0.frame ≡ Some (record { frame = c2.frame; offset = 0; size = L })
    pub dest : DestsRel (into F) c0.dest c2.dest
    pub calm1 : c1.dropping ≡ None
    pub calm0 : c0.dropping ≡ None
    pub far : Reached c1
    pub shape : Shaped F c2.frame d
    pub alone : (e x z : ℕ) (u : Value) → into F e x ≡ Some (c2.frame, z) → local_at m1 e x ≡ Some u → (e ≡ c1.frame) ⊎ (e ≡ c0.frame)
    pub room : (b : TypedBody) → slice_get bodies2 c2.function ≡ Some b → (x : ℕ) (t : Tree) → slice_get b.locals x ≡ Some t → (w : Value) × (local_at m2 c2.frame x ≡ Some w)
    pub to : Dest
    pub is_to : c1.dest ≡ Some to
    pub held : Held (has_deref p.proj) F m2 to c2.frame c0.frame

  -- the top of the source's frames, and what is below
  abbrev pub Over : Stands → Memory → Memory → Control → List Control → (List Control → Type 0) → Type 0
  Over F m2 m1 c2 cs More = ((c1 : Control) × (ds : List Control) × (cs ≡ c1 ∷ ds) × Own F m2 m1 c2 c1 × More ds) ⊎ ((c1 c0 : Control) × (ds : List Control) × (cs ≡ c1 ∷ c0 ∷ ds) × Inner F m2 m1 c2 c1 c0 × More ds)

  -- the target's frames have smaller numbers the lower they are
  abbrev pub Stack : Stands → Memory → Memory → ℕ → List Control → List Control → Type 0
  Stack F m2 m1 n [] cs = cs ≡ []
  Stack F m2 m1 n (c2 ∷ cs2) cs = (c2.frame < n) × Over F m2 m1 c2 cs (λ ds. Stack F m2 m1 c2.frame cs2 ds)

  pub record Rel (s2 s1 : State) : Type 0 where
    pub stands : Stands
    pub fresh : (e : ℕ) → s1.next ≤ e → stands e ≡ None
    pub low : (e : ℕ) (i : Into) → stands e ≡ Some i → i.frame < s2.next
    pub answers : s2.answers ≡ s1.answers
    pub trace : s2.trace ≡ s1.trace
    pub link : Linked (into stands) (into stands) s2.memory s1.memory
    pub stack : Stack stands s2.memory s1.memory s2.next (s2.top ∷ s2.callers) (s1.top ∷ s1.callers)

  -- ---- later memories

  -- no local is kept where the destination is
  pub kept_free : (F : Stands) (m2 m1 : Memory) (c2 c1 c0 : Control) → Inner F m2 m1 c2 c1 c0 → (e x : ℕ) → into F e x ≡ Some (c2.frame, d) → ⊥
  kept_free F m2 m1 c2 c1 c0 r e x q =
      let (j, is, lt, at, z) = into_parts F e x c2.frame d q in
      go j (r.shape e j is at) lt z
    where
      go : (j : Into) → (j.offset + j.size ≤ d) ⊎ (j.offset + j.size ≤ d) → x < j.size → j.offset + x ≡ d → ⊥
      go j (inl le) lt z = omega (arith, le, lt, z)
      go j (inr le) lt z = omega (arith, le, lt, z)

  pub own_onward : (F : Stands) (n : ℕ) (m2 m1 k2 k1 : Memory) (c2 c1 : Control) → c2.frame < n → Onward F n m2 m1 k2 k1 → Own F m2 m1 c2 c1 → Own F k2 k1 c2 c1
  own_onward F n m2 m1 k2 k1 c2 c1 lt o r = record {
    function = r.function;
    block = r.block;
    place = r.place;
    body = r.body;
    is_body = r.is_body;
    ghost = r.ghost;
    dest = r.dest;
    calm = r.calm;
    far = r.far;
    shape = r.shape;
    alone = λ e x z u q k. (let (v, s) = o.back e x c2.frame z u q lt k in r.alone e x z v q s);
    room = λ b is x t at. (let (w, s) = r.room b is x t at in o.room c2.frame x w lt s);
  }

  held_onward : (c : Bool) (F : Stands) (m2 k2 : Memory) (y : Dest) (n2 n0 : ℕ) → ((w : Value) → local_at m2 n2 d ≡ Some w → local_at k2 n2 d ≡ Some w) → Held c F m2 y n2 n0 → Held c F k2 y n2 n0
  held_onward false F m2 k2 y n2 n0 same r = r
  held_onward true F m2 k2 y n2 n0 same (b, t, at, ab, ty, gu) = (b, t, same (pointer b) at, ab, ty, gu)

  pub inner_onward : (F : Stands) (n : ℕ) (m2 m1 k2 k1 : Memory) (c2 c1 c0 : Control) → c2.frame < n → Onward F n m2 m1 k2 k1 → Inner F m2 m1 c2 c1 c0 → Inner F k2 k1 c2 c1 c0
  inner_onward F n m2 m1 k2 k1 c2 c1 c0 lt o r = record {
    function2 = r.function2;
    function1 = r.function1;
    function0 = r.function0;
    block = r.block;
    place = r.place;
    block0 = r.block0;
    place0 = r.place0;
    ghost1 = r.ghost1;
    ghost0 = r.ghost0;
    dest = r.dest;
    calm1 = r.calm1;
    calm0 = r.calm0;
    far = r.far;
    shape = r.shape;
    alone = λ e x z u q k. (let (v, s) = o.back e x c2.frame z u q lt k in r.alone e x z v q s);
    room = λ b is x t at. (let (w, s) = r.room b is x t at in o.room c2.frame x w lt s);
    to = r.to;
    is_to = r.is_to;
    held = held_onward (has_deref p.proj) F m2 k2 r.to c2.frame c0.frame (λ w at. o.stay c2.frame d w lt (kept_free F m2 m1 c2 c1 c0 r) at) r.held;
  }

  pub stack_onward : (F : Stands) (n : ℕ) (m2 m1 k2 k1 : Memory) (cs2 cs : List Control) → Onward F n m2 m1 k2 k1 → Stack F m2 m1 n cs2 cs → Stack F k2 k1 n cs2 cs
  stack_onward F n m2 m1 k2 k1 [] cs o s = s
  stack_onward F n m2 m1 k2 k1 (c2 ∷ cs2) cs o (lt, inl (c1, ds, e, r, more)) = (lt, inl (c1, ds, e, own_onward F n m2 m1 k2 k1 c2 c1 lt o r, stack_onward F c2.frame m2 m1 k2 k1 cs2 ds (onward_less F n c2.frame m2 m1 k2 k1 (omega (arith, lt)) o) more))
  stack_onward F n m2 m1 k2 k1 (c2 ∷ cs2) cs o (lt, inr (c1, c0, ds, e, r, more)) = (lt, inr (c1, c0, ds, e, inner_onward F n m2 m1 k2 k1 c2 c1 c0 lt o r, stack_onward F c2.frame m2 m1 k2 k1 cs2 ds (onward_less F n c2.frame m2 m1 k2 k1 (omega (arith, lt)) o) more))

  -- ---- one more frame of the source

  module _ (F : Stands) (n : ℕ) (i : Into) (none : F n ≡ None) where
    abbrev K : Stands
    K = stand F n i

    up : Sub (into F) (into K)
    up = stand_sub F n i none

    pub stays : (e : ℕ) (j : Into) → F e ≡ Some j → K e ≡ Some j
    stays e j q = stand_old F n i e (λ s. (let z : None ≡ Some j = sym none ∙ ap F s ∙ q in grind arith)) ∙ q

    -- below the number of its frame nothing is new
    pub below_old : (e x a z : ℕ) → a < i.frame → into K e x ≡ Some (a, z) → into F e x ≡ Some (a, z)
    below_old e x a z lt q = go (same_or_not n e)
      where
        go : ((nat_eq n e ≡ true) × (n ≡ e)) ⊎ ((nat_eq n e ≡ false) × (n ≡ e → ⊥)) → into F e x ≡ Some (a, z)
        go (inl s) =
            let (j, h, _, r, _) = into_parts K e x a z q in
            let new : K e ≡ Some i = ap K (sym s.1) ∙ stand_new F n i in
            let same : j ≡ i = (let y : Some j ≡ Some i = sym h ∙ new in grind arith) in
            absurd (let z : i.frame ≡ a = ap (λ (j : Into). j.frame) (sym same) ∙ r in omega (arith, z, lt))
        go (inr s) = sym (ap (placed x) (stand_old F n i e s.1)) ∙ q

    pub dests_up : (x y : Option Dest) → DestsRel (into F) x y → DestsRel (into K) x y
    dests_up None None r = tt
    dests_up (Some x) (Some y) r = record { addr = sub_addr (into F) (into K) up x.addr y.addr r.addr; guard = r.guard }
    dests_up None (Some y) r = absurd r
    dests_up (Some x) None r = absurd r

    pub held_up : (c : Bool) (m2 : Memory) (y : Dest) (n2 n0 : ℕ) → Held c F m2 y n2 n0 → Held c K m2 y n2 n0
    held_up false m2 y n2 n0 r = r
    held_up true m2 y n2 n0 (b, t, at, ab, ty, gu) = (b, t, at, sub_addr (into F) (into K) up y.addr b ab, ty, gu)

    shape_up : (a m : ℕ) → a < i.frame → Shaped F a m → Shaped K a m
    shape_up a m lt sh e j q at = go (same_or_not n e)
      where
        go : ((nat_eq n e ≡ true) × (n ≡ e)) ⊎ ((nat_eq n e ≡ false) × (n ≡ e → ⊥)) → (j.offset + j.size ≤ m) ⊎ (j.offset + j.size ≤ d)
        go (inl s) =
            let same : i ≡ j = (let y : Some i ≡ Some j = sym (stand_new F n i) ∙ ap K s.1 ∙ q in grind arith) in
            absurd (let z : i.frame ≡ a = ap (λ (j : Into). j.frame) same ∙ at in omega (arith, z, lt))
        go (inr s) = sh e j (sym (stand_old F n i e s.1) ∙ q) at

    pub own_up : (m2 m1 : Memory) (c2 c1 : Control) → c2.frame < i.frame → Own F m2 m1 c2 c1 → Own K m2 m1 c2 c1
    own_up m2 m1 c2 c1 lt r = record {
      function = r.function;
      block = r.block;
      place = r.place;
      body = r.body;
      is_body = r.is_body;
      ghost = stays c1.frame _ r.ghost;
      dest = dests_up c1.dest c2.dest r.dest;
      calm = r.calm;
      far = r.far;
      shape = shape_up c2.frame (length r.body.locals) lt r.shape;
      alone = λ e x z u q k. r.alone e x z u (below_old e x c2.frame z lt q) k;
      room = r.room;
    }

    pub inner_up : (m2 m1 : Memory) (c2 c1 c0 : Control) → c2.frame < i.frame → Inner F m2 m1 c2 c1 c0 → Inner K m2 m1 c2 c1 c0
    inner_up m2 m1 c2 c1 c0 lt r = record {
      function2 = r.function2;
      function1 = r.function1;
      function0 = r.function0;
      block = r.block;
      place = r.place;
      block0 = r.block0;
      place0 = r.place0;
      ghost1 = stays c1.frame _ r.ghost1;
      ghost0 = stays c0.frame _ r.ghost0;
      dest = dests_up c0.dest c2.dest r.dest;
      calm1 = r.calm1;
      calm0 = r.calm0;
      far = r.far;
      shape = shape_up c2.frame d lt r.shape;
      alone = λ e x z u q k. r.alone e x z u (below_old e x c2.frame z lt q) k;
      room = r.room;
      to = r.to;
      is_to = r.is_to;
      held = held_up (has_deref p.proj) m2 r.to c2.frame c0.frame r.held;
    }

    pub stack_up : (m2 m1 : Memory) (k : ℕ) (cs2 cs : List Control) → k ≤ i.frame → Stack F m2 m1 k cs2 cs → Stack K m2 m1 k cs2 cs
    stack_up m2 m1 k [] cs le s = s
    stack_up m2 m1 k (c2 ∷ cs2) cs le (lt, inl (c1, ds, e, r, more)) = (lt, inl (c1, ds, e, own_up m2 m1 c2 c1 (omega (arith, lt, le)) r, stack_up m2 m1 c2.frame cs2 ds (omega (arith, lt, le)) more))
    stack_up m2 m1 k (c2 ∷ cs2) cs le (lt, inr (c1, c0, ds, e, r, more)) = (lt, inr (c1, c0, ds, e, inner_up m2 m1 c2 c1 c0 (omega (arith, lt, le)) r, stack_up m2 m1 c2.frame cs2 ds (omega (arith, lt, le)) more))
