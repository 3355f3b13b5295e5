-- Passes with one frame for one frame: where the frame stands, that it is left while it waits, a call, and a return to it.
use Rattle.std.proofs.Common.{◌≡◌, ◌⊎◌, inl, inr, refl, sym, ap, ap₂, ◌∙◌, subst, ℕ, ◌<◌, false, ◌&&◌, if◌then◌else◌, List, [], ◌∷◌, Option, Some, None, slice_get, arith}
use Rattle.mir_syntax.specs.declared.body.Proj.{Proj}
use Rattle.mir_syntax.specs.declared.body.Place.{Place}
use Rattle.mir_syntax.specs.Tree.{Tree}
use Rattle.mir_syntax.specs.Crate.{TypedBlock, TypedBody}
use Rattle.mir_syntax.specs.Shapes.{Shape, needs_drop}
use Rattle.mir_semantics.specs.Values.{Addr, blank}
use Rattle.mir_semantics.specs.Memory.{Memory, write, walk}
use Rattle.mir_semantics.specs.Step.{Code, Here, Dest, Control, State, local_addr, resolve, type_of, guard_of, dest_of, set_blank, perform, step}
use Rattle.mir_syntax.specs.Parts.{has_deref}
use Rattle.mir_renaming.specs.Renaming.{Renaming}
use Rattle.mir_syntax.proofs.Binds.{bind_some, some_bind}
use Rattle.mir_renaming.proofs.Statements.{Linked}
use Rattle.mir_renaming.proofs.Types.{TypeMap}
use Rattle.mir_renaming.proofs.Typed.{FramesTy}
use Rattle.mir_renaming.proofs.Frames.{new_control}
use Rattle.mir_relate.specs.Leaves.{Leaves}
use Rattle.mir_relate.specs.Mild.{Gentle}
use Rattle.mir_relate.specs.Frames.{Change, Pass, opened, Below, Core}
use Rattle.mir_relate.specs.Pass.{KnowsAll, Valids, KeptLaw, Related}
use Rattle.mir_renaming.proofs.Walks.{walk_plain}
use Rattle.mir_relate.proofs.Leaves.{some_val}
use Rattle.mir_relate.proofs.Opens.{opened_at, opened_parts}
use Rattle.mir_relate.proofs.Stacks.{knows_all, below_kept}

-- a frame that is new on both sides: its other locals aren't lent, and nothing else is lent to the target's frame
module _ (j : Renaming) (k2 k1 : ℕ) (B : ℕ → Option ℕ) (fresh1 : (x : ℕ) → j k1 x ≡ None) (fresh2 : (h x g y : ℕ) → j h x ≡ Some (g, y) → g < k2) where
  pub opened_none : (x : ℕ) → B x ≡ None → opened j k2 k1 B k1 x ≡ None
  opened_none x e = go (opened j k2 k1 B k1 x) refl
    where
      go : (o : Option (ℕ × ℕ)) → opened j k2 k1 B k1 x ≡ o → opened j k2 k1 B k1 x ≡ None
      go None q = q
      go (Some (g, y)) q = none_of (opened_parts j k2 k1 B fresh1 fresh2 k1 x g y q)
        where
          none_of : ((k1 ≡ k1) × (g ≡ k2) × (B x ≡ Some y)) ⊎ ((k1 ≡ k1 → ⊥) × (j k1 x ≡ Some (g, y))) → opened j k2 k1 B k1 x ≡ None
          none_of (inl p) = absurd (let z : None ≡ Some y = sym e ∙ p.2 in grind arith)
          none_of (inr p) = absurd (p.0 refl)

  pub opened_only : (h x y : ℕ) → opened j k2 k1 B h x ≡ Some (k2, y) → (h ≡ k1) × (B x ≡ Some y)
  opened_only h x y e = go (opened_parts j k2 k1 B fresh1 fresh2 h x k2 y e)
    where
      go : ((h ≡ k1) × (◌≡◌ {A = ℕ} k2 k2) × (B x ≡ Some y)) ⊎ ((k1 ≡ h → ⊥) × (j h x ≡ Some (k2, y))) → (h ≡ k1) × (B x ≡ Some y)
      go (inl p) = (p.0, p.2)
      go (inr p) = (let lt = fresh2 h x k2 y p.1 in absurd (omega (arith, lt)))

-- B: the local that stands for a lent one; Here: how far both are in their blocks
module _ (f : ℕ) (B : ℕ → Option ℕ) (Here : ℕ → Control → Control → Type 0) where
  pub record Stand (n : ℕ) (j : Renaming) (c2 c1 : Control) : Type 0 where
    pub function1 : c1.function ≡ f
    pub function2 : c2.function ≡ f
    pub block : c2.block ≡ c1.block
    pub calm : c1.dropping ≡ None
    pub roots : (x y : ℕ) → B x ≡ Some y → j c1.frame x ≡ Some (c2.frame, y)
    pub none : (x : ℕ) → B x ≡ None → j c1.frame x ≡ None
    pub only : (h x y : ℕ) → j h x ≡ Some (c2.frame, y) → (h ≡ c1.frame) × (B x ≡ Some y)
    pub here : Here n c2 c1

  pub stand_moved : (n n' : ℕ) (j : Renaming) (c2 c1 c2' c1' : Control) → c2'.frame ≡ c2.frame → c1'.frame ≡ c1.frame → c2'.function ≡ c2.function → c1'.function ≡ c1.function → c2'.block ≡ c1'.block → c1'.dropping ≡ None → Here n' c2' c1' → Stand n j c2 c1 → Stand n' j c2' c1'
  stand_moved n n' j c2 c1 c2' c1' a2 a1 f2 f1 b d h s = record {
    function1 = f1 ∙ s.function1;
    function2 = f2 ∙ s.function2;
    block = b;
    calm = d;
    roots = λ x y e. ap (λ i. j i x) a1 ∙ s.roots x y e ∙ ap (λ i. Some (i, y)) (sym a2);
    none = λ x e. ap (λ i. j i x) a1 ∙ s.none x e;
    only = λ i x y e. (let (p, q) = s.only i x y (e ∙ ap (λ i. Some (i, y)) a2) in (p ∙ sym a1, q));
    here = h;
  }

  -- a frame that waits
  pub stand_kept : (D : List Shape) (G : TypeMap) (j j' : Renaming) (n : ℕ) (c2 c1 : Control) (n2 n1 : ℕ) (m2' m1' m2 m1 : Memory) → c1.frame < n1 → c2.frame < n2 → Leaves D G j j' n2 n1 m2' m1' m2 m1 → Stand n j c2 c1 → Stand n j' c2 c1
  stand_kept D G j j' n c2 c1 n2 n1 m2' m1' m2 m1 l1 l2 l s = record {
    function1 = s.function1;
    function2 = s.function2;
    block = s.block;
    calm = s.calm;
    roots = λ x y e. l.up c1.frame x _ (s.roots x y e);
    none = λ x e. l.same1 c1.frame x l1 ∙ s.none x e;
    only = λ i x y e. s.only i x y (l.same2 i x c2.frame y l2 e);
    here = s.here;
  }

  -- a call
  pub stand_begins : (j : Renaming) (k2 k1 : ℕ) (d2 d1 : Option Dest) (n : ℕ) → ((x : ℕ) → j k1 x ≡ None) → ((h x g y : ℕ) → j h x ≡ Some (g, y) → g < k2) → Here n (new_control f k2 d2) (new_control f k1 d1) → Stand n (opened j k2 k1 B) (new_control f k2 d2) (new_control f k1 d1)
  stand_begins j k2 k1 d2 d1 n fresh1 fresh2 h = record {
    function1 = refl;
    function2 = refl;
    block = refl;
    calm = refl;
    roots = opened_at j k2 k1 B fresh1 fresh2;
    none = opened_none j k2 k1 B fresh1 fresh2;
    only = opened_only j k2 k1 B fresh1 fresh2;
    here = h;
  }

-- another function has returned to a frame that waited, and its result is written
pub back_core : (X : Change) (P : Pass) (V : Valids X) (Inv : State → Type 0) → KeptLaw X P → (n : ℕ) (s2 s1 : State) (r : Related X P V Inv n s2 s1) (m2 m1 m2' m1' : Memory) (c2 c1 : Control) (ds cs2 : List Control) → KnowsAll X r.typed1.types ds → Below X P r.core.lent c2.dest c1.dest c2.frame c1.frame cs2 ds m2 m1 → c1.frame < s1.top.frame → c2.frame < s2.top.frame → Linked r.core.lent r.core.lent m2' m1' → Leaves X.source.shapes r.typed1.types r.core.lent r.core.lent c2.frame c1.frame m2' m1' m2 m1 → Gentle X.source.shapes r.typed1.types c1.frame m1' m1 → (n' : ℕ) → P.own n' r.core.lent c2 c1 [] m2' m1' → Core X P n' (record s2 { memory = m2'; top = c2; callers = cs2 }) (record s1 { memory = m1'; top = c1; callers = ds })
back_core X P V Inv kept n s2 s1 r m2 m1 m2' m1' c2 c1 ds cs2 ks be l1 l2 l lv ge n' o =
    let j = r.core.lent in
    let t1 = r.core.base.top1 in
    let t2 = r.core.base.top2 in
    record {
      lent = j;
      base = record { fresh1 = r.core.base.fresh1; fresh2 = r.core.base.fresh2; top1 = omega (arith, l1, t1); top2 = omega (arith, l2, t2); answers = r.core.base.answers; trace = r.core.base.trace };
      linked = l;
      runs = inr ([], ds, refl, omega arith, o, below_kept X P kept r.typed1.types j j c2.dest c1.dest c2.frame c1.frame cs2 ds m2' m1' m2 m1 ks lv ge be);
    }

-- what is known of the frames that wait
pub knows_waiting : (X : Change) (P : Pass) (V : Valids X) (Inv : State → Type 0) (n : ℕ) (s2 s1 : State) (r : Related X P V Inv n s2 s1) (c1 : Control) (ds : List Control) → s1.callers ≡ c1 ∷ ds → KnowsAll X r.typed1.types (c1 ∷ ds)
knows_waiting X P V Inv n s2 s1 r c1 ds q = knows_all X V r.typed1.types (c1 ∷ ds) (subst (FramesTy X.source V.valid1 r.typed1.types) q r.typed1.callers)

-- what a step of a frame does
pub step_is : (C : Code) (s : State) (b : TypedBody) (k : TypedBlock) → slice_get C.bodies s.top.function ≡ Some b → slice_get b.blocks s.top.block ≡ Some k → step C s ≡ perform C (record { shapes = C.shapes; locals = b.locals; frame = s.top.frame }) s k.term (slice_get k.stmts s.top.at)
unfolding step
step_is C s b k e i = some_bind _ e (some_bind _ i refl)

pub set_blank_is : (h : Here) (m m' : Memory) (x : ℕ) → set_blank h m x ≡ Some m' → (t : Tree) × (slice_get h.locals x ≡ Some t) × (write m (record { frame = h.frame; local = x; path = [] }) (blank h.shapes t) ≡ m')
unfolding set_blank local_addr
set_blank_is h m m' x e = let (t, e1, k1) = bind_some e in (t, e1, some_val k1)

pub set_blank_made : (h : Here) (m : Memory) (x : ℕ) (t : Tree) → slice_get h.locals x ≡ Some t → set_blank h m x ≡ Some (write m (record { frame = h.frame; local = x; path = [] }) (blank h.shapes t))
unfolding set_blank local_addr
set_blank_made h m x t e = some_bind _ e refl

-- a destination without a dereference
abbrev pub plain_at : Here → Place → Dest
plain_at h p = record { addr = record { frame = h.frame; local = p.local; path = p.proj }; guard = None }

guard_none : (D : List Shape) (ps : List Proj) (t : Tree) → has_deref ps ≡ false → guard_of D ps t ≡ None
unfolding guard_of
guard_none D ps t h = ap (λ b. if b && needs_drop D t then Some t else None) h

pub addr_is : (a b : Addr) → a.frame ≡ b.frame → a.local ≡ b.local → a.path ≡ b.path → a ≡ b
addr_is a b e d p = ap₂ (λ (q : ℕ × ℕ) ps. record { frame = q.0; local = q.1; path = ps }) (ap₂ (λ x y. (x, y)) e d) p

pub dest_plain : (h : Here) (m : Memory) (p : Place) (d : Dest) → has_deref p.proj ≡ false → dest_of h m p ≡ Some d → d ≡ plain_at h p
unfolding dest_of resolve local_addr
dest_plain h m p d nd e =
    let (a, e1, k1) = bind_some e in
    let (t, e2, k2) = bind_some k1 in
    let (b, c, q) = walk_plain p.proj m (record { frame = h.frame; local = p.local; path = [] }) a nd e1 in
    sym (some_val k2) ∙ ap₂ (λ a g. let d : Dest = record { addr = a; guard = g } in d) (addr_is a (record { frame = h.frame; local = p.local; path = p.proj }) b c q) (guard_none h.shapes p.proj t nd)

dest_made : (h : Here) (m : Memory) (p : Place) (t : Tree) (a : Addr) → type_of h p ≡ Some t → resolve h m p ≡ Some a → dest_of h m p ≡ Some (record { addr = a; guard = guard_of h.shapes p.proj t })
unfolding dest_of
dest_made h m p t a et e = some_bind _ e (some_bind _ et refl)

-- it is there where the place can be resolved
pub dest_there : (h : Here) (m : Memory) (p : Place) (t : Tree) (a : Addr) → has_deref p.proj ≡ false → type_of h p ≡ Some t → resolve h m p ≡ Some a → dest_of h m p ≡ Some (plain_at h p)
dest_there h m p t a nd et e = (let made = dest_made h m p t a et e in made ∙ ap Some (dest_plain h m p _ nd made))

pub resolve_whole : (h : Here) (m : Memory) (p : Place) → p.proj ≡ [] → resolve h m p ≡ Some (record { frame = h.frame; local = p.local; path = [] })
unfolding resolve walk local_addr
resolve_whole h m p e = ap (walk m (record { frame = h.frame; local = p.local; path = [] })) e
