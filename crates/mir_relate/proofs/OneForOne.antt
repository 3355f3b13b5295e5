-- Passes that have one frame for one frame, and in which a lent local stands for itself: where it stands, new frames, results that come back, and
-- the laws of their steps.
use Rattle.std.proofs.Common.{◌≡◌, refl, sym, ap, ◌∙◌, subst, ℕ, ◌<◌, Bool, true, false, if◌then◌else◌, List, [], ◌∷◌, ◌++◌, Option, Some, None, arith}
use Rattle.mir_syntax.specs.Tree.{Tree}
use Rattle.mir_syntax.specs.Shapes.{Shape}
use Rattle.mir_semantics.specs.Values.{Value}
use Rattle.mir_semantics.specs.Memory.{Memory, local_at, open_frame}
use Rattle.mir_semantics.specs.Step.{Control, State, Next, on, new_slots, step}
use Rattle.mir_renaming.specs.Renaming.{Renaming, SomeRel}
use Rattle.mir_renaming.proofs.Frames.{open_same}
use Rattle.mir_renaming.proofs.Ghosts.{Flat, value_mono}
use Rattle.mir_renaming.proofs.Statements.{Linked, ValuesRel}
use Rattle.mir_renaming.proofs.Stores.{pair_parts}
use Rattle.mir_renaming.proofs.Types.{TypeMap}
use Rattle.mir_relate.specs.Alike.{Same}
use Rattle.mir_relate.specs.Frames.{Change, Pass, lowest, opened, Below}
use Rattle.mir_relate.specs.Pass.{GentleTo, Valids, FrameLaws, Laws, Answers, Related}
use Rattle.mir_relate.proofs.Leaves.{some_val}
use Rattle.mir_relate.proofs.Living.{Holds, Placed}
use Rattle.mir_relate.proofs.Opens.{opened_up}
use Rattle.mir_relate.proofs.SameLocals.{slots_same}
use Rattle.mir_relate.proofs.Single.{Stand}

-- ---- where lent locals stand

module _ (lent : ℕ → Bool) where
  -- a lent local stands for itself
  abbrev pub home : ℕ → Option ℕ
  home x = if lent x then Some x else None

  pub home_lent : (x : ℕ) → lent x ≡ true → home x ≡ Some x
  home_lent x e = ap (λ b. if b then Some x else None) e

  pub home_none : (x : ℕ) → lent x ≡ false → home x ≡ None
  home_none x e = ap (λ b. if b then Some x else None) e

  pub home_some : (x y : ℕ) → home x ≡ Some y → (lent x ≡ true) × (x ≡ y)
  home_some x y e = go (lent x) refl
    where
      go : (b : Bool) → lent x ≡ b → (lent x ≡ true) × (x ≡ y)
      go true l = (l, some_val (sym (home_lent x l) ∙ e))
      go false l = absurd (let z : None ≡ Some y = sym (home_none x l) ∙ e in grind arith)

  pub home_once : (x x' y : ℕ) → home x ≡ Some y → home x' ≡ Some y → x ≡ x'
  home_once x x' y e e' = (home_some x y e).1 ∙ sym (home_some x' y e').1

  pub placed : (f : ℕ) (Here : ℕ → Control → Control → Type 0) (n : ℕ) (j : Renaming) (c2 c1 : Control) → Stand f home Here n j c2 c1 → Placed j c2.frame c1.frame
  placed f Here n j c2 c1 st = record { self = λ x g y e. self x g y e (lent x) refl; only = λ h x y e. (let (p, q) = st.only h x y e in (p, (home_some x y q).1)) }
    where
      self : (x g y : ℕ) → j c1.frame x ≡ Some (g, y) → (b : Bool) → lent x ≡ b → (g ≡ c2.frame) × (y ≡ x)
      self x g y e true l = pair_parts c2.frame x g y (sym (st.roots x x (home_lent x l)) ∙ e)
      self x g y e false l = absurd (let z : None ≡ Some (g, y) = sym (st.none x (home_none x l)) ∙ e in grind arith)

-- ---- a new frame of a body that has the same locals

module _ (D : List Shape) (ts2 ts1 : List Tree) (same : ts2 ≡ ts1) (B : ℕ → Option ℕ) where
  -- all its locals are related
  pub new_holds : (j : Renaming) (k2 k1 : ℕ) (m2 m1 : Memory) (vs ws : List Value) (set : ℕ → Bool) → ValuesRel j vs ws → ((x : ℕ) → j k1 x ≡ None) → ((h x g y : ℕ) → j h x ≡ Some (g, y) → g < k2) → Holds (opened j k2 k1 B) k2 k1 set (open_frame m2 k2 (new_slots D ts2 ws)) (open_frame m1 k1 (new_slots D ts1 vs))
  new_holds j k2 k1 m2 m1 vs ws set hv fresh1 fresh2 = record { at = λ x v none a e. here x v e; room = λ x v none e. (let (w, g, r) = here x v e in (w, g)) }
    where
      here : (x : ℕ) (v : Value) → local_at (open_frame m1 k1 (new_slots D ts1 vs)) k1 x ≡ Some v → SomeRel (opened j k2 k1 B) v (local_at (open_frame m2 k2 (new_slots D ts2 ws)) k2 x)
      here x v e =
          let (w, g, r) = slots_same D ts2 ts1 same j vs ws hv x v (sym (open_same m1 k1 (new_slots D ts1 vs) x) ∙ e) in
          (w, open_same m2 k2 (new_slots D ts2 ws) x ∙ g, value_mono j (opened j k2 k1 B) (opened_up j k2 k1 B fresh1 fresh2) v w r)

-- ---- a frame of another function gives back values to a frame that waits

pub record Return (X : Change) (P : Pass) (V : Valids X) (Inv : State → Type 0) : Type 1 where
  pub n : ℕ
  pub s2 : State
  pub s1 : State
  pub r : Related X P V Inv n s2 s1
  pub m2 : Memory
  pub m1 : Memory
  pub c2 : Control
  pub c1 : Control
  pub ds : List Control
  pub cs2 : List Control
  pub v : Value
  pub w : Value
  pub callers : s1.callers ≡ c1 ∷ ds
  pub linked : Linked r.core.lent r.core.lent m2 m1
  pub below : Below X P r.core.lent c2.dest c1.dest c2.frame c1.frame cs2 ds m2 m1
  pub older1 : c1.frame < s1.top.frame
  pub older2 : c2.frame < s2.top.frame
  pub same : Same r.core.lent v w

-- ---- the laws

-- what is asked of runs besides
abbrev pub KeepsRuns : Change → (State → Type 0) → Type 0
KeepsRuns X Inv = ((s s' : State) → Inv s → step X.source s ≡ Some (on s') → Inv s') × ((s : State) (x : Next) → Inv s → step X.source s ≡ Some x → Flat x)

-- each step of a frame at work is answered
abbrev pub StepsAnswered : Change → Pass → ℕ → State → State → TypeMap → Type 0
StepsAnswered X P n s2 s1 G = (x : Next) → step X.source s1 ≡ Some x → Flat x → GentleTo X G s1.top.frame s1.memory x → Answers X P n s2 x

abbrev pub OwnSteps : (X : Change) → Pass → (V : Valids X) → (State → Type 0) → Type 0
OwnSteps X P V Inv = (n : ℕ) (s2 s1 : State) (r : Related X P V Inv n s2 s1) → P.own n r.core.lent s2.top s1.top [] s2.memory s1.memory → Below X P r.core.lent s2.top.dest s1.top.dest s2.top.frame s1.top.frame s2.callers s1.callers s2.memory s1.memory → StepsAnswered X P n s2 s1 r.typed1.types

pub own_laws : (X : Change) (P : Pass) (V : Valids X) (Inv : State → Type 0) → FrameLaws X P V Inv → ((n : ℕ) (j : Renaming) (c2 c1 : Control) (gs : List Control) (m2 m1 : Memory) → P.own n j c2 c1 gs m2 m1 → gs ≡ []) → OwnSteps X P V Inv → KeepsRuns X Inv → Laws X P V Inv
own_laws X P V Inv frames single steps (inv_kept, flat) = record {
  inv_kept = inv_kept;
  flat = flat;
  frames = frames;
  steps = λ n s2 s1 r gs ds x q lo o be k fl ge. go n s2 s1 r gs ds (single n r.core.lent s2.top s1.top gs s2.memory s1.memory o) q o be x k fl ge;
}
  where
    go : (n : ℕ) (s2 s1 : State) (r : Related X P V Inv n s2 s1) (gs ds : List Control) → gs ≡ [] → s1.callers ≡ gs ++ ds → P.own n r.core.lent s2.top s1.top gs s2.memory s1.memory → Below X P r.core.lent s2.top.dest (lowest s1.top gs).dest s2.top.frame (lowest s1.top gs).frame s2.callers ds s2.memory s1.memory → StepsAnswered X P n s2 s1 r.typed1.types
    go n s2 s1 r [] ds none q o be = steps n s2 s1 r o (subst (λ cs. Below X P r.core.lent s2.top.dest s1.top.dest s2.top.frame s1.top.frame s2.callers cs s2.memory s1.memory) (sym q) be)
    go n s2 s1 r (g ∷ gs) ds none q o be = absurd (grind arith)
