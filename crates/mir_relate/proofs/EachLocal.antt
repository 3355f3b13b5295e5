-- Passes that keep each local, and say more of a frame: how two frames are related, frames that wait, and returns to them. Locals that are
-- lent are so from the start.
use Rattle.std.proofs.Common.{◌≡◌, ◌⊎◌, inl, inr, refl, sym, ap, ◌∙◌, subst, ℕ, ◌<◌, ◌≤◌, Bool, true, false, nat_eq, ◌&&◌, if◌then◌else◌, List, [], ◌∷◌, ◌++◌, length, Option, Some, None, slice_get, arith}
use Rattle.mir_syntax.specs.Tree.{Tree}
use Rattle.mir_syntax.specs.Shapes.{Shape}
use Rattle.mir_semantics.specs.Values.{Value}
use Rattle.mir_semantics.specs.Memory.{Memory, local_at, write, open_frame}
use Rattle.mir_semantics.specs.Step.{Dest, Dropping, Control, State, Next, new_slots, destroyed, go_on, return_to}
use Rattle.mir_syntax.proofs.Binds.{bind_some, some_bind}
use Rattle.mir_renaming.specs.Renaming.{Renaming, SomeRel, Sub}
use Rattle.mir_renaming.proofs.Frames.{open_same, new_control}
use Rattle.mir_renaming.proofs.Ghosts.{value_mono}
use Rattle.mir_renaming.proofs.Slots.{slots_rel, value_in}
use Rattle.mir_renaming.proofs.Statements.{Linked, ValuesRel}
use Rattle.mir_renaming.proofs.Stores.{pair_parts, store_split}
use Rattle.mir_renaming.proofs.Typed.{close_ty}
use Rattle.mir_renaming.proofs.Types.{TypeMap, AddrTy, MemTy}
use Rattle.mir_relate.specs.Alike.{Same}
use Rattle.mir_relate.specs.Leaves.{Leaves}
use Rattle.mir_relate.specs.Frames.{Change, Pass, lowest, DestsRel, opened, Below}
use Rattle.mir_relate.specs.Pass.{GentleTo, Valids, KeptLaw, FrameLaws, Goes, Related}
use Rattle.mir_relate.proofs.Leaves.{some_val}
use Rattle.mir_relate.proofs.Living.{Holds, Placed, living, living_at, living_low, living_near, living_once, living_linked, living_lent, holds_kept}
use Rattle.mir_relate.proofs.Mild.{gentle_on}
use Rattle.mir_relate.proofs.Near as near
use Rattle.mir_relate.proofs.OneForOne as one
use Rattle.mir_relate.proofs.OneForOne.{home, home_none, home_some, home_once, new_holds, Return}
use Rattle.mir_relate.proofs.SameLocals.{slots_same}
use Rattle.mir_relate.proofs.Single.{Stand, stand_kept, stand_begins, back_core, knows_waiting}
use Rattle.mir_relate.proofs.Stacks.{dests_up}

-- what a pass says of its frames besides: which locals are lent, what is known of a frame that runs (its controls in the target and in the
-- source, and the source's memory), and of one that waits for a result
pub record Words : Type 1 where
  pub lent : ℕ → Bool
  pub runs : Control → Control → Memory → Type 0
  pub waits : Option Dest → Control → Control → Memory → Type 0

-- it holds of a new frame; while a frame waits it needs no local that is lent; and it holds again when the result has come
pub record Lasting (X : Change) (W : Words) : Type 0 where
  pub same_locals : X.body2.locals ≡ X.body1.locals
  pub begins : (k2 k1 : ℕ) (d2 d1 : Option Dest) (m1 : Memory) (vs : List Value) → length vs ≤ X.body1.args → W.runs (new_control X.f k2 d2) (new_control X.f k1 d1) (open_frame m1 k1 (new_slots X.source.shapes X.body1.locals vs))
  pub kept : (d1 : Option Dest) (c2 c1 : Control) (m1' m1 : Memory) → ((x : ℕ) → W.lent x ≡ false → local_at m1' c1.frame x ≡ local_at m1 c1.frame x) → W.waits d1 c2 c1 m1 → W.waits d1 c2 c1 m1'
  pub gets : (d : Dest) (c2 c1 : Control) (m1 : Memory) (v : Value) → W.waits (Some d) c2 c1 m1 → W.runs c2 c1 (write m1 d.addr v)

-- ---- renamings and memories

-- all locals of a frame
abbrev pub all : ℕ → Bool
all x = true

living_up : (j j' : Renaming) (f2 f1 : ℕ) → Sub j j' → Sub (living j f2 f1 all) (living j' f2 f1 all)
living_up j j' f2 f1 up h x r e = go (nat_eq f1 h && true) e
  where
    go : (b : Bool) → (if b then Some (f2, x) else j h x) ≡ Some r → (if b then Some (f2, x) else j' h x) ≡ Some r
    go true e = e
    go false e = up h x r e

pub holds_linked : (j : Renaming) (f2 f1 : ℕ) (p : Placed j f2 f1) (m2 m1 : Memory) → Linked j (living j f2 f1 all) m2 m1 → Holds j f2 f1 all m2 m1
holds_linked j f2 f1 p m2 m1 l = record {
  at = λ x v none a e. l.mem.at f1 x f2 x (living_at j f2 f1 p all x refl) v e;
  room = λ x v none e. (let (w, g, r) = l.mem.at f1 x f2 x (living_at j f2 f1 p all x refl) v e in (w, g));
}

module _ (X : Change) (W : Words) where
  abbrev D : List Shape
  D = X.source.shapes

  abbrev pub place : ℕ → Option ℕ
  place = home W.lent

  -- where they stand in the blocks is among what the pass says
  abbrev pub Anywhere : ℕ → Control → Control → Type 0
  Anywhere n c2 c1 = Unit {0}

  abbrev pub Standing : Renaming → Control → Control → Type 0
  Standing j c2 c1 = Stand X.f place Anywhere 0 j (record c2 { block = c1.block }) c1

  pub record Runs (j : Renaming) (c2 c1 : Control) (m2 m1 : Memory) : Type 0 where
    pub stand : Standing j c2 c1
    pub locals : Holds j c2.frame c1.frame all m2 m1
    pub says : W.runs c2 c1 m1

  pub record Waits (j : Renaming) (d2 d1 : Option Dest) (c2 c1 : Control) (m2 m1 : Memory) : Type 0 where
    pub stand : Standing j c2 c1
    pub locals : Holds j c2.frame c1.frame all m2 m1
    pub dests : DestsRel (living j c2.frame c1.frame all) d1 d2
    pub says : W.waits d1 c2 c1 m1

  -- one frame for one frame
  abbrev pub pass : Pass
  pass = record {
    own = λ n j c2 c1 gs m2 m1. (gs ≡ []) × Runs j c2 c1 m2 m1;
    waits = λ j d2 d1 c2 c1 gs m2 m1. (gs ≡ []) × Waits j d2 d1 c2 c1 m2 m1;
    place = place;
  }

  pub placed : (j : Renaming) (c2 c1 : Control) → Standing j c2 c1 → Placed j c2.frame c1.frame
  placed j c2 c1 st = one.placed W.lent X.f Anywhere 0 j (record c2 { block = c1.block }) c1 st

  module _ (lasts : Lasting X W) where
    -- ---- frames that wait

    waits_kept : (G : TypeMap) (j j' : Renaming) (d2 d1 : Option Dest) (c2 c1 : Control) (n2 n1 : ℕ) (m2' m1' m2 m1 : Memory) → c1.frame < n1 → c2.frame < n2 → Leaves D G j j' n2 n1 m2' m1' m2 m1 → Waits j d2 d1 c2 c1 m2 m1 → Waits j' d2 d1 c2 c1 m2' m1'
    waits_kept G j j' d2 d1 c2 c1 n2 n1 m2' m1' m2 m1 l1 l2 l w = record {
      stand = stand_kept X.f place Anywhere D G j j' 0 (record c2 { block = c1.block }) c1 n2 n1 m2' m1' m2 m1 l1 l2 l w.stand;
      locals = holds_kept j c2.frame c1.frame (placed j c2 c1 w.stand) all D G j' n2 n1 m2' m1' m2 m1 l1 l2 l w.locals;
      dests = dests_up (living j c2.frame c1.frame all) (living j' c2.frame c1.frame all) (living_up j j' c2.frame c1.frame l.up) d1 d2 w.dests;
      says = lasts.kept d1 c2 c1 m1' m1 (λ x free. l.source c1.frame x l1 (w.stand.none x (home_none W.lent x free))) w.says;
    }

    pub kept_law : KeptLaw X pass
    kept_law G j j' d2 d1 c2 c1 gs n2 n1 m2' m1' m2 m1 ks l1 l2 lo l ge (e, w) = (e, waits_kept G j j' d2 d1 c2 c1 n2 n1 m2' m1' m2 m1 l1 l2 l w)

    -- ---- a call

    begins : (j : Renaming) (k2 k1 : ℕ) (d2 d1 : Option Dest) (m2 m1 : Memory) (vs ws : List Value) → ValuesRel j vs ws → length vs ≤ X.body1.args → ((x : ℕ) → j k1 x ≡ None) → ((h x g y : ℕ) → j h x ≡ Some (g, y) → g < k2) → Runs (opened j k2 k1 place) (new_control X.f k2 d2) (new_control X.f k1 d1) (open_frame m2 k2 (new_slots D X.body2.locals ws)) (open_frame m1 k1 (new_slots D X.body1.locals vs))
    begins j k2 k1 d2 d1 m2 m1 vs ws hv few fresh1 fresh2 = record {
      stand = stand_begins X.f place Anywhere j k2 k1 d2 d1 0 fresh1 fresh2 tt;
      locals = new_holds D X.body2.locals X.body1.locals lasts.same_locals place j k2 k1 m2 m1 vs ws all hv fresh1 fresh2;
      says = lasts.begins k2 k1 d2 d1 m1 vs few;
    }

    -- ---- another function returns

    module _ (V : Valids X) (Inv : State → Type 0) where
      module _ (now : Return X pass V Inv) (typed : MemTy X.source.shapes now.r.typed1.types now.m1) (x : Next) where
        open now use {n, s2, s1, r, m2, m1, c2, c1, ds, cs2, v, w, older1 as l1, older2 as l2}

        abbrev j : Renaming
        j = r.core.lent

        abbrev G : TypeMap
        G = r.typed1.types

        goes_back : (d2 d1 : Option Dest) → Waits j d2 d1 c2 c1 m2 m1 → ((d : Dest) → d1 ≡ Some d → (t : Tree) × AddrTy D G d.addr t) → return_to D s1 m1 d1 (c1 ∷ ds) v ≡ Some x → GentleTo X G c1.frame m1 x → Goes X pass (return_to D s2 m2 d2 (c2 ∷ cs2) w) x
        unfolding return_to destroyed
        goes_back None None wt dt e ge = absurd (let (d, e1, k1) = bind_some e in let z : ◌≡◌ {A = Option Dropping} None (Some d) = sym wt.stand.calm ∙ e1 in grind arith)
        goes_back (Some d2) (Some d1) wt dt e ge =
            let (t, at) = dt d1 refl in
            let (m1', e1, k1) = bind_some e in
            let f2 = c2.frame in
            let f1 = c1.frame in
            let p = placed j c2 c1 wt.stand in
            let K = living j f2 f1 all in
            let low = living_low j f2 f1 p all in
            let nears = living_near j f2 f1 p all in
            let onces : (x y h x' : ℕ) (v : Value) → K f1 x ≡ Some (f2, y) → K h x' ≡ Some (f2, y) → local_at m1 h x' ≡ Some v → (h ≡ f1) × (x' ≡ x) = λ x y h x' v e e' q. living_once j f2 f1 p all x y h x' v m1 e e' q in
            let ks = knows_waiting X pass V Inv n s2 s1 r c1 ds now.callers in
            let lok = ks.0 X.body1 (ap (slice_get X.source.bodies) wt.stand.function1 ∙ X.at1) in
            let bok = V.valid1.blank_ok G in
            let ts1 = X.body1.locals in
            let q = near.near_start D ts1 ts1 f1 f2 j K low G bok lok V.needs f2 f1 m2 m1 nears onces (living_linked j f2 f1 p all m2 m1 now.linked wt.locals) typed in
            let (m2', g1, l', lv) = near.store_near D ts1 ts1 f1 f2 j K low G bok lok V.needs f2 f1 m2 m1 nears onces m2 m1 m1' d1 d2 t v w q wt.dests at now.same e1 in
            let (old, eo, same) = store_split D m1 m1' d1 v e1 in
            let runs : Runs j c2 c1 m2' m1' = record { stand = wt.stand; locals = holds_linked j f2 f1 p m2' m1' l'; says = subst (λ m. W.runs c2 c1 m) same (lasts.gets d1 c2 c1 m1 v wt.says) } in
            subst (λ o. Goes X pass o x) (sym (some_bind _ g1 refl)) (subst (λ z. Goes X pass (go_on (record s2 { callers = cs2 }) m2' c2) z) (some_val k1) (0, _, refl, back_core X pass V Inv kept_law n s2 s1 r m2 m1 m2' m1' c2 c1 ds cs2 ks.1 now.below l1 l2 (living_lent j f2 f1 p all m2' m1' l') lv (gentle_on X G f1 m1 (record s1 { memory = m1'; top = c1; callers = ds }) x ge k1 (omega arith)) 0 (refl, runs)))
        goes_back None (Some d1) wt dt e ge = absurd wt.dests
        goes_back (Some d2) None wt dt e ge = absurd wt.dests

      resumed : (n : ℕ) (s2 s1 : State) (r : Related X pass V Inv n s2 s1) (m2 m1 : Memory) (c2 c1 : Control) (gs ds cs2 : List Control) (v w : Value) (x : Next) → s1.callers ≡ c1 ∷ (gs ++ ds) → MemTy D r.typed1.types m1 → Linked r.core.lent r.core.lent m2 m1 → pass.waits r.core.lent s2.top.dest s1.top.dest c2 c1 gs m2 m1 → Below X pass r.core.lent c2.dest (lowest c1 gs).dest c2.frame (lowest c1 gs).frame cs2 ds m2 m1 → c1.frame < s1.top.frame → c2.frame < s2.top.frame → ((d : Dest) → s1.top.dest ≡ Some d → (t : Tree) × AddrTy D r.typed1.types d.addr t) → Same r.core.lent v w → return_to D s1 m1 s1.top.dest (c1 ∷ (gs ++ ds)) v ≡ Some x → GentleTo X r.typed1.types c1.frame m1 x → Goes X pass (return_to D s2 m2 s2.top.dest (c2 ∷ cs2) w) x
      resumed n s2 s1 r m2 m1 c2 c1 [] ds cs2 v w x q ty l (e, wt) be l1 l2 dt hv k ge =
          goes_back (record { n = n; s2 = s2; s1 = s1; r = r; m2 = m2; m1 = m1; c2 = c2; c1 = c1; ds = ds; cs2 = cs2; v = v; w = w; callers = q; linked = l; below = be; older1 = l1; older2 = l2; same = hv }) ty x s2.top.dest s1.top.dest wt dt k ge
      resumed n s2 s1 r m2 m1 c2 c1 (g ∷ gs) ds cs2 v w x q ty l (e, wt) be l1 l2 dt hv k ge = absurd (grind arith)

      pub frames : FrameLaws X pass V Inv
      frames = record {
        kept = kept_law;
        once = home_once W.lent;
        slots = λ j vs ws hv few x y e v k. subst (λ y. SomeRel j v (slice_get (new_slots D X.body2.locals ws) y)) (home_some W.lent x y e).1 (slots_same D X.body2.locals X.body1.locals lasts.same_locals j vs ws hv.0 x v k);
        begins = λ j k2 k1 d2 d1 m2 m1 vs ws hv ar f1 f2 l. (0, (refl, begins j k2 k1 d2 d1 m2 m1 vs ws hv.0 (let a = ar.all in omega (arith, a)) f1 f2));
        resumes = λ n s2 s1 r m2 m1 c2 c1 gs ds cs2 v w x q q2 p2 p1 l wt be l1 l2 lo dt hv wh k ge. resumed n s2 s1 r m2 m1 c2 c1 gs ds cs2 v w x q (subst (MemTy D r.typed1.types) (sym p1) (close_ty X.source V.valid1 r.typed1.types s1.memory s1.top.frame r.typed1.mem)) l wt be l1 l2 dt hv k ge;
      }
