-- What is known where a frame stands: a frame that runs, and one that waits for a result.
use Rattle.std.proofs.Common.{◌≡◌, refl, sym, ap, ◌∙◌, subst, ℕ, ◌≤◌, false, List, length, take, Option, Some, slice_get}
use Rattle.mir_syntax.specs.Crate.{TypedBlock, TypedBody}
use Rattle.mir_syntax.specs.Shapes.{Shape}
use Rattle.mir_semantics.specs.Values.{Value}
use Rattle.mir_semantics.specs.Memory.{Memory, local_at, write, open_frame}
use Rattle.mir_semantics.specs.Step.{Dest, Control, new_slots}
use Rattle.mir_renaming.proofs.Frames.{new_control}
use Rattle.mir_renaming.proofs.Memory.{write_alike}
use Rattle.escape_info.specs.Borrowed.{borrowed}
use Rattle.const_flow.specs.Facts.{Facts, after_all}
use Rattle.const_flow.specs.ConstAt.{Reached, text, first_facts}
use Rattle.const_flow.specs.Holding.{IsSound}
use Rattle.const_flow.proofs.sound.Starts.{first_holds}
use Rattle.const_flow.proofs.sound.Points.{holds_below, same_holds, take_zero}
use Rattle.const_flow.proofs.sound.Related.{BodyHolds}

-- by facts at the blocks' starts
module _ (D : List Shape) (b : TypedBody) (xs : List Reached) where
  abbrev pub Known : ℕ → Memory → Facts → Type 0
  Known = BodyHolds D b

  -- what is known in a block, entered with these facts
  abbrev pub KnownAt : Control → Memory → TypedBlock → Facts → Type 0
  KnownAt c m k fs = Known c.frame m (after_all (text D b) (take c.at k.stmts) fs)

  -- where a frame runs the facts of its point hold
  pub record At (c : Control) (m : Memory) : Type 0 where
    pub facts : Facts
    pub reached : slice_get xs c.block ≡ Some (Some facts)
    pub known : (k : TypedBlock) → slice_get b.blocks c.block ≡ Some k → KnownAt c m k facts

  -- one that waits does so at the start of a block: its facts hold whatever comes to its destination
  pub record Paused (d : Option Dest) (c : Control) (m : Memory) : Type 0 where
    pub start : c.at ≡ 0
    pub facts : Facts
    pub reached : slice_get xs c.block ≡ Some (Some facts)
    pub later : (to : Dest) → d ≡ Some to → (v : Value) → Known c.frame (write m to.addr v) facts

  -- at the start of a block
  pub known_first : (c : Control) (m : Memory) (fs : Facts) → c.at ≡ 0 → Known c.frame m fs → (k : TypedBlock) → KnownAt c m k fs
  known_first c m fs at known k = subst (λ ss. Known c.frame m (after_all (text D b) ss fs)) (sym (ap (λ a. take a k.stmts) at ∙ take_zero k.stmts)) known

  pub starts : (c : Control) (m : Memory) (fs : Facts) → c.at ≡ 0 → slice_get xs c.block ≡ Some (Some fs) → Known c.frame m fs → At c m
  starts c m fs at e known = record { facts = fs; reached = e; known = λ k ek. known_first c m fs at known k }

  -- a new frame
  pub begins : IsSound D b xs → (f k : ℕ) (d : Option Dest) (m : Memory) (vs : List Value) → length vs ≤ b.args → At (new_control f k d) (open_frame m k (new_slots D b.locals vs))
  begins sound f k d m vs few =
      let (fs, at, below) = sound.first in
      let m' = open_frame m k (new_slots D b.locals vs) in
      starts (new_control f k d) m' fs refl at (holds_below D b.locals k (λ x. borrowed D b x ≡ false) m' (first_facts D b) fs below (first_holds D b k m vs few))

  -- while it waits nothing else matters than its locals that aren't borrowed
  pub paused_kept : (d : Option Dest) (c : Control) (m' m : Memory) → ((x : ℕ) → borrowed D b x ≡ false → local_at m' c.frame x ≡ local_at m c.frame x) → Paused d c m → Paused d c m'
  paused_kept d c m' m same w = record {
    start = w.start;
    facts = w.facts;
    reached = w.reached;
    later = λ to e v. same_holds D b.locals c.frame (λ x. borrowed D b x ≡ false) (write m to.addr v) (write m' to.addr v) (λ x free. write_alike m m' to.addr v c.frame x (same x free)) w.facts (w.later to e v);
  }

  -- it runs again when the result has come
  pub paused_gets : (to : Dest) (c : Control) (m : Memory) (v : Value) → Paused (Some to) c m → At c (write m to.addr v)
  paused_gets to c m v w = starts c (write m to.addr v) w.facts w.start w.reached (w.later to refl v)
