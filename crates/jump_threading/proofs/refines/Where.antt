-- Where two frames of a threaded body stand, and what is known there.
use Rattle.std.proofs.Common.{◌≡◌, ◌⊎◌, inl, inr, refl, sym, ap, ◌∙◌, subst, ℕ, false, List, take, Option, Some, slice_get, option_map}
use Rattle.mir_syntax.specs.declared.body.Term.TheVariants.{Goto}
use Rattle.mir_syntax.specs.Crate.{TypedBlock}
use Rattle.mir_semantics.specs.Values.{Addr, Value, put}
use Rattle.mir_semantics.specs.Memory.{Memory, local_at, write, open_frame}
use Rattle.mir_semantics.specs.Step.{Dest, Control, new_slots}
use Rattle.mir_renaming.specs.Renaming.{RootOf}
use Rattle.mir_renaming.proofs.Memory.{root_or_not, write_same, write_other}
use Rattle.mir_renaming.proofs.Frames.{new_control}
use Rattle.mir_relate.specs.Frames.{Change}
use Rattle.escape_info.specs.Borrowed.{borrowed}
use Rattle.const_flow.specs.Facts.{Facts, after_all}
use Rattle.const_flow.specs.ConstAt.{Reached, text, first_facts}
use Rattle.const_flow.specs.Holding.{IsSound}
use Rattle.const_flow.proofs.sound.Related.{BodyHolds}
use Rattle.const_flow.proofs.sound.Stands as stands
use Rattle.jump_threading.specs.Threaded.{taken}
use Rattle.jump_threading.proofs.Blocks.{Redirected}
use Rattle.mir_relate.proofs.EachLocal.{Words, Lasting}

-- the body is threaded by facts that hold along its edges
pub record Threads (X : Change) (xs : List Reached) : Type 0 where
  pub same_locals : X.body2.locals ≡ X.body1.locals
  pub blocks : (a : ℕ) (k : TypedBlock) → slice_get X.body1.blocks a ≡ Some k → (slice_get X.body2.blocks a ≡ Some k) ⊎ Redirected X.source.shapes xs X.body1 X.body2 a k
  pub sound : IsSound X.source.shapes X.body1 xs

module _ (X : Change) (xs : List Reached) where
  abbrev pub Known : ℕ → Memory → Facts → Type 0
  Known = BodyHolds X.source.shapes X.body1

  -- what is known in a block, entered with these facts
  abbrev pub KnownAt : Control → Memory → TypedBlock → Facts → Type 0
  KnownAt = stands.KnownAt X.source.shapes X.body1 xs

  -- the target stands in a copy of the source's block: what its facts say of the switch holds where the copy goes
  pub record InCopy (c2 c1 : Control) (m1 : Memory) : Type 0 where
    pub through : TypedBlock
    pub is_through : slice_get X.body1.blocks c1.block ≡ Some through
    pub to : ℕ
    pub is_copy : slice_get X.body2.blocks c2.block ≡ Some (record { stmts = through.stmts; term = Goto to })
    pub facts : Facts
    pub is_taken : taken (after_all (text X.source.shapes X.body1) through.stmts facts) through.term ≡ Some to
    pub known : KnownAt c1 m1 through facts

  -- both are as far in a block and hold its facts; the target's block is the source's or a copy of it
  pub record At (c2 c1 : Control) (m1 : Memory) : Type 0 where
    pub at : c2.at ≡ c1.at
    pub point : stands.At X.source.shapes X.body1 xs c1 m1
    pub place : (c2.block ≡ c1.block) ⊎ InCopy c2 c1 m1

  -- a frame that waits does so at the start of a block that is the source's
  pub record Paused (d1 : Option Dest) (c2 c1 : Control) (m1 : Memory) : Type 0 where
    pub block : c2.block ≡ c1.block
    pub at : c2.at ≡ c1.at
    pub point : stands.Paused X.source.shapes X.body1 xs d1 c1 m1

  abbrev pub words : Words
  words = record { lent = borrowed X.source.shapes X.body1; runs = At; waits = Paused }

  pub starts : (c2 c1 : Control) (m1 : Memory) (fs : Facts) → c2.block ≡ c1.block → c2.at ≡ c1.at → c1.at ≡ 0 → slice_get xs c1.block ≡ Some (Some fs) → Known c1.frame m1 fs → At c2 c1 m1
  starts c2 c1 m1 fs block at at1 e known = record { at = at; point = stands.starts X.source.shapes X.body1 xs c1 m1 fs at1 e known; place = inl block }

  pub lasting : Threads X xs → Lasting X words
  lasting threads = record {
    same_locals = threads.same_locals;
    begins = λ k2 k1 d2 d1 m1 vs few. record { at = refl; point = stands.begins X.source.shapes X.body1 xs threads.sound X.f k1 d1 m1 vs few; place = inl refl };
    kept = λ d1 c2 c1 m1' m1 same w. record { block = w.block; at = w.at; point = stands.paused_kept X.source.shapes X.body1 xs d1 c1 m1' m1 same w.point };
    gets = λ d c2 c1 m1 v w. record { at = w.at; point = stands.paused_gets X.source.shapes X.body1 xs d c1 m1 v w.point; place = inl w.block };
  }
