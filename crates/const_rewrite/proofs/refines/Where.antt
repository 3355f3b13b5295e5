-- Where two frames of a folded body stand, and what is known there.
use Rattle.std.proofs.Common.{◌≡◌, refl, ℕ, List, Option, Some, slice_get}
use Rattle.mir_syntax.specs.Crate.{TypedBlock}
use Rattle.mir_semantics.specs.Memory.{Memory}
use Rattle.mir_semantics.specs.Step.{Dest, Control}
use Rattle.mir_relate.specs.Frames.{Change}
use Rattle.mir_relate.proofs.EachLocal.{Words, Lasting}
use Rattle.escape_info.specs.Borrowed.{borrowed}
use Rattle.const_flow.specs.Facts.{Facts}
use Rattle.const_flow.specs.ConstAt.{Reached, text}
use Rattle.const_flow.specs.Holding.{IsSound}
use Rattle.const_flow.proofs.sound.Related.{BodyHolds}
use Rattle.const_flow.proofs.sound.Stands as stands
use Rattle.const_rewrite.specs.Folded.{folded_block}

-- the body is folded by facts that hold along its edges
pub record Folds (X : Change) (xs : List Reached) : Type 0 where
  pub same_locals : X.body2.locals ≡ X.body1.locals
  pub blocks : (i : ℕ) (k : TypedBlock) (x : Reached) → slice_get X.body1.blocks i ≡ Some k → slice_get xs i ≡ Some x → slice_get X.body2.blocks i ≡ Some (folded_block (text X.source.shapes X.body1) k x)
  pub sound : IsSound X.source.shapes X.body1 xs

module _ (X : Change) (xs : List Reached) where
  abbrev pub Known : ℕ → Memory → Facts → Type 0
  Known = BodyHolds X.source.shapes X.body1

  -- both are at the same point, and its facts hold
  pub record At (c2 c1 : Control) (m1 : Memory) : Type 0 where
    pub block : c2.block ≡ c1.block
    pub at : c2.at ≡ c1.at
    pub point : stands.At X.source.shapes X.body1 xs c1 m1

  -- frames that wait
  pub record Paused (d1 : Option Dest) (c2 c1 : Control) (m1 : Memory) : Type 0 where
    pub block : c2.block ≡ c1.block
    pub at : c2.at ≡ c1.at
    pub point : stands.Paused X.source.shapes X.body1 xs d1 c1 m1

  abbrev pub words : Words
  words = record { lent = borrowed X.source.shapes X.body1; runs = At; waits = Paused }

  pub lasting : Folds X xs → Lasting X words
  lasting folds = record {
    same_locals = folds.same_locals;
    begins = λ k2 k1 d2 d1 m1 vs few. record { block = refl; at = refl; point = stands.begins X.source.shapes X.body1 xs folds.sound X.f k1 d1 m1 vs few };
    kept = λ d1 c2 c1 m1' m1 same w. record { block = w.block; at = w.at; point = stands.paused_kept X.source.shapes X.body1 xs d1 c1 m1' m1 same w.point };
    gets = λ d c2 c1 m1 v w. record { block = w.block; at = w.at; point = stands.paused_gets X.source.shapes X.body1 xs d c1 m1 v w.point };
  }
