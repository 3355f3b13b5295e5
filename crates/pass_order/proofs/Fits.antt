-- A body that fits a function goes on to fit it after each pass.
use Rattle.std.proofs.Common.{◌≡◌, refl, sym, ◌∙◌, subst, ℕ, suc, take, set, Some, arith}
use Rattle.mir_syntax.specs.Crate.{TypedBody, TypedFunction, Crate}
use Rattle.mir_syntax.specs.Shapes.{shapes_of}
use Rattle.mir_rules.specs.Valid.{Valid, with_body, at_function, ValidAt}
use Rattle.mir_rules.proofs.Bodies.{Alike, set_alike, shapes_alike}
use Rattle.mir_relate.specs.Passes.{passed_at}
use Rattle.pass_order.specs.Passes.{BodyPass}
use Rattle.pass_order.specs.Fits.{FitsAt}
use Rattle.pass_order.proofs.Keeps.{PassKeeps}

module _ (C : Crate) (f : ℕ) (g : TypedFunction) where
  abbrev pub as_valid : (b : TypedBody) → FitsAt C f g b → ValidAt C f b
  as_valid b h = record { function = g; is = h.is; valid = h.valid; blocks = h.blocks; locals = h.locals }

  alike_fit : (b : TypedBody) → FitsAt C f g b → Alike (with_body g b) g
  alike_fit b h = record { is_drop = refl; args = h.args; start = h.start }

  -- the definitions are seen as before with the body in its place
  pub shapes_fit : (b : TypedBody) → FitsAt C f g b → shapes_of (at_function C f g b) ≡ shapes_of C
  shapes_fit b h = shapes_alike C (set C.functions f (with_body g b)) (set_alike C.functions f g (with_body g b) h.is (alike_fit b h))

  pub fits_again : (b c : TypedBody) → FitsAt C f g b → ValidAt C f c → c.args ≡ b.args → take (suc b.args) c.locals ≡ take (suc b.args) b.locals → FitsAt C f g c
  fits_again b c h w args start =
      let same : w.function ≡ g = (let z : Some w.function ≡ Some g = sym w.is ∙ h.is in grind arith) in
      record {
        is = h.is;
        valid = subst (λ g. Valid (at_function C f g c)) same w.valid;
        args = args ∙ h.args;
        start = subst (λ n. take (suc n) c.locals ≡ take (suc n) b.locals) h.args start ∙ h.start;
        blocks = w.blocks;
        locals = w.locals;
      }

  pub fits_after : (pass : BodyPass) → PassKeeps pass → (b : TypedBody) → FitsAt C f g b → FitsAt C f g (pass (shapes_of C) b)
  fits_after pass k b h =
      let v = as_valid b h in
      subst (λ D. FitsAt C f g (pass D b)) (shapes_fit b h) (fits_again b (passed_at pass C f b v) h (k.laws.stays_valid C f b v) (k.args C f b v) (k.start C f b v))
